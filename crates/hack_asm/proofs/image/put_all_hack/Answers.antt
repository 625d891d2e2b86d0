use Rattle.std.proofs.Common.{List, ℕ, take, subst}
use Rattle.outer_world.specs.Written.{Passes}
use Rattle.outer_world.specs.declared.sink.Put.TheVariants as put
use Rattle.outer_world.proofs.Passing.{Puts-failed, Puts-finished}
use Rattle.hack_asm.specs.Image.{image_text}
use Rattle.hack_asm.proofs.image.put_all_hack.Goals as goal

pub returns-in-Done-clause-put : goal.returns-in-Done-clause-put
returns-in-Done-clause-put g c =
    let P : List ℕ → Type 0 = λ z. Passes (g.S.Sink.state c.args.out.now.sink.now) z (g.S.Sink.state c.put_hack.new.out.sink.now) (take c.put_hack.new.out.len c.put_hack.new.out.buffer) (image_text c.args.words.now) put.Done in
    Puts-finished _ _ _ _ _ _ (subst P c.requires c.in-Done.ensures.passes) c.finish.ensures.put

pub returns-in-Failed-clause-put : goal.returns-in-Failed-clause-put
returns-in-Failed-clause-put g c =
    let P : List ℕ → Type 0 = λ z. Passes (g.S.Sink.state c.args.out.now.sink.now) z (g.S.Sink.state c.put_hack.new.out.sink.now) (take c.put_hack.new.out.len c.put_hack.new.out.buffer) (image_text c.args.words.now) put.Failed in
    Puts-failed _ _ _ _ (subst P c.requires c.in-Failed.ensures.passes)
