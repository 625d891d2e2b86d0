use Rattle.std.proofs.Common.{List, ℕ, take, subst}
use Rattle.outer_world.specs.Written.{Passes}
use Rattle.outer_world.specs.declared.sink.Put.TheVariants as put
use Rattle.outer_world.proofs.Passing.{Puts-failed, Puts-finished}
use Rattle.hack_asm.specs.Written.{asm_text}
use Rattle.hack_asm.proofs.writing.put_all_asm.Goals as goal

pub returns-in-Done-clause-put : goal.returns-in-Done-clause-put
returns-in-Done-clause-put g c =
    let P : List ℕ → Type 0 = λ z. Passes (g.S.Sink.state c.args.out.now.sink.now) z (g.S.Sink.state c.put_asm.new.out.sink.now) (take c.put_asm.new.out.len c.put_asm.new.out.buffer) (asm_text c.args.instrs.now) put.Done in
    Puts-finished _ _ _ _ _ _ (subst P c.requires c.in-Done.ensures.passes) c.finish.ensures.put

pub returns-in-Failed-clause-put : goal.returns-in-Failed-clause-put
returns-in-Failed-clause-put g c =
    let P : List ℕ → Type 0 = λ z. Passes (g.S.Sink.state c.args.out.now.sink.now) z (g.S.Sink.state c.put_asm.new.out.sink.now) (take c.put_asm.new.out.len c.put_asm.new.out.buffer) (asm_text c.args.instrs.now) put.Failed in
    Puts-failed _ _ _ _ (subst P c.requires c.in-Failed.ensures.passes)
