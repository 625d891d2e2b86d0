use Rattle.std.proofs.Common.{List, ℕ, take, subst}
use Rattle.outer_world.specs.Refusals.{message_line}
use Rattle.outer_world.specs.Written.{Passes}
use Rattle.outer_world.specs.declared.sink.Put.TheVariants as put
use Rattle.outer_world.proofs.Passing.{Puts-finished}
use Rattle.outer_world.proofs.refusal.put_whole.Goals as goal

pub returns-in-Done-clause-put : goal.returns-in-Done-clause-put
returns-in-Done-clause-put g c =
    let P : List ℕ → Type 0 = λ p. Passes (g.S.Sink.state c.args.pieces.now.sink.now) p (g.S.Sink.state c.put_line.new.pieces.sink.now) (take c.put_line.new.pieces.len c.put_line.new.pieces.buffer)
    (message_line c.args.path.now c.args.told.now) put.Done in
    Puts-finished _ _ _ _ _ _ (subst P c.requires.empty c.in-Done.ensures.passes) c.finish.ensures.put
