use Rattle.std.proofs.Common.{List, ℕ, subst}
use Rattle.std.specs.List.{flat_map}
use Rattle.outer_world.specs.Held.{pending, sink_of}
use Rattle.outer_world.specs.Written.{Passes}
use Rattle.outer_world.specs.declared.sink.Put.TheVariants as put
use Rattle.outer_world.proofs.Passing.{Puts-finished}
use Rattle.tst_runner.proofs.printing.put_parts.Goals as goal

pub returns-in-Done-clause-put : goal.returns-in-Done-clause-put
returns-in-Done-clause-put g c =
    let P : List ℕ → Type 0 = λ p. Passes (g.S.Sink.state (sink_of c.args.pieces.now)) p (g.S.Sink.state (sink_of c.put_all.new.self)) (pending c.put_all.new.self) (flat_map (λ part. part.now) c.args.parts.now) put.Done in
    Puts-finished _ _ _ _ _ _ (subst P c.requires c.in-Done.ensures.passes) c.finish.ensures.put
