use Rattle.std.proofs.Common.{List, ℕ, take, subst}
use Rattle.outer_world.specs.Written.{Passes}
use Rattle.outer_world.specs.declared.sink.Put.TheVariants as put
use Rattle.outer_world.proofs.Passing.{Puts-failed, Puts-finished}
use Rattle.nand_cli.specs.Commands.Debug.{stop_text}
use Rattle.nand_cli.proofs.stop_lines.put_stop_lines.Goals as goal

pub returns-in-Done-clause-put : goal.returns-in-Done-clause-put
returns-in-Done-clause-put g c =
    let P : List ℕ → Type 0 = λ p. Passes (g.S.Sink.state c.args.out.now.sink.now) p (g.S.Sink.state c.put_stop.new.out.sink.now) (take c.put_stop.new.out.len c.put_stop.new.out.buffer)
    (stop_text c.args.sub.now c.args.number c.args.moves c.args.steps) put.Done in
    Puts-finished _ _ _ _ _ _ (subst P c.requires c.in-Done.ensures.passes) c.finish.ensures.put

pub returns-in-Failed-clause-put : goal.returns-in-Failed-clause-put
returns-in-Failed-clause-put g c =
    let P : List ℕ → Type 0 = λ p. Passes (g.S.Sink.state c.args.out.now.sink.now) p (g.S.Sink.state c.put_stop.new.out.sink.now) (take c.put_stop.new.out.len c.put_stop.new.out.buffer)
    (stop_text c.args.sub.now c.args.number c.args.moves c.args.steps) put.Failed in
    Puts-failed _ _ _ _ (subst P c.requires c.in-Failed.ensures.passes)
