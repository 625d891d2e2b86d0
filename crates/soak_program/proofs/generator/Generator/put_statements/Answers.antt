use Rattle.std.proofs.Common.{refl}
use Rattle.soak_program.proofs.Pieces.{no_statements, more_statements}
use Rattle.soak_program.proofs.generator.Generator.put_statements.Goals as goal

pub loop-place-init : goal.loop-place-init
loop-place-init c = no_statements c.args.self.now c.args.self.now refl

pub loop-place-preserved : goal.loop-place-preserved
loop-place-preserved c = more_statements c.loop-place._place c.args.self.now c.loop-place.self c.put_statement.new.self c.loop-place.invariant c.in_ok-put_statement.ensures
