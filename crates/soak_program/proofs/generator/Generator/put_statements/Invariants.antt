use Rattle.soak_program.specs.Generator.{IsStatements}
use Rattle.soak_program.specs.Inner.Written.{Writes}
use Rattle.soak_program.proofs.generator.Generator.put_statements.Given as goal

abbrev pub invariant-loop-place : goal.invariant-loop-place
invariant-loop-place l = Writes (IsStatements l._place) l.fn.self l.self
