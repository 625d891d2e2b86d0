-- The diagnostic of a fault of a text.
use Rattle.std.specs.Prelude.{[], decimal, codes}
use Rattle.outer_world.specs.Refusals.{Message, message}
use Rattle.grammar.specs.declared.Fault.{Fault}
use Rattle.grammar.specs.declared.Fault.TheVariants as faults

abbrev pub diagnostic_of : Fault → Message
diagnostic_of (faults.Grammar at) = message at.line at.column (codes "Grammar") []
diagnostic_of (faults.Range at value) = message at.line at.column (codes "Range") (decimal value)
