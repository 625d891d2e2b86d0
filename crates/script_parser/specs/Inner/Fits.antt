-- What the readers of numbers and items return.
use Rattle.std.specs.Prelude.{◌≡◌, Option, Some, None, Result, Ok, Err}
use Rattle.grammar.specs.declared.Fault.{Fault}
use Rattle.grammar.specs.declared.ReadError.{ReadError}
use Rattle.grammar.specs.declared.ReadError.TheVariants as errors

-- it is within its limits and is this, or has this fault
abbrev pub Within : {X : Type 0} → Option Fault → X → Result X ReadError → Type 0
Within fault x (Ok y) = (fault ≡ None) × (y ≡ x)
Within fault x (Err errors.Memory) = Unit {0}
Within fault x (Err (errors.Fault f)) = fault ≡ Some f
