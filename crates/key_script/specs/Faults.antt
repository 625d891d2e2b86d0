-- The faults of a key script: the diagnostic of each, and which one a fault of its grammar is.
use Rattle.std.specs.Prelude.{◌≡◌, ◌==◌, [], Result, Ok, Err, if◌then◌else◌, decimal, codes}
use Rattle.outer_world.specs.Refusals.{Message, message}
use Rattle.grammar.specs.declared.Fault.{Fault}
use Rattle.grammar.specs.declared.Fault.TheVariants as faults
use Rattle.grammar.specs.declared.ReadError.{ReadError}
use Rattle.grammar.specs.declared.ReadError.TheVariants as reads
use Rattle.key_script.specs.declared.fault.KeyFault.{KeyFault}
use Rattle.key_script.specs.declared.fault.KeyFault.TheVariants.{Grammar, Range, NotRising}
use Rattle.key_script.specs.declared.fault.KeyError.{KeyError}
use Rattle.key_script.specs.declared.fault.KeyError.TheVariants as errors

abbrev pub key_message : KeyFault → Message
key_message (Grammar at) = message at.line at.column (codes "Grammar") []
key_message (Range at value) = message at.line at.column (codes "Range") (decimal value)
key_message (NotRising at) = message at.line at.column (codes "NotRising") []

-- A fault of the grammar. A moment that does not rise is one past a limit of 0 there (Script).
abbrev pub key_fault : Fault → KeyFault
key_fault (faults.Grammar at) = Grammar at
key_fault (faults.Range at value) = if value == 0 then NotRising at else Range at value

abbrev pub key_error : ReadError → KeyError
key_error reads.Memory = errors.Memory
key_error (reads.Fault f) = errors.Fault (key_fault f)

-- An error that is a fault has a cause.
abbrev pub Because : (KeyFault → Type 0) → KeyError → Type 0
Because cause errors.Memory = Unit {0}
Because cause (errors.Fault f) = cause f

-- what a function returned is what a definition gives, unless memory ran out
abbrev pub Gives : {X : Type 0} → Result X KeyError → Result X KeyFault → Type 0
Gives (Ok x) read = read ≡ Ok x
Gives (Err e) read = Because (λ f. read ≡ Err f) e
