-- What one check finds.
use Rattle.std.specs.Prelude.{◌≡◌, Result, Ok, Err, Option, Some, None}
use Rattle.hdl_check.specs.declared.fault.NamedFault.{NamedFault}
use Rattle.hdl_check.specs.declared.fault.ElabFault.{ElabFault}
use Rattle.hdl_check.specs.declared.fault.ElabFault.TheVariants as errors

-- A check found this fault, or none, unless memory ran out.
abbrev pub Checks : Option NamedFault → Result (Unit {0}) ElabFault → Type 0
Checks wanted (Ok u) = wanted ≡ None
Checks wanted (Err errors.Memory) = Unit {0}
Checks wanted (Err (errors.Named f)) = wanted ≡ Some f
