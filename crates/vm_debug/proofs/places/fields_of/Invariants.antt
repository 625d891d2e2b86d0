-- The names so far have been added.
use Rattle.std.proofs.Common.{◌≡◌, ◌++◌, drop}
use Rattle.vm_debug.specs.Places.{field_names}
use Rattle.vm_debug.proofs.places.fields_of.Given as goal

abbrev pub invariant-loop-line : goal.invariant-loop-line
invariant-loop-line l = l.names ++ field_names (drop l.line-index l.variables) ≡ field_names l.variables
