-- The names so far have been added.
use Rattle.std.proofs.Common.{◌≡◌, ◌++◌, drop}
use Rattle.vm_debug.specs.Places.{static_names}
use Rattle.vm_debug.proofs.places.statics_of.Given as goal

abbrev pub invariant-loop-line : goal.invariant-loop-line
invariant-loop-line l = l.names ++ static_names (drop l.line-index l.variables) ≡ static_names l.variables
