-- The names so far have been added.
use Rattle.std.proofs.Common.{◌≡◌, ◌++◌, drop}
use Rattle.vm_debug.specs.Places.{local_names}
use Rattle.vm_debug.proofs.places.locals_of.Given as goal

abbrev pub invariant-loop-line : goal.invariant-loop-line
invariant-loop-line l = l.names ++ local_names (drop l.line-index l.locals) ≡ local_names l.locals
