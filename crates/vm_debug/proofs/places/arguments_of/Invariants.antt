-- The names so far have been added.
use Rattle.std.proofs.Common.{◌≡◌, ◌++◌, drop}
use Rattle.vm_debug.specs.Places.{argument_names}
use Rattle.vm_debug.proofs.places.arguments_of.Given as goal

abbrev pub invariant-loop-parameter : goal.invariant-loop-parameter
invariant-loop-parameter l = l.names ++ argument_names (drop l.parameter-index l.parameters) ≡ argument_names l.parameters
