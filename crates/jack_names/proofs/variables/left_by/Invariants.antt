use Rattle.std.proofs.Common.{◌≡◌, ◌+◌, length}
use Rattle.jack_names.specs.Symbols.{statics_of}
use Rattle.jack_names.proofs.variables.left_by.Given as goal

abbrev pub invariant-loop-line : goal.invariant-loop-line
invariant-loop-line l = statics_of l.rest + l.numbers ≡ statics_of l.variables + l.left

abbrev pub decreases-loop-line : goal.decreases-loop-line
decreases-loop-line l = length l.rest
