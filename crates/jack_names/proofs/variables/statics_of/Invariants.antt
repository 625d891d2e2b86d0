use Rattle.std.proofs.Common.{◌≡◌, ◌+◌, length}
use Rattle.jack_names.specs.Symbols.{statics_of}
use Rattle.jack_names.proofs.variables.statics_of.Given as goal

abbrev pub invariant-loop-line : goal.invariant-loop-line
invariant-loop-line l = l.n + statics_of l.rest ≡ statics_of l.variables

abbrev pub decreases-loop-line : goal.decreases-loop-line
decreases-loop-line l = length l.rest
