use Rattle.std.proofs.Common.{◌≡◌, ◌+◌, length}
use Rattle.jack_names.specs.Symbols.{fields_of}
use Rattle.jack_names.proofs.variables.fields_of.Given as goal

abbrev pub invariant-loop-line : goal.invariant-loop-line
invariant-loop-line l = l.n + fields_of l.rest ≡ fields_of l.variables

abbrev pub decreases-loop-line : goal.decreases-loop-line
decreases-loop-line l = length l.rest
