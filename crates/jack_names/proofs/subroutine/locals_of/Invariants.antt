use Rattle.std.proofs.Common.{◌≡◌, ◌+◌, length}
use Rattle.jack_names.specs.Symbols.{locals_of}
use Rattle.jack_names.proofs.subroutine.locals_of.Given as goal

abbrev pub invariant-loop-line : goal.invariant-loop-line
invariant-loop-line l = l.n + locals_of l.rest ≡ locals_of l.locals

abbrev pub decreases-loop-line : goal.decreases-loop-line
decreases-loop-line l = length l.rest
