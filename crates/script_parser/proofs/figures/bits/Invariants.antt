use Rattle.std.proofs.Common.{◌≡◌, ◌<◌, length}
use Rattle.script_parser.specs.Numbers.{bits}
use Rattle.script_parser.proofs.figures.bits.Given as goal

abbrev pub invariant-loop-digit : goal.invariant-loop-digit
invariant-loop-digit l = record {
  within : l.n < 65536;
  so_far : bits l.n l.rest ≡ bits 0 l.digits;
}

abbrev pub decreases-loop-digit : goal.decreases-loop-digit
decreases-loop-digit l = length l.rest
