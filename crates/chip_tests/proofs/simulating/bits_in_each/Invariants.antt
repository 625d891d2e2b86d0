use Rattle.std.proofs.Common.{◌≡◌, length}
use Rattle.std.specs.List.{All}
use Rattle.chip_tests.proofs.simulating.bits_in_each.Given as goal

abbrev pub invariant-loop-c : goal.invariant-loop-c
invariant-loop-c l = record {
  cycles : length l.pins.items ≡ l.c;
  bits : All (λ bits. length bits ≡ 4) l.pins.items;
}
