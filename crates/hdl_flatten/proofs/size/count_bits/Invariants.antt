use Rattle.std.proofs.Common.{◌≡◌, ◌+◌, ◌≤◌, length}
use Rattle.hdl_flatten.specs.Trees.{capped_count, bit_count}
use Rattle.hdl_flatten.proofs.size.count_bits.Given as goal

abbrev pub invariant-loop-pin : goal.invariant-loop-pin
invariant-loop-pin l = record {
  sum : capped_count (l.bits + bit_count l.rest) ≡ capped_count (bit_count l.pins);
  small : l.bits ≤ 1000000000;
}

abbrev pub decreases-loop-pin : goal.decreases-loop-pin
decreases-loop-pin l = length l.rest
