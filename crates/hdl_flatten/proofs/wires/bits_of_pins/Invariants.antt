use Rattle.std.proofs.Common.{◌≡◌, ◌++◌, map, length}
use Rattle.hdl_flatten.specs.Trees.{all_bits}
use Rattle.hdl_flatten.specs.Inner.Wired.{bit_of}
use Rattle.hdl_flatten.proofs.wires.bits_of_pins.Given as goal

abbrev pub invariant-loop-pin : goal.invariant-loop-pin
invariant-loop-pin l = map bit_of l.bits.items ++ all_bits l.rest ≡ all_bits l.pins

abbrev pub decreases-loop-pin : goal.decreases-loop-pin
decreases-loop-pin l = length l.rest
