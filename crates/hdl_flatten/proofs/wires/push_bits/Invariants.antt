use Rattle.std.proofs.Common.{◌≡◌, ◌++◌, map}
use Rattle.hdl_check.specs.Tables.{bits_of}
use Rattle.hdl_flatten.specs.Inner.Wired.{bit_of}
use Rattle.hdl_flatten.proofs.wires.push_bits.Given as goal

abbrev pub invariant-loop-bit : goal.invariant-loop-bit
invariant-loop-bit l = map bit_of l.bits.items ≡ map bit_of l.fn.bits.items ++ bits_of l.name 0 l.bit
