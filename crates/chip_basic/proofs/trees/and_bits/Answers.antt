use Rattle.std.proofs.Common.{sym}
use Rattle.chip_basic.specs.Trees.{and_bit}
use Rattle.chip_basic.proofs.Rows.{one_more}
use Rattle.chip_basic.proofs.trees.and_bits.Goals as goal

pub loop-bit-preserved : goal.loop-bit-preserved
loop-bit-preserved c =
    rw (c.in_ok-add_part.ensures, c.loop-bit.invariant, c.wire_bit.ensures, c.wire_bit-in-loop-bit.ensures, c.wire_bit-in-loop-bit-2.ensures) (sym (one_more and_bit c.loop-bit.bit))
