use Rattle.std.proofs.Common.{sym}
use Rattle.chip_memory.specs.Trees.{register_bit}
use Rattle.chip_basic.proofs.Rows.{one_more}
use Rattle.chip_memory.proofs.trees.register_bits.Goals as goal

pub loop-bit-preserved : goal.loop-bit-preserved
loop-bit-preserved c =
    rw (c.in_ok-add_part.ensures, c.loop-bit.invariant, c.wire_bit.ensures, c.wire.ensures, c.wire_bit-in-loop-bit.ensures) (sym (one_more register_bit c.loop-bit.bit))
