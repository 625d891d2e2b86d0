use Rattle.std.proofs.Common.{add-one}
use Rattle.chip_alu.proofs.trees.add_full_adder.Goals as goal

pub returns : goal.returns
returns c =
    rw (c.in_ok-add_part.ensures, c.wire_bit.ensures, c.wire_bit-2.ensures, c.wire.ensures, c.as_bytes.ensures, c.wire_bit-3.ensures, c.wire-2.ensures, c.as_bytes-2.ensures, c.in_ok-carry_in.ensures, c.in_ok-carry_out.ensures, add-one c.args.bit)
