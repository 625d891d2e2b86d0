use Rattle.hdl_check.specs.Tables.{bits_of}
use Rattle.hdl_check.proofs.MarkLemmas.{some_marked_is}
use Rattle.hdl_check.proofs.Checking.{driver_is}
use Rattle.hdl_check.proofs.check.driven_twice.Goals as goal

pub returns-in-Net : goal.returns-in-Net
returns-in-Net c = λ bits h. cc (some_marked_is c.args.driven.now bits (bits_of c.as_bytes.result.now c.first_bit.result c.count_bits.result) h, driver_is c.args.port c.args.connection.now c.in-Net.net c.requires c.in-Net.is)
