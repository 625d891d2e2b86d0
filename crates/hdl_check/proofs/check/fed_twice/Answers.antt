use Rattle.hdl_check.specs.Tables.{bits_of}
use Rattle.hdl_check.proofs.MarkLemmas.{some_marked_is}
use Rattle.hdl_check.proofs.Checking.{fed_is}
use Rattle.hdl_check.proofs.check.fed_twice.Goals as goal

pub returns : goal.returns
returns c = λ bits h. cc (some_marked_is c.args.fed.now bits (bits_of c.as_bytes.result.now c.first_bit.result c.count_bits.result) h, fed_is c.args.port c.args.connection.now c.requires)
