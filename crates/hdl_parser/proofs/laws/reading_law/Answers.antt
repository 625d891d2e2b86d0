use Rattle.hdl_parser.proofs.Readings.{one_reading}
use Rattle.hdl_parser.proofs.laws.reading_law.Goals as goal

pub returns : goal.returns
returns c = one_reading
