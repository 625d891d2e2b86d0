use Rattle.hdl_parser.proofs.Blindness.{printed_spells}
use Rattle.hdl_parser.proofs.laws.printed_law.Goals as goal

pub returns : goal.returns
returns c = printed_spells
