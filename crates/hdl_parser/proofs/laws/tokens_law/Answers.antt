use Rattle.hdl_parser.proofs.TokensTold.{tokens_told}
use Rattle.hdl_parser.proofs.laws.tokens_law.Goals as goal

pub returns : goal.returns
returns c = tokens_told
