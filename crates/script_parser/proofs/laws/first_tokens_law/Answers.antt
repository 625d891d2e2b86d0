use Rattle.script_parser.proofs.Lawful.{lawful}
use Rattle.script_parser.proofs.laws.first_tokens_law.Goals as goal

pub returns : goal.returns
returns c = lawful
