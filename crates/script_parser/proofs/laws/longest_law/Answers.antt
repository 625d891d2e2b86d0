use Rattle.script_parser.proofs.Longest.{is_longest}
use Rattle.script_parser.proofs.laws.longest_law.Goals as goal

pub returns : goal.returns
returns c = is_longest
