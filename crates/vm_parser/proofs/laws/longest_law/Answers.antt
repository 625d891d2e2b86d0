use Rattle.vm_parser.proofs.Longest.{longest_match}
use Rattle.vm_parser.proofs.laws.longest_law.Goals as goal

pub returns : goal.returns
returns c = longest_match
