use Rattle.key_script.proofs.Longest.{longest_match}
use Rattle.key_script.proofs.laws.longest_law.Goals as goal

pub returns : goal.returns
returns c = longest_match
