use Rattle.jack_lexer.proofs.Longest.{is_longest}
use Rattle.jack_lexer.proofs.laws.longest_law.Goals as goal

pub returns : goal.returns
returns c = is_longest
