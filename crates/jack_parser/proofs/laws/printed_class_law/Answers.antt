use Rattle.jack_parser.proofs.Rewritten.{printed_again}
use Rattle.jack_parser.proofs.laws.printed_class_law.Goals as goal

pub returns : goal.returns
returns c = printed_again
