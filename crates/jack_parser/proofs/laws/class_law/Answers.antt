use Rattle.jack_parser.proofs.Spelt.{one_class}
use Rattle.jack_parser.proofs.laws.class_law.Goals as goal

pub returns : goal.returns
returns c = one_class
