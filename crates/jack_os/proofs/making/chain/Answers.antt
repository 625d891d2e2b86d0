use Rattle.jack_parser.proofs.Arguments.{made_expression}
use Rattle.jack_os.proofs.making.chain.Goals as goal

pub returns : goal.returns
returns c = made_expression _
