use Rattle.jack_parser.proofs.Arguments.{made_said, made_invoked}
use Rattle.jack_os.proofs.making.call_through.Goals as goal

pub returns-clause-front : goal.returns-clause-front
returns-clause-front c = made_said _

pub returns-clause-behind : goal.returns-clause-behind
returns-clause-behind c = made_invoked _
