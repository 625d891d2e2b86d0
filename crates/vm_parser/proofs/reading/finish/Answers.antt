use Rattle.grammar.proofs.Steps.{Ends-end}
use Rattle.vm_parser.specs.Grammar.{vm, greatest}
use Rattle.vm_parser.proofs.reading.finish.Goals as goal

pub returns : goal.returns
returns c = Ends-end (vm c.args.end) greatest _ _ c.at_end.ensures
