use Rattle.grammar.proofs.Steps.{Ends-end}
use Rattle.jack_parser.specs.Grammar.{jack}
use Rattle.jack_parser.proofs.reading.finish.Goals as goal

pub returns : goal.returns
returns c = λ end counts. Ends-end (jack end) counts _ _ (c.at_end.ensures end)
