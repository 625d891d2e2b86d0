use Rattle.grammar.proofs.Wholes.{one_reading}
use Rattle.jack_lexer.specs.Tokens.{tokens_of, finish}
use Rattle.jack_parser.specs.Grammar.{jack, whole, fresh}
use Rattle.jack_parser.proofs.laws.reading_law.Goals as goal

pub returns : goal.returns
returns c text = one_reading (jack (finish text)) whole (fresh 0) (tokens_of text)
