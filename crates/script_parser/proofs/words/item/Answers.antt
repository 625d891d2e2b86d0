use Rattle.grammar.proofs.Steps.{ParsesBy-word}
use Rattle.script_parser.specs.Tokens.{view}
use Rattle.script_parser.specs.Grammar.{script, is_item, check_item, shown_word, Shown}
use Rattle.script_parser.proofs.words.item.Goals as goal

pub returns-clause-reads : goal.returns-clause-reads
returns-clause-reads c = ParsesBy-word view (script c.args.end) is_item check_item shown_word Shown (λ _. c.args.nesting) c.args.nesting _ _ c.item_at.ensures.reads
