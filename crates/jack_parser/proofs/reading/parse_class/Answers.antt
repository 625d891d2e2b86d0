use Rattle.grammar.proofs.Exact.{only, exact}
use Rattle.grammar.proofs.Wholes.{one_tree, not_both, first_fault}
use Rattle.jack_lexer.specs.Tokens.{tokens_of, finish}
use Rattle.jack_parser.specs.Grammar.{jack, fresh, whole}
use Rattle.jack_parser.specs.Spells.{whole_tree, Spells, Refuses}
use Rattle.jack_parser.proofs.Found.{if_found}
use Rattle.jack_parser.proofs.Spelt.{only_class}
use Rattle.jack_parser.proofs.reading.parse_class.Goals as goal

pub returns-clause-spelled : goal.returns-clause-spelled
returns-clause-spelled c = if_found c.args.text.now c.read.result c.read.ensures.found

pub returns-clause-read : goal.returns-clause-read
returns-clause-read c k s = only_class c.args.text.now c.read.result c.read.ensures.found c.read.ensures.fault k s

pub returns-clause-only : goal.returns-clause-only
returns-clause-only c t =
    let text = c.args.text.now in
    let g = jack (finish text) in
    let cuts = tokens_of text in
    only whole_tree (Spells text) (Refuses text) (one_tree g whole (fresh 0) cuts) (not_both g whole (fresh 0) cuts) (first_fault g whole (fresh 0) cuts) c.read.result t c.read.ensures.found c.read.ensures.fault

pub returns-clause-exact : goal.returns-clause-exact
returns-clause-exact c f =
    let text = c.args.text.now in
    let g = jack (finish text) in
    let cuts = tokens_of text in
    exact whole_tree (Spells text) (Refuses text) (one_tree g whole (fresh 0) cuts) (not_both g whole (fresh 0) cuts) (first_fault g whole (fresh 0) cuts) c.read.result f c.read.ensures.found c.read.ensures.fault
