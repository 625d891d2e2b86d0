use Rattle.jack_tree.specs.declared.token.Keyword.TheVariants as keyword
use Rattle.jack_parser.specs.declared.counts.Counted.TheVariants as counted
use Rattle.jack_parser.specs.Grammar.{declaration}
use Rattle.grammar.proofs.Shown.{shows_left, shows_right}
use Rattle.jack_parser.proofs.printing.put_variables.Goals as goal

pub returns-in-Static : goal.returns-in-Static
returns-in-Static g c = rw c.in-Static.is (shows_left {m = declaration keyword.Static counted.Static} {n = declaration keyword.Field counted.Field} (c.put_declaration.ensures counted.Static))

pub returns-in-Field : goal.returns-in-Field
returns-in-Field g c = rw c.in-Field.is (shows_right {m = declaration keyword.Static counted.Static} {n = declaration keyword.Field counted.Field} (c.put_declaration-in-Field.ensures counted.Field))
