use Rattle.std.proofs.Common.{sym, ◌∙◌}
use Rattle.scan_text.specs.Text.{start}
use Rattle.grammar.proofs.Shown.{writes_is, put_whole, text_whole}
use Rattle.jack_parser.specs.Grammar.{jack, class_rule}
use Rattle.jack_parser.specs.ClassTrees.{class_tree}
use Rattle.jack_parser.specs.Printed.{said_text}
use Rattle.jack_parser.proofs.printing.put_all.Goals as goal

pub returns-clause-same_sink : goal.returns-clause-same_sink
returns-clause-same_sink g c = c.put_rest.ensures.same_sink ∙ c.put_class-status.ensures.writes.same_sink

pub returns-clause-put : goal.returns-clause-put
returns-clause-put g c = put_whole c.requires (writes_is (sym (text_whole (jack start) said_text (class_tree c.args.class.now) class_rule)) c.put_class-status.ensures.writes) c.put_rest.ensures
