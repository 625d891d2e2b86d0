use Rattle.std.proofs.Common.{sym, ◌∙◌}
use Rattle.scan_text.specs.Text.{start}
use Rattle.grammar.proofs.Shown.{writes_is, put_whole, text_whole}
use Rattle.hdl_parser.specs.Grammar.{hdl, chip}
use Rattle.hdl_parser.specs.Trees.{chip_tree}
use Rattle.hdl_parser.specs.Printed.{said_text}
use Rattle.hdl_parser.proofs.printing.put_all.Goals as goal

pub returns-clause-same_sink : goal.returns-clause-same_sink
returns-clause-same_sink g c = c.put_rest.ensures.same_sink ∙ c.put_chip-status.ensures.writes.same_sink

pub returns-clause-put : goal.returns-clause-put
returns-clause-put g c = put_whole c.requires (writes_is (sym (text_whole (hdl start) said_text (chip_tree c.args.chip.now) chip)) c.put_chip-status.ensures.writes) c.put_rest.ensures
