use Rattle.std.proofs.Common.{ap, ◌∙◌, List}
use Rattle.std.specs.List.{list_any}
use Rattle.hdl_check.specs.Inner.Marked.{is_mark}
use Rattle.hdl_check.specs.declared.marks.Mark.{Mark}
use Rattle.hdl_check.proofs.MarkLemmas.{marked_more}
use Rattle.hdl_check.proofs.marks.Marks.mark.Goals as goal

pub returns-in-Ok : goal.returns-in-Ok
returns-in-Ok c = λ name bit. ap (λ (ms : List Mark). list_any (is_mark name bit) ms) c.in-Ok.ensures.keys ∙ marked_more (record { name = c.args.name; bit = c.args.bit }) name bit c.args.self.now.bits.keys
