use Rattle.std.proofs.Common.{ap, sym, ◌∙◌, List}
use Rattle.std.specs.List.{list_any}
use Rattle.hdl_loops.specs.Inner.Report.{is_passage}
use Rattle.hdl_loops.specs.declared.report.Passage.{Passage}
use Rattle.hdl_loops.proofs.Passing.{any_inserted}
use Rattle.hdl_loops.proofs.report.Report.note.Goals as goal

pub returns-in-Ok-clause-passed : goal.returns-in-Ok-clause-passed
returns-in-Ok-clause-passed c = λ chip n b m k h.
    any_inserted (is_passage chip n b m k)
    (list_any (is_passage c.args.passage.chip c.args.passage.through.input.now c.args.passage.through.bit c.args.passage.through.output.now c.args.passage.through.out) c.args.self.now.passed.keys)
    c.args.self.now.passed.keys c.args.passage
    (sym (ap (λ (ps : List Passage). list_any (is_passage chip n b m k) ps) c.in-Ok.ensures.keys) ∙ h)
