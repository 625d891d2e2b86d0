use Rattle.std.proofs.Common.{refl}
use Rattle.machine_io.specs.Report.{head_text, shown_text}
use Rattle.machine_io.proofs.Handed.{two_cut, handed_more}
use Rattle.machine_io.proofs.report.put_report.Goals as goal

pub returns-in-Done-clause-passes : goal.returns-in-Done-clause-passes
returns-in-Done-clause-passes g c = λ words gives.
    handed_more _ _ _ _ _ _ (head_text c.args.head.now.level c.args.head.now.moves c.args.head.now.steps c.args.head.now.subroutine.now c.args.head.now.statement c.args.head.now.end) (shown_text c.args.show words) _ _ refl
    c.in-Done.ensures.passes (c.put_shown.ensures.passes words gives)

pub returns-in-Failed-clause-passes : goal.returns-in-Failed-clause-passes
returns-in-Failed-clause-passes g c = λ words gives.
    two_cut _ _ _ _ (head_text c.args.head.now.level c.args.head.now.moves c.args.head.now.steps c.args.head.now.subroutine.now c.args.head.now.statement c.args.head.now.end) (shown_text c.args.show words) c.in-Failed.ensures.passes
