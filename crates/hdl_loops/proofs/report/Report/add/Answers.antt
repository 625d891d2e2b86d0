use Rattle.hdl_loops.proofs.Passing.{named_more}
use Rattle.hdl_loops.proofs.report.Report.add.Goals as goal

pub returns-in-Ok-clause-names : goal.returns-in-Ok-clause-names
returns-in-Ok-clause-names c = named_more c.args.self.now.names.keys _ c.args.name (λ name. name.now) c.in-Ok.ensures.keys
