use Rattle.std.proofs.Common.{sym}
use Rattle.script_columns.proofs.Agreeing.{other_length}
use Rattle.script_columns.proofs.comparison.agrees.Goals as goal

pub returns-then-compared-line : goal.returns-then-compared-line
returns-then-compared-line c = sym (other_length c.args.compared.now c.args.line.now c.if-compared-line.true)
