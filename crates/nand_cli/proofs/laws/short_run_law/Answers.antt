use Rattle.nand_cli.proofs.FewMoves.{run_is_short}
use Rattle.nand_cli.proofs.laws.short_run_law.Goals as goal

pub returns : goal.returns
returns c = run_is_short
