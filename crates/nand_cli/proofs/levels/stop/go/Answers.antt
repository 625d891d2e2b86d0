use Rattle.key_script.specs.Codes.{code_at}
use Rattle.nand_cli.proofs.Stopping.{gone_on}
use Rattle.nand_cli.proofs.levels.stop.go.Goals as goal

pub returns-clause-gone : goal.returns-clause-gone
returns-clause-gone c = λ image n gone.
    gone_on image (code_at c.args.keys.now) n c.at-key.result c.moves.result c.args.computer.now c.cycle.new.self gone c.moves.ensures c.at-key.ensures c.cycle.ensures.image c.cycle.ensures.moves c.cycle.ensures.stands
