use Rattle.machine_io.proofs.Handed.{put_finished}
use Rattle.nand_cli.proofs.commands.soak.put_whole.Goals as goal

pub returns-in-Done-clause-put : goal.returns-in-Done-clause-put
returns-in-Done-clause-put g c = put_finished _ _ _ _ _ _ _ c.requires c.in-Done.ensures.passes c.finish.ensures.put
