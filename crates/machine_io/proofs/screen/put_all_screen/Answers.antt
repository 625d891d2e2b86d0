use Rattle.machine_io.proofs.Handed.{put_failed, put_finished}
use Rattle.machine_io.proofs.screen.put_all_screen.Goals as goal

pub returns-in-Done-clause-put : goal.returns-in-Done-clause-put
returns-in-Done-clause-put g c = λ words gives. put_finished _ _ _ _ _ _ _ c.requires.empty (c.in-Done.ensures.passes words gives) c.finish.ensures.put

pub returns-in-Failed-clause-put : goal.returns-in-Failed-clause-put
returns-in-Failed-clause-put g c = λ words gives. put_failed _ _ _ _ _ c.requires.empty (c.in-Failed.ensures.passes words gives)
