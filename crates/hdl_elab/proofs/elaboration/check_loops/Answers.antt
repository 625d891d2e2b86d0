use Rattle.hdl_elab.proofs.elaboration.check_loops.Goals as goal

pub returns-in-Ok-None-clause-fine : goal.returns-in-Ok-None-clause-fine
returns-in-Ok-None-clause-fine c = λ top found nets loop. c.in-Ok-None.ensures.none c.in-Ok-None.field-0-is top nets found loop
