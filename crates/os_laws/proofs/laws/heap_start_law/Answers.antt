use Rattle.os_laws.proofs.LawsMade.{on_ok, init_stops, has_laid}
use Rattle.os_laws.proofs.laws.heap_start_law.Goals as goal

pub step_until-requires-clause-stops : goal.step_until-requires-clause-stops
step_until-requires-clause-stops c = init_stops c.args.machine.now c.frames-frames.result c.frames-frames.ensures.frames c.requires.call

pub returns-clause-heap : goal.returns-clause-heap
returns-clause-heap c =
    on_ok _ _ c.step_until.result (λ n h call. (has_laid c.args.machine.now c.frames-frames.result c.frames-frames.ensures.frames call n c.step_until.new.machine h).1) c.step_until.ensures.comes

pub returns-clause-steps : goal.returns-clause-steps
returns-clause-steps c =
    on_ok _ _ c.step_until.result (λ n h. (has_laid c.args.machine.now c.frames-frames.result c.frames-frames.ensures.frames c.requires.call n c.step_until.new.machine h).0) c.step_until.ensures.comes
