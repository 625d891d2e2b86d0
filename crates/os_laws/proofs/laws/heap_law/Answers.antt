use Rattle.std.proofs.Common.{⊎_elim}
use Rattle.os_laws.proofs.LawsMade.{on_ok, alloc_stops, free_stops, has_allocated, has_freed}
use Rattle.os_laws.proofs.laws.heap_law.Goals as goal

pub step_until-requires-clause-stops : goal.step_until-requires-clause-stops
step_until-requires-clause-stops c =
    let j = c.args.machine.now in
    ⊎_elim (alloc_stops j c.frames-frames.result c.frames-frames.ensures.frames) (free_stops j c.frames-frames.result c.frames-frames.ensures.frames) c.requires.call

pub returns-clause-allocated : goal.returns-clause-allocated
returns-clause-allocated c =
    on_ok _ _ c.step_until.result (λ n h call. has_allocated c.args.machine.now c.frames-frames.result c.frames-frames.ensures.frames call n c.step_until.new.machine h) c.step_until.ensures.comes

pub returns-clause-freed : goal.returns-clause-freed
returns-clause-freed c =
    on_ok _ _ c.step_until.result (λ n h call. has_freed c.args.machine.now c.frames-frames.result c.frames-frames.ensures.frames call n c.step_until.new.machine h) c.step_until.ensures.comes
