use Rattle.std.proofs.Common.{◌+◌, arith}
use Rattle.os_laws.specs.Names.{names_in, error_number}
use Rattle.os_laws.proofs.LawsMade.{on_ok, nothing_comes, error_stops, stands_at}
use Rattle.os_laws.proofs.laws.size_law.Goals as goal

pub step_until-requires-clause-stops : goal.step_until-requires-clause-stops
step_until-requires-clause-stops c =
    let j = c.args.machine.now in
    let call = c.requires.call in
    let deep = c.frames-frames.ensures.frames in
    (7, omega arith, _, error_stops j (c.frames-frames.result + 2) (omega (arith, deep)) call.made.call (error_number (names_in call.has.memory)) 5 7 (nothing_comes j call))

pub returns-clause-error : goal.returns-clause-error
returns-clause-error c =
    let j = c.args.machine.now in
    let deep = c.frames-frames.ensures.frames in
    on_ok _ _ c.step_until.result
    (λ n h call. (stands_at j (c.frames-frames.result + 2) (omega (arith, deep)) call.made.call (error_number (names_in call.has.memory)) 5 7 (nothing_comes j call) n c.step_until.new.machine h).1)
    c.step_until.ensures.comes

pub returns-clause-steps : goal.returns-clause-steps
returns-clause-steps c =
    let j = c.args.machine.now in
    let call = c.requires.call in
    let deep = c.frames-frames.ensures.frames in
    on_ok _ _ c.step_until.result
    (λ n h. (stands_at j (c.frames-frames.result + 2) (omega (arith, deep)) call.made.call (error_number (names_in call.has.memory)) 5 7 (nothing_comes j call) n c.step_until.new.machine h).0)
    c.step_until.ensures.comes
