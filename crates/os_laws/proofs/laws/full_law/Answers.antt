use Rattle.std.proofs.Common.{◌+◌, arith}
use Rattle.os_laws.specs.Names.{names_in, error_number}
use Rattle.os_laws.proofs.LawsMade.{on_ok, full_comes, error_stops, stands_at}
use Rattle.os_laws.proofs.laws.full_law.Goals as goal

pub step_until-requires-clause-stops : goal.step_until-requires-clause-stops
step_until-requires-clause-stops c =
    let j = c.args.machine.now in
    let call = c.requires.call in
    let deep = c.frames-frames.ensures.frames in
    let f = full_comes j call in
    (f.0, f.1, _, error_stops j (c.frames-frames.result + 2) (omega (arith, deep)) call.made.call (error_number (names_in call.has.memory)) 6 f.0 f.2)

pub returns-clause-error : goal.returns-clause-error
returns-clause-error c =
    let j = c.args.machine.now in
    let deep = c.frames-frames.ensures.frames in
    on_ok _ _ c.step_until.result
    (λ n h call.
    let f = full_comes j call in
    (stands_at j (c.frames-frames.result + 2) (omega (arith, deep)) call.made.call (error_number (names_in call.has.memory)) 6 f.0 f.2 n c.step_until.new.machine h).1)
    c.step_until.ensures.comes
