-- The drive, by what the test says and by the answer of its last turn.
use Rattle.std.proofs.Common.{◌≡◌, ◌≤◌, [], ◌∙◌, sym, subst, refl, arith}
use Rattle.machine_io.specs.declared.machine.Moved.TheVariants as moved
use Rattle.machine_io.specs.Driven.{Goes}
use Rattle.machine_io.specs.Until.{IsCutBefore}
use Rattle.machine_io.proofs.Drives.{goes_none, goes_on, goes_more, goes_back, on_err}
use Rattle.machine_io.proofs.Ways.{HasCome, come_none, come_more, found, not_found}
use Rattle.machine_io.proofs.driving.drive_until.Goals as goal

pub loop-i-init : goal.loop-i-init
loop-i-init g c =
    let old = c.args.level.now in
    let code = g.K.Keyboard.code c.args.keys.now in
    let test = g.U.Until.test c.args.until.now in
    let stands = g.L.Level.stands in
    let reading = g.L.Level.reading in
    record {
      goes = goes_none code (stands old) (reading old).moves;
      come = subst (λ s. HasCome test stands reading code old 0 s old) (sym c.steps-steps.ensures) (come_none test stands reading code old);
      program = refl;
    }

pub returns-then-holds-clause-driven : goal.returns-then-holds-clause-driven
returns-then-holds-clause-driven g c =
    let few : c.loop-i._i ≤ c.args.n = omega (arith, c.loop-i-test.true) in
    found (g.U.Until.test c.args.until.now) g.L.Level.stands g.L.Level.reading (g.K.Keyboard.code c.args.keys.now) c.args.level.now c.args.n c.loop-i._i c.loop-i.steps c.loop-i.level c.holds.result
    c.loop-i.invariant.come few c.if-holds.true c.holds.ensures

pub loop-i-preserved : goal.loop-i-preserved
loop-i-preserved g c =
    let e = c.in_ok-step.ensures in
    let old = c.args.level.now in
    let here = c.loop-i.level in
    let new = c.step.new.self in
    let code = g.K.Keyboard.code c.args.keys.now in
    let test = g.U.Until.test c.args.until.now in
    let stands = g.L.Level.stands in
    let reading = g.L.Level.reading in
    let goes = goes_more code (stands old) (stands here) (stands new) (reading old).moves c.loop-i._i c.moves.result _ _ _ _
    c.loop-i.invariant.goes c.moves.ensures c.at-key.ensures c.in-Acted.is e.stands e.counts in
    record {
      goes = goes;
      come = come_more test stands reading code old c.loop-i._i c.loop-i.steps c.steps-steps-in-loop-i.result here new c.holds.result
          c.loop-i.invariant.come c.if-holds.false c.holds.ensures c.steps-steps-in-loop-i.ensures goes;
      program = e.program ∙ c.loop-i.invariant.program;
    }

pub returns-in-Stray-clause-driven : goal.returns-in-Stray-clause-driven
returns-in-Stray-clause-driven g c =
    let e = c.in_ok-step.ensures in
    let old = c.args.level.now in
    let here = c.loop-i.level in
    let new = c.step.new.self in
    let code = g.K.Keyboard.code c.args.keys.now in
    let test = g.U.Until.test c.args.until.now in
    let stands = g.L.Level.stands in
    let reading = g.L.Level.reading in
    let goes = goes_on code (stands old) (stands here) (stands new) (reading old).moves c.loop-i._i c.moves.result _ _ _ (moved.Stray c.in-Stray.s) _
    c.loop-i.invariant.goes c.moves.ensures c.at-key.ensures c.in-Stray.is e.stands e.counts refl in
    ((c.loop-i._i, c.loop-i-test.true, goes), not_found test stands reading code old c.loop-i._i c.loop-i.steps here new c.holds.result c.loop-i.invariant.come c.if-holds.false c.holds.ensures goes.counts)

pub returns-in-Full-clause-driven : goal.returns-in-Full-clause-driven
returns-in-Full-clause-driven g c =
    let e = c.in_ok-step.ensures in
    let old = c.args.level.now in
    let here = c.loop-i.level in
    let new = c.step.new.self in
    let code = g.K.Keyboard.code c.args.keys.now in
    let test = g.U.Until.test c.args.until.now in
    let stands = g.L.Level.stands in
    let reading = g.L.Level.reading in
    let goes = goes_on code (stands old) (stands here) (stands new) (reading old).moves c.loop-i._i c.moves.result _ _ _ (moved.Full c.in-Full.w) _
    c.loop-i.invariant.goes c.moves.ensures c.at-key.ensures c.in-Full.is e.stands e.counts refl in
    ((c.loop-i._i, c.loop-i-test.true, goes), not_found test stands reading code old c.loop-i._i c.loop-i.steps here new c.holds.result c.loop-i.invariant.come c.if-holds.false c.holds.ensures goes.counts)

pub returns-in-Done-clause-driven : goal.returns-in-Done-clause-driven
returns-in-Done-clause-driven g c =
    let e = c.in_ok-step.ensures in
    let old = c.args.level.now in
    let here = c.loop-i.level in
    let new = c.step.new.self in
    let code = g.K.Keyboard.code c.args.keys.now in
    let test = g.U.Until.test c.args.until.now in
    let stands = g.L.Level.stands in
    let reading = g.L.Level.reading in
    let goes = goes_on code (stands old) (stands here) (stands new) (reading old).moves c.loop-i._i c.moves.result _ _ _ moved.Done _
    c.loop-i.invariant.goes c.moves.ensures c.at-key.ensures c.in-Done.is e.stands e.counts refl in
    ((c.loop-i._i, c.loop-i-test.true, goes), not_found test stands reading code old c.loop-i._i c.loop-i.steps here new c.holds.result c.loop-i.invariant.come c.if-holds.false c.holds.ensures goes.counts)

pub returns-in_err-step-clause-refused : goal.returns-in_err-step-clause-refused
returns-in_err-step-clause-refused g c =
    let e = c.in_err-step.ensures in
    let old = c.args.level.now in
    let here = c.loop-i.level in
    let new = c.step.new.self in
    let code = g.K.Keyboard.code c.args.keys.now in
    let test = g.U.Until.test c.args.until.now in
    let stands = g.L.Level.stands in
    let reading = g.L.Level.reading in
    let goes = goes_back code (stands old) (stands here) (stands new) (reading old).moves c.loop-i._i _ _ c.loop-i.invariant.goes e.refused e.refused_still.moves in
    on_err _ (IsCutBefore test stands reading code old c.args.n new) (
      (c.loop-i._i, c.loop-i-test.true, goes),
      not_found test stands reading code old c.loop-i._i c.loop-i.steps here new c.holds.result c.loop-i.invariant.come c.if-holds.false c.holds.ensures goes.counts,
    )

pub returns-then-holds-2-clause-driven : goal.returns-then-holds-2-clause-driven
returns-then-holds-2-clause-driven g c =
    let few : c.loop-i._i ≤ c.args.n = omega (arith, c.loop-i.auto._i-end) in
    found (g.U.Until.test c.args.until.now) g.L.Level.stands g.L.Level.reading (g.K.Keyboard.code c.args.keys.now) c.args.level.now c.args.n c.loop-i._i c.loop-i.steps c.loop-i.level c.holds-2.result
    c.loop-i.invariant.come few c.if-holds-2.true c.holds-2.ensures

pub returns-clause-driven : goal.returns-clause-driven
returns-clause-driven g c =
    let e : c.loop-i._i ≡ c.args.n = omega (arith, c.loop-i-test.false, c.loop-i.auto._i-end) in
    let old = c.args.level.now in
    let here = c.loop-i.level in
    let code = g.K.Keyboard.code c.args.keys.now in
    let test = g.U.Until.test c.args.until.now in
    let stands = g.L.Level.stands in
    let reading = g.L.Level.reading in
    let goes = c.loop-i.invariant.goes in (
      subst (λ m. Goes code (stands old) (reading old).moves m [] (stands here) (reading here).moves) e goes,
      not_found test stands reading code old c.loop-i._i c.loop-i.steps here here c.holds-2.result c.loop-i.invariant.come c.if-holds-2.false c.holds-2.ensures goes.counts,
    )

pub step-requires : goal.step-requires
step-requires g c = let h = c.loop-i.invariant.goes.counts in omega (arith, h, c.requires)
