use Rattle.std.proofs.Common.{◌≡◌, length, arith}
use Rattle.gate_sim.proofs.Placing.{plan_over, takes_over}
use Rattle.gate_sim.proofs.plain.is_right.Goals as goal

pub returns-clause-plan : goal.returns-clause-plan
returns-clause-plan c e = plan_over _ _ _ _ _ _ _ _ c.deref.ensures.value c.deref-2.ensures.value c.deref-3.ensures.value (c.is_plan.ensures c.if-not-is_plan.false)

pub returns-clause-takes : goal.returns-clause-takes
returns-clause-takes c e =
    let long : c.len.result ≡ length c.args.plan.now.ops.items = omega (arith, c.args.plan.now.ops.ok.0) in
    takes_over _ _ _ _ _ _ _ _ _ long c.deref-4.ensures.value c.deref-5.ensures.value c.deref-6.ensures.value (c.are_takes.ensures e)
