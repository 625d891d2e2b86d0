use Rattle.std.proofs.Common.{arith}
use Rattle.os_laws.specs.Numbers.{multiply_steps}
use Rattle.os_laws.proofs.LawsMade.{on_ok, few_steps, with_product, multiply_stops}
use Rattle.os_laws.proofs.laws.multiply_law.Goals as goal

pub step_until-requires-clause-stops : goal.step_until-requires-clause-stops
step_until-requires-clause-stops c =
    let j = c.args.machine.now in
    let call = c.requires.call in
    (multiply_steps call.made.y, few_steps call.made.y, with_product j call, multiply_stops j c.frames-frames.result c.frames-frames.ensures.frames call)

pub returns-clause-product : goal.returns-clause-product
returns-clause-product c =
    let j = c.args.machine.now in
    on_ok _ _ c.step_until.result
    (λ n h. record {
      gives = λ call. (h (multiply_steps call.made.y) (with_product j call) (multiply_stops j c.frames-frames.result c.frames-frames.ensures.frames call)).1;
      steps = λ call. (h (multiply_steps call.made.y) (with_product j call) (multiply_stops j c.frames-frames.result c.frames-frames.ensures.frames call)).0;
    })
    c.step_until.ensures.comes

pub returns-clause-few : goal.returns-clause-few
returns-clause-few c =
    let j = c.args.machine.now in
    let call = c.requires.call in
    on_ok _ _ c.step_until.result
    (λ n h. let e = (h (multiply_steps call.made.y) (with_product j call) (multiply_stops j c.frames-frames.result c.frames-frames.ensures.frames call)).0 in omega (arith, e, few_steps call.made.y))
    c.step_until.ensures.comes
