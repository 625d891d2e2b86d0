use Rattle.std.proofs.Common.{refl, arith}
use Rattle.std.specs.Prelude.{if◌then◌else◌}
use Rattle.nand_cli.specs.Commands.Soak.{None as NoOutcomes}
use Rattle.nand_cli.proofs.SoakTold.{one_more, retold}
use Rattle.nand_cli.proofs.commands.soak.summary_of.Goals as goal

pub loop-before-init : goal.loop-before-init
loop-before-init c = (NoOutcomes, omega arith, omega arith)

pub loop-before-preserved : goal.loop-before-preserved
loop-before-preserved c =
    let h = c.loop-before.invariant in
    let told = c.loop-before.told in
    let one = c.in_ok-one.one in
    let e = c.with_one-told.ensures in
    let few = h.1 in
    let steps = h.2 in
    let more = one_more c.args.seed c.loop-before.before told.agree told.steps told.sum one.steps one.sum (if one.agrees then 1 else 0) one.agrees h.0 c.in_ok-one.ensures refl in
    (retold _ _ _ _ _ _ _ _ more e.agree e.steps e.sum, omega (arith, few, e.few_agree), omega (arith, steps, e.few_steps))
