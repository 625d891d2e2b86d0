use Rattle.std.proofs.Common.{◌≡◌, ◌∙◌, true, false, sym, arith}
use Rattle.std.proofs.lemmas.Bool.{eqb-false, eqb-true}
use Rattle.nand_cli.proofs.SoakVm.{has_come, has_ended, has_stopped}
use Rattle.nand_cli.proofs.soak.comes_behind.Goals as goal

pub returns-then-steps-m-clause-comes : goal.returns-then-steps-m-clause-comes
returns-then-steps-m-clause-comes c = λ e.
    let below = c.loop-move-test.true in
    has_come c.args.vm.now.linked c.args.m c.loop-move.vm c.loop-move._move c.loop-move.invariant c.args.bound (omega (arith, below)) (sym c.steps.ensures ∙ c.if-steps-m.true)

pub returns-in_default : goal.returns-in_default
returns-in_default c = record {
  linked = c.step.ensures.linked ∙ c.loop-move.invariant.code;
  comes = λ e. let no : ⊥ = cc in absurd no;
  never = λ e.
      has_stopped c.args.vm.now.linked c.args.m c.loop-move.vm c.loop-move._move c.loop-move.invariant c.args.bound c.step.result c.step.new.self.state (λ same. c.if-steps-m.false (c.steps.ensures ∙ same))
      c.step.ensures.makes c.in_default.not-Acted;
}

pub returns-clause-comes : goal.returns-clause-comes
returns-clause-comes c = λ e.
    let ended = c.loop-move-test.false in
    let few = c.loop-move.auto._move-end in
    has_come c.args.vm.now.linked c.args.m c.loop-move.vm c.loop-move._move c.loop-move.invariant c.args.bound (omega (arith, few)) (sym c.steps-2.ensures ∙ eqb-true c.steps-2.result c.args.m e)

pub returns-clause-never : goal.returns-clause-never
returns-clause-never c = λ e.
    let ended = c.loop-move-test.false in
    let few = c.loop-move.auto._move-end in
    has_ended c.args.vm.now.linked c.args.m c.loop-move.vm c.loop-move._move c.loop-move.invariant c.args.bound (let all : c.loop-move._move ≡ c.args.bound = omega (arith, ended, few) in all)
    (λ same. eqb-false c.steps-2.result c.args.m e (c.steps-2.ensures ∙ same))
