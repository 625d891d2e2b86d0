use Rattle.std.proofs.Common.{sym, ap, ◌∙◌}
use Rattle.vm_machine.specs.Step.{end_outcome}
use Rattle.vm_machine.specs.Moves.{answer_of}
use Rattle.vm_machine.proofs.Histories.{step_made, end_made}
use Rattle.vm_machine.proofs.vm.proceed.Goals as goal

pub returns-in-Some-clause-makes : goal.returns-in-Some-clause-makes
returns-in-Some-clause-makes c = step_made c.args.linked.now c.args.key c.args.machine.now.stack c.args.machine.now.memory _ _ _ c.in-Some.ensures.code c.act.ensures

pub returns-in-None-clause-makes : goal.returns-in-None-clause-makes
returns-in-None-clause-makes c =
    end_made c.args.linked.now c.args.key c.args.machine.now.stack c.args.machine.now.memory _ (sym c.in-None.is ∙ c.fetch.ensures.code)
    (c.ended.ensures ∙ ap (λ k. answer_of (end_outcome k)) c.function.ensures)
