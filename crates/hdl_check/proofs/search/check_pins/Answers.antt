use Rattle.std.proofs.Common.{[], sym, ap, subst, ◌∙◌, List}
use Rattle.std.proofs.lemmas.Result.{err_from_is_err_and}
use Rattle.hdl_tree.specs.declared.tree.Pin.{Pin}
use Rattle.hdl_check.specs.Inner.Progress.{pin_fault_in, FindsFirst, IsFirstOf}
use Rattle.hdl_check.specs.Whole.{Tells}
use Rattle.hdl_check.proofs.Telling.{at_inputs, at_pins}
use Rattle.hdl_check.proofs.search.check_pins.Goals as goal

pub returns-in_err-enter_pins : goal.returns-in_err-enter_pins
returns-in_err-enter_pins c =
    let q = err_from_is_err_and c.from_residual.result c.from_residual.ensures.1 in
    rw (q.1, q.2) (at_inputs c.args.entry.now c.in_err-enter_pins.field-0.0 (subst (λ (ps : List Pin). Tells (IsFirstOf (pin_fault_in c.args.entry.now [] ps)) c.in_err-enter_pins.field-0.0) c.as_slice.ensures c.in_err-enter_pins.ensures.fault))

pub returns : goal.returns
returns c =
    at_pins c.args.entry.now c.enter_pins-2.result
    (λ k. ap (λ (ps : List Pin). pin_fault_in c.args.entry.now [] ps k) (sym c.as_slice.ensures) ∙ c.in_ok-enter_pins.ensures.fault k)
    (subst (λ (ps : List Pin). FindsFirst (pin_fault_in c.args.entry.now ps c.args.entry.now.chip.outputs) c.enter_pins-2.result) c.as_slice-2.ensures
    (subst (λ (ps : List Pin). FindsFirst (pin_fault_in c.args.entry.now c.as_slice-2.result.now ps) c.enter_pins-2.result) c.as_slice-3.ensures c.enter_pins-2.ensures.fault))
