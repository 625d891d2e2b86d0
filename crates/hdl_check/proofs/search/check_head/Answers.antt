use Rattle.std.proofs.Common.{◌≡◌, is_some, false, Some, sym, ap, ◌∙◌}
use Rattle.std.proofs.lemmas.Result.{err_from_is_err_and}
use Rattle.hdl_tree.specs.Chips.{end_of}
use Rattle.hdl_check.specs.Faults.{fault_in, pin_fault, body_fault, body_fault_of}
use Rattle.hdl_check.specs.Locations.{IsFirstFault}
use Rattle.hdl_check.specs.Inner.Progress.{chips_of, IsFirstOf}
use Rattle.hdl_check.specs.declared.fault.FaultKind.TheVariants as kinds
use Rattle.hdl_check.proofs.Entering.{pins_fail, body_wrong}
use Rattle.hdl_check.proofs.Stages.{checks_err}
use Rattle.hdl_check.proofs.Telling.{tells_more}
use Rattle.hdl_check.proofs.search.check_head.Goals as goal

pub returns-in_err-check_pins-clause-fault : goal.returns-in_err-check_pins-clause-fault
returns-in_err-check_pins-clause-fault c =
    let q = err_from_is_err_and c.from_residual.result c.from_residual.ensures.1 in
    let chips = chips_of c.args.catalog.now in
    let entry = c.args.entry.now in
    let tree : is_some (end_of chips.memories entry) ≡ false = sym c.is_end.ensures ∙ c.if-is_end.false in
    rw (q.1, q.2) (λ names. tells_more (IsFirstOf (pin_fault entry)) (IsFirstFault chips names entry) c.in_err-check_pins.field-0.0 (λ f h. pins_fail chips entry tree names f h) c.in_err-check_pins.ensures)

pub returns-in-Builtin-clause-fault : goal.returns-in-Builtin-clause-fault
returns-in-Builtin-clause-fault c =
    let chips = chips_of c.args.catalog.now in
    let entry = c.args.entry.now in
    let tree : is_some (end_of chips.memories entry) ≡ false = sym c.is_end.ensures ∙ c.if-is_end.false in
    let wrong : body_fault entry ≡ Some (fault_in c.as_bytes.result.now kinds.UnknownChip c.as_bytes-in-Builtin.result.now) =
    ap (body_fault_of entry.name) c.in-Builtin.is ∙ ap (λ n. Some (fault_in n kinds.UnknownChip c.in-Builtin.name)) (sym c.as_bytes.ensures)
    ∙ ap (λ n. Some (fault_in c.as_bytes.result.now kinds.UnknownChip n)) (sym c.as_bytes-in-Builtin.ensures) in
    checks_err c.tell.result (Some (fault_in c.as_bytes.result.now kinds.UnknownChip c.as_bytes-in-Builtin.result.now)) _
    (λ e h names. body_wrong chips entry tree names _ e c.in_ok-check_pins.ensures wrong h) c.tell.ensures
