use Rattle.std.proofs.Common.{◌≡◌, ◌<◌, length, true, Some, None, sym, ap, ◌∙◌, arith}
use Rattle.std.specs.Prelude.{slice_get}
use Rattle.std.proofs.lemmas.Option.{slice_get-get_or}
use Rattle.hdl_tree.specs.Chips.{find_chip, find_entry}
use Rattle.hdl_check.specs.Faults.{fault_in, part_fault_by}
use Rattle.hdl_check.specs.Inner.Progress.{chips_of, is_open}
use Rattle.hdl_check.specs.declared.fault.FaultKind.TheVariants as kinds
use Rattle.hdl_check.proofs.Entering.{name_wrong}
use Rattle.hdl_check.proofs.Stages.{by_stage}
use Rattle.hdl_check.proofs.walk.inner_chip.Goals as goal

pub returns-in-None-clause-fault : goal.returns-in-None-clause-fault
returns-in-None-clause-fault c = λ names i o there.
    let chips = chips_of c.args.catalog.now in
    let part = c.args.part.now in
    let chip = c.as_bytes-chip.result.now in
    let none : find_chip chips part.chip ≡ None = ap (find_entry c.args.catalog.now.entries.now) (sym c.as_bytes-name.ensures) ∙ c.in-None.ensures in
    name_wrong chips names c.args.entry.now i part there (fault_in chip kinds.UnknownChip c.as_bytes-name.result.now) c.fault_of.result
    (ap (part_fault_by names c.args.entry.now.name part.chip) none
    ∙ ap (λ n. Some (fault_in n kinds.UnknownChip part.chip)) (sym c.as_bytes-chip.ensures)
    ∙ ap (λ n. Some (fault_in chip kinds.UnknownChip n)) (sym c.as_bytes-name.ensures)) c.fault_of.ensures

pub returns-then-is_open-clause-fault : goal.returns-then-is_open-clause-fault
returns-then-is_open-clause-fault c = λ names i o there.
    let chips = chips_of c.args.catalog.now in
    let part = c.args.part.now in
    let chip = c.as_bytes-chip.result.now in
    let k = c.in-Some.k in
    let within : k < length chips.entries = c.in-Some.ensures.0 in
    let long : k < length c.args.stages.now = omega (arith, within, c.requires.long) in
    let at = ap is_open (slice_get-get_or c.args.stages.now k _ long) ∙ sym c.is_open.ensures ∙ c.if-is_open.true in
    let found : find_chip chips part.chip ≡ slice_get chips.entries k = ap (find_entry c.args.catalog.now.entries.now) (sym c.as_bytes-name.ensures) ∙ c.in-Some.ensures.1 in
    name_wrong chips names c.args.entry.now i part there (fault_in chip kinds.Recursive c.as_bytes-name.result.now) _
    (ap (part_fault_by names c.args.entry.now.name part.chip) found ∙ by_stage chips c.args.stages.now k names o within c.args.entry.now.name part.chip true at
    ∙ ap (λ n. Some (fault_in n kinds.Recursive part.chip)) (sym c.as_bytes-chip.ensures)
    ∙ ap (λ n. Some (fault_in chip kinds.Recursive n)) (sym c.as_bytes-name.ensures)) c.fault_of-then-is_open.ensures

pub returns-else-is_open : goal.returns-else-is_open
returns-else-is_open c =
    let chips = chips_of c.args.catalog.now in
    let part = c.args.part.now in
    let k = c.in-Some.k in
    let within : k < length chips.entries = c.in-Some.ensures.0 in
    let long : k < length c.args.stages.now = omega (arith, within, c.requires.long) in
    record {
      inner = record { within = within; found = ap (find_entry c.args.catalog.now.entries.now) (sym c.as_bytes-name.ensures) ∙ c.in-Some.ensures.1 };
      closed = ap is_open (slice_get-get_or c.args.stages.now k _ long) ∙ sym c.is_open.ensures ∙ c.if-is_open.false;
      fault = tt;
    }
