use Rattle.std.proofs.Common.{◌≡◌, true, false, length, Some, is_some, refl, sym, ap, ◌∙◌, below_more, arith}
use Rattle.std.specs.Prelude.{slice_get}
use Rattle.std.proofs.lemmas.Option.{slice_get_read}
use Rattle.name_table.specs.Names.{find_value, names_in}
use Rattle.hdl_tree.specs.Writable.{is_among}
use Rattle.name_table.specs.Tables.{table_of}
use Rattle.hdl_check.specs.Faults.{fault_in}
use Rattle.hdl_check.specs.Inner.Progress.{pin_fault_in}
use Rattle.hdl_check.specs.declared.fault.FaultKind.TheVariants as kinds
use Rattle.hdl_check.proofs.Telling.{told_first, twice_is, no_pin, all_clear, not_is, is_not}
use Rattle.hdl_check.proofs.Rows.{names_next}
use Rattle.hdl_check.proofs.Entries.{found_among}
use Rattle.hdl_check.proofs.search.enter_pins.Goals as goal

pub loop-pin-preserved : goal.loop-pin-preserved
loop-pin-preserved c =
    let there : slice_get c.args.pins.now c.loop-pin.pin-index ≡ Some c.pin-item.result = slice_get_read c.args.pins.now (length c.args.pins.now) c.loop-pin.pin-index c.pin-item.result refl c.loop-pin-test.true c.pin-item.is in
    let absent : is_some (find_value c.as_bytes-name.result.now (table_of c.loop-pin.seen)) ≡ false = not_is c.in_ok-enter.field-0 _ c.if-not-branch.false c.in_ok-enter.ensures.new in
    let new : is_among c.as_bytes-name.result.now (names_in (table_of c.loop-pin.seen)) ≡ false = sym (found_among c.as_bytes-name.result.now (table_of c.loop-pin.seen)) ∙ absent in
    record {
      seen = names_next c.args.front.now c.args.pins.now c.loop-pin.pin-index c.pin-item.result c.as_bytes-name.result.now (table_of c.loop-pin.seen) (table_of c.enter.new.self) there c.as_bytes-name.ensures c.loop-pin.invariant.seen absent c.in_ok-enter.ensures.entered;
      clear = below_more _ _ c.loop-pin.invariant.clear (twice_is c.args.entry.now c.args.front.now c.args.pins.now c.loop-pin.pin-index c.pin-item.result c.as_bytes-name.result.now (names_in (table_of c.loop-pin.seen)) false there c.as_bytes-name.ensures c.loop-pin.invariant.seen new);
    }

pub returns-then-not-branch-clause-fault : goal.returns-then-not-branch-clause-fault
returns-then-not-branch-clause-fault c =
    let entry = c.args.entry.now in
    let front = c.args.front.now in
    let pins = c.args.pins.now in
    let k = c.loop-pin.pin-index in
    let name = c.as_bytes-name.result.now in
    let seen = table_of c.loop-pin.seen in
    let there : slice_get c.args.pins.now c.loop-pin.pin-index ≡ Some c.pin-item.result = slice_get_read pins (length pins) k c.pin-item.result refl c.loop-pin-test.true c.pin-item.is in
    let entered : is_some (find_value c.as_bytes-name.result.now (table_of c.loop-pin.seen)) ≡ true = is_not c.in_ok-enter.field-0 _ c.if-not-branch.true c.in_ok-enter.ensures.new in
    let among : is_among c.as_bytes-name.result.now (names_in (table_of c.loop-pin.seen)) ≡ true = sym (found_among name seen) ∙ entered in
    let wrong : pin_fault_in c.args.entry.now c.args.front.now c.args.pins.now c.loop-pin.pin-index ≡ Some (fault_in c.as_bytes.result.now kinds.Driven c.as_bytes-name.result.now) =
    twice_is entry front pins k c.pin-item.result name (names_in seen) true there c.as_bytes-name.ensures c.loop-pin.invariant.seen among ∙ ap (λ n. Some (fault_in n kinds.Driven name)) (sym c.as_bytes.ensures) in
    told_first (pin_fault_in entry front pins) k (fault_in c.as_bytes.result.now kinds.Driven name) c.tell.result wrong c.loop-pin.invariant.clear c.tell.ensures

pub returns-clause-fault : goal.returns-clause-fault
returns-clause-fault c = all_clear (pin_fault_in c.args.entry.now c.args.front.now c.args.pins.now) c.args.pins.now (no_pin c.args.entry.now c.args.front.now c.args.pins.now) (λ k lt. c.loop-pin.invariant.clear k (omega arith))
