use Rattle.std.proofs.Common.{◌≡◌, ℕ, List, get_or, Some, None, subst, ◌∙◌, arith}
use Rattle.std.proofs.lemmas.Grind.{elements}
use Rattle.std.specs.Prelude.{slice_get}
use Rattle.std.proofs.lemmas.Option.{slice_get-get_or}
use Rattle.hdl_tree.specs.declared.tree.Connection.{Connection}
use Rattle.hdl_tree.specs.declared.library.Entry.{Entry}
use Rattle.hdl_tree.specs.Chips.{find_chip}
use Rattle.hdl_check.specs.Faults.{ports_of, drivers_by, bits_driven, connection_fault_in}
use Rattle.hdl_check.specs.Inner.Marked.{MarksMore}
use Rattle.hdl_check.specs.Inner.Progress.{chips_of}
use Rattle.hdl_check.proofs.Entering.{at_entry, part_marked}
use Rattle.hdl_check.proofs.walk.check_part.Goals as goal

pub returns-clause-wired : goal.returns-clause-wired
returns-clause-wired c =
    let chips = chips_of c.args.catalog.now in
    let part = c.args.part.now in
    let frame = c.args.frame.now in
    let w = c.requires.wired in
    let inner = get_or c.args.catalog.now.entries.now c.args.k c.index-catalog-k.result in
    let here : slice_get chips.entries c.args.k ≡ Some inner = slice_get-get_or c.args.catalog.now.entries.now c.args.k c.index-catalog-k.result c.requires.inner.within in
    let found : find_chip chips part.chip ≡ Some inner = c.requires.inner.found ∙ here in
    record {
      there = w.there;
      parts = w.parts;
      nets = w.nets;
      driven = part_marked chips frame.entry.now frame.place part inner frame.driven c.check_connections.new.driven found c.requires.there w.driven
          (subst (λ (cs : List Connection). MarksMore frame.driven c.check_connections.new.driven (bits_driven (drivers_by (ports_of inner.chip) cs))) c.as_slice.ensures c.in_ok-check_connections.ensures.driven);
    }

pub returns-clause-fault : goal.returns-clause-fault
returns-clause-fault c = λ other there.
    let chips = chips_of c.args.catalog.now in
    let part = c.args.part.now in
    let frame = c.args.frame.now in
    let inner = get_or c.args.catalog.now.entries.now c.args.k c.index-catalog-k.result in
    let here : slice_get chips.entries c.args.k ≡ Some inner = slice_get-get_or c.args.catalog.now.entries.now c.args.k c.index-catalog-k.result c.requires.inner.within in
    subst (λ (x : Entry). (j : ℕ) → connection_fault_in chips frame.entry.now frame.place (ports_of x.chip) part.connections j ≡ None) (at_entry chips c.args.k inner other here there)
    (subst (λ (cs : List Connection). (j : ℕ) → connection_fault_in chips frame.entry.now frame.place (ports_of inner.chip) cs j ≡ None) c.as_slice.ensures c.in_ok-check_connections.ensures.fault)

pub check_connections-requires-clause-sees : goal.check_connections-requires-clause-sees
check_connections-requires-clause-sees c = grind (arith, elements)

pub check_connections-requires-clause-ports : goal.check_connections-requires-clause-ports
check_connections-requires-clause-ports c = grind (arith, elements)

pub returns-in_err-check_connections-clause-fault : goal.returns-in_err-check_connections-clause-fault
returns-in_err-check_connections-clause-fault c = grind (arith, elements)

pub overflow_add-frame : goal.overflow_add-frame
overflow_add-frame c = grind (arith, elements)
