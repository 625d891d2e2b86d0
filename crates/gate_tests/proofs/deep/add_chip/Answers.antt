use Rattle.std.proofs.Common.{◌≡◌, List, ℕ, None, sym, ap, subst, ◌∙◌}
use Rattle.hdl_tree.specs.declared.library.Entry.{Entry}
use Rattle.hdl_tree.specs.Chips.{find_entry}
use Rattle.hdl_names.proofs.Tabling.{none_found}
use Rattle.hack_cpu.specs.Libraries.{IsLibrary}
use Rattle.hack_cpu.proofs.Libraries.{libraries}
use Rattle.gate_tests.proofs.deep.add_chip.Goals as goal

pub returns-clause-library : goal.returns-clause-library
returns-clause-library c =
    let entries = c.args.chips.now.entries.items in
    let none : find_entry c.args.chips.now.entries.items c.args.entry.name ≡ None =
    ap (λ (n : List ℕ). find_entry entries n) (sym c.as_bytes.ensures) ∙ none_found (find_entry entries c.as_bytes.result.now) (sym c.has.ensures ∙ c.if-has.false) in
    subst (λ (es : List Entry). IsLibrary es) (sym c.in_ok-push.ensures.pushed) (libraries.more entries c.args.entry c.requires.library none c.requires.known)
