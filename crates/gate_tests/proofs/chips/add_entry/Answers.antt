use Rattle.std.proofs.Common.{rules, arith, ◌≡◌, [], ◌∷◌, ◌++◌, List, None, sym, ap, ◌∙◌, subst}
use Rattle.std.proofs.lemmas.Grind.{common_steps}
use Rattle.hdl_tree.specs.declared.library.Entry.{Entry}
use Rattle.hdl_tree.specs.Chips.{find_entry}
use Rattle.hack_cpu.specs.Libraries.{IsLibrary}
use Rattle.hack_cpu.proofs.Libraries.{libraries}
use Rattle.gate_tests.proofs.chips.add_entry.Goals as goal

pub returns : goal.returns
returns c =
    let none : find_entry c.args.library.entries c.args.entry.name ≡ None = first_of (search rules, grind (arith, common_steps)) in
    let pushed = c.of.ensures ∙ c.in_ok-push.ensures.items ∙ ap (λ (es : List Entry). es ++ c.args.entry ∷ []) c.into_entries-entries.ensures in
    subst (λ (es : List Entry). IsLibrary es) (sym pushed) (libraries.more c.args.library.entries c.args.entry c.requires.library none c.requires.known)
