use Rattle.std.proofs.Common.{◌≡◌, List, Some, subst, arith}
use Rattle.std.proofs.lemmas.Grind.{common_steps}
use Rattle.hdl_tree.specs.Chips.{find_entry}
use Rattle.hdl_tree.specs.declared.library.Entry.{Entry}
use Rattle.hack_cpu.proofs.Printed.{found_printed}
use Rattle.hack_cpu.proofs.shipped.find_shipped.Goals as goal

pub returns-then-eq-clause-printed : goal.returns-then-eq-clause-printed
returns-then-eq-clause-printed c same =
    let name = c.args.name.now in
    let chip = c.entry-item.result in
    let found : find_entry c.args.library.now.entries name ≡ Some chip = grind (arith, common_steps) in
    found_printed name chip (subst (λ (entries : List Entry). find_entry entries name ≡ Some chip) same found)
