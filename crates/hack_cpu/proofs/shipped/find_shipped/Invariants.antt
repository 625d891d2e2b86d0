use Rattle.std.proofs.Common.{◌≡◌, drop}
use Rattle.hdl_tree.specs.Chips.{find_entry}
use Rattle.hack_cpu.proofs.shipped.find_shipped.Given as goal

abbrev pub invariant-loop-entry : goal.invariant-loop-entry
invariant-loop-entry l = find_entry l.library.entries l.name ≡ find_entry (drop l.entry-index l.library.entries) l.name
