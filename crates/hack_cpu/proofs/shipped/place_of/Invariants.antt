use Rattle.std.proofs.Common.{◌≡◌, drop}
use Rattle.hdl_tree.specs.Chips.{find_entry}
use Rattle.hack_cpu.proofs.shipped.place_of.Given as goal

abbrev pub invariant-loop-k : goal.invariant-loop-k
invariant-loop-k l = find_entry l.entries l.name ≡ find_entry (drop l.k l.entries) l.name
