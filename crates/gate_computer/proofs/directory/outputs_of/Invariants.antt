use Rattle.std.proofs.Common.{◌≡◌, drop}
use Rattle.hdl_tree.specs.Chips.{find_entry}
use Rattle.gate_computer.proofs.directory.outputs_of.Given as goal

abbrev pub invariant-loop-entry : goal.invariant-loop-entry
invariant-loop-entry l = find_entry (drop l.entry-index l.library.entries) l.chip ≡ find_entry l.library.entries l.chip
