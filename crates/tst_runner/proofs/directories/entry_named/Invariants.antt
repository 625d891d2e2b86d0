use Rattle.std.proofs.Common.{◌≡◌, drop}
use Rattle.hdl_tree.specs.Chips.{find_entry}
use Rattle.tst_runner.proofs.directories.entry_named.Given as goal

abbrev pub invariant-loop-entry : goal.invariant-loop-entry
invariant-loop-entry l = find_entry (drop l.entry-index l.entries) l.name ≡ find_entry l.entries l.name
