use Rattle.std.proofs.Common.{◌≡◌, ℕ, List, map, take}
use Rattle.std.specs.List.{All, Contains}
use Rattle.name_table.specs.Tables.{table_of}
use Rattle.script_device.specs.Directory.{part_named}
use Rattle.tst_runner.specs.Directories.{first_part, part_nodes}
use Rattle.tst_runner.proofs.Firsts.{AreSeen}
use Rattle.tst_runner.proofs.directories.first_parts.Given as goal

abbrev pub invariant-loop-k : goal.invariant-loop-k
invariant-loop-k l = record {
  first : (name : List ℕ) → part_named l.named.items name ≡ first_part l.catalog.entries.now (take l.k l.parts) name;
  among : All (Contains (map (part_nodes l.catalog.entries.now) l.parts)) l.named.items;
  seen : AreSeen (table_of l.seen) l.named.items;
}
