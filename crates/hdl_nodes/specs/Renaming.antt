-- Numberings in a netlist whose nodes have other numbers.
use Rattle.std.specs.Prelude.{ℕ, List, slice_index}
use Rattle.hdl_tree.specs.declared.library.Entry.{Entry}
use Rattle.hdl_tree.specs.Chips.{Chips}
use Rattle.hdl_tree.specs.Behaviour.{Wires}
use Rattle.netlist.specs.Net.{Net}
use Rattle.netlist.specs.Renamed.{IsRenamed}
use Rattle.hdl_nodes.specs.Numbering.{IsNumbering}

-- The places of the nodes of a numbering are a numbering in the renamed netlist.
abbrev pub RenamingLaw : Type 0
RenamingLaw =
    (old new : Net) (places : List ℕ) (low high : ℕ) (chips : Chips) (top : Entry) (block : List ℕ → ℕ) (at : List ℕ → Wires ℕ) →
    IsRenamed old new places → IsNumbering old low high chips top block at → IsNumbering new (slice_index places low) (slice_index places high) chips top block (λ path name bit. slice_index places (at path name bit))
