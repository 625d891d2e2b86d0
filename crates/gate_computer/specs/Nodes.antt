-- How many nodes the Computer needs. No shipped chip needs more, so none has a fault. (The book, chapters 1 to 5, and appendix 2.)
use Rattle.std.specs.Prelude.{◌≡◌, ℕ, ◌≤◌, List, Some, slice_get}
use Rattle.hdl_tree.specs.declared.library.Entry.{Entry}
use Rattle.hdl_tree.specs.declared.ends.Memories.{Memories}
use Rattle.hdl_tree.specs.declared.ends.Memories.TheVariants.{Blocks, Gates}
use Rattle.hdl_check.specs.Whole.{chips_in}
use Rattle.hdl_flatten.specs.Trees.{PartIn, IsTree, node_count}
use Rattle.hdl_elab.specs.declared.fault.ElaborationFault.{ElaborationFault}
use Rattle.hdl_elab.specs.declared.fault.ElaborationFault.TheVariants as faults
use Rattle.hdl_elab.specs.Faults.{IsFaultOf, IsFine}
use Rattle.hack_cpu.specs.Library.{shipped_chips}
use Rattle.gate_computer.specs.Computer.{computer}

-- These are the bit of its input, the output bits of the ends in it and the two constants. They are 2,004 where the memories are blocks, and
-- 3,663,658 where they are made of gates.
abbrev pub computer_nodes : Memories → ℕ
computer_nodes Blocks = 2004
computer_nodes Gates = 3663658

-- With blocks and with memories of gates: The Computer needs this many nodes, and no shipped chip needs more. So nothing is wrong with any, neither
-- a fault of the texts nor a loop nor too many nodes. Want of memory is left.
pub record NodesLaw : Type 0 where
  pub count : (memories : Memories) (tree : List PartIn) → IsTree (chips_in shipped_chips memories) computer tree → node_count (chips_in shipped_chips memories) computer tree ≡ computer_nodes memories
  pub most : (memories : Memories) (i : ℕ) (entry : Entry) (tree : List PartIn) → slice_get shipped_chips i ≡ Some entry → IsTree (chips_in shipped_chips memories) entry tree → node_count (chips_in shipped_chips memories) entry tree ≤ computer_nodes memories
  pub fine : (memories : Memories) (i : ℕ) (entry : Entry) → slice_get shipped_chips i ≡ Some entry → IsFine (chips_in shipped_chips memories) entry
  pub no_fault : (memories : Memories) (i : ℕ) (entry : Entry) (f : ElaborationFault) → slice_get shipped_chips i ≡ Some entry → IsFaultOf (chips_in shipped_chips memories) entry f → f ≡ faults.Memory
