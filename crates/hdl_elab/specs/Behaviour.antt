-- The values of the netlist of an elaborated chip, at the nodes that its directory names, are a behaviour of the chip. (The book, chapters 1 to 3.)
use Rattle.std.specs.Prelude.{◌≡◌, ℕ, Bool, List, [], Some, slice_get}
use Rattle.hdl_tree.specs.declared.library.Entry.{Entry}
use Rattle.hdl_tree.specs.Chips.{Chips}
use Rattle.hdl_tree.specs.Behaviour.{Histories, World, IsBehaviour}
use Rattle.hdl_check.specs.Tables.{BitOf}
use Rattle.netlist.specs.Value.{Inputs, AreValues}
use Rattle.hdl_nodes.specs.Numbering.{Hears}
use Rattle.hdl_flatten.specs.declared.flat.PinAt.{PinAt}
use Rattle.hdl_flatten.specs.declared.flat.PartAt.{PartAt}
use Rattle.hdl_flatten.specs.Trees.{PartIn, IsTree, all_bits}
use Rattle.hdl_elab.specs.declared.put.Elab.{Elab}
use Rattle.hdl_elab.specs.Elaborated.{IsElaborated}

-- the pins and the blocks of the netlist are given what the world gives to the ends in the chip
abbrev pub HearsWorld : (world : World) (inputs : Inputs) (n : ℕ) (chips : Chips) (top : Entry) (e : Elab) → IsElaborated chips top e → Type 0
HearsWorld world inputs n chips top e is = Hears world inputs n chips top is.block is.at

-- The directory shows these bits, where v gives the values of the nodes. Each bit of a pin of the chip has the value of the node that the
-- pin has in the directory, the lowest first. So has each output bit of a part.
pub record Shows (tree : List PartIn) (e : Elab) (v : ℕ → ℕ → Bool) (wires : List ℕ → Histories) : Type 0 where
  pub pins : (k bit node c : ℕ) (pin : PinAt) → slice_get e.pins k ≡ Some pin → slice_get pin.nodes bit ≡ Some node → wires [] pin.name bit c ≡ v node c
  pub parts : (k j node c : ℕ) (part : PartIn) (listed : PartAt) (b : BitOf) → slice_get tree k ≡ Some part → slice_get e.parts k ≡ Some listed → slice_get (all_bits part.chip.chip.outputs) j ≡ Some b → slice_get listed.outs j ≡ Some node → wires part.path b.name b.bit c ≡ v node c

-- there is a behaviour of the chip over n cycles, and the directory shows its bits
pub record ValuesBehave (world : World) (chips : Chips) (top : Entry) (n : ℕ) (e : Elab) (v : ℕ → ℕ → Bool) : Type 0 where
  pub wires : List ℕ → Histories
  pub behaves : IsBehaviour world chips top n wires
  pub tree : List PartIn
  pub listed : IsTree chips top tree
  pub shows : Shows tree e v wires

-- The values of the netlist, at the nodes that the directory names, are a behaviour of the chip, whatever comes in at its inputs.
abbrev pub BehaviourLaw : Type 0
BehaviourLaw =
    (world : World) (chips : Chips) (top : Entry) (e : Elab) (is : IsElaborated chips top e) (inputs : Inputs) (n : ℕ) (v : ℕ → ℕ → Bool) →
    HearsWorld world inputs n chips top e is → AreValues e.net inputs n v → ValuesBehave world chips top n e v
