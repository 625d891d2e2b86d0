-- What comes in at the ends of an elaborated chip, by the directory. (The book, chapters 3 to 5.)
use Rattle.std.specs.Prelude.{◌≡◌, ℕ, ◌<◌, Bool, List, None, Some, slice_get, slice_index}
use Rattle.hdl_tree.specs.declared.library.Entry.{Entry}
use Rattle.hdl_tree.specs.declared.ends.End.{End}
use Rattle.hdl_tree.specs.declared.ends.End.TheVariants as ends
use Rattle.hdl_tree.specs.Memory.{number}
use Rattle.hdl_tree.specs.Chips.{Chips, end_of, find_chip}
use Rattle.hdl_tree.specs.Behaviour.{World}
use Rattle.netlist.specs.Value.{Inputs, AreValues}
use Rattle.hdl_flatten.specs.declared.flat.PartAt.{PartAt}
use Rattle.hdl_flatten.specs.declared.flat.PinAt.{PinAt}
use Rattle.hdl_flatten.specs.Ends.{EndsHavePins}
use Rattle.hdl_flatten.specs.Trees.{PartIn, IsTree}
use Rattle.hdl_elab.specs.declared.put.Elab.{Elab}
use Rattle.hdl_elab.specs.Elaborated.{IsElaborated}
use Rattle.hdl_elab.specs.Behaviour.{HearsWorld, ValuesBehave}

-- The output nodes of a keyboard are pins that spell its code in each of n cycles. The block of the instruction memory is loaded with its words,
-- and that of a memory with zeros.
abbrev pub ListedHears : World → Inputs → ℕ → End → PartAt → Type 0
ListedHears world inputs n ends.Nand part = Unit {0}
ListedHears world inputs n ends.Dff part = Unit {0}
ListedHears world inputs n ends.Keyboard part = (c : ℕ) → c < n → number 16 (λ k. inputs.pin c (slice_index part.outs k)) ≡ world.key c
ListedHears world inputs n ends.Rom part = (b : ℕ) → part.block ≡ Some b → (a : ℕ) → a < 32768 → (inputs.loaded b a ≡ world.rom a) × (world.rom a < 65536)
ListedHears world inputs n (ends.Block bits) part = (b : ℕ) → part.block ≡ Some b → (a : ℕ) → inputs.loaded b a ≡ 0

-- each end among the parts of the tree is given that, where the directory lists the parts
abbrev pub DirectoryHears : World → Inputs → ℕ → Chips → List PartIn → Elab → Type 0
DirectoryHears world inputs n chips tree e =
    (k : ℕ) (part : PartIn) (listed : PartAt) (kind : End) → slice_get tree k ≡ Some part → slice_get e.parts k ≡ Some listed → end_of chips.memories part.chip ≡ Some kind → ListedHears world inputs n kind listed

-- What the ends of the directory are given is what the world gives to the ends in the chip, which is no end itself.
abbrev pub HearingLaw : Type 0
HearingLaw =
    (world : World) (chips : Chips) (name : List ℕ) (top : Entry) (e : Elab) (is : IsElaborated chips top e) (inputs : Inputs) (n : ℕ) (tree : List PartIn) →
    EndsHavePins chips → find_chip chips name ≡ Some top → end_of chips.memories top ≡ None → IsTree chips top tree → DirectoryHears world inputs n chips tree e → HearsWorld world inputs n chips top e is

-- By the directory alone: let the ends that it lists be given that. Then the values of the netlist, at the nodes that it names, are a behaviour of
-- the chip.
abbrev pub DirectoryLaw : Type 0
DirectoryLaw =
    (world : World) (chips : Chips) (name : List ℕ) (top : Entry) (e : Elab) → IsElaborated chips top e → EndsHavePins chips → find_chip chips name ≡ Some top → end_of chips.memories top ≡ None → (tree : List PartIn) → IsTree chips top tree →
    (inputs : Inputs) (n : ℕ) (v : ℕ → ℕ → Bool) → DirectoryHears world inputs n chips tree e → AreValues e.net inputs n v → ValuesBehave world chips top n e v

-- ---- a chip that is an end itself, as a memory that is a block: its pins are those of the chip, and it has the only block

abbrev pub EndAloneHears : World → Inputs → ℕ → End → Elab → Type 0
EndAloneHears world inputs n ends.Nand e = Unit {0}
EndAloneHears world inputs n ends.Dff e = Unit {0}
EndAloneHears world inputs n ends.Keyboard e = (pin : PinAt) → slice_get e.pins 0 ≡ Some pin → (c : ℕ) → c < n → number 16 (λ k. inputs.pin c (slice_index pin.nodes k)) ≡ world.key c
EndAloneHears world inputs n ends.Rom e = (a : ℕ) → a < 32768 → (inputs.loaded 0 a ≡ world.rom a) × (world.rom a < 65536)
EndAloneHears world inputs n (ends.Block bits) e = (a : ℕ) → inputs.loaded 0 a ≡ 0

-- Where it is given that, the values of the netlist, at the nodes of its pins, are a behaviour of the chip.
abbrev pub EndAloneLaw : Type 0
EndAloneLaw =
    (world : World) (chips : Chips) (name : List ℕ) (top : Entry) (kind : End) (e : Elab) → IsElaborated chips top e → EndsHavePins chips → find_chip chips name ≡ Some top → end_of chips.memories top ≡ Some kind →
    (inputs : Inputs) (n : ℕ) (v : ℕ → ℕ → Bool) → EndAloneHears world inputs n kind e → AreValues e.net inputs n v → ValuesBehave world chips top n e v
