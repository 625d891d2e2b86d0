-- What comes into the netlist of an elaborated chip, by its directory: what it tells of the outside, and what comes in at the pins of the chip. (The
-- book, chapters 1 to 5.)
use Rattle.std.specs.Prelude.{◌≡◌, ℕ, ◌<◌, ◌≤◌, ◌^◌, Bool, List, [], Option, Some, length, slice_get, slice_index}
use Rattle.hdl_tree.specs.declared.library.Entry.{Entry}
use Rattle.hdl_tree.specs.declared.ends.End.{End}
use Rattle.hdl_tree.specs.declared.ends.End.TheVariants as ends
use Rattle.hdl_tree.specs.Memory.{number}
use Rattle.hdl_tree.specs.Chips.{Chips, end_of}
use Rattle.hdl_tree.specs.Behaviour.{Histories}
use Rattle.hdl_check.specs.Tables.{BitOf}
use Rattle.netlist.specs.Value.{Inputs, held_in}
use Rattle.hdl_flatten.specs.declared.flat.PinAt.{PinAt}
use Rattle.hdl_flatten.specs.declared.flat.PartAt.{PartAt}
use Rattle.hdl_flatten.specs.Trees.{PartIn, all_bits}
use Rattle.hdl_elab.specs.declared.put.Elab.{Elab}
use Rattle.history_laws.specs.Environment.{Environment, memory_word}

-- The end at a path is told this, where its output bits have these nodes and it has this block. The output nodes of a keyboard spell its key in each
-- of n cycles. The blocks of an instruction memory and of a memory are loaded with its words.
abbrev pub EndIsTold : Environment → Inputs → ℕ → List ℕ → List ℕ → Option ℕ → End → Type 0
EndIsTold outside inputs n path outs block ends.Nand = Unit {0}
EndIsTold outside inputs n path outs block ends.Dff = Unit {0}
EndIsTold outside inputs n path outs block ends.Keyboard = (c : ℕ) → c < n → number 16 (λ k. inputs.pin c (slice_index outs k)) ≡ outside.key path c
EndIsTold outside inputs n path outs block ends.Rom = (b : ℕ) → block ≡ Some b → (a : ℕ) → a < 32768 → (inputs.loaded b a ≡ outside.rom path a) × (outside.rom path a < 65536)
EndIsTold outside inputs n path outs block (ends.Block bits) = (b : ℕ) → block ≡ Some b → (a : ℕ) → a < 2 ^ bits → (inputs.loaded b a ≡ outside.words path a) × (outside.words path a < 65536)

-- Each end among the parts is told that, where the directory lists them. So is a chip that is an end itself, at its
-- output pin; it has the only block.
pub record IsTold (outside : Environment) (inputs : Inputs) (n : ℕ) (chips : Chips) (top : Entry) (tree : List PartIn) (e : Elab) : Type 0 where
  pub parts : (k : ℕ) (part : PartIn) (listed : PartAt) (kind : End) → slice_get tree k ≡ Some part
      → slice_get e.parts k ≡ Some listed → end_of chips.memories part.chip ≡ Some kind
      → EndIsTold outside inputs n part.path listed.outs listed.block kind
  pub alone : (pin : PinAt) (kind : End)
      → slice_get e.pins (length top.chip.inputs) ≡ Some pin → end_of chips.memories top ≡ Some kind
      → EndIsTold outside inputs n [] pin.nodes (Some 0) kind

-- the words that the blocks are loaded with are words
abbrev pub AreWords : Inputs → Type 0
AreWords inputs = (b a : ℕ) → inputs.loaded b a < 65536

-- in n cycles the bits of the chip's inputs are what comes in at their nodes
abbrev pub ComesIn : Entry → Elab → Inputs → ℕ → (List ℕ → Histories) → Type 0
ComesIn top e inputs n wires =
    (k bit node c : ℕ) (pin : PinAt) → k < length top.chip.inputs → c < n → slice_get e.pins k ≡ Some pin → slice_get pin.nodes bit ≡ Some node → wires [] pin.name bit c ≡ inputs.pin c node

-- these bits come in at the nodes of the chip's inputs
abbrev pub AreGiven : Entry → Elab → Inputs → Histories → Type 0
AreGiven top e inputs given =
    (k bit node c : ℕ) (pin : PinAt) → k < length top.chip.inputs → slice_get e.pins k ≡ Some pin → slice_get pin.nodes bit ≡ Some node → inputs.pin c node ≡ given pin.name bit c

-- The netlist shows the behaviour over n cycles, where v gives the values of the nodes: each bit of each pin of the chip, each output bit of each
-- part, and each word of each memory among the parts, at the start of each cycle.
pub record Shows (chips : Chips) (tree : List PartIn) (e : Elab) (outside : Environment) (inputs : Inputs) (n : ℕ) (v : ℕ → ℕ → Bool) (wires : List ℕ → Histories) : Type 0 where
  pub pins : (k bit node c : ℕ) (pin : PinAt) → c < n → slice_get e.pins k ≡ Some pin
      → slice_get pin.nodes bit ≡ Some node → wires [] pin.name bit c ≡ v node c
  pub parts : (k j node c : ℕ) (part : PartIn) (listed : PartAt) (b : BitOf)
      → c < n → slice_get tree k ≡ Some part → slice_get e.parts k ≡ Some listed
      → slice_get (all_bits part.chip.chip.outputs) j ≡ Some b → slice_get listed.outs j ≡ Some node
      → wires part.path b.name b.bit c ≡ v node c
  pub words : (k b bits c a : ℕ) (part : PartIn) (listed : PartAt)
      → c ≤ n → a < 2 ^ bits → slice_get tree k ≡ Some part → slice_get e.parts k ≡ Some listed
      → listed.block ≡ Some b → end_of chips.memories part.chip ≡ Some (ends.Block bits)
      → memory_word bits (outside.words part.path) (wires part.path) c a
      ≡ held_in e.net.blocks inputs.loaded v c b a
