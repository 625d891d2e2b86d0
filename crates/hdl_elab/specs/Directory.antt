-- What the directory of an elaborated chip names is there, and the chip's input bits can be set. (The book, chapters 1 to 3.)
use Rattle.std.specs.Prelude.{◌≡◌, ℕ, ◌+◌, ◌<◌, ◌++◌, Some, IfSome, length, slice_get}
use Rattle.std.specs.List.{All}
use Rattle.hdl_tree.specs.declared.tree.Pin.{Pin}
use Rattle.hdl_tree.specs.declared.library.Entry.{Entry}
use Rattle.hdl_tree.specs.Chips.{Chips, pin_width}
use Rattle.netlist.specs.declared.node.Node.TheVariants as nodes
use Rattle.hdl_flatten.specs.declared.flat.PinAt.{PinAt}
use Rattle.hdl_elab.specs.declared.put.Elab.{Elab}
use Rattle.hdl_elab.specs.Elaborated.{IsElaborated}

-- Pin k of the directory is pin k of the chip, inputs first, with a node for each of its bits. The nodes of an input come in from outside. All nodes
-- and blocks that the directory names are in the netlist.
pub record IsThere (top : Entry) (e : Elab) : Type 0 where
  pub number : length e.pins ≡ length top.chip.inputs + length top.chip.outputs
  pub named : (k : ℕ) (declared : Pin) (pin : PinAt) → slice_get (top.chip.inputs ++ top.chip.outputs) k ≡ Some declared → slice_get e.pins k ≡ Some pin → (pin.name ≡ declared.name) × (length pin.nodes ≡ pin_width declared)
  pub inputs : (k : ℕ) (pin : PinAt) → k < length top.chip.inputs → slice_get e.pins k ≡ Some pin → All (λ node. slice_get e.net.nodes node ≡ Some nodes.Pin) pin.nodes
  pub pins : All (λ p. All (λ node. node < length e.net.nodes) p.nodes) e.pins
  pub parts : All (λ p. All (λ node. node < length e.net.nodes) p.outs) e.parts
  pub blocks : All (λ p. IfSome p.block (λ b. b < length e.net.blocks)) e.parts

-- The directory of an elaborated chip is so.
abbrev pub ThereLaw : Type 0
ThereLaw = (chips : Chips) (top : Entry) (e : Elab) → IsElaborated chips top e → IsThere top e
