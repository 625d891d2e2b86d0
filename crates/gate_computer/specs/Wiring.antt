-- The Computer as a netlist, and where its pins, memories and parts are in it. (The book, chapters 1, 3 and 5.)
use Rattle.std.specs.Prelude.{◌≡◌, ◌≢◌, ℕ, ◌<◌, List, [], ◌∷◌, length, Some, map, slice_get, codes}
use Rattle.std.specs.List.{All}
use Rattle.hdl_tree.specs.Behaviour.{Wires}
use Rattle.netlist.specs.declared.node.Node.TheVariants.{Pin}
use Rattle.netlist.specs.Net.{Net}
use Rattle.hdl_elab.specs.Elaborated.{IsElaborated}
use Rattle.hdl_elab.specs.declared.put.Elab.{Elab}
use Rattle.hdl_nodes.specs.Numbering.{IsNumbering, nodes_of}
use Rattle.hdl_flatten.specs.Trees.{PartIn}
use Rattle.gate_computer.specs.declared.wiring.Wiring.{Wiring}
use Rattle.gate_computer.specs.declared.wiring.WiredPart.{WiredPart}
use Rattle.gate_computer.specs.Computer.{chips, computer}
use Rattle.gate_computer.specs.Parts.{AreComputerParts, output_bits}

-- ---- paths of the Computer: the CPU is its part 0, the ROM part 1 and Memory part 2

abbrev pub cpu_path : List ℕ
cpu_path = 0 ∷ []

abbrev pub a_register_path : List ℕ
a_register_path = 0 ∷ 3 ∷ []

abbrev pub rom_path : List ℕ
rom_path = 1 ∷ []

abbrev pub main_path : List ℕ
main_path = 2 ∷ 3 ∷ []

abbrev pub screen_path : List ℕ
screen_path = 2 ∷ 4 ∷ []

abbrev pub keyboard_path : List ℕ
keyboard_path = 2 ∷ 5 ∷ []

-- ---- what the wiring has, where `at` gives the node of each bit of each pin by path, and `block` the block of each memory

-- the part at a place: the name of its chip, and the nodes of its outputs
abbrev pub part_at : (List ℕ → Wires ℕ) → PartIn → WiredPart
part_at at place = record { chip = place.chip.name; outputs = output_bits place.chip (at place.path) }

-- the nodes of pins and outputs are there, lowest bits first, and the parts are those of the Computer, depth first in the order of the texts
pub record TellsPins (w : Wiring) (at : List ℕ → Wires ℕ) : Type 0 where
  pub keyboard : w.keyboard ≡ nodes_of 16 (at keyboard_path (codes "out"))
  pub pc : w.pc ≡ nodes_of 15 (at cpu_path (codes "pc"))
  pub a : w.a ≡ nodes_of 16 (at a_register_path (codes "out"))
  pub places : List PartIn
  pub all_places : AreComputerParts places
  pub parts : w.parts ≡ Some (map (part_at at) places)

pub record TellsBlocks (w : Wiring) (block : List ℕ → ℕ) : Type 0 where
  pub rom : w.rom ≡ block rom_path
  pub main : w.main ≡ block main_path
  pub screen : w.screen ≡ block screen_path

-- the reset is a pin, and so is each bit of the keyboard, all of them different
pub record HasOwnPins (net : Net) (at : List ℕ → Wires ℕ) : Type 0 where
  pub reset : slice_get net.nodes (at [] (codes "reset") 0) ≡ Some Pin
  pub keys_apart : (j k : ℕ) → j < k → k < 16 → at keyboard_path (codes "out") j ≢ at keyboard_path (codes "out") k
  pub reset_apart : (k : ℕ) → k < 16 → at keyboard_path (codes "out") k ≢ at [] (codes "reset") 0

-- each node that the wiring has is there
pub record HasNodes (net : Net) (w : Wiring) : Type 0 where
  pub pc : All (λ node. node < length net.nodes) w.pc
  pub a : All (λ node. node < length net.nodes) w.a
  pub outputs : (parts : List WiredPart) → w.parts ≡ Some parts → (i : ℕ) (part : WiredPart) → slice_get parts i ≡ Some part → All (λ node. node < length net.nodes) part.outputs

-- The netlist is the elaborated one of the Computer, with some numbering of its bits, and the wiring has the nodes and blocks that this gives.
pub record IsWired (net : Net) (w : Wiring) : Type 0 where
  pub elab : Elab
  pub elaborated : IsElaborated chips computer elab
  pub is_net : net ≡ elab.net
  pub low : ℕ
  pub high : ℕ
  pub block : List ℕ → ℕ
  pub at : List ℕ → Wires ℕ
  pub numbering : IsNumbering net low high chips computer block at
  pub own_pins : HasOwnPins net at
  pub pins : TellsPins w at
  pub blocks : TellsBlocks w block
  pub nodes : HasNodes net w
