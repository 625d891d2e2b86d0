-- The parts of the Computer and the parts in them, depth first, and the lines that show their outputs. (The book, appendix 2.)
use Rattle.std.specs.Prelude.{◌≡◌, ℕ, zero, suc, Bool, List, [], ◌∷◌, ◌++◌, map, if◌then◌else◌}
use Rattle.std.specs.List.{flat_map}
use Rattle.hdl_tree.specs.declared.library.Entry.{Entry}
use Rattle.hdl_tree.specs.Chips.{pin_width}
use Rattle.hdl_tree.specs.Behaviour.{Wires, Histories}
use Rattle.hdl_flatten.specs.Trees.{PartIn, IsTree}
use Rattle.gate_computer.specs.Computer.{chips, computer}

-- these are all parts of the Computer, by path, each followed by the parts in it
abbrev pub AreComputerParts : List PartIn → Type 0
AreComputerParts places = IsTree chips computer places

-- ---- outputs

-- what the bits of a pin are, the highest first
abbrev pub from_highest : {X : Type 0} → ℕ → (ℕ → X) → List X
from_highest zero bits = []
from_highest (suc n) bits = bits n ∷ from_highest n bits

-- what the bits of a chip's outputs are: the pins in order of declaration, of each the highest bit first
abbrev pub output_bits : {X : Type 0} → Entry → Wires X → List X
output_bits chip wires = flat_map (λ pin. from_highest (pin_width pin) (wires pin.name)) chip.chip.outputs

abbrev pub digit : Bool → ℕ
digit b = if b then 49 else 48

-- the name of a part's chip, a space, and the bits of its outputs in a cycle
abbrev pub part_line : (List ℕ → Histories) → ℕ → PartIn → List ℕ
part_line wires c place = place.chip.name ++ 32 ∷ (map digit (output_bits place.chip (λ name bit. wires place.path name bit c)) ++ 10 ∷ [])

-- a line for each of these parts
abbrev pub parts_text : (List ℕ → Histories) → ℕ → List PartIn → List ℕ
parts_text wires c places = flat_map (part_line wires c) places

-- the text shows the outputs of all parts of the Computer in a cycle of a behaviour
abbrev pub ShowsParts : (List ℕ → Histories) → ℕ → List ℕ → Type 0
ShowsParts wires c text = (places : List PartIn) × AreComputerParts places × (text ≡ parts_text wires c places)
