-- The pins of the shipped chips, with their widths. (The book, appendix 4.)
use Prim.Native.String.{String}
use Rattle.std.specs.Prelude.{◌≡◌, ℕ, List, [], ◌∷◌, ◌++◌, Some, map, codes}
use Rattle.hdl_tree.specs.declared.tree.Pin.{Pin}
use Rattle.hdl_tree.specs.declared.library.Entry.{Entry}
use Rattle.hdl_tree.specs.declared.ends.End.{End}
use Rattle.hdl_tree.specs.declared.ends.End.TheVariants as ends
use Rattle.hdl_tree.specs.declared.ends.Memories.{Memories}
use Rattle.hdl_tree.specs.Chips.{Chips, end_of, find_chip, pin_width}
use Rattle.hdl_check.specs.Whole.{chips_in, AreDistinct}
use Rattle.hdl_plans.specs.Planned.{HasEnds}
use Rattle.hack_cpu.specs.Library.{shipped_chips}

-- a name and a width
abbrev pub Port : Type 0
Port = List ℕ × ℕ

-- a chip's name, its inputs and its outputs
pub record Face : Type 0 where
  pub name : List ℕ
  pub inputs : List Port
  pub outputs : List Port

abbrev pub bit : String → Port
bit name = (codes name, 1)

abbrev pub bits : ℕ → String → Port
bits width name = (codes name, width)

abbrev pub word : String → Port
word name = bits 16 name

abbrev pub face : String → List Port → List Port → Face
face name inputs outputs = record { name = codes name; inputs = inputs; outputs = outputs }

-- chips of words that a bit loads, and that an address chooses
abbrev pub register : String → Face
register name = face name (word "in" ∷ bit "load" ∷ []) (word "out" ∷ [])

abbrev pub memory : ℕ → String → Face
memory width name = face name (word "in" ∷ bit "load" ∷ bits width "address" ∷ []) (word "out" ∷ [])

abbrev pub basic_faces : List Face
basic_faces =
    face "Nand" (bit "a" ∷ bit "b" ∷ []) (bit "out" ∷ [])
    ∷ face "Not" (bit "in" ∷ []) (bit "out" ∷ [])
    ∷ face "And" (bit "a" ∷ bit "b" ∷ []) (bit "out" ∷ [])
    ∷ face "Or" (bit "a" ∷ bit "b" ∷ []) (bit "out" ∷ [])
    ∷ face "Xor" (bit "a" ∷ bit "b" ∷ []) (bit "out" ∷ [])
    ∷ face "Mux" (bit "a" ∷ bit "b" ∷ bit "sel" ∷ []) (bit "out" ∷ [])
    ∷ face "DMux" (bit "in" ∷ bit "sel" ∷ []) (bit "a" ∷ bit "b" ∷ [])
    ∷ face "Not16" (word "in" ∷ []) (word "out" ∷ [])
    ∷ face "And16" (word "a" ∷ word "b" ∷ []) (word "out" ∷ [])
    ∷ face "Or16" (word "a" ∷ word "b" ∷ []) (word "out" ∷ [])
    ∷ face "Mux16" (word "a" ∷ word "b" ∷ bit "sel" ∷ []) (word "out" ∷ [])
    ∷ face "Or8Way" (bits 8 "in" ∷ []) (bit "out" ∷ [])
    ∷ face "Mux4Way16" (word "a" ∷ word "b" ∷ word "c" ∷ word "d" ∷ bits 2 "sel" ∷ []) (word "out" ∷ [])
    ∷ face "Mux8Way16" (word "a" ∷ word "b" ∷ word "c" ∷ word "d" ∷ word "e" ∷ word "f" ∷ word "g" ∷ word "h" ∷ bits 3 "sel" ∷ []) (word "out" ∷ [])
    ∷ face "DMux4Way" (bit "in" ∷ bits 2 "sel" ∷ []) (bit "a" ∷ bit "b" ∷ bit "c" ∷ bit "d" ∷ [])
    ∷ face "DMux8Way" (bit "in" ∷ bits 3 "sel" ∷ []) (bit "a" ∷ bit "b" ∷ bit "c" ∷ bit "d" ∷ bit "e" ∷ bit "f" ∷ bit "g" ∷ bit "h" ∷ [])
    ∷ []

abbrev pub computing_faces : List Face
computing_faces =
    face "HalfAdder" (bit "a" ∷ bit "b" ∷ []) (bit "sum" ∷ bit "carry" ∷ [])
    ∷ face "FullAdder" (bit "a" ∷ bit "b" ∷ bit "c" ∷ []) (bit "sum" ∷ bit "carry" ∷ [])
    ∷ face "Add16" (word "a" ∷ word "b" ∷ []) (word "out" ∷ [])
    ∷ face "Inc16" (word "in" ∷ []) (word "out" ∷ [])
    ∷ face "ALU" (word "x" ∷ word "y" ∷ bit "zx" ∷ bit "nx" ∷ bit "zy" ∷ bit "ny" ∷ bit "f" ∷ bit "no" ∷ []) (word "out" ∷ bit "zr" ∷ bit "ng" ∷ [])
    ∷ face "Shift" (word "in" ∷ bit "left" ∷ []) (word "out" ∷ [])
    ∷ []

abbrev pub memory_faces : List Face
memory_faces =
    face "DFF" (bit "in" ∷ []) (bit "out" ∷ [])
    ∷ face "Bit" (bit "in" ∷ bit "load" ∷ []) (bit "out" ∷ [])
    ∷ register "Register"
    ∷ register "ARegister"
    ∷ register "DRegister"
    ∷ face "PC" (word "in" ∷ bit "load" ∷ bit "inc" ∷ bit "reset" ∷ []) (word "out" ∷ [])
    ∷ memory 3 "RAM8"
    ∷ memory 6 "RAM64"
    ∷ memory 9 "RAM512"
    ∷ memory 12 "RAM4K"
    ∷ memory 14 "RAM16K"
    ∷ memory 13 "Screen"
    ∷ []

abbrev pub computer_faces : List Face
computer_faces =
    face "ROM32K" (bits 15 "address" ∷ []) (word "out" ∷ [])
    ∷ face "Keyboard" [] (word "out" ∷ [])
    ∷ face "CPU" (word "inM" ∷ word "instruction" ∷ bit "reset" ∷ []) (word "outM" ∷ bit "writeM" ∷ bits 15 "addressM" ∷ bits 15 "pc" ∷ [])
    ∷ memory 15 "Memory"
    ∷ face "Computer" (bit "reset" ∷ []) []
    ∷ []

-- what a chip of a library shows to its users
abbrev pub port_of : Pin → Port
port_of pin = (pin.name, pin_width pin)

abbrev pub face_of : Entry → Face
face_of entry = record { name = entry.name; inputs = map port_of entry.chip.inputs; outputs = map port_of entry.chip.outputs }

-- the pins of an end
abbrev pub end_face : End → List Port × List Port
end_face ends.Nand = (bit "a" ∷ bit "b" ∷ [], bit "out" ∷ [])
end_face ends.Dff = (bit "in" ∷ [], bit "out" ∷ [])
end_face ends.Keyboard = ([], word "out" ∷ [])
end_face ends.Rom = (bits 15 "address" ∷ [], word "out" ∷ [])
end_face (ends.Block width) = (word "in" ∷ bit "load" ∷ bits width "address" ∷ [], word "out" ∷ [])

-- each end of the library has these pins
abbrev pub HasEndPins : Chips → Type 0
HasEndPins chips = (name : List ℕ) (chip : Entry) (e : End) → find_chip chips name ≡ Some chip → end_of chips.memories chip ≡ Some e → ((face_of chip).inputs, (face_of chip).outputs) ≡ end_face e

-- The shipped chips are those of the table, with its pins; each is known by its own name, and no other has it. With blocks and with memories of
-- gates, the ends of the library have the pins of ends.
pub record PinsLaw : Type 0 where
  pub table : map face_of shipped_chips
      ≡ basic_faces ++ (computing_faces ++ (memory_faces ++ computer_faces))
  pub distinct : AreDistinct shipped_chips
  pub ends : (memories : Memories) → HasEnds (chips_in shipped_chips memories)
  pub end_pins : (memories : Memories) → HasEndPins (chips_in shipped_chips memories)
