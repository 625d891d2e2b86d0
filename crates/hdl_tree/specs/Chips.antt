-- Chips by name, their parts, and the bits of pins and nets. (The book, chapters 1 and 3, and appendix 2.)
use Rattle.std.specs.Prelude.{◌≡◌, ℕ, ◌+◌, ◌-◌, Bool, true, false, ◌&&◌, nat_le, List, [], ◌∷◌, Option, Some, None, slice_get, unwrap_or, codes, if◌then◌else◌}
use Rattle.std.specs.Str.{bytes_eq}
use Rattle.hdl_tree.specs.declared.tree.Pin.{Pin}
use Rattle.hdl_tree.specs.declared.tree.Subscript.{Subscript}
use Rattle.hdl_tree.specs.declared.tree.Subscript.TheVariants as subscript
use Rattle.hdl_tree.specs.declared.tree.Part.{Part}
use Rattle.hdl_tree.specs.declared.tree.Body.{Body}
use Rattle.hdl_tree.specs.declared.tree.Body.TheVariants as body
use Rattle.hdl_tree.specs.declared.library.Entry.{Entry}
use Rattle.hdl_tree.specs.declared.ends.End.{End}
use Rattle.hdl_tree.specs.declared.ends.End.TheVariants as ends
use Rattle.hdl_tree.specs.declared.ends.Memories.{Memories}
use Rattle.hdl_tree.specs.declared.ends.Memories.TheVariants.{Blocks, Gates}

-- chips by name, and how the shipped memories are simulated
pub record Chips : Type 0 where
  pub entries : List Entry
  pub memories : Memories

-- the memories are simulated as blocks of words
abbrev pub are_blocks : Memories → Bool
are_blocks Blocks = true
are_blocks Gates = false

-- the shipped chip of this name, if it is an end; the memories are ends where they are blocks
abbrev pub end_named : Memories → List ℕ → Option End
end_named memories name =
    if bytes_eq name (codes "Nand") then Some ends.Nand
    else (if bytes_eq name (codes "DFF") then Some ends.Dff
    else (if bytes_eq name (codes "Keyboard") then Some ends.Keyboard
    else (if bytes_eq name (codes "ROM32K") then Some ends.Rom
    else (if bytes_eq name (codes "RAM8") && are_blocks memories then Some (ends.Block 3)
    else (if bytes_eq name (codes "RAM64") && are_blocks memories then Some (ends.Block 6)
    else (if bytes_eq name (codes "RAM512") && are_blocks memories then Some (ends.Block 9)
    else (if bytes_eq name (codes "RAM4K") && are_blocks memories then Some (ends.Block 12)
    else (if bytes_eq name (codes "RAM16K") && are_blocks memories then Some (ends.Block 14)
    else (if bytes_eq name (codes "Screen") && are_blocks memories then Some (ends.Block 13) else None)))))))))

abbrev pub end_of_shipped : Memories → Option (List ℕ) → Option End
end_of_shipped memories None = None
end_of_shipped memories (Some name) = end_named memories name

-- what the chip is, if it is an end: it is known by the name that it is shipped under
unfoldable pub end_of : Memories → Entry → Option End
end_of memories entry = end_of_shipped memories entry.shipped

abbrev pub find_entry : List Entry → List ℕ → Option Entry
find_entry [] name = None
find_entry (entry ∷ entries) name = if bytes_eq name entry.name then Some entry else find_entry entries name

-- the chip of this name
abbrev pub find_chip : Chips → List ℕ → Option Entry
find_chip chips name = find_entry chips.entries name

abbrev pub parts_of_body : Body → List Part
parts_of_body (body.Parts parts) = parts
parts_of_body (body.Builtin name clocked) = []

abbrev pub parts_unless : Option End → List Part → List Part
parts_unless None parts = parts
parts_unless (Some e) parts = []

-- the parts of a chip; an end has none
abbrev pub parts_of : Chips → Entry → List Part
parts_of chips entry = parts_unless (end_of chips.memories entry) (parts_of_body entry.chip.body)

-- ---- bits

-- the width of a pin: one where none is written
abbrev pub pin_width : Pin → ℕ
pin_width p = unwrap_or p.width 1

-- the lowest bit that is taken
abbrev pub first : Option Subscript → ℕ
first None = 0
first (Some (subscript.Bit k)) = k
first (Some (subscript.Bits a b)) = a

-- how many bits are taken of this many
abbrev pub count : Option Subscript → ℕ → ℕ
count None width = width
count (Some (subscript.Bit k)) width = 1
count (Some (subscript.Bits a b)) width = (b + 1) - a

-- the last bit lies past the width
abbrev pub is_past : Option Subscript → ℕ → Bool
is_past None width = false
is_past (Some (subscript.Bit k)) width = nat_le width k
is_past (Some (subscript.Bits a b)) width = nat_le width b
