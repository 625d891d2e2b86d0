-- What a chip does. A behaviour gives each bit of each pin and net of the chip and of all parts in it its value in each cycle. In it
-- connections join equal bits and each end does its work. (The book, chapters 1 to 3, and appendix 2.)
use Rattle.std.specs.Prelude.{◌≡◌, ℕ, zero, suc, ◌+◌, ◌<◌, ◌^◌, Bool, true, false, not, cond, ◌&&◌, ◌||◌, ◌==◌, nat_le, List, [], ◌∷◌, ◌++◌, Option, Some, None, slice_get, codes}
use Rattle.std.specs.Str.{bytes_eq}
use Rattle.hdl_tree.specs.declared.tree.Pin.{Pin}
use Rattle.hdl_tree.specs.declared.tree.Source.{Source}
use Rattle.hdl_tree.specs.declared.tree.Source.TheVariants as source
use Rattle.hdl_tree.specs.declared.tree.Connection.{Connection}
use Rattle.hdl_tree.specs.declared.tree.Part.{Part}
use Rattle.hdl_tree.specs.declared.library.Entry.{Entry}
use Rattle.hdl_tree.specs.declared.ends.End.{End}
use Rattle.hdl_tree.specs.declared.ends.End.TheVariants as ends
use Rattle.hdl_tree.specs.Memory.{number, before, word_held}
use Rattle.hdl_tree.specs.Chips.{Chips, end_of, find_chip, parts_of, parts_of_body, pin_width, first, count}

-- ---- values

-- the value of each bit of each name: name, bit. A value is a bit in one cycle, or what stands for one,
-- as the node of a netlist
abbrev pub Wires : Type 0 → Type 0
Wires X = List ℕ → ℕ → X

-- in each cycle: name, bit, cycle
abbrev pub Histories : Type 0
Histories = List ℕ → ℕ → ℕ → Bool

-- ---- chips by path

abbrev pub chip_of : Chips → Option Part → Option Entry
chip_of library None = None
chip_of library (Some part) = find_chip library part.chip

-- the chip of part i
abbrev pub inner_chip : Chips → Entry → ℕ → Option Entry
inner_chip library chip i = chip_of library (slice_get (parts_of library chip) i)

-- the chip at the end of a path of part numbers
abbrev pub chip_at : Chips → Entry → List ℕ → Option Entry
chip_at library chip [] = Some chip
chip_at library chip (i ∷ path) = elim (inner_chip library chip i) [ None ↦ None | Some inner ↦ chip_at library inner path ]

-- ---- connections

abbrev pub width_in : List Pin → List ℕ → Option ℕ
width_in [] name = None
width_in (pin ∷ pins) name = cond (bytes_eq name pin.name) (Some (pin_width pin)) (width_in pins name)

-- the width of a pin
abbrev pub width_of : Entry → List ℕ → ℕ
width_of chip name = elim (width_in (chip.chip.inputs ++ chip.chip.outputs) name) [ None ↦ 0 | Some width ↦ width ]

-- bit k of the right side of a connection, low and high being the constants
abbrev pub source_value : {X : Type 0} → X → X → Source → Wires X → ℕ → X
source_value low high (source.Net w) outside k = outside w.name (first w.subscript + k)
source_value low high (source.Constant b) outside k = cond b high low

-- the connection joins equal bits of the part's pin and of the chip around it
abbrev pub Joins : {X : Type 0} → X → X → Entry → Wires X → Wires X → Connection → Type 0
Joins low high inner outside inside conn =
    (k : ℕ) → k < count conn.pin.subscript (width_of inner conn.pin.name) → inside conn.pin.name (first conn.pin.subscript + k) ≡ source_value low high conn.source outside k

-- each item of a list
abbrev pub Each : {X : Type 0} → (X → Type 0) → List X → Type 0
Each P [] = Unit {0}
Each P (x ∷ xs) = P x × Each P xs

-- whether the connection reaches this bit of the pin
abbrev pub reaches : Entry → List ℕ → ℕ → Connection → Bool
reaches inner name bit conn = bytes_eq conn.pin.name name && (nat_le (first conn.pin.subscript) bit && nat_le (suc bit) (first conn.pin.subscript + count conn.pin.subscript (width_of inner conn.pin.name)))

abbrev pub some : {X : Type 0} → (X → Bool) → List X → Bool
some test [] = false
some test (x ∷ xs) = test x || some test xs

-- an input bit of a part that no connection reaches is 0
abbrev pub UnjoinedIsLow : {X : Type 0} → X → Entry → Wires X → List Connection → Type 0
UnjoinedIsLow low inner inside conns =
    (name : List ℕ) (width bit : ℕ) → width_in inner.chip.inputs name ≡ Some width → bit < width → some (reaches inner name bit) conns ≡ false → inside name bit ≡ low

-- whether the connection drives this bit of a net or pin around the part
abbrev pub drives_bits : List ℕ → ℕ → ℕ → Source → Bool
drives_bits name bit wide (source.Net w) = bytes_eq w.name name && (nat_le (first w.subscript) bit && nat_le (suc bit) (first w.subscript + wide))
drives_bits name bit wide (source.Constant b) = false

abbrev pub drives : Chips → List ℕ → ℕ → Part → Bool
drives library name bit part =
    elim (find_chip library part.chip) [ None ↦ false | Some inner ↦ some (λ conn. elim (width_in inner.chip.outputs conn.pin.name) [ None ↦ false | Some width ↦ drives_bits name bit (count conn.pin.subscript width) conn.source ]) part.connections ]

-- an output bit of a chip that no part drives is 0
abbrev pub UndrivenIsLow : {X : Type 0} → X → Chips → Entry → Wires X → List Part → Type 0
UndrivenIsLow low library chip wires parts =
    (name : List ℕ) (width bit : ℕ) → width_in chip.chip.outputs name ≡ Some width → bit < width → some (drives library name bit) parts ≡ false → wires name bit ≡ low

-- ---- ends

-- in cycle c a block of 2 ^ bits words gives the word at the address
abbrev pub BlockWorks : ℕ → ℕ → Histories → Type 0
BlockWorks c bits w =
    number 16 (λ k. w (codes "out") k c) ≡ word_held (λ d. w (codes "load") 0 d) (λ d. number bits (λ k. w (codes "address") k d)) (λ d. number 16 (λ k. w (codes "in") k d)) (λ a. 0) c (number bits (λ k. w (codes "address") k c))

-- what comes from outside: the key code in each cycle, and the words of the ROM
pub record World : Type 0 where
  pub key : ℕ → ℕ
  pub rom : ℕ → ℕ

-- in cycle c the end does its work
abbrev pub EndWorks : World → ℕ → End → Histories → Type 0
EndWorks world c ends.Nand w = w (codes "out") 0 c ≡ not (w (codes "a") 0 c && w (codes "b") 0 c)
EndWorks world c ends.Dff w = w (codes "out") 0 c ≡ before false c (w (codes "in") 0)
EndWorks world c ends.Keyboard w = number 16 (λ k. w (codes "out") k c) ≡ world.key c
EndWorks world c ends.Rom w = number 16 (λ k. w (codes "out") k c) ≡ world.rom (number 15 (λ k. w (codes "address") k c))
EndWorks world c (ends.Block bits) w = BlockWorks c bits w

-- ---- wiring

-- a part and the chip around it
pub record PartWired {X : Type 0} (low high : X) (inner : Entry) (part : Part) (outside inside : Wires X) : Type 0 where
  pub joined : Each (Joins low high inner outside inside) part.connections
  pub unjoined : UnjoinedIsLow low inner inside part.connections

-- a chip and the parts in it, of which inside i is part i
pub record PartsWired {X : Type 0} (low high : X) (library : Chips) (chip : Entry) (parts : List Part) (wires : Wires X) (inside : ℕ → Wires X) : Type 0 where
  pub part : (i : ℕ) (part : Part) (inner : Entry) → slice_get parts i ≡ Some part
      → find_chip library part.chip ≡ Some inner → PartWired low high inner part wires (inside i)
  pub undriven : UndrivenIsLow low library chip wires parts

abbrev pub ChipWired : {X : Type 0} → X → X → Chips → Entry → Option End → Wires X → (ℕ → Wires X) → (End → Type 0) → Type 0
ChipWired low high library chip None wires inside works = PartsWired low high library chip (parts_of_body chip.chip.body) wires inside
ChipWired low high library chip (Some e) wires inside works = works e

-- all of a chip is wired, its parts and their parts down to the ends. The wires at a path of part
-- numbers are those of the part there, and works says what an end does at a path
abbrev pub Wired : {X : Type 0} → X → X → Chips → Entry → (List ℕ → End → Type 0) → (List ℕ → Wires X) → Type 0
Wired low high library chip works wires =
    (path : List ℕ) (inner : Entry) → chip_at library chip path ≡ Some inner → ChipWired low high library inner (end_of library.memories inner) (wires path) (λ i. wires (path ++ i ∷ [])) (works path)

-- ---- behaviours

-- in cycle c all of a chip works
abbrev pub Works : World → ℕ → Chips → Entry → (List ℕ → Histories) → Type 0
Works world c library chip wires = Wired false true library chip (λ path e. EndWorks world c e (wires path)) (λ path name bit. wires path name bit c)

-- a behaviour of a chip over n cycles
abbrev pub IsBehaviour : World → Chips → Entry → ℕ → (List ℕ → Histories) → Type 0
IsBehaviour world library chip n wires = (c : ℕ) → c < n → Works world c library chip wires
