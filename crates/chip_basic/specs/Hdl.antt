-- Trees in the words of HDL texts. (The book, chapter 1 and appendix 2.)
use Prim.Native.String.{String}
use Rattle.std.specs.Prelude.{ℕ, ◌+◌, ◌/◌, ◌%◌, Bool, nat_lt, List, [], ◌∷◌, ◌++◌, map, Option, Some, None, codes, if◌then◌else◌}
use Rattle.std.specs.List.{range_with_len}
use Rattle.hdl_tree.specs.declared.tree.Pin.{Pin}
use Rattle.hdl_tree.specs.declared.tree.Subscript.{Subscript}
use Rattle.hdl_tree.specs.declared.tree.Subscript.TheVariants.{Bit, Bits}
use Rattle.hdl_tree.specs.declared.tree.Source.TheVariants.{Net, Constant}
use Rattle.hdl_tree.specs.declared.tree.Connection.{Connection}
use Rattle.hdl_tree.specs.declared.tree.Part.{Part}
use Rattle.hdl_tree.specs.declared.tree.Body.{Body}
use Rattle.hdl_tree.specs.declared.tree.Body.TheVariants.{Parts, Builtin}
use Rattle.hdl_tree.specs.declared.tree.Chip.{Chip}
use Rattle.hdl_tree.specs.declared.library.Entry.{Entry}

-- ---- pins: `name` and `name[width]`

abbrev pub pin_named : List ℕ → Option ℕ → Pin
pin_named name width = record { name = name; width = width }

abbrev pub pin : String → Pin
pin name = pin_named (codes name) None

abbrev pub bus : String → ℕ → Pin
bus name width = pin_named (codes name) (Some width)

-- ---- connections

-- `pin[..]=net[..]`
abbrev pub connect : List ℕ → Option Subscript → List ℕ → Option Subscript → Connection
connect pin bits net net_bits = record {
  pin = record { name = pin; subscript = bits };
  source = Net (record { name = net; subscript = net_bits });
}

-- `pin=net`
abbrev pub wire : String → String → Connection
wire pin net = connect (codes pin) None (codes net) None

-- the same of a net whose name is made
abbrev pub wire_to : String → List ℕ → Connection
wire_to pin net = connect (codes pin) None net None

-- `pin=net[bit]`
abbrev pub wire_bit : String → String → ℕ → Connection
wire_bit pin net bit = connect (codes pin) None (codes net) (Some (Bit bit))

-- `pin=net[first..last]`
abbrev pub wire_bits : String → String → ℕ → ℕ → Connection
wire_bits pin net first last = connect (codes pin) None (codes net) (Some (Bits first last))

-- `pin[bit]=net`
abbrev pub bit_wire : String → ℕ → String → Connection
bit_wire pin bit net = connect (codes pin) (Some (Bit bit)) (codes net) None

-- `pin[first..last]=net`
abbrev pub bits_wire : String → ℕ → ℕ → String → Connection
bits_wire pin first last net = connect (codes pin) (Some (Bits first last)) (codes net) None

-- `pin[bit]=net[net_bit]`
abbrev pub bit_wire_bit : String → ℕ → String → ℕ → Connection
bit_wire_bit pin bit net net_bit = connect (codes pin) (Some (Bit bit)) (codes net) (Some (Bit net_bit))

-- `pin[first..last]=net[net_first..net_last]`
abbrev pub bits_wire_bits : String → ℕ → ℕ → String → ℕ → ℕ → Connection
bits_wire_bits pin first last net net_first net_last = connect (codes pin) (Some (Bits first last)) (codes net) (Some (Bits net_first net_last))

-- `pin[..]=true` and `pin[..]=false`
abbrev pub fixed_connection : List ℕ → Option Subscript → Bool → Connection
fixed_connection pin bits value = record { pin = record { name = pin; subscript = bits }; source = Constant value }

-- `pin=true` and `pin=false`
abbrev pub constant : String → Bool → Connection
constant pin value = fixed_connection (codes pin) None value

-- `pin[bit]=true` and `pin[bit]=false`
abbrev pub bit_constant : String → ℕ → Bool → Connection
bit_constant pin bit value = fixed_connection (codes pin) (Some (Bit bit)) value

-- ---- parts and chips

abbrev pub part_named : List ℕ → List Connection → Part
part_named chip connections = record { chip = chip; connections = connections }

-- `chip(connections);`
abbrev pub part : String → List Connection → Part
part chip connections = part_named (codes chip) connections

abbrev pub chip_named : List ℕ → List Pin → List Pin → Body → Chip
chip_named name inputs outputs body = record { name = name; inputs = inputs; outputs = outputs; body = body }

-- `CHIP name { IN inputs; OUT outputs; PARTS: parts }`
abbrev pub chip : String → List Pin → List Pin → List Part → Chip
chip name inputs outputs parts = chip_named (codes name) inputs outputs (Parts parts)

-- `CHIP name { IN inputs; OUT outputs; BUILTIN name; }`
abbrev pub built_in : List ℕ → List Pin → List Pin → Chip
built_in name inputs outputs = chip_named name inputs outputs (Builtin name [])

abbrev pub builtin : String → List Pin → List Pin → Chip
builtin name inputs outputs = built_in (codes name) inputs outputs

-- ---- many alike

-- the parts 0 to n - 1
abbrev pub each : ℕ → (ℕ → Part) → List Part
each n part = map part (range_with_len 0 n)

-- the decimal digits of a number below 100
abbrev pub digits : ℕ → List ℕ
digits i = if nat_lt i 10 then (48 + i) ∷ [] else (48 + i / 10) ∷ (48 + i % 10) ∷ []

-- a name that ends in a number, as `carry1` and `carry15`
abbrev pub numbered_name : String → ℕ → List ℕ
numbered_name name i = codes name ++ digits i

-- the names a, b, c and so on
abbrev pub letter : ℕ → List ℕ
letter i = (97 + i) ∷ []

-- `a=name0, b=name1, ..`, n of them
abbrev pub ways : ℕ → String → List Connection
ways n name = map (λ i. connect (letter i) None (numbered_name name i) None) (range_with_len 0 n)

-- ---- libraries

-- a chip that is shipped, under its own name
abbrev pub shipped_entry : Chip → Entry
shipped_entry chip = record { name = chip.name; chip = chip; shipped = Some chip.name }
