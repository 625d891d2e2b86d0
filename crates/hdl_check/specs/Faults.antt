-- What can be wrong with one pin, one part's chip or one connection of a chip's text (book, appendix 2).
use Rattle.std.specs.Prelude.{ℕ, Bool, true, false, not, ◌&&◌, ◌||◌, nat_eq, List, [], ◌∷◌, ◌++◌, map, take, Option, Some, None, is_some, slice_get, codes, if◌then◌else◌}
use Rattle.hdl_tree.specs.declared.tree.Pin.{Pin}
use Rattle.hdl_tree.specs.declared.tree.Subscript.{Subscript}
use Rattle.hdl_tree.specs.declared.tree.Source.{Source}
use Rattle.hdl_tree.specs.declared.tree.Source.TheVariants as source
use Rattle.hdl_tree.specs.declared.tree.Connection.{Connection}
use Rattle.hdl_tree.specs.declared.tree.Part.{Part}
use Rattle.hdl_tree.specs.declared.tree.Body.{Body}
use Rattle.hdl_tree.specs.declared.tree.Body.TheVariants as body
use Rattle.hdl_tree.specs.declared.tree.Chip.{Chip}
use Rattle.hdl_tree.specs.declared.library.Entry.{Entry}
use Rattle.hdl_tree.specs.Chips.{Chips, find_chip, parts_of, pin_width, first, count, is_past}
use Rattle.hdl_tree.specs.Writable.{is_among}
use Rattle.name_table.specs.Names.{find_value, first_of}
use Rattle.hdl_check.specs.Tables.{BitOf, bits_of, some_in}
use Rattle.hdl_check.specs.declared.fault.NamedFault.{NamedFault}
use Rattle.hdl_check.specs.declared.fault.FaultKind.{FaultKind}
use Rattle.hdl_check.specs.declared.fault.FaultKind.TheVariants as kinds
use Rattle.hdl_check.specs.declared.check.Port.{Port}
use Rattle.hdl_check.specs.declared.check.RightSide.{RightSide}
use Rattle.hdl_check.specs.declared.check.RightSide.TheVariants as side

-- what is wrong, in the text of this chip, with this name
abbrev pub fault_in : List ℕ → FaultKind → List ℕ → NamedFault
fault_in chip kind name = record { kind = kind; chip = chip; name = name }

-- ---- pins

abbrev pub pin_name : Pin → List ℕ
pin_name p = p.name

abbrev pub port_of : Bool → Pin → Port
port_of input p = record { input = input; width = pin_width p }

abbrev pub ports_in : Bool → List Pin → List (List ℕ × Port)
ports_in input pins = map (λ p. (pin_name p, port_of input p)) pins

-- the pins of a chip by name, inputs first
abbrev pub ports_of : Chip → List (List ℕ × Port)
ports_of chip = ports_in true chip.inputs ++ ports_in false chip.outputs

abbrev pub pins_of : Chip → List Pin
pins_of chip = chip.inputs ++ chip.outputs

-- ---- what parts drive and feed

-- bits of a net or pin that a part's output drives
pub record Driver : Type 0 where
  pub net : List ℕ
  pub first : ℕ
  pub count : ℕ

abbrev pub driver_into : ℕ → Source → List Driver
driver_into n (source.Net w) = record { net = w.name; first = first w.subscript; count = n } ∷ []
driver_into n (source.Constant b) = []

abbrev pub driver_by : Option Port → Connection → List Driver
driver_by None conn = []
driver_by (Some port) conn = if port.input then [] else driver_into (count conn.pin.subscript port.width) conn.source

-- what connections of a part drive, the part's chip having these pins
abbrev pub drivers_by : List (List ℕ × Port) → List Connection → List Driver
drivers_by ports [] = []
drivers_by ports (conn ∷ conns) = driver_by (find_value conn.pin.name ports) conn ++ drivers_by ports conns

abbrev pub drivers_of_inner : Option Entry → List Connection → List Driver
drivers_of_inner None conns = []
drivers_of_inner (Some inner) conns = drivers_by (ports_of inner.chip) conns

-- a part whose chip isn't there drives nothing
abbrev pub drivers_of_part : Chips → Part → List Driver
drivers_of_part chips part = drivers_of_inner (find_chip chips part.chip) part.connections

abbrev pub drivers_of : Chips → List Part → List Driver
drivers_of chips [] = []
drivers_of chips (part ∷ parts) = drivers_of_part chips part ++ drivers_of chips parts

abbrev pub bits_driven : List Driver → List BitOf
bits_driven [] = []
bits_driven (p ∷ ps) = bits_of p.net p.first p.count ++ bits_driven ps

abbrev pub widths_of : List Driver → List (List ℕ × ℕ)
widths_of drivers = map (λ p. (p.net, p.count)) drivers

-- an internal net has as many bits as the first connection that drives it
abbrev pub net_width : List ℕ → List Driver → Option ℕ
net_width name drivers = find_value name (widths_of drivers)

abbrev pub fed_by : Option Port → Connection → List BitOf
fed_by None conn = []
fed_by (Some port) conn = if port.input then bits_of conn.pin.name (first conn.pin.subscript) (count conn.pin.subscript port.width) else []

-- the bits of the part's own inputs that connections of it feed
abbrev pub bits_fed : List (List ℕ × Port) → List Connection → List BitOf
bits_fed ports [] = []
bits_fed ports (conn ∷ conns) = fed_by (find_value conn.pin.name ports) conn ++ bits_fed ports conns

-- ---- one connection

-- the text round a connection
pub record Context : Type 0 where
  pub chip : List ℕ  -- the name of the chip whose text it is
  pub own : List (List ℕ × Port)  -- its pins
  pub drivers : List Driver  -- what its parts drive
  pub driven : List BitOf  -- the bits that earlier connections drive
  pub fed : List BitOf  -- the bits of the part's inputs that earlier connections feed

-- what the right side is: a constant, a pin of the chip, or an internal net with its width, if something drives it
abbrev pub right_side_of_name : Option Port → Option ℕ → RightSide
right_side_of_name (Some port) width = side.Own port
right_side_of_name None width = side.Net width

abbrev pub right_side_of : Context → Source → RightSide
right_side_of a (source.Net w) = right_side_of_name (find_value w.name a.own) (net_width w.name a.drivers)
right_side_of a (source.Constant b) = side.Constant

-- the name of the right side
abbrev pub source_name : Source → List ℕ
source_name (source.Net w) = w.name
source_name (source.Constant b) = if b then codes "true" else codes "false"

abbrev pub source_subscript : Source → Option Subscript
source_subscript (source.Net w) = w.subscript
source_subscript (source.Constant b) = None

abbrev pub differs : Option ℕ → ℕ → Bool
differs None n = false
differs (Some width) n = not (nat_eq width n)

-- the right side does not have n bits, or its subscript lies past its width, or it is an internal net with a subscript
abbrev pub is_wide : RightSide → Source → ℕ → Bool
is_wide side.Constant s n = false
is_wide (side.Own port) s n = is_past (source_subscript s) port.width || not (nat_eq (count (source_subscript s) port.width) n)
is_wide (side.Net width) s n = is_some (source_subscript s) || differs width n

abbrev pub width_fault : List ℕ → Port → Connection → RightSide → Option NamedFault
width_fault chip port conn right =
    if is_past conn.pin.subscript port.width then Some (fault_in chip kinds.Width conn.pin.name)
    else (if is_wide right conn.source (count conn.pin.subscript port.width) then Some (fault_in chip kinds.Width (source_name conn.source)) else None)

-- the right side is an output of the chip; is an input of it or a constant
abbrev pub is_output : RightSide → Bool
is_output (side.Own port) = not port.input
is_output right = false

abbrev pub is_undrivable : RightSide → Bool
is_undrivable side.Constant = true
is_undrivable (side.Own port) = port.input
is_undrivable (side.Net width) = false

-- a part's input: some bit of it is fed already, or it is fed from the chip's own output
abbrev pub feeding_fault : List ℕ → Connection → RightSide → Bool → Option NamedFault
feeding_fault chip conn right twice =
    if twice then Some (fault_in chip kinds.Driven conn.pin.name)
    else (if is_output right then Some (fault_in chip kinds.Driven (source_name conn.source)) else None)

-- a part's output: it goes to an input of the chip or to a constant, or some bit is driven already
abbrev pub driving_fault : List ℕ → Connection → RightSide → Bool → Option NamedFault
driving_fault chip conn right twice = if is_undrivable right || twice then Some (fault_in chip kinds.Driven (source_name conn.source)) else None

abbrev pub driven_fault : Context → Port → Connection → RightSide → Option NamedFault
driven_fault a port conn right =
    if port.input
    then feeding_fault a.chip conn right (some_in (fed_by (Some port) conn) a.fed)
    else driving_fault a.chip conn right (some_in (bits_driven (driver_by (Some port) conn)) a.driven)

-- the right side is an internal net that nothing drives
abbrev pub is_undriven : RightSide → Bool
is_undriven (side.Net None) = true
is_undriven right = false

abbrev pub undriven_fault : List ℕ → Port → Connection → RightSide → Option NamedFault
undriven_fault chip port conn right = if port.input && is_undriven right then Some (fault_in chip kinds.Undriven (source_name conn.source)) else None

abbrev pub wiring_fault : Context → Port → Connection → Option NamedFault
wiring_fault a port conn =
    let right = right_side_of a conn.source in
    first_of (width_fault a.chip port conn right) (first_of (driven_fault a port conn right) (undriven_fault a.chip port conn right))

abbrev pub wiring_fault_by : Context → Connection → Option Port → Option NamedFault
wiring_fault_by a conn None = Some (fault_in a.chip kinds.UnknownPin conn.pin.name)
wiring_fault_by a conn (Some port) = wiring_fault a port conn

-- what is wrong with a connection of a part whose chip has these pins: the least kind
abbrev pub connection_fault : Context → List (List ℕ × Port) → Connection → Option NamedFault
connection_fault a ports conn = wiring_fault_by a conn (find_value conn.pin.name ports)

-- ---- the places of one chip

abbrev pub twice_fault : List ℕ → List (List ℕ) → Option Pin → Option NamedFault
twice_fault chip names None = None
twice_fault chip names (Some p) = if is_among (pin_name p) names then Some (fault_in chip kinds.Driven (pin_name p)) else None

-- a pin whose name an earlier pin has
abbrev pub pin_fault : Entry → ℕ → Option NamedFault
pin_fault entry k = twice_fault entry.name (map pin_name (take k (pins_of entry.chip))) (slice_get (pins_of entry.chip) k)

-- a BUILTIN body of a chip that is no end
abbrev pub body_fault_of : List ℕ → Body → Option NamedFault
body_fault_of chip (body.Parts parts) = None
body_fault_of chip (body.Builtin name clocked) = Some (fault_in chip kinds.UnknownChip name)

abbrev pub body_fault : Entry → Option NamedFault
body_fault entry = body_fault_of entry.name entry.chip.body

abbrev pub part_fault_by : List (List ℕ) → List ℕ → List ℕ → Option Entry → Option NamedFault
part_fault_by outer chip name None = Some (fault_in chip kinds.UnknownChip name)
part_fault_by outer chip name (Some inner) = if is_among inner.name outer then Some (fault_in chip kinds.Recursive name) else None

-- a part's chip that isn't there, or in which the part stands
abbrev pub part_fault : Chips → List (List ℕ) → List ℕ → Part → Option NamedFault
part_fault chips outer chip part = part_fault_by outer chip part.chip (find_chip chips part.chip)

-- the text round connection j of part i
abbrev pub context : Chips → Entry → ℕ → List (List ℕ × Port) → List Connection → ℕ → Context
context chips entry i ports conns j = record {
  chip = entry.name;
  own = ports_of entry.chip;
  drivers = drivers_of chips (parts_of chips entry);
  driven = bits_driven (drivers_of chips (take i (parts_of chips entry))) ++ bits_driven (drivers_by ports (take j conns));
  fed = bits_fed ports (take j conns);
}

abbrev pub connection_fault_at : Context → List (List ℕ × Port) → Option Connection → Option NamedFault
connection_fault_at a ports None = None
connection_fault_at a ports (Some conn) = connection_fault a ports conn

abbrev pub connection_fault_in : Chips → Entry → ℕ → List (List ℕ × Port) → List Connection → ℕ → Option NamedFault
connection_fault_in chips entry i ports conns j = connection_fault_at (context chips entry i ports conns j) ports (slice_get conns j)

abbrev pub connection_fault_by : Chips → Entry → ℕ → Part → ℕ → Option Entry → Option NamedFault
connection_fault_by chips entry i part j None = None
connection_fault_by chips entry i part j (Some inner) = connection_fault_in chips entry i (ports_of inner.chip) part.connections j

abbrev pub connection_fault_of : Chips → Entry → ℕ → Part → ℕ → Option NamedFault
connection_fault_of chips entry i part j = connection_fault_by chips entry i part j (find_chip chips part.chip)
