-- What the rows of a table of parts stand for. (The book, appendix 2.)
use Rattle.std.specs.Prelude.{map, Some, None}
use Rattle.hdl_tree.specs.declared.tree.Connection.{Connection}
use Rattle.hdl_tree.specs.declared.tree.Part.{Part}
use Rattle.hdl_tree.specs.declared.tree.Subscript.TheVariants.{Bit, Bits}
use Rattle.chip_basic.specs.Hdl.{connect, fixed_connection, part_named}
use Rattle.chip_basic.specs.declared.table.Link.{Link}
use Rattle.chip_basic.specs.declared.table.Link.TheVariants as link
use Rattle.chip_basic.specs.declared.table.Row.{Row}

-- a link is `pin=net` or `pin=value`, with the bits that it names
abbrev pub connection_of : Link → Connection
connection_of (link.Wire pin net) = connect pin.now None net.now None
connection_of (link.WireBit pin net bit) = connect pin.now None net.now (Some (Bit bit))
connection_of (link.WireBits pin net first last) = connect pin.now None net.now (Some (Bits first last))
connection_of (link.BitWire pin bit net) = connect pin.now (Some (Bit bit)) net.now None
connection_of (link.BitsWire pin first last net) = connect pin.now (Some (Bits first last)) net.now None
connection_of (link.Constant pin value) = fixed_connection pin.now None value

-- the part of a row: its chip, and its links in their order
abbrev pub part_of : Row → Part
part_of row = part_named row.chip.now (map connection_of row.links.now)
