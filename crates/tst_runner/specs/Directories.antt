-- What of an elaborated chip has a name in a script. (The book, appendix 3.)
use Rattle.std.specs.Prelude.{◌≡◌, ℕ, List, [], ◌∷◌, Option, Some, None, length, map, take, drop, codes, if◌then◌else◌}
use Rattle.std.specs.Str.{bytes_eq}
use Rattle.hdl_tree.specs.declared.tree.Pin.{Pin}
use Rattle.hdl_tree.specs.declared.library.Entry.{Entry}
use Rattle.hdl_tree.specs.Chips.{find_entry, pin_width}
use Rattle.hdl_flatten.specs.declared.flat.PinAt.{PinAt}
use Rattle.hdl_flatten.specs.declared.flat.PartAt.{PartAt}
use Rattle.hdl_elab.specs.declared.put.Elab.{Elab}
use Rattle.script_device.specs.declared.directory.PinNodes.{PinNodes}
use Rattle.script_device.specs.declared.directory.PartNodes.{PartNodes}
use Rattle.script_device.specs.declared.directory.Directory.{Directory}
use Rattle.script_device.specs.Directory.{part_named}

abbrev pub pin_nodes : PinAt → PinNodes
pin_nodes pin = record { name = pin.name; nodes = pin.nodes }

-- the nodes of the pin `out` among these pins, whose nodes stand one after the other
abbrev pub out_among : List Pin → List ℕ → Option (List ℕ)
out_among [] nodes = None
out_among (pin ∷ pins) nodes = if bytes_eq pin.name (codes "out") then Some (take (pin_width pin) nodes) else out_among pins (drop (pin_width pin) nodes)

abbrev pub out_of : Option Entry → List ℕ → Option (List ℕ)
out_of None nodes = None
out_of (Some entry) nodes = out_among entry.chip.outputs nodes

abbrev pub part_nodes : List Entry → PartAt → PartNodes
part_nodes entries part = record { chip = part.chip; out = out_of (find_entry entries part.chip) part.outs; block = part.block }

-- the first part of the chip of this name, of the parts depth first in text order
abbrev pub first_part : List Entry → List PartAt → List ℕ → Option PartNodes
first_part entries [] name = None
first_part entries (part ∷ parts) name = if bytes_eq part.chip name then Some (part_nodes entries part) else first_part entries parts name

-- The pins of the chip are its own: its inputs come first among those that are listed. Of each chip in it the first part is found.
pub record IsDirectory (entries : List Entry) (top : Entry) (e : Elab) (directory : Directory) : Type 0 where
  pub inputs : directory.inputs ≡ map pin_nodes (take (length top.chip.inputs) e.pins)
  pub outputs : directory.outputs ≡ map pin_nodes (drop (length top.chip.inputs) e.pins)
  pub parts : (name : List ℕ) → part_named directory.parts name ≡ first_part entries e.parts name
