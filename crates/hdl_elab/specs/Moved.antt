-- A flat chip whose nodes have other numbers. (The book, chapters 1 to 3.)
use Rattle.std.specs.Prelude.{◌≡◌, ℕ, List, map, slice_index}
use Rattle.netlist.specs.Net.{Net}
use Rattle.netlist.specs.Renamed.{IsRenamed}
use Rattle.hdl_flatten.specs.declared.flat.PinAt.{PinAt}
use Rattle.hdl_flatten.specs.declared.flat.PartAt.{PartAt}
use Rattle.hdl_flatten.specs.declared.flat.Flat.{Flat}
use Rattle.hdl_elab.specs.declared.put.Elab.{Elab}

-- the nodes and blocks of a flat chip
abbrev pub net_of : Flat → Net
net_of flat = record { nodes = flat.nodes; blocks = flat.blocks }

-- a pin with the places of its nodes
abbrev pub moved_pin : List ℕ → PinAt → PinAt
moved_pin places p = record { name = p.name; nodes = map (slice_index places) p.nodes }

-- a part with the places of its nodes; blocks keep their numbers
abbrev pub moved_part : List ℕ → PartAt → PartAt
moved_part places p = record { chip = p.chip; outs = map (slice_index places) p.outs; block = p.block }

-- The flat chip with its nodes at other places, where the directory says.
pub record IsMoved (flat : Flat) (e : Elab) : Type 0 where
  pub places : List ℕ
  pub renamed : IsRenamed (net_of flat) e.net places
  pub pins : e.pins ≡ map (moved_pin places) flat.pins
  pub parts : e.parts ≡ map (moved_part places) flat.parts
