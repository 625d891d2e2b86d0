-- A chip as a netlist with a directory of its pins and parts. That the netlist is in order is said beside it. (The
-- book, chapters 1 to 3, and appendix 2.)
use Rattle.std.specs.Prelude.{◌≡◌, ℕ, List, Some}
use Rattle.hdl_tree.specs.declared.library.Entry.{Entry}
use Rattle.hdl_tree.specs.Chips.{Chips, find_chip}
use Rattle.netlist.specs.Order.{AreOrdered}
use Rattle.hdl_flatten.specs.declared.flat.Flat.{Flat}
use Rattle.hdl_flatten.specs.Flat.{IsFlat}
use Rattle.hdl_elab.specs.declared.put.Elab.{Elab}
use Rattle.hdl_elab.specs.Moved.{IsMoved}

-- the nodes and blocks of the netlist, and the directory
abbrev pub flat_of : Elab → Flat
flat_of e = record { nodes = e.net.nodes; blocks = e.net.blocks; pins = e.pins; parts = e.parts }

-- The chip is elaborated. The nodes and blocks of the netlist are those of the chip with the parts in it. The directory says which node each
-- bit of its pins and of its parts' outputs has.
abbrev pub IsElaborated : Chips → Entry → Elab → Type 0
IsElaborated chips top e = IsFlat chips top (flat_of e)

-- the chip of this name is elaborated
abbrev pub TopIsElaborated : Chips → List ℕ → Elab → Type 0
TopIsElaborated chips name e = (top : Entry) → find_chip chips name ≡ Some top → IsElaborated chips top e

-- A flat chip whose nodes stand at other places, in order, is elaborated.
abbrev pub ElaboratedLaw : Type 0
ElaboratedLaw = (chips : Chips) (top : Entry) (flat : Flat) (e : Elab) → IsFlat chips top flat → IsMoved flat e → AreOrdered e.net.nodes e.net.blocks → IsElaborated chips top e
