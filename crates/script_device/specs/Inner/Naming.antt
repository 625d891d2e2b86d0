-- The pins of a netlist, one after another.
use Rattle.std.specs.Prelude.{ℕ, List, [], ◌∷◌, ◌++◌}
use Rattle.netlist.specs.declared.node.Node.{Node}
use Rattle.netlist.specs.declared.node.Node.TheVariants.{Pin}

-- the number of a node, after these, where it is a pin
abbrev pub with_pin : List ℕ → ℕ → Node → List ℕ
with_pin kept k Pin = kept ++ k ∷ []
with_pin kept k node = kept
