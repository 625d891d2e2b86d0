-- What an evaluation takes.
use Rattle.std.specs.Prelude.{ℕ, Bool, true, false, List}
use Rattle.netlist.specs.declared.node.Node.{Node}
use Rattle.netlist.specs.declared.node.Block.{Block}
use Rattle.netlist.specs.Touched.{is_step, is_touched}

-- the first one each gate and each bit of a word, a later one those that are touched
abbrev pub is_taken : Bool → List Block → (ℕ → Bool) → (ℕ → Bool) → Node → Bool
is_taken true blocks differs written node = is_step node
is_taken false blocks differs written node = is_touched blocks differs written node
