-- What nodes read within a cycle.
use Rattle.std.specs.Prelude.{ℕ, List, [], ◌∷◌, Option, Some, None, slice_get}
use Rattle.netlist.specs.declared.node.Node.{Node}
use Rattle.netlist.specs.declared.node.Node.TheVariants.{Pin, Nand, Flip, Word, Zero}
use Rattle.netlist.specs.declared.node.Block.{Block}

abbrev pub address_in : Option Block → List ℕ
address_in None = []
address_in (Some block) = block.address

-- what a node reads within the cycle: a Nand its inputs, a bit of a block's word the block's address, and a pin, a flip-flop or Zero nothing
abbrev pub reads_of : List Block → Node → List ℕ
reads_of blocks Pin = []
reads_of blocks (Nand i j) = i ∷ j ∷ []
reads_of blocks (Flip i) = []
reads_of blocks (Word block bit) = address_in (slice_get blocks block)
reads_of blocks Zero = []
