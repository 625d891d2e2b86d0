-- What nodes read within a cycle, and circles of such reads. (The book, chapter 3.)
use Rattle.std.specs.Prelude.{◌≡◌, ℕ, suc, ◌<◌, List, [], ◌∷◌, length, Option, Some, None, slice_get, nat_eq, if◌then◌else◌}
use Rattle.netlist.specs.declared.node.Node.{Node}
use Rattle.netlist.specs.declared.node.Node.TheVariants.{Pin, Nand, Flip, Word, Zero}
use Rattle.netlist.specs.declared.node.Block.{Block}
use Rattle.netlist.specs.Order.{HasInputs}
pub use Rattle.netlist.specs.Reads.{address_in, reads_of}

-- ---- what there is to read, of n nodes

-- the node reads what is there
abbrev pub HasReads : ℕ → List Block → Node → Type 0
HasReads n blocks Pin = Unit {0}
HasReads n blocks (Nand i j) = (i < n) × (j < n)
HasReads n blocks (Flip i) = i < n
HasReads n blocks (Word block bit) = (bit < 16) × (block < length blocks)
HasReads n blocks Zero = Unit {0}

-- each node and each block reads what is there
pub record AreClosed (nodes : List Node) (blocks : List Block) : Type 0 where
  pub by_nodes : (k : ℕ) (node : Node) → slice_get nodes k ≡ Some node
      → HasReads (length nodes) blocks node
  pub by_blocks : (b : ℕ) (block : Block) → slice_get blocks b ≡ Some block
      → HasInputs (length nodes) block

-- ---- reads within a cycle

abbrev pub reads_by : List Block → Option Node → List ℕ
reads_by blocks None = []
reads_by blocks (Some node) = reads_of blocks node

-- node k reads node i within the cycle
pub record Reads (nodes : List Node) (blocks : List Block) (k i : ℕ) : Type 0 where
  pub at : ℕ
  pub there : slice_get (reads_by blocks (slice_get nodes k)) at ≡ Some i

-- ---- circles

-- the one that follows, round the circle
abbrev pub next_of : List ℕ → ℕ → Option ℕ
next_of circle k = if nat_eq (suc k) (length circle) then slice_get circle 0 else slice_get circle (suc k)

-- each node reads the next one, and the last the first
pub record IsCircle (nodes : List Node) (blocks : List Block) (circle : List ℕ) : Type 0 where
  pub some : 0 < length circle
  pub reads : (k x y : ℕ) → slice_get circle k ≡ Some x → next_of circle k ≡ Some y
      → Reads nodes blocks x y

-- no node stands twice
abbrev pub AreOnce : List ℕ → Type 0
AreOnce circle = (i j x : ℕ) → slice_get circle i ≡ Some x → slice_get circle j ≡ Some x → i ≡ j
