-- The normal form of a simplified netlist, as six predicates: HasNoTwins, HasOneZero, HasNoDoubleNot, ReadsNoConstant, AllReached, IsSmall.
-- (The book, chapter 1.)
use Rattle.std.specs.Prelude.{◌≡◌, ℕ, ◌+◌, ◌≤◌, ◌⊎◌, List, length, Some, slice_get}
use Rattle.std.specs.List.{Contains}
use Rattle.netlist.specs.declared.node.Node.{Node}
use Rattle.netlist.specs.declared.node.Node.TheVariants.{Pin, Nand, Flip, Zero}
use Rattle.netlist.specs.declared.node.Block.{Block}
use Rattle.netlist.specs.Net.{Net}

-- ---- each gate once (structural hashing, or common subexpressions)

-- no two Nands have the same inputs, in either order
abbrev pub HasNoTwins : List Node → Type 0
HasNoTwins nodes = (k l i j : ℕ) → slice_get nodes k ≡ Some (Nand i j) → (slice_get nodes l ≡ Some (Nand i j)) ⊎ (slice_get nodes l ≡ Some (Nand j i)) → k ≡ l

-- there is one Zero at most
abbrev pub HasOneZero : List Node → Type 0
HasOneZero nodes = (k l : ℕ) → slice_get nodes k ≡ Some Zero → slice_get nodes l ≡ Some Zero → k ≡ l

-- ---- no double negation

-- no Nand negates a negation
abbrev pub HasNoDoubleNot : List Node → Type 0
HasNoDoubleNot nodes = (k i j : ℕ) → slice_get nodes k ≡ Some (Nand i i) → slice_get nodes i ≡ Some (Nand j j) → ⊥

-- ---- no constant that a gate could do without (constant propagation)

-- node k is a One, which is always 1: a Nand both of whose inputs are one Zero
abbrev pub IsOne : List Node → ℕ → Type 0
IsOne nodes k = (z : ℕ) × (slice_get nodes k ≡ Some (Nand z z)) × (slice_get nodes z ≡ Some Zero)

-- node k is a Zero, which is always 0, or a One
abbrev pub IsConstant : List Node → ℕ → Type 0
IsConstant nodes k = (slice_get nodes k ≡ Some Zero) ⊎ IsOne nodes k

-- no Nand but a One reads a constant
abbrev pub ReadsNoConstant : List Node → Type 0
ReadsNoConstant nodes = (k i j : ℕ) → slice_get nodes k ≡ Some (Nand i j) → IsOne nodes k ⊎ ((IsConstant nodes i → ⊥) × (IsConstant nodes j → ⊥))

-- ---- no dead node

-- a node has node i as an input, in its cycle or, as a flip-flop, in the one before
abbrev pub HasInput : Node → ℕ → Type 0
HasInput (Nand a b) i = (a ≡ i) ⊎ (b ≡ i)
HasInput (Flip a) i = a ≡ i
HasInput _ i = ⊥

-- a block reads node i, in its address, in the word that comes in or as its load
abbrev pub BlockReads : Block → ℕ → Type 0
BlockReads block i = Contains block.address i ⊎ Contains block.data i ⊎ (block.load ≡ i)

-- a node is reached from the kept ones, or from what a block reads, by following inputs
pub data IsReached (net : Net) (kept : List ℕ) : ℕ → Type 0 where
  keeps : (k : ℕ) → Contains kept k → IsReached net kept k
  read : (b k : ℕ) (block : Block) → slice_get net.blocks b ≡ Some block → BlockReads block k → IsReached net kept k
  input : (k i : ℕ) (node : Node) → IsReached net kept k → slice_get net.nodes k ≡ Some node → HasInput node i → IsReached net kept i

-- each node is reached, or is a pin
abbrev pub AllReached : Net → List ℕ → Type 0
AllReached net kept = (k : ℕ) (node : Node) → slice_get net.nodes k ≡ Some node → (node ≡ Pin) ⊎ IsReached net kept k

-- ---- no larger netlist

-- there is at most one node more, for the Zero
abbrev pub IsSmall : Net → Net → Type 0
IsSmall old new = length new.nodes ≤ length old.nodes + 1
