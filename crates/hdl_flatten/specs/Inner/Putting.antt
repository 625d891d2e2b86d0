-- How a chip is put after the nodes, blocks and parts that are there.
use Rattle.std.specs.Prelude.{◌≡◌, ◌≤◌, ◌<◌, ◌*◌, ◌^◌, ℕ, zero, suc, ◌+◌, List, [], ◌∷◌, ◌++◌, Some, map, length, take, drop, slice_get, slice_index}
use Rattle.std.specs.List.{All}
use Rattle.hdl_tree.specs.declared.tree.Part.{Part}
use Rattle.hdl_tree.specs.declared.library.Entry.{Entry}
use Rattle.hdl_tree.specs.declared.ends.End.{End}
use Rattle.hdl_tree.specs.declared.ends.End.TheVariants as ends
use Rattle.hdl_tree.specs.Chips.{Chips, end_of, find_chip, parts_of}
use Rattle.hdl_tree.specs.Behaviour.{Wires}
use Rattle.hdl_check.specs.Tables.{BitOf}
use Rattle.netlist.specs.Net.{Net}
use Rattle.netlist.specs.Order.{HasInputs}
use Rattle.netlist.specs.declared.node.Node.{Node}
use Rattle.netlist.specs.declared.node.Node.TheVariants as nodes
use Rattle.netlist.specs.declared.node.Block.{Block}
use Rattle.hdl_flatten.specs.declared.size.Size.{Size}
use Rattle.hdl_flatten.specs.declared.wires.Origin.{Origin}
use Rattle.hdl_flatten.specs.declared.wires.Origin.TheVariants.{Low, High, Input, Gate}
use Rattle.hdl_flatten.specs.declared.plan.Plan.{Plan}
use Rattle.hdl_flatten.specs.declared.plan.PartPlan.{PartPlan}
use Rattle.hdl_flatten.specs.declared.flat.PartAt.{PartAt}
use Rattle.hdl_flatten.specs.declared.flat.Growing.{Growing}
use Rattle.hdl_flatten.specs.Trees.{PartIn, IsTree, within, capped_count, chip_nodes, part_nodes}
use Rattle.hdl_flatten.specs.Flat.{Reads, block_at, part_at}
use Rattle.hdl_flatten.specs.Inner.Feeds.{feed_origins}
use Rattle.hdl_flatten.specs.Inner.Plans.{IsPlanned, HavePlans, ArePartPlans, all_sized, places}
use Rattle.hdl_flatten.specs.Inner.Puts.{node_of, IsPlaced}
use Rattle.hdl_flatten.specs.Inner.Wired.{wires_of, origin_at}

-- what feeds a bit of a chip of n input bits and m nodes
abbrev pub IsWithin : ℕ → ℕ → Origin → Type 0
IsWithin n m Low = Unit {0}
IsWithin n m High = Unit {0}
IsWithin n m (Input k) = k < n
IsWithin n m (Gate k) = k < m

abbrev pub AreWithin : ℕ → ℕ → List (BitOf × Origin) → Type 0
AreWithin n m es = (name : List ℕ) (bit : ℕ) → IsWithin n m (origin_at es name bit)

-- the nodes of a chip's own bits, where its nodes begin at base
abbrev pub own_nodes : List (BitOf × Origin) → ℕ → List ℕ → Wires ℕ
own_nodes es base inputs name bit = node_of base inputs (origin_at es name bit)

-- the constants are the first nodes, and n pins after them the next
abbrev pub constants : List Node
constants = nodes.Zero ∷ nodes.Nand 0 0 ∷ []

abbrev pub from_two : ℕ → List ℕ
from_two zero = []
from_two (suc n) = from_two n ++ (n + 2) ∷ []

-- ---- ends

abbrev pub pins : ℕ → List Node
pins zero = []
pins (suc n) = pins n ++ nodes.Pin ∷ []

-- the nodes of the first n bits of block b's word
abbrev pub words : ℕ → ℕ → List Node
words b zero = []
words b (suc n) = words b n ++ nodes.Word b n ∷ []

-- what an end puts, fed by these nodes, where b blocks are there
abbrev pub end_puts : End → List ℕ → ℕ → List Node
end_puts ends.Nand inputs b = nodes.Nand (slice_index inputs 0) (slice_index inputs 1) ∷ []
end_puts ends.Dff inputs b = nodes.Flip (slice_index inputs 0) ∷ []
end_puts ends.Keyboard inputs b = pins 16
end_puts ends.Rom inputs b = words b 16
end_puts (ends.Block bits) inputs b = words b 16

abbrev pub rom_of : List ℕ → Block
rom_of inputs = record { words = 32768; «data» = []; load = 0; address = inputs }

abbrev pub memory_of : ℕ → List ℕ → Block
memory_of bits inputs = record { words = 2 ^ bits; «data» = take 16 inputs; load = slice_index inputs 16; address = drop 17 inputs }

abbrev pub end_blocks : End → List ℕ → List Block
end_blocks ends.Nand inputs = []
end_blocks ends.Dff inputs = []
end_blocks ends.Keyboard inputs = []
end_blocks ends.Rom inputs = rom_of inputs ∷ []
end_blocks (ends.Block bits) inputs = memory_of bits inputs ∷ []

-- what the end is fed is there
abbrev pub IsEndFed : End → ℕ → Type 0
IsEndFed ends.Nand n = n ≡ 2
IsEndFed ends.Dff n = n ≡ 1
IsEndFed ends.Keyboard n = n ≡ 0
IsEndFed ends.Rom n = n ≡ 15
IsEndFed (ends.Block bits) n = (n ≡ 17 + bits) × (bits ≤ 14)

-- ---- chips

pub record Longer {X : Type 0} (old new : List X) : Type 0 where
  pub more : List X
  pub longer : new ≡ old ++ more

-- nodes and blocks that are read or listed are there, where n nodes and m blocks are there in the end
pub record ReadsBelow (n m : ℕ) (flat : Growing) : Type 0 where
  pub nodes : All (Reads n m) flat.nodes.items
  pub blocks : All (HasInputs n) flat.blocks.items
  pub parts : All (λ p. All (λ i. i < n) p.outs) flat.parts

-- so does what comes after, if all of the chip's nodes are there
abbrev pub ReadMore : Plan → List ℕ → Growing → Growing → Type 0
ReadMore plan inputs old new = (n m : ℕ) → All (λ i. i < n) inputs → 1 < n → length old.nodes.items + plan.size.nodes ≤ n → length new.blocks.items ≤ m → ReadsBelow n m old → ReadsBelow n m new

-- a node has the first bit of the block's word
pub record HasWord (ns : List Node) (b : ℕ) : Type 0 where
  pub k : ℕ
  pub there : slice_get ns k ≡ Some (nodes.Word b 0)

-- the words of this many blocks have nodes, each bit just one, and no others have
pub record HasWords (ns : List Node) (m : ℕ) : Type 0 where
  pub few : 16 * m ≤ length ns
  pub below : (k b bit : ℕ) → slice_get ns k ≡ Some (nodes.Word b bit) → b < m
  pub used : (b : ℕ) → b < m → HasWord ns b
  pub once : (i j b bit : ℕ) → slice_get ns i ≡ Some (nodes.Word b bit) → slice_get ns j ≡ Some (nodes.Word b bit) → i ≡ j

-- so has what comes after
abbrev pub WordsMore : Growing → Growing → Type 0
WordsMore old new = HasWords old.nodes.items (length old.blocks.items) → HasWords new.nodes.items (length new.blocks.items)

-- the chip at this place of the plans may be put
pub record MayPut (plans : List Plan) (place : ℕ) (inputs : List ℕ) (flat : Growing) : Type 0 where
  pub plan : Plan
  pub there : slice_get plans place ≡ Some plan
  pub long : length inputs ≡ length plan.inputs.items
  pub room : length flat.nodes.items + plan.size.nodes ≤ 16777216
  pub few : length flat.blocks.items ≤ length flat.nodes.items

-- The chip of this plan was put: its nodes and blocks stand after those that were there, and the parts in it are listed. Whatever comes
-- after, it is placed.
pub record IsPut (chips : Chips) (plan : Plan) (inputs : List ℕ) (old new : Growing) : Type 0 where
  pub nodes : Longer old.nodes.items new.nodes.items
  pub blocks : Longer old.blocks.items new.blocks.items
  pub size : length new.nodes.items ≡ length old.nodes.items + plan.size.nodes
  pub few : length new.blocks.items ≤ length new.nodes.items
  pub tree : List PartIn
  pub listed : IsTree chips plan.entry.now tree
  pub counted : plan.size.nodes ≡ capped_count (chip_nodes chips plan.entry.now + part_nodes chips tree)
  pub block : List ℕ → ℕ
  pub at : List ℕ → Wires ℕ
  pub parts : new.parts ≡ old.parts ++ map (part_at chips at block) tree
  pub own_block : block_at (end_of chips.memories plan.entry.now) (block []) ≡ block_at (end_of chips.memories plan.entry.now) (length old.blocks.items)
  pub placed : (net : Net) → Longer new.nodes.items net.nodes → Longer new.blocks.items net.blocks → IsPlaced chips net plan (length old.nodes.items) inputs block at
  pub reads : ReadMore plan inputs old new
  pub words : WordsMore old new

-- ---- parts of a chip that are put one after another

-- a part that is put: its chip, the tree of that, and where its bits and blocks are
pub record Instance : Type 0 where
  pub chip : Entry
  pub tree : List PartIn
  pub block : List ℕ → ℕ
  pub at : List ℕ → Wires ℕ

-- as they are listed
abbrev pub listed_by : Chips → List Instance → List PartAt
listed_by chips [] = []
listed_by chips (s ∷ ss) = part_at chips s.at s.block (record { path = []; chip = s.chip }) ∷ (map (part_at chips s.at s.block) s.tree ++ listed_by chips ss)

abbrev pub tree_of : ℕ → List Instance → List PartIn
tree_of i [] = []
tree_of i (s ∷ ss) = record { path = i ∷ []; chip = s.chip } ∷ (within i s.tree ++ tree_of (suc i) ss)

-- the part stands in the netlist
pub record IsInstance (chips : Chips) (net : Net) (base : ℕ) (inputs : List ℕ) (p : Part) (x : Plan) (q : PartPlan) (s : Instance) : Type 0 where
  pub found : find_chip chips p.chip ≡ Some s.chip
  pub listed : IsTree chips s.chip s.tree
  pub counted : x.size.nodes ≡ capped_count (chip_nodes chips s.chip + part_nodes chips s.tree)
  pub placed : IsPlaced chips net x (base + q.offset) (map (node_of base inputs) (feed_origins q.feeds)) s.block s.at

pub data AreInstances (chips : Chips) (net : Net) (base : ℕ) (inputs : List ℕ) : List Part → List Plan → List PartPlan → List Instance → Type 0 where
  no_more : AreInstances chips net base inputs [] [] [] []
  one_more : {p : Part} {ps : List Part} {x : Plan} {xs : List Plan} {q : PartPlan} {qs : List PartPlan} {s : Instance} {ss : List Instance} → IsInstance chips net base inputs p x q s → AreInstances chips net base inputs ps xs qs ss → AreInstances chips net base inputs (p ∷ ps) (x ∷ xs) (q ∷ qs) (s ∷ ss)

-- some parts of the chip are put, and the rest is to come
pub record IsGoing (chips : Chips) (plans : List Plan) (place : ℕ) (plan : Plan) (inputs : List ℕ) (old now : Growing) (rest : List PartPlan) : Type 0 where
  pub planned : IsPlanned chips plans place plan
  pub parts_left : List Part
  pub plans_left : List Plan
  pub sum : Size
  pub done : List Instance
  pub placed : HavePlans chips plans place parts_left plans_left (places rest)
  pub planned_left : ArePartPlans (wires_of plan.wires) sum parts_left plans_left rest
  pub whole : all_sized sum plans_left ≡ plan.size
  pub size : length now.nodes.items ≡ length old.nodes.items + sum.nodes
  pub nodes : Longer old.nodes.items now.nodes.items
  pub blocks : Longer old.blocks.items now.blocks.items
  pub few : length now.blocks.items ≤ length now.nodes.items
  pub parts : now.parts ≡ old.parts ++ listed_by chips done
  pub reads : ReadMore plan inputs old now
  pub words : WordsMore old now
  pub stand : (net : Net) → Longer now.nodes.items net.nodes → Longer now.blocks.items net.blocks → (tail : List Instance) → AreInstances chips net (length old.nodes.items) inputs parts_left plans_left rest tail →
      AreInstances chips net (length old.nodes.items) inputs (parts_of chips plan.entry.now) planned.inner plan.parts.items (done ++ tail)
