-- The plain plan: a slot for each node, in the order of the nodes.
use Rattle.std.specs.Prelude.{◌≡◌, ℕ, ◌*◌, ◌%◌, ◌^◌, ◌<◌, List, length, Some, None, slice_get, slice_index_or, nat_eq, if◌then◌else◌}
use Rattle.netlist.specs.declared.node.Node.{Node}
use Rattle.netlist.specs.declared.node.Node.TheVariants.{Pin, Nand, Flip, Word, Zero}
use Rattle.gate_sim.specs.declared.plan.Lane.{Lane}
use Rattle.gate_sim.specs.declared.plan.Op.{Op}
use Rattle.gate_sim.specs.declared.plan.Take.{Take}
use Rattle.gate_sim.specs.declared.plan.Op.TheVariants.{Held, Zeros, Read}
use Rattle.gate_sim.specs.Inner.Plans.{node_at, place_of, lone_of}

-- the lane in which a node has its place: that of its bit in a word, and else the first
abbrev pub plain_lane : Node → ℕ
plain_lane Pin = 0
plain_lane (Nand i j) = 0
plain_lane (Flip i) = 0
plain_lane (Word b bit) = bit
plain_lane Zero = 0

-- the place of node k
abbrev pub plain_place : List Node → ℕ → Lane
plain_place nodes k = record { slot = k; at = plain_lane (slice_index_or nodes k Pin) }

-- what lane l of the slot of node k stands for: a bit of a word, a pin and a flip-flop have one lane alone, and others have all
abbrev pub plain_node : ℕ → Node → ℕ → ℕ
plain_node k Pin l = if nat_eq l 0 then k else 4294967295
plain_node k (Nand i j) l = k
plain_node k (Flip i) l = if nat_eq l 0 then k else 4294967295
plain_node k (Word b bit) l = if nat_eq l bit then k else 4294967295
plain_node k Zero l = k

-- the operation of a node over these places
abbrev pub placed_op : List Lane → Node → Op
placed_op places Pin = Held
placed_op places (Nand i j) = lone_of (place_of places i) (place_of places j)
placed_op places (Flip i) = Held
placed_op places (Word b bit) = Read b (1 * 2 ^ bit % 2 ^ 16) None
placed_op places Zero = Zeros

-- the operation of a node in the plain plan
abbrev pub plain_op : List Node → Node → Op
plain_op nodes Pin = Held
plain_op nodes (Nand i j) = lone_of (plain_place nodes i) (plain_place nodes j)
plain_op nodes (Flip i) = Held
plain_op nodes (Word b bit) = Read b (1 * 2 ^ bit % 2 ^ 16) None
plain_op nodes Zero = Zeros

-- what node k takes, where it is a flip-flop
abbrev pub plain_take : List Node → ℕ → Node → Take
plain_take nodes k Pin = record { slot = k; source = k; down = 0; mask = 0 }
plain_take nodes k (Nand i j) = record { slot = k; source = k; down = 0; mask = 0 }
plain_take nodes k (Flip i) = record { slot = k; source = i; down = plain_lane (slice_index_or nodes i Pin); mask = 1 }
plain_take nodes k (Word b bit) = record { slot = k; source = k; down = 0; mask = 0 }
plain_take nodes k Zero = record { slot = k; source = k; down = 0; mask = 0 }

-- the first n nodes have their slots
pub record IsPlain (nodes : List Node) (n : ℕ) (ops : List Op) (lanes : List ℕ) (places : List Lane) (takes : List Take) : Type 0 where
  pub ops_long : length ops ≡ n
  pub lanes_long : length lanes ≡ 16 * n
  pub places_long : length places ≡ n
  pub takes_long : length takes ≡ n
  pub op : (k : ℕ) (node : Node) → k < n → slice_get nodes k ≡ Some node
      → slice_get ops k ≡ Some (plain_op nodes node)
  pub lane : (k l : ℕ) (node : Node) → k < n → l < 16 → slice_get nodes k ≡ Some node
      → node_at lanes k l ≡ plain_node k node l
  pub place : (k : ℕ) → k < n → place_of places k ≡ plain_place nodes k
  pub take : (k : ℕ) (node : Node) → k < n → slice_get nodes k ≡ Some node
      → slice_get takes k ≡ Some (plain_take nodes k node)
