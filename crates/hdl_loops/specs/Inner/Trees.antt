-- What is reached from a bit, and by which ways.
use Rattle.std.specs.Prelude.{◌≡◌, ℕ, suc, ◌+◌, ◌<◌, ◌≤◌, ◌⊎◌, Bool, true, List, [], ◌∷◌, ◌++◌, length, Option, Some, None, is_some, nat_eq, slice_get, if◌then◌else◌}
use Rattle.std.specs.Map.{lookup}
use Rattle.std.specs.List.{list_any}
use Rattle.hdl_plans.specs.Loops.{BitAt, bit_at}
use Rattle.hdl_loops.specs.Inner.Hops.{bit, is_bit, Linked, AllIn, IsDirect}
use Rattle.hdl_loops.specs.Inner.Ties.{In}
use Rattle.hdl_loops.specs.declared.joint.Joint.{Joint}
use Rattle.hdl_loops.specs.declared.bundle.Bundle.{Bundle}
use Rattle.hdl_loops.specs.declared.hops.Hop.{Hop}
use Rattle.hdl_loops.specs.declared.tree.Node.{Node}
use Rattle.hdl_loops.specs.declared.tree.Tree.{Tree}

-- where the hop stands that reached the bit first
abbrev pub place_in : Tree → BitAt → Option ℕ
place_in t x = lookup (is_bit x) t.places.entries

-- the bit is reached
abbrev pub is_marked : Tree → BitAt → Bool
is_marked t x = is_some (place_in t x)

-- the bit is the root, or is reached
abbrev pub IsReached : Tree → BitAt → Type 0
IsReached t x = (bit t.root ≡ x) ⊎ (is_marked t x ≡ true)

-- a hop from this bit stands after the hop in a place, or at the root
abbrev pub Behind : List Node → BitAt → Option ℕ → BitAt → Type 0
Behind nodes root None x = root ≡ x
Behind nodes root (Some i) x = (node : Node) × (slice_get nodes i ≡ Some node) × (bit node.hop.to ≡ x)

-- where a hop from this bit would stand: at the root, or after the hop that reached the bit
abbrev pub Comes : Tree → Option ℕ → BitAt → Type 0
Comes t None x = bit t.root ≡ x
Comes t (Some i) x = (place_in t x ≡ Some i) × (bit t.root ≡ x → ⊥)

-- the root is before all places
abbrev pub IsNoLater : Option ℕ → Option ℕ → Type 0
IsNoLater None o = Unit {0}
IsNoLater (Some p) None = ⊥
IsNoLater (Some p) (Some q) = p ≤ q

-- the hop in place j is in the list, and stands after an earlier one
abbrev pub IsBefore : Option ℕ → ℕ → Type 0
IsBefore None j = Unit {0}
IsBefore (Some i) j = i < j

pub record IsNode (hs : List Hop) (t : Tree) (j : ℕ) (node : Node) : Type 0 where
  pub number : ℕ
  pub inside : slice_get hs number ≡ Some node.hop
  pub before : IsBefore node.before j
  pub behind : Behind t.nodes.items (bit t.root) node.before (bit node.hop.from)
  pub marked : is_marked t (bit node.hop.to) ≡ true
  pub own : place_in t (bit node.hop.to) ≡ Some j
  pub comes : Comes t node.before (bit node.hop.from)
  -- of the hops that lead to the bit it is one of the first
  pub first : (q : ℕ) (g : Hop) (o : Option ℕ) → slice_get hs q ≡ Some g
      → bit g.to ≡ bit node.hop.to → Comes t o (bit g.from) → IsNoLater node.before o

-- how many hops lead to what is not reached
abbrev pub open_hops : Tree → List Hop → ℕ
open_hops t [] = 0
open_hops t (h ∷ hs) = (if is_marked t (bit h.to) then 0 else 1) + open_hops t hs

pub record IsTree (hs : List Hop) (t : Tree) : Type 0 where
  pub nodes : (j : ℕ) (node : Node) → slice_get t.nodes.items j ≡ Some node → IsNode hs t j node
  pub places : (n : List ℕ) (b : ℕ) (j : ℕ) → place_in t (bit_at [] n b) ≡ Some j
      → (node : Node) × (slice_get t.nodes.items j ≡ Some node) × (bit node.hop.to ≡ bit_at [] n b)
  pub few : length t.nodes.items + open_hops t hs ≤ length hs

-- what was reached still is, from the same root
pub record KeepsMarks (old new : Tree) : Type 0 where
  pub root : bit new.root ≡ bit old.root
  pub nodes : (j : ℕ) (node : Node) → slice_get old.nodes.items j ≡ Some node
      → slice_get new.nodes.items j ≡ Some node
  pub places : (n : List ℕ) (b j : ℕ) → place_in old (bit_at [] n b) ≡ Some j
      → place_in new (bit_at [] n b) ≡ Some j
  pub marks : (n : List ℕ) (b : ℕ) → is_marked old (bit_at [] n b) ≡ true
      → is_marked new (bit_at [] n b) ≡ true

-- where the hops that leave a bit lead is reached
abbrev pub IsLeft : List Hop → Tree → BitAt → Type 0
IsLeft hs t x = (p : ℕ) (h : Hop) → slice_get hs p ≡ Some h → bit h.from ≡ x → is_marked t (bit h.to) ≡ true

-- where the hops that leave the root and the bits of the first n places lead is reached
pub record LeftBelow (hs : List Hop) (t : Tree) (n : ℕ) : Type 0 where
  pub root : IsLeft hs t (bit t.root)
  pub nodes : (j : ℕ) (node : Node) → j < n → slice_get t.nodes.items j ≡ Some node
      → IsLeft hs t (bit node.hop.to)

-- all that stands before a bit is so
abbrev pub LeftBefore : List Hop → Tree → BitAt → Type 0
LeftBefore hs t x = (j : ℕ) → Comes t (Some j) x → LeftBelow hs t j

-- a hop is added
pub record Adds (old new : Tree) (hop : Hop) (before : Option ℕ) : Type 0 where
  pub root : new.root ≡ old.root
  pub nodes : new.nodes.items ≡ old.nodes.items ++ record { hop = hop; before = before } ∷ []
  pub places : new.places.entries ≡ old.places.entries ++ (hop.to, length old.nodes.items) ∷ []
  pub passed : new.passed.keys ≡ old.passed.keys

-- the same bundles are passed
abbrev pub KeepsPassed : Tree → Tree → Type 0
KeepsPassed old new = new.passed.keys ≡ old.passed.keys

-- where the hops of bundle g lead is reached
abbrev pub LeadsOut : List Bundle → Tree → ℕ → Type 0
LeadsOut bs t g = (b : Bundle) (a : Joint) → slice_get bs g ≡ Some b → In a b.leaves.items → is_marked t (bit a.net) ≡ true

-- and so for those that are passed
abbrev pub ArePassed : List Bundle → Tree → Type 0
ArePassed bs t = (g : ℕ) → list_any (nat_eq g) t.passed.keys ≡ true → LeadsOut bs t g

-- no hop leads out of what is reached
abbrev pub IsClosed : List Hop → Tree → Type 0
IsClosed hs t = (p : ℕ) (h : Hop) → slice_get hs p ≡ Some h → IsReached t (bit h.from) → is_marked t (bit h.to) ≡ true

-- all that hops of the list reach from a bit
pub record IsGrown (hs : List Hop) (t : Tree) (x : BitAt) : Type 0 where
  pub right : IsTree hs t
  pub closed : IsClosed hs t
  pub root : bit t.root ≡ x

abbrev pub steps_left : Option ℕ → ℕ
steps_left None = 0
steps_left (Some j) = suc j

-- each of these hops stands in the tree, no earlier than what is still to come
abbrev pub StandLater : Tree → Option ℕ → List Hop → Type 0
StandLater t at ws = (j : ℕ) (h : Hop) → slice_get ws j ≡ Some h → (p : ℕ) × (node : Node) × (slice_get t.nodes.items p ≡ Some node) × (node.hop ≡ h) × IsNoLater at node.before

-- the hops that lead back from a bit, as far as they are listed: they lead on from what stands in a place, or from the root
pub record IsBack (hs : List Hop) (t : Tree) (at : Option ℕ) (ws : List Hop) (to : BitAt) : Type 0 where
  pub x : BitAt
  pub stands : Behind t.nodes.items (bit t.root) at x
  pub linked : Linked x ws to
  pub inside : AllIn hs ws
  pub later : StandLater t at ws
  pub direct : IsDirect hs ws
  pub some : at ≡ None → 0 < length ws
  pub few : length ws + steps_left at ≤ length t.nodes.items
