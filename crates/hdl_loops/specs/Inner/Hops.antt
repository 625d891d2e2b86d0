-- Hops between bits of a chip, and ways of them.
use Rattle.std.specs.Prelude.{◌≡◌, ℕ, ◌<◌, ◌≤◌, ◌&&◌, nat_eq, Bool, List, [], ◌∷◌, length, Some, slice_get}
use Rattle.std.specs.Str.{bytes_eq}
use Rattle.hdl_plans.specs.Loops.{BitAt, bit_at}
use Rattle.hdl_plans.specs.Ways.{Way}
use Rattle.hdl_loops.specs.declared.hops.BitOf.{BitOf}
use Rattle.hdl_loops.specs.declared.hops.Dependency.{Dependency}
use Rattle.hdl_loops.specs.declared.hops.Hop.{Hop}
use Rattle.hdl_loops.specs.declared.circle.Circle.{Circle}

abbrev pub bit : BitOf → BitAt
bit x = bit_at [] x.name.now x.bit

abbrev pub input_of : Dependency → BitAt
input_of d = bit_at [] d.input.now d.bit

abbrev pub output_of : Dependency → BitAt
output_of d = bit_at [] d.output.now d.out

abbrev pub is_bit : BitAt → BitOf → Bool
is_bit x v = bytes_eq x.name v.name.now && nat_eq x.bit v.bit

-- the list has a hop from one bit to another
abbrev pub HasHop : List Hop → BitAt → BitAt → Type 0
HasHop hs x y = (p : ℕ) × (h : Hop) × (slice_get hs p ≡ Some h) × (bit h.from ≡ x) × (bit h.to ≡ y)

-- hops that lead, one after another, from one bit to another
abbrev pub Linked : BitAt → List Hop → BitAt → Type 0
Linked x [] y = x ≡ y
Linked x (h ∷ ws) y = (bit h.from ≡ x) × Linked (bit h.to) ws y

-- each of these hops is in the list
abbrev pub AllIn : List Hop → List Hop → Type 0
AllIn hs ws = (p : ℕ) (h : Hop) → slice_get ws p ≡ Some h → (q : ℕ) × (slice_get hs q ≡ Some h)

-- no hop of the list leads from where one of these begins to where a later one ends
abbrev pub IsDirect : List Hop → List Hop → Type 0
IsDirect hs ws = (i j q : ℕ) (h g f : Hop) → i < j → slice_get ws i ≡ Some h → slice_get ws j ≡ Some g → slice_get hs q ≡ Some f → bit f.from ≡ bit h.from → bit f.to ≡ bit g.to → ⊥

-- a way of hops of the list, one or more
pub record IsWay (hs : List Hop) (x : BitAt) (ws : List Hop) (y : BitAt) : Type 0 where
  pub some : 0 < length ws
  pub linked : Linked x ws y
  pub inside : AllIn hs ws
  pub direct : IsDirect hs ws
  pub few : length ws ≤ length hs

-- a way round
abbrev pub IsRound : List Hop → Circle → Type 0
IsRound hs c = IsWay hs (bit c.at) c.way.items (bit c.at)

abbrev pub NoRound : List Hop → Type 0
NoRound hs = (x : BitAt) → Way (HasHop hs) x x → ⊥

abbrev pub WayRound : Circle → Type 0
WayRound c = (0 < length c.way.items) × Linked (bit c.at) c.way.items (bit c.at)
