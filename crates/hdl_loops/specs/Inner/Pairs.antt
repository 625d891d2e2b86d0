-- Which bits lead to which.
use Rattle.std.specs.Prelude.{◌≡◌, ℕ, ◌<◌, ◌⊎◌, ◌&&◌, Bool, true, List, []}
use Rattle.std.specs.Str.{bytes_eq}
use Rattle.std.specs.List.{list_any}
use Rattle.hdl_tree.specs.declared.tree.Pin.{Pin}
use Rattle.hdl_tree.specs.Chips.{pin_width}
use Rattle.hdl_plans.specs.Loops.{BitAt, bit_at}
use Rattle.hdl_plans.specs.Ways.{Way}
use Rattle.hdl_loops.specs.Inner.Hops.{is_bit, HasHop}
use Rattle.hdl_loops.specs.declared.hops.Hop.{Hop}
use Rattle.hdl_loops.specs.declared.pairs.Pair.{Pair}
use Rattle.hdl_loops.specs.declared.pairs.PinNames.{PinNames}

abbrev pub is_pair : BitAt → BitAt → Pair → Bool
is_pair x y p = is_bit x p.from && is_bit y p.to

abbrev pub has_pair : List Pair → BitAt → BitAt → Bool
has_pair ps x y = list_any (is_pair x y) ps

-- each pair is of a way of these hops
abbrev pub AreWays : List Hop → List Pair → Type 0
AreWays hs ps = (n m : List ℕ) (b k : ℕ) → has_pair ps (bit_at [] n b) (bit_at [] m k) ≡ true → Way (HasHop hs) (bit_at [] n b) (bit_at [] m k)

abbrev pub KeepsPairs : List Pair → List Pair → Type 0
KeepsPairs old new = (x y : BitAt) → has_pair old x y ≡ true → has_pair new x y ≡ true

-- no other pair than this is added
abbrev pub IsOnlyMore : List Pair → List Pair → BitAt → BitAt → Type 0
IsOnlyMore old new from to = (n m : List ℕ) (b k : ℕ) → has_pair new (bit_at [] n b) (bit_at [] m k) ≡ true → (has_pair old (bit_at [] n b) (bit_at [] m k) ≡ true) ⊎ ((from ≡ bit_at [] n b) × (to ≡ bit_at [] m k))

abbrev pub has_name : PinNames → List ℕ → Bool
has_name ends x = list_any (λ name. bytes_eq x name.now) ends.names.keys

abbrev pub KeepsNames : PinNames → PinNames → Type 0
KeepsNames old new = (x : List ℕ) → has_name old x ≡ true → has_name new x ≡ true

-- the bit and the bits of these names to which it leads are pairs
abbrev pub BitLeads : List Hop → PinNames → List Pair → BitAt → Type 0
BitLeads hs ends ps x = (m : List ℕ) (k : ℕ) → has_name ends m ≡ true → Way (HasHop hs) x (bit_at [] m k) → has_pair ps x (bit_at [] m k) ≡ true

-- so for each bit of a pin
abbrev pub PinLeads : List Hop → PinNames → List Pair → Pin → Type 0
PinLeads hs ends ps pin = (b : ℕ) → b < pin_width pin → BitLeads hs ends ps (bit_at [] pin.name b)
