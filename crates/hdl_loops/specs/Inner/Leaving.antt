-- Where a bit stands in a list, each place linked to the one before it.
use Rattle.std.specs.Prelude.{◌≡◌, ℕ, ◌<◌, ◌≤◌, List, [], Option, Some, None, length, slice_get}
use Rattle.std.specs.Map.{lookup}
use Rattle.hdl_plans.specs.Loops.{BitAt, bit_at}
use Rattle.hdl_loops.specs.Inner.Hops.{bit, is_bit}
use Rattle.hdl_loops.specs.declared.hops.BitOf.{BitOf}
use Rattle.hdl_loops.specs.declared.leaving.Leaving.{Leaving}

-- the last place of the bit
abbrev pub latest_from : Leaving → BitAt → Option ℕ
latest_from l x = lookup (is_bit x) l.latest.entries

-- there is a place, and it is not before this one
abbrev pub IsFrom : Option ℕ → ℕ → Type 0
IsFrom None q = ⊥
IsFrom (Some p) q = q ≤ p

-- this place is after all that are still to come
abbrev pub IsPast : Option ℕ → ℕ → Type 0
IsPast None q = Unit {0}
IsPast (Some p) q = p < q

-- in this place of the list stands the bit
abbrev pub Leaves : List BitOf → ℕ → BitAt → Type 0
Leaves bs p x = (b : BitOf) × (slice_get bs p ≡ Some b) × (bit b ≡ x)

-- the place is one of the bit, if there is one
abbrev pub LeavesIn : List BitOf → Option ℕ → BitAt → Type 0
LeavesIn bs None x = Unit {0}
LeavesIn bs (Some p) x = Leaves bs p x

-- the places are those of the bits of the list
pub record IsLinked (bs : List BitOf) (l : Leaving) : Type 0 where
  pub long : length l.before.items ≡ length bs
  pub latest : (q : ℕ) (b : BitOf) → slice_get bs q ≡ Some b
      → IsFrom (latest_from l (bit b)) q
  pub heads : (m : List ℕ) (b p : ℕ) → latest_from l (bit_at [] m b) ≡ Some p
      → Leaves bs p (bit_at [] m b)
  pub links : (p q : ℕ) (b c : BitOf) (o : Option ℕ)
      → slice_get bs p ≡ Some b → slice_get bs q ≡ Some c → bit c ≡ bit b → q < p
      → slice_get l.before.items p ≡ Some o → IsFrom o q
  pub back : (p r : ℕ) (b : BitOf) → slice_get bs p ≡ Some b
      → slice_get l.before.items p ≡ Some (Some r) → (r < p) × Leaves bs r (bit b)
