-- Hops in bundles, and the doors that lead into them.
use Rattle.std.specs.Prelude.{◌≡◌, ℕ, List, length, map, Some, slice_get}
use Rattle.hdl_plans.specs.Loops.{BitAt}
use Rattle.hdl_loops.specs.Inner.Hops.{bit}
use Rattle.hdl_loops.specs.Inner.Ties.{gather}
use Rattle.hdl_loops.specs.Inner.Leaving.{IsLinked}
use Rattle.hdl_loops.specs.declared.hops.BitOf.{BitOf}
use Rattle.hdl_loops.specs.declared.hops.Hop.{Hop}
use Rattle.hdl_loops.specs.declared.joint.Joint.{Joint}
use Rattle.hdl_loops.specs.declared.bundle.Bundle.{Bundle}
use Rattle.hdl_loops.specs.declared.doors.Door.{Door}
use Rattle.hdl_loops.specs.declared.doors.Doors.{Doors}

-- the hop through a chip that goes in by one joint and out by another
abbrev pub hop_by : ℕ → Joint → Joint → Hop
hop_by k a b = record { from = a.net; chip = k; through = record { input = a.pin.name; bit = a.pin.bit; output = b.pin.name; out = b.pin.bit }; to = b.net }

-- the hops of a bundle: in by each of the ones, and out by each of the others
abbrev pub bundle_hops : Bundle → List Hop
bundle_hops b = gather (λ (a : Joint). map (hop_by b.chip a) b.leaves.items) b.enters.items

-- the hops of a graph
abbrev pub hops_in : List Bundle → List Hop
hops_in bs = gather bundle_hops bs

-- the bundle the other way
abbrev pub turn : Bundle → Bundle
turn b = record { chip = b.chip; enters = b.leaves; leaves = b.enters }

-- ---- doors

-- joint j of bundle g leads into it from this bit
pub record EntersAt (bs : List Bundle) (g j : ℕ) (net : BitOf) : Type 0 where
  pub bundle : Bundle
  pub joint : Joint
  pub there : slice_get bs g ≡ Some bundle
  pub here : slice_get bundle.enters.items j ≡ Some joint
  pub is : joint.net ≡ net

-- the door leaves this bit
abbrev pub Opens : List Bundle → Door → BitAt → Type 0
Opens bs d x = (net : BitOf) × EntersAt bs d.bundle d.enter net × (bit net ≡ x)

-- each door is one of the graph, and stands where its bit does
pub record AreRight (bs : List Bundle) (ds : Doors) : Type 0 where
  pub bits : List BitOf
  pub linked : IsLinked bits ds.leaving
  pub long : length ds.doors.items ≡ length bits
  pub opens : (p : ℕ) (d : Door) (net : BitOf) → slice_get ds.doors.items p ≡ Some d
      → slice_get bits p ≡ Some net → EntersAt bs d.bundle d.enter net

abbrev pub HasDoor : Doors → ℕ → ℕ → Type 0
HasDoor ds g j = (p : ℕ) × (slice_get ds.doors.items p ≡ Some (record { bundle = g; enter = j }))

abbrev pub KeepsDoors : Doors → Doors → Type 0
KeepsDoors old new = (g j : ℕ) → HasDoor old g j → HasDoor new g j

-- and each joint by which a bundle is entered has its door
pub record AreDoors (bs : List Bundle) (ds : Doors) : Type 0 where
  pub right : AreRight bs ds
  pub all : (g j : ℕ) (b : Bundle) (a : Joint) → slice_get bs g ≡ Some b
      → slice_get b.enters.items j ≡ Some a → HasDoor ds g j
