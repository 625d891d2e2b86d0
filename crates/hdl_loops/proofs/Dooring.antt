-- The doors of a graph, and what is reached through them.
use Rattle.std.proofs.Common.{◌≡◌, ℕ, ◌+◌, ◌<◌, ◌≤◌, ◌⊎◌, inl, inr, Bool, true, false, ◌||◌, List, [], ◌∷◌, ◌++◌, length, Some, nat_eq, refl, sym, ap, ap₂, subst, ◌∙◌, arith}
use Rattle.std.specs.Prelude.{slice_get, if◌then◌else◌}
use Rattle.std.specs.List.{list_any}
use Rattle.std.proofs.lemmas.Bool.Decides.{Decides-eqb}
use Rattle.std.proofs.lemmas.Option.{slice_get_within}
use Rattle.hdl_plans.specs.Loops.{BitAt}
use Rattle.hdl_loops.specs.Inner.Hops.{bit}
use Rattle.hdl_loops.specs.Inner.Bundles.{hops_in, EntersAt, Opens, AreRight, HasDoor, KeepsDoors, AreDoors}
use Rattle.hdl_loops.specs.Inner.Leaving.{IsLinked}
use Rattle.hdl_loops.specs.Inner.Trees.{is_marked, open_hops, IsTree, IsLeft, KeepsMarks, LeadsOut, ArePassed}
use Rattle.hdl_loops.specs.declared.bundle.Bundle.{Bundle}
use Rattle.hdl_loops.specs.declared.doors.Door.{Door}
use Rattle.hdl_loops.specs.declared.doors.Doors.{Doors}
use Rattle.hdl_loops.specs.declared.hops.BitOf.{BitOf}
use Rattle.hdl_loops.specs.declared.hops.Hop.{Hop}
use Rattle.hdl_loops.specs.declared.joint.Joint.{Joint}
use Rattle.hdl_loops.specs.declared.tree.Tree.{Tree}
use Rattle.hdl_loops.proofs.Bundling.{bundle_of}
use Rattle.hdl_loops.proofs.Growing.{get_kept, get_last, get_cases, length_more}
use Rattle.hdl_loops.proofs.Lists.{get_in, there_at}
use Rattle.hdl_loops.proofs.Passing.{any_inserted}

-- ---- one more door

pub no_doors : (bs : List Bundle) (ds : Doors) → IsLinked [] ds.leaving → ds.doors.items ≡ [] → AreRight bs ds
no_doors bs ds linked none = record {
  bits = [];
  linked = linked;
  long = ap (λ (v : List Door). length v) none;
  opens = λ p d net e f. absurd cc;
}

module _ (bs : List Bundle) (old new : Doors) (g j : ℕ) (net : BitOf) (right : AreRight bs old) (there : EntersAt bs g j net)
    (linked : (bits : List BitOf) → IsLinked bits old.leaving → IsLinked (bits ++ net ∷ []) new.leaving) (more : new.doors.items ≡ old.doors.items ++ record { bundle = g; enter = j } ∷ []) where
  abbrev door : Door
  door = record { bundle = g; enter = j }

  opens_by : (p : ℕ) (d : Door) (n : BitOf) → (slice_get old.doors.items p ≡ Some d) ⊎ ((p ≡ length old.doors.items) × (door ≡ d)) → (slice_get right.bits p ≡ Some n) ⊎ ((p ≡ length right.bits) × (net ≡ n)) → EntersAt bs d.bundle d.enter n
  opens_by p d n (inl e) (inl f) = right.opens p d n e f
  opens_by p d n (inr e) (inr f) = subst (λ (v : Door). EntersAt bs v.bundle v.enter n) e.1 (subst (EntersAt bs g j) f.1 there)
  opens_by p d n (inl e) (inr f) =
      let w = slice_get_within old.doors.items p d e in
      let long = right.long in
      let same = f.0 in
      absurd (omega (arith, w, long, same))
  opens_by p d n (inr e) (inl f) =
      let w = slice_get_within right.bits p n f in
      let long = right.long in
      let same = e.0 in
      absurd (omega (arith, w, long, same))

  pub door_right : AreRight bs new
  door_right = record {
    bits = right.bits ++ net ∷ [];
    linked = linked right.bits right.linked;
    long =
        let n = length_more old.doors.items door in
        let m = length_more right.bits net in
        let e : length new.doors.items ≡ length (old.doors.items ++ door ∷ []) = ap (λ (v : List Door). length v) more in
        let long = right.long in
        omega (arith, n, m, e, long);
    opens = λ p d n e f. opens_by p d n (get_cases old.doors.items door d p (sym (ap (λ (v : List Door). slice_get v p) more) ∙ e)) (get_cases right.bits net n p f);
  }

  pub door_kept : KeepsDoors old new
  door_kept a b h = (h.0, ap (λ (v : List Door). slice_get v h.0) more ∙ get_kept old.doors.items (door ∷ []) h.0 (record { bundle = a; enter = b }) h.1)

  pub door_there : HasDoor new g j
  door_there = (length old.doors.items, ap (λ (v : List Door). slice_get v (length old.doors.items)) more ∙ get_last old.doors.items door)

-- ---- doors that are gone in by

-- where the hops by the door in this place lead is reached
abbrev pub LeadsFrom : List Bundle → Doors → Tree → ℕ → Type 0
LeadsFrom bs ds t q = (d : Door) → slice_get ds.doors.items q ≡ Some d → LeadsOut bs t d.bundle

pub out_kept : (bs : List Bundle) (a b : Tree) (g : ℕ) → KeepsMarks a b → LeadsOut bs a g → LeadsOut bs b g
out_kept bs a b g keeps leads bundle joint at i = keeps.marks joint.net.name.now joint.net.bit (leads bundle joint at i)

pub from_kept : (bs : List Bundle) (ds : Doors) (a b : Tree) → KeepsMarks a b → (q : ℕ) → LeadsFrom bs ds a q → LeadsFrom bs ds b q
from_kept bs ds a b keeps q leads d e = out_kept bs a b d.bundle keeps (leads d e)

-- the bundles that are passed stay so
pub passed_kept : (bs : List Bundle) (a b : Tree) → KeepsMarks a b → b.passed.keys ≡ a.passed.keys → ArePassed bs a → ArePassed bs b
passed_kept bs a b keeps same are g h = out_kept bs a b g keeps (are g (ap (λ (v : List ℕ). list_any (nat_eq g) v) (sym same) ∙ h))

or_cases : (a b : Bool) → (a || b) ≡ true → (a ≡ true) ⊎ (b ≡ true)
or_cases true b h = inl refl
or_cases false b h = inr h

-- one more is passed
pub passed_more : (bs : List Bundle) (a b : Tree) (k : ℕ) (t : Bool) → ArePassed bs a → LeadsOut bs a k → b.passed.keys ≡ (if t then a.passed.keys else a.passed.keys ++ k ∷ []) → KeepsMarks a b → ArePassed bs b
passed_more bs a b k t are leads is keeps g h =
    by (or_cases (list_any (nat_eq g) a.passed.keys) (nat_eq g k) (any_inserted (nat_eq g) t a.passed.keys k (ap (λ (v : List ℕ). list_any (nat_eq g) v) (sym is) ∙ h)))
  where
    by : (list_any (nat_eq g) a.passed.keys ≡ true) ⊎ (nat_eq g k ≡ true) → LeadsOut bs b g
    by (inl e) = out_kept bs a b g keeps (are g e)
    by (inr e) = subst (LeadsOut bs b) (sym ((Decides-eqb g k).0 e)) (out_kept bs a b k keeps leads)

-- what is reached does not rest on what is passed
open_same : (hs : List Hop) (a b : Tree) → ((h : Hop) → is_marked b (bit h.to) ≡ is_marked a (bit h.to)) → open_hops b hs ≡ open_hops a hs
open_same [] a b same = refl
open_same (h ∷ hs) a b same = ap₂ (λ (t : Bool) (n : ℕ). (if t then 0 else 1) + n) (same h) (open_same hs a b same)

pub repassed : (hs : List Hop) (a b : Tree) → b ≡ record { root = a.root; places = a.places; nodes = a.nodes; passed = b.passed } → IsTree hs a → IsTree hs b
repassed hs a b is tree = subst (IsTree hs) (sym is) (record {
  nodes = λ j node e. let r = tree.nodes j node e in record { number = r.number; inside = r.inside; before = r.before; behind = r.behind; marked = r.marked; own = r.own; comes = r.comes; first = r.first };
  places = tree.places;
  few = subst (λ (n : ℕ). length a.nodes.items + n ≤ length hs) (sym (open_same hs a (record { root = a.root; places = a.places; nodes = a.nodes; passed = b.passed }) (λ h. refl))) tree.few;
})

-- the hops that leave a bit go in by its doors
pub doors_left : (bs : List Bundle) (ds : Doors) (are : AreDoors bs ds) (t : Tree) (x : BitAt) → ((q : ℕ) (b : BitOf) → slice_get are.right.bits q ≡ Some b → bit b ≡ x → LeadsFrom bs ds t q) → IsLeft (hops_in bs) t x
doors_left bs ds are t x leads p h e from =
    let i = bundle_of bs h (get_in (hops_in bs) p h e) in
    let d = are.all i.g i.j i.bundle i.enter i.there i.enters in
    let right = are.right in
    let w = slice_get_within ds.doors.items d.0 (record { bundle = i.g; enter = i.j }) d.1 in
    let long = right.long in
    let b = there_at right.bits d.0 (omega (arith, w, long)) in
    let o = right.opens d.0 (record { bundle = i.g; enter = i.j }) b.0 d.1 b.1 in
    let o_there = o.there in
    let o_here = o.here in
    let i_there = i.there in
    let i_enters = i.enters in
    let bundle_is : o.bundle ≡ i.bundle = cc in
    let here : slice_get i.bundle.enters.items i.j ≡ Some o.joint = subst (λ (v : Bundle). slice_get v.enters.items i.j ≡ Some o.joint) bundle_is o.here in
    let joint_is : o.joint ≡ i.enter = cc in
    let bit_is : bit b.0 ≡ x = ap bit (sym o.is) ∙ (ap (λ (v : Joint). bit v.net) joint_is ∙ (ap (λ (v : Hop). bit v.from) i.is ∙ from)) in
    ap (λ (v : Hop). is_marked t (bit v.to)) (sym i.is) ∙ leads d.0 b.0 b.1 bit_is (record { bundle = i.g; enter = i.j }) d.1 i.bundle i.leave i.there i.leaves

-- ---- going in by a door

module _ (bs : List Bundle) (door : Door) (x : BitAt) (own : Bundle) (enter : Joint) (opens : Opens bs door x) (there : slice_get bs door.bundle ≡ Some own) where
  door_bundle : opens.1.bundle ≡ own
  door_bundle = let e = opens.1.there in cc

  -- the joint stands in the bundle
  pub door_within : door.enter < length own.enters.items
  door_within = subst (λ (v : Bundle). door.enter < length v.enters.items) door_bundle (slice_get_within opens.1.bundle.enters.items door.enter opens.1.joint opens.1.here)

  -- and leads from the bit
  pub door_bit : slice_get own.enters.items door.enter ≡ Some enter → bit enter.net ≡ x
  door_bit here =
      let there = subst (λ (v : Bundle). slice_get v.enters.items door.enter ≡ Some opens.1.joint) door_bundle opens.1.here in
      let same : enter ≡ opens.1.joint = cc in
      ap (λ (v : Joint). bit v.net) same ∙ (ap bit opens.1.is ∙ opens.2)
