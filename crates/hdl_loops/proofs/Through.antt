-- What leads through the chip of a part.
use Rattle.std.proofs.Common.{◌≡◌, ℕ, suc, ◌<◌, true, List, Option, Some, None, length, refl, sym, ap, subst, ◌∙◌}
use Rattle.std.specs.Prelude.{slice_get}
use Rattle.hdl_tree.specs.declared.library.Entry.{Entry}
use Rattle.hdl_tree.specs.declared.ends.End.{End}
use Rattle.hdl_tree.specs.Chips.{Chips, end_of}
use Rattle.hdl_tree.specs.Behaviour.{chip_of, inner_chip}
use Rattle.hdl_plans.specs.Loops.{BitAt}
use Rattle.hdl_plans.specs.Ways.{TreeFits}
use Rattle.hdl_loops.specs.Inner.Hops.{Linked}
use Rattle.hdl_loops.specs.Inner.Knowing.{hops_of, crosses, crosses_in, crosses_by, end_crosses, leads_in, AreKnown, AreHops, IsHop, IsStraight, HasWays, IsWayIn, Nests, NestsAt}
use Rattle.hdl_loops.specs.declared.hops.Hop.{Hop}
use Rattle.hdl_loops.specs.declared.known.Known.{Known}
use Rattle.hdl_loops.proofs.Nesting.{parts_nest}

module _ (chips : Chips) (known : List (Option Known)) (k : ℕ) (entry : Entry) (at : slice_get chips.entries k ≡ Some entry) where
  crosses_is : (x y : BitAt) (o : Option End) → end_of chips.memories entry ≡ o → crosses chips known k x y ≡ crosses_by o (slice_get known k) x y
  crosses_is x y o is = ap (λ (e : Option Entry). crosses_in chips e (slice_get known k) x y) at ∙ ap (λ (e : Option End). crosses_by e (slice_get known k) x y) is

  pub cross_end : (x y : BitAt) (e : End) → end_of chips.memories entry ≡ Some e → crosses chips known k x y ≡ true → end_crosses e x y ≡ true
  cross_end x y e is h = sym (crosses_is x y (Some e) is) ∙ h

  pub cross_known : (x y : BitAt) → end_of chips.memories entry ≡ None → crosses chips known k x y ≡ true → leads_in (slice_get known k) x y ≡ true
  cross_known x y is h = sym (crosses_is x y None is) ∙ h

  pub known_ways : AreKnown chips known → HasWays known k
  known_ways are inside e = let r = are k entry inside at e in (r.linked, r.sound)

  way_by : (o : Option (Option Known)) (x y : BitAt) (ws : List Hop) → slice_get known k ≡ o → AreKnown chips known → IsWayIn o x ws y → AreHops chips known entry ws × (0 < length ws) × Linked x ws y
  way_by None x y ws e are w = absurd w
  way_by (Some None) x y ws e are w = absurd w
  way_by (Some (Some inside)) x y ws e are w = ((λ p h f. let q = w.inside p h f in (are k entry inside at e).hops q.0 h q.1), w.some, w.linked)

  pub way_hops : (x y : BitAt) (ws : List Hop) → AreKnown chips known → IsWayIn (slice_get known k) x ws y → AreHops chips known entry ws × (0 < length ws) × Linked x ws y
  way_hops x y ws are w = way_by (slice_get known k) x y ws refl are w

  straight_by : (o : Option (Option Known)) (x y : BitAt) (ws : List Hop) → slice_get known k ≡ o → TreeFits chips entry → AreKnown chips known → IsWayIn o x ws y → IsStraight chips entry ws
  straight_by None x y ws e fit are w = absurd w
  straight_by (Some None) x y ws e fit are w = absurd w
  straight_by (Some (Some inside)) x y ws e fit are w = record { all = (hops_of inside); full = (are k entry inside at e).full fit; inside = w.inside; direct = w.direct }

  pub way_straight : (x y : BitAt) (ws : List Hop) → TreeFits chips entry → AreKnown chips known → IsWayIn (slice_get known k) x ws y → IsStraight chips entry ws
  way_straight x y ws fit are w = straight_by (slice_get known k) x y ws refl fit are w

pub hop_inner : (chips : Chips) (known : List (Option Known)) (chip : Entry) (h : Hop) (r : IsHop chips known chip h) → inner_chip chips chip r.i ≡ Some r.inner
hop_inner chips known chip h r = ap (chip_of chips) r.there ∙ r.found

pub hop_nests : (d e : ℕ) (chips : Chips) (known : List (Option Known)) (chip : Entry) (h : Hop) → IsHop chips known chip h → Nests d chips chip → suc e ≡ d → NestsAt e chips h.chip
hop_nests d e chips known chip h r nests same inner at =
    let is : r.inner ≡ inner = cc (r.place, at) in
    subst (Nests e chips) is (parts_nest d e chips chip nests same r.i r.inner (hop_inner chips known chip h r))
