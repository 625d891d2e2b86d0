-- The hops of a chip's own graph, and what they come from.
use Rattle.std.proofs.Common.{◌≡◌, ℕ, zero, suc, ◌<◌, ◌≤◌, ◌⊎◌, inl, inr, Bool, true, false, List, [], ◌∷◌, ◌++◌, Option, Some, None, refl, sym, ap, subst, ◌∙◌, arith}
use Rattle.std.proofs.Math.Nat.{eq-or-lt_of_le}
use Rattle.std.specs.Prelude.{slice_get, ◌&&◌, not, if◌then◌else◌}
use Rattle.hdl_tree.specs.declared.tree.Selection.{Selection}
use Rattle.hdl_tree.specs.declared.tree.Source.{Source}
use Rattle.hdl_tree.specs.declared.tree.Source.TheVariants as source
use Rattle.hdl_tree.specs.declared.tree.Connection.{Connection}
use Rattle.hdl_tree.specs.declared.tree.Part.{Part}
use Rattle.hdl_tree.specs.declared.library.Entry.{Entry}
use Rattle.hdl_tree.specs.Chips.{Chips, parts_of, count}
use Rattle.hdl_tree.specs.Behaviour.{width_of}
use Rattle.hdl_check.proofs.MarkLemmas.{both}
use Rattle.hdl_plans.specs.Plans.{is_input}
use Rattle.hdl_plans.specs.Loops.{BitAt}
use Rattle.hdl_loops.specs.Inner.Hops.{bit, HasHop}
use Rattle.hdl_loops.specs.Inner.Ties.{In, Tie, tie, ties_below, ties_by, ties_in, gather}
use Rattle.hdl_loops.specs.Inner.Report.{Connects, HasConnection}
use Rattle.hdl_loops.specs.Inner.Knowing.{Leap, leap_of, leaps_of, leap_by, leaps_from, leaps_through, ties_for, leaps_at, part_leaps, place_of, crosses, IsGraph, IsHop, AreHops}
use Rattle.hdl_loops.specs.declared.hops.Hop.{Hop}
use Rattle.hdl_loops.specs.declared.known.Known.{Known}
use Rattle.hdl_loops.proofs.Lists.{in_left, in_right, in_either, in_gather, gathered, get_in, in_get, in_map, mapped}
use Rattle.hdl_loops.proofs.Placing.{place_found}

-- ---- joints

record Below (pin net : Selection) (input : Bool) (n : ℕ) (t : Tie) : Type 0 where
  k : ℕ
  within : k < n
  is : tie pin net input k ≡ t

below_by : (pin net : Selection) (input : Bool) (n : ℕ) (t : Tie) → (In t (ties_below pin net input n)) ⊎ (In t (tie pin net input n ∷ [])) → (In t (ties_below pin net input n) → Below pin net input n t) → Below pin net input (suc n) t
below_by pin net input n t (inl h) go = let r = go h in let lt = r.within in record { k = r.k; within = omega (arith, lt); is = r.is }
below_by pin net input n t (inr (inl e)) go = record { k = n; within = omega arith; is = e }
below_by pin net input n t (inr (inr h)) go = absurd h

below_of : (pin net : Selection) (input : Bool) (n : ℕ) (t : Tie) → In t (ties_below pin net input n) → Below pin net input n t
below_of pin net input zero t h = absurd h
below_of pin net input (suc n) t h = below_by pin net input n t (in_either t (ties_below pin net input n) (tie pin net input n ∷ []) h) (below_of pin net input n t)

there_by : (pin net : Selection) (input : Bool) (n k : ℕ) → (k ≡ n) ⊎ (k < n) → (k < n → In (tie pin net input k) (ties_below pin net input n)) → In (tie pin net input k) (ties_below pin net input n ++ tie pin net input n ∷ [])
there_by pin net input n k (inl e) go = in_right (tie pin net input k) (ties_below pin net input n) (tie pin net input n ∷ []) (inl (ap (tie pin net input) (sym e)))
there_by pin net input n k (inr lt) go = in_left (tie pin net input k) (ties_below pin net input n) (tie pin net input n ∷ []) (go lt)

below_there : (pin net : Selection) (input : Bool) (n k : ℕ) → k < n → In (tie pin net input k) (ties_below pin net input n)
below_there pin net input zero k lt = absurd (omega (arith, lt))
below_there pin net input (suc n) k lt = let le : k ≤ n = omega (arith, lt) in there_by pin net input n k (eq-or-lt_of_le le) (below_there pin net input n k)

connects_by : (inner : Entry) (conn : Connection) (t : Tie) (s : Source) → conn.source ≡ s → In t (ties_by inner conn.pin s) → Connects inner conn t.input t.net.name t.net.bit t.pin.name t.pin.bit
connects_by inner conn t (source.Net w) e h =
    let r = below_of conn.pin w (is_input inner conn.pin.name) (count conn.pin.subscript (width_of inner conn.pin.name)) t h in
    let is = r.is in
    record {
      w = w;
      n = r.k;
      right = e;
      way = ap (λ (v : Tie). v.input) is;
      within = r.within;
      net_is = ap (λ (v : Tie). v.net.name) is;
      b_is = sym (ap (λ (v : Tie). v.net.bit) is);
      pin_is = ap (λ (v : Tie). v.pin.name) is;
      k_is = sym (ap (λ (v : Tie). v.pin.bit) is);
    }
connects_by inner conn t (source.Constant b) e h = absurd h

-- a joint of a part is of one of its connections
tie_connects : (inner : Entry) (part : Part) (t : Tie) → In t (gather (ties_in inner) part.connections) → HasConnection inner part t.input t.net.name t.net.bit t.pin.name t.pin.bit
tie_connects inner part t h =
    let g = gathered (ties_in inner) part.connections t h in
    let p = in_get part.connections g.item g.there in
    record { j = p.0; conn = g.item; here = p.1; joins = connects_by inner g.item t g.item.source refl g.made }

-- and each bit of a connection is one
pub tie_there : (inner : Entry) (part : Part) (j : ℕ) (conn : Connection) (w : Selection) (k : ℕ) (input : Bool) → slice_get part.connections j ≡ Some conn → conn.source ≡ source.Net w → is_input inner conn.pin.name ≡ input → k < count conn.pin.subscript (width_of inner conn.pin.name) →
    In (tie conn.pin w input k) (gather (ties_in inner) part.connections)
tie_there inner part j conn w k input here right way within =
    let n = count conn.pin.subscript (width_of inner conn.pin.name) in
    in_gather (ties_in inner) part.connections conn (tie conn.pin w input k) (get_in part.connections j conn here)
    (subst (λ (s : Source). In (tie conn.pin w input k) (ties_by inner conn.pin s)) (sym right)
    (subst (λ (b : Bool). In (tie conn.pin w input k) (ties_below conn.pin w b n)) (sym way) (below_there conn.pin w input n k within)))

-- ---- hops of a part

pub record Made (chips : Chips) (known : List (Option Known)) (k : ℕ) (a b : Tie) (leap : Leap) : Type 0 where
  pub enters : a.input ≡ true
  pub leaves : b.input ≡ false
  pub crosses_it : crosses chips known k a.pin b.pin ≡ true
  pub is : record { from = a.net; chip = k; input = a.pin; output = b.pin; to = b.net } ≡ leap

pub not_true : (b : Bool) → not b ≡ true → b ≡ false
not_true false h = refl
not_true true h = absurd cc

made_by : (chips : Chips) (known : List (Option Known)) (k : ℕ) (a b : Tie) (leap : Leap) (t : Bool) → (a.input && (not b.input && crosses chips known k a.pin b.pin)) ≡ t →
    In leap (if t then record { from = a.net; chip = k; input = a.pin; output = b.pin; to = b.net } ∷ [] else []) → Made chips known k a b leap
made_by chips known k a b leap false e h = absurd h
made_by chips known k a b leap true e (inr h) = absurd h
made_by chips known k a b leap true e (inl h) =
    let p = both a.input (not b.input && crosses chips known k a.pin b.pin) e in
    let q = both (not b.input) (crosses chips known k a.pin b.pin) p.1 in
    record { enters = p.0; leaves = not_true b.input q.0; crosses_it = q.1; is = h }

pub made_of : (chips : Chips) (known : List (Option Known)) (k : ℕ) (a b : Tie) (leap : Leap) → In leap (leap_by chips known k a b) → Made chips known k a b leap
made_of chips known k a b leap h = made_by chips known k a b leap (a.input && (not b.input && crosses chips known k a.pin b.pin)) refl h

pub all_three : (a b c : Bool) → a ≡ true → b ≡ false → c ≡ true → (a && (not b && c)) ≡ true
all_three true false true e f g = refl
all_three false b c e f g = absurd cc
all_three true true c e f g = absurd cc
all_three true false false e f g = absurd cc

leap_there : (chips : Chips) (known : List (Option Known)) (k : ℕ) (a b : Tie) → a.input ≡ true → b.input ≡ false → crosses chips known k a.pin b.pin ≡ true → In (record { from = a.net; chip = k; input = a.pin; output = b.pin; to = b.net }) (leap_by chips known k a b)
leap_there chips known k a b e f g =
    let leap : Leap = record { from = a.net; chip = k; input = a.pin; output = b.pin; to = b.net } in
    subst (λ (t : Bool). In leap (if t then leap ∷ [] else [])) (sym (all_three a.input b.input (crosses chips known k a.pin b.pin) e f g)) (inl refl)

module _ (chips : Chips) (known : List (Option Known)) (chip : Entry) where
  hop_at : (i : ℕ) (part : Part) (h : Hop) (k : ℕ) (o : Option Entry) → slice_get (parts_of chips chip) i ≡ Some part → place_of chips.entries part.chip ≡ Some k → slice_get chips.entries k ≡ o → In (leap_of h) (leaps_through chips known k (ties_for o part)) → IsHop chips known chip h
  hop_at i part h k None there at e g = absurd g
  hop_at i part h k (Some inner) there at e g =
      let ties = ties_for (Some inner) part in
      let a = gathered (leaps_from chips known k ties) ties (leap_of h) g in
      let b = gathered (leap_by chips known k a.item) ties (leap_of h) a.made in
      let m = made_of chips known k a.item b.item (leap_of h) b.made in
      let is = m.is in
      let ca = tie_connects inner part a.item a.there in
      let cb = tie_connects inner part b.item b.there in
      let from_is : a.item.net ≡ bit h.from = ap (λ (v : Leap). v.from) is in
      let in_is = ap (λ (v : Leap). v.input) is in
      let out_is = ap (λ (v : Leap). v.output) is in
      let to_is = ap (λ (v : Leap). v.to) is in
      let chip_is : k ≡ h.chip = ap (λ (v : Leap). v.chip) is in
      record {
        i = i;
        part = part;
        inner = inner;
        there = there;
        found = place_found chips.entries part.chip k at ∙ e;
        place = ap (slice_get chips.entries) (sym chip_is) ∙ e;
        goes_in =
            subst (λ (v : BitAt). HasConnection inner part true h.from.name.now h.from.bit v.name v.bit) in_is
            (subst (λ (v : BitAt). HasConnection inner part true v.name v.bit a.item.pin.name a.item.pin.bit) from_is
            (subst (λ (t : Bool). HasConnection inner part t a.item.net.name a.item.net.bit a.item.pin.name a.item.pin.bit) m.enters ca));
        goes_out =
            subst (λ (v : BitAt). HasConnection inner part false h.to.name.now h.to.bit v.name v.bit) out_is
            (subst (λ (v : BitAt). HasConnection inner part false v.name v.bit b.item.pin.name b.item.pin.bit) to_is
            (subst (λ (t : Bool). HasConnection inner part t b.item.net.name b.item.net.bit b.item.pin.name b.item.pin.bit) m.leaves cb));
        crosses_it =
            ap (λ (v : Leap). crosses chips known v.chip v.input v.output) (sym is) ∙ m.crosses_it;
      }

  hop_by : (i : ℕ) (part : Part) (h : Hop) (o : Option ℕ) → slice_get (parts_of chips chip) i ≡ Some part → place_of chips.entries part.chip ≡ o → In (leap_of h) (leaps_at chips known part o) → IsHop chips known chip h
  hop_by i part h None there e g = absurd g
  hop_by i part h (Some k) there e g = hop_at i part h k (slice_get chips.entries k) there e refl g

  -- each hop of the list is one of the chip's own graph
  pub graph_hops : (hs : List Hop) → IsGraph chips known chip hs → AreHops chips known chip hs
  graph_hops hs is p h e =
      let g = gathered (part_leaps chips known) (parts_of chips chip) (leap_of h) (is.only (leap_of h) (in_map leap_of hs h (get_in hs p h e))) in
      let r = in_get (parts_of chips chip) g.item g.there in
      hop_by r.0 g.item h (place_of chips.entries g.item.chip) r.1 refl g.made

  -- and each of these is in the list
  pub graph_has : (hs : List Hop) → IsGraph chips known chip hs → (i : ℕ) (part : Part) (k : ℕ) (inner : Entry) (a b : Tie) → slice_get (parts_of chips chip) i ≡ Some part → place_of chips.entries part.chip ≡ Some k → slice_get chips.entries k ≡ Some inner →
      In a (gather (ties_in inner) part.connections) → In b (gather (ties_in inner) part.connections) → a.input ≡ true → b.input ≡ false → crosses chips known k a.pin b.pin ≡ true → HasHop hs a.net b.net
  graph_has hs is i part k inner a b there at place ta tb ea eb c =
      let leap : Leap = record { from = a.net; chip = k; input = a.pin; output = b.pin; to = b.net } in
      let ties = gather (ties_in inner) part.connections in
      let here : In leap (leaps_through chips known k ties) = in_gather (leaps_from chips known k ties) ties a leap ta (in_gather (leap_by chips known k a) ties b leap tb (leap_there chips known k a b ea eb c)) in
      let made : In leap (part_leaps chips known part) =
      subst (λ (o : Option ℕ). In leap (leaps_at chips known part o)) (sym at) (subst (λ (o : Option Entry). In leap (leaps_through chips known k (ties_for o part))) (sym place) here) in
      let all : In leap (leaps_of hs) = is.there leap (in_gather (part_leaps chips known) (parts_of chips chip) part leap (get_in (parts_of chips chip) i part there) made) in
      let m = mapped leap_of hs leap all in
      let g = in_get hs m.0 m.1 in
      (g.0, m.0, g.1, ap (λ (v : Leap). v.from) m.2, ap (λ (v : Leap). v.to) m.2)
