-- A hop through a part, and the way of an end.
use Rattle.std.proofs.Common.{◌≡◌, ℕ, ◌+◌, Bool, true, false, List, [], ◌∷◌, Option, Some, refl, sym, ap, subst, ◌∙◌}
use Rattle.std.specs.Prelude.{slice_get, codes}
use Rattle.std.specs.Str.{bytes_eq}
use Rattle.std.specs.Cmp.Lexicographic.{bytes_decides}
use Rattle.hdl_tree.specs.declared.tree.Part.{Part}
use Rattle.hdl_tree.specs.declared.library.Entry.{Entry}
use Rattle.hdl_tree.specs.declared.ends.End.{End}
use Rattle.hdl_tree.specs.Chips.{Chips, end_of, find_chip, parts_of, first}
use Rattle.hdl_tree.specs.Behaviour.{chip_of, inner_chip}
use Rattle.hdl_check.proofs.MarkLemmas.{both}
use Rattle.hdl_plans.specs.Loops.{BitAt, bit_at, reaches_out, IsJoint, Feeds, down, up, through}
use Rattle.hdl_plans.specs.Plans.{is_input}
use Rattle.hdl_plans.specs.Ways.{Joined}
use Rattle.hdl_plans.proofs.Simple.{Among, once_are}
use Rattle.hdl_plans.proofs.Walks.{under}
use Rattle.hdl_loops.specs.Inner.Hops.{bit, input_of, output_of}
use Rattle.hdl_loops.specs.Inner.Knowing.{end_crosses, IsHop}
use Rattle.hdl_loops.specs.Inner.Tasks.{passage_of, TripThrough}
use Rattle.hdl_loops.specs.Inner.Report.{HasConnection, Trip}
use Rattle.hdl_loops.specs.declared.hops.Dependency.{Dependency}
use Rattle.hdl_loops.specs.declared.hops.Hop.{Hop}
use Rattle.hdl_loops.specs.declared.known.Known.{Known}
use Rattle.hdl_loops.proofs.Trips.{DeepTrip, Inside, hop_trip}

module _ (chips : Chips) (chip : Entry) (i : ℕ) (part : Part) (inner : Entry) (there : slice_get (parts_of chips chip) i ≡ Some part) (found : find_chip chips part.chip ≡ Some inner) where
  joint_of : (input : Bool) (net : List ℕ) (b : ℕ) (pin : List ℕ) (k : ℕ) (h : HasConnection inner part input net b pin k) → IsJoint chips chip [] i h.conn h.joins.w h.joins.n input
  joint_of input net b pin k h = record { chip = chip; part = part; inner = inner; j = h.j; at = refl; there = there; found = found; here = h.here; right = h.joins.right; way = h.joins.way; within = h.joins.within }

  goes_in : (net : List ℕ) (b : ℕ) (pin : List ℕ) (k : ℕ) → HasConnection inner part true net b pin k → Feeds chips chip (bit_at [] net b) (bit_at (i ∷ []) pin k)
  goes_in net b pin k h =
      let j = h.joins in
      subst (λ v. Feeds chips chip (bit_at [] v b) (bit_at (i ∷ []) pin k)) j.net_is
      (subst (λ v. Feeds chips chip (bit_at [] j.w.name v) (bit_at (i ∷ []) pin k)) (sym j.b_is)
      (subst (λ v. Feeds chips chip (bit_at [] j.w.name (first j.w.subscript + j.n)) (bit_at (i ∷ []) v k)) j.pin_is
      (subst (λ v. Feeds chips chip (bit_at [] j.w.name (first j.w.subscript + j.n)) (bit_at (i ∷ []) h.conn.pin.name v)) (sym j.k_is)
      (down {path = []} (joint_of true net b pin k h)))))

  goes_out : (net : List ℕ) (b : ℕ) (pin : List ℕ) (k : ℕ) → HasConnection inner part false net b pin k → Feeds chips chip (bit_at (i ∷ []) pin k) (bit_at [] net b)
  goes_out net b pin k h =
      let j = h.joins in
      subst (λ v. Feeds chips chip (bit_at (i ∷ []) pin k) (bit_at [] v b)) j.net_is
      (subst (λ v. Feeds chips chip (bit_at (i ∷ []) pin k) (bit_at [] j.w.name v)) (sym j.b_is)
      (subst (λ v. Feeds chips chip (bit_at (i ∷ []) v k) (bit_at [] j.w.name (first j.w.subscript + j.n))) j.pin_is
      (subst (λ v. Feeds chips chip (bit_at (i ∷ []) h.conn.pin.name v) (bit_at [] j.w.name (first j.w.subscript + j.n))) (sym j.k_is)
      (up {path = []} (joint_of false net b pin k h)))))

-- the joints of a hop, and the bits that it passes
pub record InHop (chips : Chips) (chip : Entry) (h : Hop) (v : BitAt) : Type 0 where
  pub i : ℕ
  pub inner : Entry
  pub found : inner_chip chips chip i ≡ Some inner
  pub enter : Joined chips chip i true (bit h.from) (under i (input_of h.through))
  pub leave : Joined chips chip i false (bit h.to) (under i (output_of h.through))
  pub inside : Inside chips i inner (input_of h.through) (output_of h.through) v

-- a way by a hop, whose bits the hop passes
pub record HopTrip (chips : Chips) (chip : Entry) (h : Hop) (names : List (List ℕ)) : Type 0 where
  pub deep : DeepTrip chips chip (bit h.from) (bit h.to) names
  pub passed : (v : BitAt) → Among v deep.over → InHop chips chip h v

joined_by : (chips : Chips) (chip : Entry) (i : ℕ) (part : Part) (inner : Entry) → slice_get (parts_of chips chip) i ≡ Some part → find_chip chips part.chip ≡ Some inner → (input : Bool) (net : List ℕ) (b : ℕ) (pin : List ℕ) (k : ℕ) → HasConnection inner part input net b pin k → Joined chips chip i input (bit_at [] net b) (bit_at (i ∷ []) pin k)
joined_by chips chip i part inner there found input net b pin k h =
    let j = h.joins in
    record {
      conn = h.conn;
      w = j.w;
      k = j.n;
      joint = joint_of chips chip i part inner there found input net b pin k h;
      out_is = ap (bit_at [] net) j.b_is ∙ ap (λ (v : List ℕ). bit_at [] v (first j.w.subscript + j.n)) (sym j.net_is);
      in_is = ap (bit_at (i ∷ []) pin) j.k_is ∙ ap (λ (v : List ℕ). bit_at (i ∷ []) v (first h.conn.pin.subscript + j.n)) (sym j.pin_is);
    }

-- a hop goes in by an input and out by an output
pub ends_apart : (chips : Chips) (known : List (Option Known)) (chip : Entry) (h : Hop) → IsHop chips known chip h → input_of h.through ≡ output_of h.through → ⊥
ends_apart chips known chip h r e =
    let named : h.through.input.now ≡ h.through.output.now = ap (λ (v : BitAt). v.name) e in
    let a = r.goes_in.joins in
    let b = r.goes_out.joins in
    let x : is_input r.inner h.through.input.now ≡ true = ap (is_input r.inner) (sym a.pin_is) ∙ a.way in
    let y : is_input r.inner h.through.output.now ≡ false = ap (is_input r.inner) (sym b.pin_is) ∙ b.way in
    let f : true ≡ false = sym x ∙ (ap (is_input r.inner) named ∙ y) in
    cc

-- what a hop passes is passed between its ends
pub leap_trip : (chips : Chips) (known : List (Option Known)) (chip : Entry) (h : Hop) (names : List (List ℕ)) → IsHop chips known chip h → TripThrough chips (passage_of h) names → HopTrip chips chip h names
leap_trip chips known chip h names r t =
    let d = h.through in
    let from = h.from in
    let to = h.to in
    let at = t.there in
    let place = r.place in
    let same : t.chip ≡ r.inner = cc in
    let trip : Trip chips r.inner (input_of d) (output_of d) names = subst (λ (v : Entry). Trip chips v (input_of d) (output_of d) names) same t.trip in
    let found : inner_chip chips chip r.i ≡ Some r.inner = ap (chip_of chips) r.there ∙ r.found in
    let leap =
    hop_trip chips chip r.i r.inner names from.name.now from.bit d.input.now d.bit d.output.now d.out to.name.now to.bit found
    (goes_in chips chip r.i r.part r.inner r.there r.found from.name.now from.bit d.input.now d.bit r.goes_in) trip (ends_apart chips known chip h r) (goes_out chips chip r.i r.part r.inner r.there r.found to.name.now to.bit d.output.now d.out r.goes_out) in
    record {
      deep = leap.deep;
      passed = λ v a. record {
        i = r.i;
        inner = r.inner;
        found = found;
        enter = joined_by chips chip r.i r.part r.inner r.there r.found true from.name.now from.bit d.input.now d.bit r.goes_in;
        leave = joined_by chips chip r.i r.part r.inner r.there r.found false to.name.now to.bit d.output.now d.out r.goes_out;
        inside = leap.inside v a;
      };
    }

-- the way of an end is one step, and passes no net
pub end_trip : (chips : Chips) (chip : Entry) (e : End) (d : Dependency) → end_of chips.memories chip ≡ Some e → end_crosses e (input_of d) (output_of d) ≡ true → Trip chips chip (input_of d) (output_of d) []
end_trip chips chip e d is h =
    let p = both (reaches_out e d.input.now) (bytes_eq d.output.now (codes "out")) h in
    let named : d.output.now ≡ codes "out" = (bytes_decides d.output.now (codes "out")).0 p.1 in
    record {
      over = [];
      steps = subst (λ v. Feeds chips chip (bit_at [] d.input.now d.bit) (bit_at [] v d.out)) (sym named) (through {path = []} refl is p.0);
      named = refl;
      once = once_are (input_of d ∷ []) ((λ a. a), tt);
      ends = λ apart k e. cc;
    }
