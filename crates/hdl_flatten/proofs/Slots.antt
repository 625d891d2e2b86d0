-- The parts of a chip by number, each with the plan of its chip: where it begins, and what feeds it.
use Rattle.std.proofs.Common.{◌≡◌, ℕ, zero, suc, ◌+◌, ◌<◌, ◌≤◌, ◌⊎◌, inl, inr, Bool, true, false, cond, nat_eq, List, [], ◌∷◌, Some, refl, sym, ap, ◌∙◌, arith}
use Rattle.std.specs.Prelude.{slice_get, nat_le}
use Rattle.std.proofs.lemmas.Bool.Decides.{Decides-eqb, leb_tells}
use Rattle.hdl_tree.specs.declared.tree.Part.{Part}
use Rattle.hdl_tree.specs.Chips.{Chips, find_chip}
use Rattle.hdl_check.specs.Tables.{BitOf}
use Rattle.hdl_flatten.specs.declared.size.Size.{Size}
use Rattle.hdl_flatten.specs.declared.wires.Origin.{Origin as Fed}
use Rattle.hdl_flatten.specs.declared.plan.Plan.{Plan}
use Rattle.hdl_flatten.specs.declared.plan.PartPlan.{PartPlan}
use Rattle.hdl_flatten.specs.Inner.Sizes.{joined_size}
use Rattle.hdl_flatten.specs.Inner.Wired.{wires_of, origin_at}
use Rattle.hdl_flatten.specs.Inner.Feeds.{feed_origins}
use Rattle.hdl_flatten.specs.Inner.Plans.{moved_by, all_sized, part_origins, places, HavePlans, ArePartPlans}
use Rattle.hdl_flatten.proofs.Bridges.{gate_at}

-- sums that are small are exact
pub sum_grows : (size : Size) (xs : List Plan) → (all_sized size xs).nodes ≤ 16777216 → size.nodes ≤ (all_sized size xs).nodes
sum_grows size [] h = omega arith
sum_grows size (x ∷ xs) h = omega (arith, h, sum_grows (joined_size size x.size) xs h)

pub sum_exact : (size : Size) (x : Plan) (xs : List Plan) → (all_sized (joined_size size x.size) xs).nodes ≤ 16777216 → (joined_size size x.size).nodes ≡ size.nodes + x.size.nodes
sum_exact size x xs h = omega (arith, h, sum_grows (joined_size size x.size) xs h)

-- part j of parts, where the first is part i of the chip and so much stands before it; n is the place of the chip's plan
pub record Slot (chips : Chips) (plans : List Plan) (n : ℕ) (wires : List (BitOf × Fed)) (size : Size) (i : ℕ) (xs : List Plan) (qs : List PartPlan) (j : ℕ) (p : Part) : Type 0 where
  pub x : Plan
  pub q : PartPlan
  pub r : ℕ
  pub before : r < n
  pub at : slice_get plans r ≡ Some x
  pub found : find_chip chips p.chip ≡ Some x.entry.now
  pub plan_there : slice_get xs j ≡ Some x
  pub part_there : slice_get qs j ≡ Some q
  pub origins : (feed_origins q.feeds) ≡ part_origins wires p x
  pub gate : (m : ℕ) (pin : List ℕ) (bit : ℕ) → m ≡ i + j → gate_at size i xs (record { part = m; pin = pin; bit = bit }) ≡ moved_by q.offset (origin_at (wires_of x.wires) pin bit)
  pub fits : q.offset + x.size.nodes ≤ (all_sized size xs).nodes

is_not : (m i : ℕ) (b : Bool) → nat_eq m i ≡ b → suc i ≤ m → b ≡ false
is_not m i true e lt = let same : m ≡ i = (Decides-eqb m i).0 e in absurd (omega (arith, lt, same))
is_not m i false e lt = refl

pub slot_of : (chips : Chips) (plans : List Plan) (n : ℕ) (wires : List (BitOf × Fed)) (size : Size) (i : ℕ) (ps : List Part) (xs : List Plan) (qs : List PartPlan) (j : ℕ) (p : Part) → slice_get ps j ≡ Some p → HavePlans chips plans n ps xs (places qs) → ArePartPlans wires size ps xs qs → (all_sized size xs).nodes ≤ 16777216 → Slot chips plans n wires size i xs qs j p
slot_of chips plans n wires size i [] xs qs j p e have are small = absurd cc
slot_of chips plans n wires size i (y ∷ ps) [] qs j p e have are small = absurd have
slot_of chips plans n wires size i (y ∷ ps) (x ∷ xs) [] j p e have are small = absurd have
slot_of chips plans n wires size i (y ∷ ps) (x ∷ xs) (q ∷ qs) zero p e have are small =
    let same : y ≡ p = cc in
    let exact = sum_exact size x xs small in
    let grows = sum_grows (joined_size size x.size) xs small in
    let off : q.offset ≡ size.nodes = are.0.offset in
    record {
      x = x;
      q = q;
      r = q.place;
      before = have.0.before;
      at = have.0.at;
      found = ap (λ (z : Part). find_chip chips z.chip) (sym same) ∙ have.0.found;
      plan_there = refl;
      part_there = refl;
      origins = are.0.origins ∙ ap (λ (z : Part). part_origins wires z x) same;
      gate = λ m pin bit is.
          let number : m ≡ i = omega (arith, is) in
          ap (λ (t : Bool). cond t (moved_by size.nodes (origin_at (wires_of x.wires) pin bit)) (gate_at (joined_size size x.size) (suc i) xs (record { part = m; pin = pin; bit = bit }))) ((Decides-eqb m i).1 number)
          ∙ ap (λ (o : ℕ). moved_by o (origin_at (wires_of x.wires) pin bit)) (sym off);
      fits = omega (arith, exact, grows, off);
    }
slot_of chips plans n wires size i (y ∷ ps) (x ∷ xs) (q ∷ qs) (suc j) p e have are small =
    let s = slot_of chips plans n wires (joined_size size x.size) (suc i) ps xs qs j p e have.1 are.1 small in
    record {
      x = s.x;
      q = s.q;
      r = s.r;
      before = s.before;
      at = s.at;
      found = s.found;
      plan_there = s.plan_there;
      part_there = s.part_there;
      origins = s.origins;
      gate = λ m pin bit is.
          let past : suc i ≤ m = omega (arith, is) in
          let number : m ≡ suc i + j = omega (arith, is) in
          ap (λ (t : Bool). cond t (moved_by size.nodes (origin_at (wires_of x.wires) pin bit)) (gate_at (joined_size size x.size) (suc i) xs (record { part = m; pin = pin; bit = bit }))) (is_not m i (nat_eq m i) refl past)
          ∙ s.gate m pin bit number;
      fits = s.fits;
    }

-- the nodes of parts stand one after another
starts : (wires : List (BitOf × Fed)) (size : Size) (ps : List Part) (xs : List Plan) (qs : List PartPlan) (k : ℕ) (r : PartPlan) → ArePartPlans wires size ps xs qs → (all_sized size xs).nodes ≤ 16777216 → slice_get qs k ≡ Some r → size.nodes ≤ r.offset
starts wires size [] xs [] k r are small e = absurd cc
starts wires size [] xs (q ∷ qs) k r are small e = absurd are
starts wires size (p ∷ ps) [] [] k r are small e = absurd cc
starts wires size (p ∷ ps) [] (q ∷ qs) k r are small e = absurd are
starts wires size (p ∷ ps) (x ∷ xs) [] k r are small e = absurd are
starts wires size (p ∷ ps) (x ∷ xs) (q ∷ qs) zero r are small e =
    let same : q ≡ r = cc in
    let off : q.offset ≡ size.nodes = are.0.offset in
    let here : r.offset ≡ size.nodes = ap (λ (z : PartPlan). z.offset) (sym same) ∙ off in
    omega (arith, here)
starts wires size (p ∷ ps) (x ∷ xs) (q ∷ qs) (suc k) r are small e =
    let exact = sum_exact size x xs small in
    let rest = starts wires (joined_size size x.size) ps xs qs k r are.1 small e in
    omega (arith, exact, rest)

pub stands_behind : (wires : List (BitOf × Fed)) (size : Size) (ps : List Part) (xs : List Plan) (qs : List PartPlan) (j k : ℕ) (x : Plan) (q r : PartPlan) → ArePartPlans wires size ps xs qs → (all_sized size xs).nodes ≤ 16777216 → slice_get xs j ≡ Some x → slice_get qs j ≡ Some q → slice_get qs k ≡ Some r → j < k →
    q.offset + x.size.nodes ≤ r.offset
stands_behind wires size [] xs [] j k x q r are small d e f lt = absurd cc
stands_behind wires size [] xs (p ∷ qs) j k x q r are small d e f lt = absurd are
stands_behind wires size (p ∷ ps) [] qs j k x q r are small d e f lt = absurd cc
stands_behind wires size (p ∷ ps) (y ∷ xs) [] j k x q r are small d e f lt = absurd are
stands_behind wires size (p ∷ ps) (y ∷ xs) (s ∷ qs) j zero x q r are small d e f lt = absurd (omega (arith, lt))
stands_behind wires size (p ∷ ps) (y ∷ xs) (s ∷ qs) zero (suc k) x q r are small d e f lt =
    let plan_same : y ≡ x = cc in
    let part_same : s ≡ q = cc in
    let off : q.offset ≡ size.nodes = ap (λ (z : PartPlan). z.offset) (sym part_same) ∙ are.0.offset in
    let wide : y.size.nodes ≡ x.size.nodes = ap (λ (z : Plan). z.size.nodes) plan_same in
    let exact = sum_exact size y xs small in
    let rest = starts wires (joined_size size y.size) ps xs qs k r are.1 small f in
    omega (arith, off, wide, exact, rest)
stands_behind wires size (p ∷ ps) (y ∷ xs) (s ∷ qs) (suc j) (suc k) x q r are small d e f lt = stands_behind wires (joined_size size y.size) ps xs qs j k x q r are.1 small d e f (omega (arith, lt))

-- the part that node k belongs to, counted from the chip's first
pub record Covers (chips : Chips) (ps : List Part) (xs : List Plan) (qs : List PartPlan) (k : ℕ) : Type 0 where
  pub j : ℕ
  pub p : Part
  pub x : Plan
  pub q : PartPlan
  pub there : slice_get ps j ≡ Some p
  pub found : find_chip chips p.chip ≡ Some x.entry.now
  pub plan_there : slice_get xs j ≡ Some x
  pub part_there : slice_get qs j ≡ Some q
  pub from : q.offset ≤ k
  pub to : k < q.offset + x.size.nodes

pub covered : (chips : Chips) (plans : List Plan) (n : ℕ) (wires : List (BitOf × Fed)) (k : ℕ) (size : Size) (ps : List Part) (xs : List Plan) (qs : List PartPlan) → HavePlans chips plans n ps xs (places qs) → ArePartPlans wires size ps xs qs → (all_sized size xs).nodes ≤ 16777216 → size.nodes ≤ k → k < (all_sized size xs).nodes → Covers chips ps xs qs k
covered chips plans n wires k size [] [] qs have are small from to = absurd (omega (arith, from, to))
covered chips plans n wires k size [] (x ∷ xs) qs have are small from to = absurd have
covered chips plans n wires k size (p ∷ ps) [] qs have are small from to = absurd have
covered chips plans n wires k size (p ∷ ps) (x ∷ xs) [] have are small from to = absurd have
covered chips plans n wires k size (p ∷ ps) (x ∷ xs) (q ∷ qs) have are small from to = by (λ past. covered chips plans n wires k (joined_size size x.size) ps xs qs have.1 are.1 small past to) (leb_tells (size.nodes + x.size.nodes) k)
  where
    exact : (joined_size size x.size).nodes ≡ size.nodes + x.size.nodes
    exact = sum_exact size x xs small

    by : ((joined_size size x.size).nodes ≤ k → Covers chips ps xs qs k) → ((nat_le (size.nodes + x.size.nodes) k ≡ true) × (size.nodes + x.size.nodes ≤ k)) ⊎ ((nat_le (size.nodes + x.size.nodes) k ≡ false) × (k < size.nodes + x.size.nodes)) → Covers chips (p ∷ ps) (x ∷ xs) (q ∷ qs) k
    by go (inl h) =
        let c = go (omega (arith, h.1, exact)) in
        record { j = suc c.j; p = c.p; x = c.x; q = c.q; there = c.there; found = c.found; plan_there = c.plan_there; part_there = c.part_there; from = c.from; to = c.to }
    by go (inr h) =
        let off : q.offset ≡ size.nodes = are.0.offset in
        record { j = 0; p = p; x = x; q = q; there = refl; found = have.0.found; plan_there = refl; part_there = refl; from = omega (arith, off, from); to = omega (arith, off, h.1) }
