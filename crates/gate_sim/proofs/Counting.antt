-- How many nodes are evaluated.
use Rattle.std.proofs.Common.{◌≡◌, ℕ, zero, suc, ◌+◌, ◌*◌, ◌<◌, ◌≤◌, Bool, true, false, List, length, get_or, take, refl, ap, sym, ◌∙◌, arith, inl, inr}
use Rattle.std.specs.Prelude.{nat_lt, if◌then◌else◌}
use Rattle.std.specs.List.{count_by}
use Rattle.std.proofs.lemmas.Bool.{cases_eq, cases_Bool, and_parts, lt-ltb, le-ltb, ltb-true}
use Rattle.std.proofs.lemmas.List.{take_all}
use Rattle.std.proofs.lemmas.List.Sums.{count_by_more_yes, count_by_more_no}
use Rattle.netlist.specs.declared.node.Node.{Node}
use Rattle.netlist.specs.declared.node.Node.TheVariants.{Pin}
use Rattle.gate_sim.specs.declared.plan.Lane.{Lane}
use Rattle.gate_sim.specs.Inner.Plans.{place_of, StandsAt}
use Rattle.gate_sim.specs.Inner.Slots.{count_below, is_taken_before}

one_weaker : (x y : Bool) → (x ≡ true → y ≡ true) → (if x then 1 else 0) ≤ (if y then 1 else 0)
one_weaker true y h = let e = h refl in rw e (omega arith)
one_weaker false true h = omega arith
one_weaker false false h = omega arith

-- fewer pass a stronger test
pub below_weaker : (f g : ℕ → Bool) (n : ℕ) → ((k : ℕ) → k < n → f k ≡ true → g k ≡ true) → count_below f n ≤ count_below g n
below_weaker f g zero h = omega arith
below_weaker f g (suc n) h =
    let rest = below_weaker f g n (λ k less. h k (omega arith)) in
    let here = one_weaker (f n) (g n) (h n (omega arith)) in
    omega arith

-- and one fewer, where one fails it that passes the other
pub below_more : (f g : ℕ → Bool) (n k : ℕ) → ((i : ℕ) → i < n → f i ≡ true → g i ≡ true) → k < n → f k ≡ false → g k ≡ true → count_below f n + 1 ≤ count_below g n
below_more f g zero k h less off on = absurd (omega arith)
below_more f g (suc n) k h less off on =
    elim (cases_eq k n) [
      | inl e ↦
          let rest = below_weaker f g n (λ i small. h i (omega arith)) in
          let off' : f n ≡ false = ap f (sym e) ∙ off in
          let on' : g n ≡ true = ap g (sym e) ∙ on in
          rw (off', on') (omega arith)
      | inr ne ↦
          let rest = below_more f g n k (λ i small. h i (omega arith)) (omega arith) off on in
          let here = one_weaker (f n) (g n) (h n (omega arith)) in
          omega arith
    ]

pub same_count : (f g : ℕ → Bool) (n : ℕ) → ((l : ℕ) → l < n → f l ≡ g l) → count_below f n ≡ count_below g n
same_count f g zero h = refl
same_count f g (suc n) h =
    let rest = same_count f g n (λ l less. h l (omega arith)) in
    let here = h n (omega arith) in
    rw (rest, here) refl

pub none_count : (f : ℕ → Bool) (n : ℕ) → ((l : ℕ) → l < n → f l ≡ false) → count_below f n ≡ 0
none_count f zero h = refl
none_count f (suc n) h =
    let rest = none_count f n (λ l less. h l (omega arith)) in
    let here = h n (omega arith) in
    rw (rest, here) refl

module _ (nodes : List Node) (places : List Lane) (taken : Node → Bool) where
  up_to : ℕ → ℕ
  up_to p = count_below (is_taken_before nodes places taken p) (length nodes)

  before_weaker : (p r : ℕ) → p ≤ r → (k : ℕ) → is_taken_before nodes places taken p k ≡ true → is_taken_before nodes places taken r k ≡ true
  before_weaker p r le k e =
      let parts = and_parts (taken (get_or nodes k Pin)) (nat_lt (16 * (place_of places k).slot + (place_of places k).at) p) e in
      let less = ltb-true (16 * (place_of places k).slot + (place_of places k).at) p parts.1 in
      let on = lt-ltb (16 * (place_of places k).slot + (place_of places k).at) r (omega arith) in
      rw (parts.0, on) refl

  pub more_before : (p r : ℕ) → p ≤ r → count_below (is_taken_before nodes places taken p) (length nodes) ≤ count_below (is_taken_before nodes places taken r) (length nodes)
  more_before p r le = below_weaker (is_taken_before nodes places taken p) (is_taken_before nodes places taken r) (length nodes) (λ k less e. before_weaker p r le k e)

  -- the node whose place is lane l of slot q is counted there
  pub one_before : (q l k : ℕ) → k < length nodes → StandsAt places k q l → taken (get_or nodes k Pin) ≡ true → count_below (is_taken_before nodes places taken (16 * q + l)) (length nodes) + 1 ≤ count_below (is_taken_before nodes places taken (16 * q + l + 1)) (length nodes)
  one_before q l k less stands on =
      let slot = stands.0 in
      let at = stands.1 in
      let here : 16 * (place_of places k).slot + (place_of places k).at ≡ 16 * q + l = rw (slot, at) refl in
      let off = le-ltb (16 * (place_of places k).slot + (place_of places k).at) (16 * q + l) (omega arith) in
      let late = lt-ltb (16 * (place_of places k).slot + (place_of places k).at) (16 * q + l + 1) (omega arith) in
      below_more (is_taken_before nodes places taken (16 * q + l)) (is_taken_before nodes places taken (16 * q + l + 1)) (length nodes) k
      (λ i small e. before_weaker (16 * q + l) (16 * q + l + 1) (omega arith) i e) less
      (rw (on, off) refl) (rw (on, late) refl)

  -- lanes that are taken, each of which is the place of a node that is taken
  pub lanes_before : (q : ℕ) (touched : ℕ → Bool) → ((l : ℕ) → l < 16 → touched l ≡ true → (k : ℕ) × (k < length nodes) × StandsAt places k q l × (taken (get_or nodes k Pin) ≡ true)) → (m : ℕ) → m ≤ 16 → count_below touched m + count_below (is_taken_before nodes places taken (16 * q)) (length nodes) ≤ count_below (is_taken_before nodes places taken (16 * q + m)) (length nodes)
  lanes_before q touched each zero le = let more = more_before (16 * q) (16 * q + 0) (omega arith) in omega arith
  lanes_before q touched each (suc m) le =
      let rest = lanes_before q touched each m (omega arith) in
      let next : 16 * q + suc m ≡ 16 * q + m + 1 = omega arith in
      elim (cases_Bool (touched m)) [
        | inl on ↦
            let k = each m (omega arith) on in
            let one = one_before q m k.0 k.1 k.2 k.3 in
            rw (on, next) (omega arith)
        | inr off ↦
            let more = more_before (16 * q + m) (16 * q + m + 1) (omega arith) in
            rw (off, next) (omega arith)
      ]

  -- the first numbers are the first elements
  take_below : (n : ℕ) → n ≤ length nodes → count_below (λ k. taken (get_or nodes k Pin)) n ≡ count_by taken (take n nodes)
  take_below zero le = refl
  take_below (suc n) le =
      let rest = take_below n (omega arith) in
      let next : suc n ≡ n + 1 = omega arith in
      elim (cases_Bool (taken (get_or nodes n Pin))) [
        | inl on ↦ let more = count_by_more_yes taken nodes n Pin (omega arith) on in rw (on, next, more) (omega arith)
        | inr off ↦ let more = count_by_more_no taken nodes n Pin (omega arith) off in rw (off, next, more) (omega arith)
      ]

  -- no more are counted than there are
  pub all_before : (p : ℕ) → count_below (is_taken_before nodes places taken p) (length nodes) ≤ count_by taken nodes
  all_before p =
      let weaker = below_weaker (is_taken_before nodes places taken p) (λ k. taken (get_or nodes k Pin)) (length nodes) (λ k less e. (and_parts (taken (get_or nodes k Pin)) (nat_lt (16 * (place_of places k).slot + (place_of places k).at) p) e).0) in
      let same = take_below (length nodes) (omega arith) in
      let whole : take (length nodes) nodes ≡ nodes = take_all (length nodes) nodes (omega arith) in
      let all : count_by taken (take (length nodes) nodes) ≡ count_by taken nodes = ap (count_by taken) whole in
      omega arith
