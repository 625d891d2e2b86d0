-- What two netlists show after the same calls, where one is folded into the other.
use Rattle.std.proofs.Common.{◌≡◌, ℕ, zero, suc, ◌<◌, ◌≤◌, Bool, true, false, List, [], ◌∷◌, length, Some, refl, inl, inr, ap, sym, ◌∙◌, subst, arith, eq-eqb, ne_eqb}
use Rattle.std.specs.Prelude.{nat_eq, slice_get, slice_index, if◌then◌else◌, ◌&&◌}
use Rattle.std.proofs.lemmas.Bool.{cases_eq}
use Rattle.netlist.specs.declared.node.Node.TheVariants.{Pin}
use Rattle.netlist.specs.Net.{Net}
use Rattle.netlist.specs.Order.{AreOrdered}
use Rattle.netlist.specs.Histories.{rank}
use Rattle.netlist.specs.Folded.{IsFolded, AreAlike}
use Rattle.netlist.specs.Words.{after_load}
use Rattle.netlist.proofs.Folded.{folded_alike, written_alike}
use Rattle.net_simplify.specs.Twice.{IsFoldedTwice}
use Rattle.gate_sim.specs.Calls.{Call, cycle_of, input_bit, is_pin, pins_of, at_tick}
use Rattle.gate_sim.specs.Calls.Call.{Load, Set, Eval, Tick, Tock}
use Rattle.gate_sim.specs.Values.{ArePast, AreValues, value_after, words_of, written_before}
use Rattle.gate_sim.proofs.Past.{cycle_grows}
use Rattle.gate_sim.proofs.Exist.{tick_cycle, values_of}

-- ---- values as those of past cycles

past_of_values : (net : Net) (calls : List Call) (v : ℕ → ℕ → Bool) → AreValues net calls v → ArePast net (Tick ∷ calls) (suc (cycle_of calls)) v
past_of_values net calls v are c k node less there =
    elim (cases_eq c (cycle_of calls)) [
      | inl e ↦
          let t : nat_eq c (cycle_of calls) ≡ true = eq-eqb c (cycle_of calls) e in
          subst (λ b. v k c ≡ value_after net (if b then calls else at_tick calls c) v k c node) (sym t)
          (subst (λ d. v k d ≡ value_after net calls v k d node) (sym e) (are.1 k node there))
      | inr ne ↦
          let f : nat_eq c (cycle_of calls) ≡ false = ne_eqb c (cycle_of calls) ne in
          subst (λ b. v k c ≡ value_after net (if b then calls else at_tick calls c) v k c node) (sym f) (are.0 c k node (omega arith) there)
    ]

-- ---- one netlist in another

module _ (old new : Net) (used : ℕ → Bool) (place : ℕ → ℕ) (ordered : AreOrdered old.nodes old.blocks) (folded : IsFolded old new used place) where
  -- pins of one rank are set alike
  pins_alike : (calls : List Call) (k l : ℕ) → slice_get old.nodes k ≡ Some Pin → slice_get new.nodes l ≡ Some Pin → rank old.nodes k ≡ rank new.nodes l
      → pins_of old.nodes calls k ≡ pins_of new.nodes calls l
  pins_alike calls k l a b e =
      ap (λ o. is_pin o && input_bit calls (rank old.nodes k)) a ∙ ap (input_bit calls) e
      ∙ sym (ap (λ o. is_pin o && input_bit calls (rank new.nodes l)) b)

  before_alike : (v w : ℕ → ℕ → Bool) (n : ℕ) → AreAlike old used place n v w → (b a x y : ℕ) → x ≡ y → written_before old.blocks v n b a x ≡ written_before new.blocks w n b a y
  before_alike v w zero same b a x y e = e
  before_alike v w (suc c) same b a x y e =
      written_alike old new used place ordered folded b (λ i. v i c) (λ i. w i c) a x y (λ k u within. same c k (omega arith) u within) e

  fewer : (v w : ℕ → ℕ → Bool) (m n : ℕ) → m ≤ n → AreAlike old used place n v w → AreAlike old used place m v w
  fewer v w m n le same c k less u within = same c k (omega (arith, less, le)) u within

  pub words_alike : (calls : List Call) (v w : ℕ → ℕ → Bool) → AreAlike old used place (cycle_of calls) v w → (b a : ℕ) → words_of old.blocks v calls b a ≡ words_of new.blocks w calls b a
  words_alike [] v w same b a = refl
  words_alike (Load block from words ∷ calls) v w same b a = ap (after_load block from words b a) (words_alike calls v w same b a)
  words_alike (Set input bit ∷ calls) v w same b a = words_alike calls v w same b a
  words_alike (Eval ∷ calls) v w same b a = words_alike calls v w same b a
  words_alike (Tick ∷ calls) v w same b a = words_alike calls v w same b a
  words_alike (Tock ∷ calls) v w same b a =
      let grows = cycle_grows calls in
      before_alike v w (cycle_of (Tock ∷ calls)) same b a (words_of old.blocks v calls b a) (words_of new.blocks w calls b a)
      (words_alike calls v w (fewer v w (cycle_of calls) (cycle_of (Tock ∷ calls)) grows same) b a)

  past_alike : (calls : List Call) (n : ℕ) (v w : ℕ → ℕ → Bool) → ArePast old calls n v → ArePast new calls n w → AreAlike old used place n v w
  past_alike calls n v w past new_past =
      folded_alike old new used place ordered folded n (λ c. pins_of old.nodes (at_tick calls c)) (λ c. pins_of new.nodes (at_tick calls c))
      (λ c. words_of old.blocks v (at_tick calls c)) (λ c. words_of new.blocks w (at_tick calls c)) v w
      (λ c k l less a b e. pins_alike (at_tick calls c) k l a b e)
      (λ c less same b a. words_alike (at_tick calls c) v w (fewer v w (cycle_of (at_tick calls c)) c (tick_cycle calls c) same) b a)
      past new_past

  -- the values of the present cycle too
  pub values_alike : (calls : List Call) (v w : ℕ → ℕ → Bool) → AreValues old calls v → AreValues new calls w → AreAlike old used place (suc (cycle_of calls)) v w
  values_alike calls v w are new_are =
      past_alike (Tick ∷ calls) (suc (cycle_of calls)) v w (past_of_values old calls v are) (past_of_values new calls w new_are)

-- ---- one netlist in another, by a third

module _ (old new : Net) (keep places : List ℕ) (at : ℕ → ℕ) (ordered : AreOrdered old.nodes old.blocks) (twice : IsFoldedTwice old new keep places)
    (placed : (i : ℕ) → i < length keep → at (slice_index keep i) ≡ slice_index places i) where
  -- a node is one of those that are kept
  abbrev pub IsKept : ℕ → Type 0
  IsKept k = (i : ℕ) × (i < length keep) × (slice_index keep i ≡ k)

  place_is : (k : ℕ) → IsKept k → (twice.used (twice.to k) ≡ true) × (twice.to k < length twice.middle.nodes) × (at k ≡ twice.on (twice.to k))
  place_is k (i, less, is) =
      let h = twice.kept i less in
      subst (λ n. (twice.used (twice.to n) ≡ true) × (twice.to n < length twice.middle.nodes) × (at n ≡ twice.on (twice.to n))) is (h.0, h.1, placed i less ∙ h.2)

  -- a pin that is kept has a pin of its rank as its place
  pub kept_pin : (k : ℕ) → IsKept k → slice_get old.nodes k ≡ Some Pin → (slice_get new.nodes (at k) ≡ Some Pin) × (rank old.nodes k ≡ rank new.nodes (at k))
  kept_pin k kept pin =
      let p = place_is k kept in
      let q = twice.first.pin k refl pin in
      let r = twice.second.pin (twice.to k) p.0 q.0 in
      subst (λ l. (slice_get new.nodes l ≡ Some Pin) × (rank old.nodes k ≡ rank new.nodes l)) (sym p.2) (r.0, q.1 ∙ r.1)

  module _ (calls : List Call) where
    pub kept_alike : (v w : ℕ → ℕ → Bool) → AreValues old calls v → AreValues new calls w → (k : ℕ) → IsKept k → k < length old.nodes → v k (cycle_of calls) ≡ w (at k) (cycle_of calls)
    kept_alike v w are new_are k kept within =
        let u = values_of twice.middle twice.ordered calls in
        let p = place_is k kept in
        let n = cycle_of calls in
        let a = values_alike old twice.middle (λ _. true) twice.to ordered twice.first calls v u.0 are u.1 in
        let b = values_alike twice.middle new twice.used twice.on twice.ordered twice.second calls u.0 w u.1 new_are in
        a n k (omega arith) refl within
        ∙ b n (twice.to k) (omega arith) p.0 p.1
        ∙ ap (λ l. w l n) (sym p.2)

    -- the words, where the calls that came later went through no cycle
    pub kept_words : (later : List Call) → cycle_of later ≡ cycle_of calls → (v w : ℕ → ℕ → Bool) → AreValues old calls v → AreValues new calls w → (b a : ℕ)
        → words_of old.blocks v later b a ≡ words_of new.blocks w later b a
    kept_words later same v w are new_are b a =
        let u = values_of twice.middle twice.ordered calls in
        let x = values_alike old twice.middle (λ _. true) twice.to ordered twice.first calls v u.0 are u.1 in
        let y = values_alike twice.middle new twice.used twice.on twice.ordered twice.second calls u.0 w u.1 new_are in
        words_alike old twice.middle (λ _. true) twice.to ordered twice.first later v u.0
        (fewer old twice.middle (λ _. true) twice.to ordered twice.first v u.0 (cycle_of later) (suc (cycle_of calls)) (omega (arith, same)) x) b a
        ∙ words_alike twice.middle new twice.used twice.on twice.ordered twice.second later u.0 w
        (fewer twice.middle new twice.used twice.on twice.ordered twice.second u.0 w (cycle_of later) (suc (cycle_of calls)) (omega (arith, same)) y) b a
