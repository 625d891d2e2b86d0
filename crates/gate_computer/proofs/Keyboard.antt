-- The pins of the keyboard, and the keys that they hold.
use Rattle.std.proofs.Common.{◌≡◌, ◌≢◌, ◌<◌, ◌≤◌, ◌+◌, ◌⊎◌, ℕ, zero, suc, Bool, false, List, [], ◌∷◌, length, refl, inl, inr, ap, ◌∙◌, sym, arith, eq-eqb, ne_eqb}
use Rattle.std.specs.Prelude.{if◌then◌else◌, nat_eq, nat_lt, slice_index}
use Rattle.std.proofs.lemmas.Bool.{cases_eq, cases_lt, lt-ltb, le-ltb}
use Rattle.word16.specs.Words.{has_bit}
use Rattle.netlist.specs.declared.node.Node.{Node}
use Rattle.gate_sim.specs.Calls.{Call, pins_of}
use Rattle.gate_computer.specs.Calls.{HoldsKey}
use Rattle.gate_computer.specs.Inner.Told.{HoldsPart, ChangesPin}

-- a node is one of these, or none of them
pub find : (nodes : List ℕ) (k : ℕ) → ((j : ℕ) × (j < length nodes) × (slice_index nodes j ≡ k)) ⊎ ((j : ℕ) → j < length nodes → slice_index nodes j ≢ k)
find [] k = inr (λ j less e. absurd (omega (arith, less)))
find (node ∷ nodes) k =
    elim (cases_eq node k) [
      | inl e ↦ inl (0, omega arith, e)
      | inr ne ↦ behind (find nodes k) ne
    ]
  where
    behind : ((j : ℕ) × (j < length nodes) × (slice_index nodes j ≡ k)) ⊎ ((j : ℕ) → j < length nodes → slice_index nodes j ≢ k) → (node ≡ k → ⊥)
        → ((j : ℕ) × (j < length (node ∷ nodes)) × (slice_index (node ∷ nodes) j ≡ k)) ⊎ ((j : ℕ) → j < length (node ∷ nodes) → slice_index (node ∷ nodes) j ≢ k)
    behind (inl there) ne = inl (suc there.0, let less = there.1 in omega (arith, less), there.2)
    behind (inr out) ne = inr (missing out ne)
      where
        missing : ((j : ℕ) → j < length nodes → slice_index nodes j ≢ k) → (node ≡ k → ⊥) → (j : ℕ) → j < length (node ∷ nodes) → slice_index (node ∷ nodes) j ≢ k
        missing out ne zero less = ne
        missing out ne (suc j) less = out j (omega (arith, less))

-- pins that hold one key are the same
pub same_pins : (keyboard : List ℕ) (key : ℕ) (p q : ℕ → Bool) → HoldsKey keyboard key p → HoldsKey keyboard key q → (k : ℕ) → p k ≡ q k
same_pins keyboard key p q hp hq k =
    elim (find keyboard k) [
      | inl there ↦ ap p (sym there.2) ∙ hp.bits there.0 there.1 ∙ sym (hq.bits there.0 there.1) ∙ ap q there.2
      | inr out ↦ hp.others k out ∙ sym (hq.others k out)
    ]

-- ---- a history that holds a key

-- the bit of a node, where those of the list, from place j on, have these bits
pub at_pin : List ℕ → ℕ → (ℕ → Bool) → ℕ → Bool
at_pin [] j bits k = false
at_pin (node ∷ nodes) j bits k = if nat_eq node k then bits j else at_pin nodes (suc j) bits k

abbrev pub Apart : List ℕ → Type 0
Apart nodes = (j k : ℕ) → j < k → k < length nodes → slice_index nodes j ≢ slice_index nodes k

bits_at : (nodes : List ℕ) (j : ℕ) (bits : ℕ → Bool) → Apart nodes → (i : ℕ) → i < length nodes → at_pin nodes j bits (slice_index nodes i) ≡ bits (j + i)
unfolding at_pin
bits_at [] j bits apart i less = absurd (omega (arith, less))
bits_at (node ∷ nodes) j bits apart zero less =
    ap (λ b. if b then bits j else at_pin nodes (suc j) bits node) (eq-eqb node node refl) ∙ ap bits (let e : j ≡ j + 0 = omega arith in e)
bits_at (node ∷ nodes) j bits apart (suc i) less =
    let ne : node ≢ slice_index nodes i = apart 0 (suc i) (omega arith) less in
    ap (λ b. if b then bits j else at_pin nodes (suc j) bits (slice_index nodes i)) (ne_eqb node (slice_index nodes i) ne)
    ∙ bits_at nodes (suc j) bits (λ a b lt near. apart (suc a) (suc b) (omega arith) (omega arith)) i (omega (arith, less))
    ∙ ap bits (let e : suc j + i ≡ j + suc i = omega arith in e)

others_at : (nodes : List ℕ) (j : ℕ) (bits : ℕ → Bool) (k : ℕ) → ((i : ℕ) → i < length nodes → slice_index nodes i ≢ k) → at_pin nodes j bits k ≡ false
unfolding at_pin
others_at [] j bits k out = refl
others_at (node ∷ nodes) j bits k out =
    let ne : node ≢ k = out 0 (omega arith) in
    ap (λ b. if b then bits j else at_pin nodes (suc j) bits k) (ne_eqb node k ne) ∙ others_at nodes (suc j) bits k (λ i less. out (suc i) (omega arith))

pub held_by : (keyboard : List ℕ) (key : ℕ) → Apart keyboard → HoldsKey keyboard key (at_pin keyboard 0 (has_bit key))
held_by keyboard key apart = record {
  bits = λ j less. bits_at keyboard 0 (has_bit key) apart j less ∙ ap (has_bit key) (let e : 0 + j ≡ j = omega arith in e);
  others = λ k out. others_at keyboard 0 (has_bit key) k out;
}

-- ---- setting the keyboard, pin by pin

pub unchanged : (nodes : List Node) (calls : List Call) (node : ℕ) (bit : Bool) → pins_of nodes calls node ≡ bit → ChangesPin nodes calls node bit (pins_of nodes calls)
unchanged nodes calls node bit is k =
    elim (cases_eq node k) [
      | inl e ↦ ap (pins_of nodes calls) (sym e) ∙ is ∙ ap (λ b. if b then bit else pins_of nodes calls k) (sym (eq-eqb node k e))
      | inr ne ↦ ap (λ b. if b then bit else pins_of nodes calls k) (sym (ne_eqb node k ne))
    ]

pub none_set : (keyboard : List ℕ) (key old : ℕ) (pin : ℕ → Bool) → HoldsKey keyboard old pin → HoldsPart keyboard 0 key old pin
none_set keyboard key old pin h = record {
  bits = λ j less. h.bits j less ∙ ap (λ b. has_bit (if b then key else old) j) (sym (le-ltb j 0 (omega arith)));
  others = h.others;
}

pub next_bit : (keyboard : List ℕ) (i key old : ℕ) (pin : ℕ → Bool) → i < length keyboard → HoldsPart keyboard i key old pin → pin (slice_index keyboard i) ≡ has_bit old i
next_bit keyboard i key old pin less h = h.bits i less ∙ ap (λ b. has_bit (if b then key else old) i) (le-ltb i i (omega arith))

pub one_more : (nodes : List Node) (keyboard : List ℕ) (i key old : ℕ) (calls : List Call) (pin : ℕ → Bool) → Apart keyboard → i < length keyboard
    → HoldsPart keyboard i key old (pins_of nodes calls) → ChangesPin nodes calls (slice_index keyboard i) (has_bit key i) pin → HoldsPart keyboard (suc i) key old pin
one_more nodes keyboard i key old calls pin apart near h changes = record {
  bits = λ j less.
      elim (cases_eq i j) [
        | inl e ↦
            changes (slice_index keyboard j)
            ∙ ap (λ b. if b then has_bit key i else pins_of nodes calls (slice_index keyboard j)) (eq-eqb (slice_index keyboard i) (slice_index keyboard j) (ap (slice_index keyboard) e))
            ∙ ap (has_bit key) e ∙ ap (λ b. has_bit (if b then key else old) j) (sym (lt-ltb j (suc i) (omega arith)))
        | inr ne ↦
            let other : slice_index keyboard i ≢ slice_index keyboard j = differ i j ne near less in
            changes (slice_index keyboard j)
            ∙ ap (λ b. if b then has_bit key i else pins_of nodes calls (slice_index keyboard j)) (ne_eqb (slice_index keyboard i) (slice_index keyboard j) other)
            ∙ h.bits j less ∙ ap (λ b. has_bit (if b then key else old) j) (same_side i j ne)
      ];
  others = λ k out.
      changes k ∙ ap (λ b. if b then has_bit key i else pins_of nodes calls k) (ne_eqb (slice_index keyboard i) k (out i near)) ∙ h.others k out;
}
  where
    differ : (i j : ℕ) → i ≢ j → i < length keyboard → j < length keyboard → slice_index keyboard i ≢ slice_index keyboard j
    differ i j ne a b =
        elim (cases_lt i j) [
          | inl lt ↦ apart i j lt b
          | inr le ↦ λ e. apart j i (let d = ne in omega arith) a (sym e)
        ]

    same_side : (i j : ℕ) → i ≢ j → nat_lt j i ≡ nat_lt j (suc i)
    same_side i j ne =
        elim (cases_lt j i) [
          | inl lt ↦ lt-ltb j i lt ∙ sym (lt-ltb j (suc i) (omega arith))
          | inr le ↦ le-ltb j i le ∙ sym (le-ltb j (suc i) (let d = ne in omega arith))
        ]

pub all_set : (keyboard : List ℕ) (i key old : ℕ) (pin : ℕ → Bool) → length keyboard ≤ i → HoldsPart keyboard i key old pin → HoldsKey keyboard key pin
all_set keyboard i key old pin far h = record {
  bits = λ j less. h.bits j less ∙ ap (λ b. has_bit (if b then key else old) j) (lt-ltb j i (omega arith));
  others = h.others;
}
