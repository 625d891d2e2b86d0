-- Addresses whose bits stand side by side in a word.
use Rattle.std.proofs.Common.{◌≡◌, ℕ, zero, suc, ◌+◌, ◌*◌, ◌/◌, ◌%◌, ◌^◌, ◌<◌, Bool, true, false, List, [], ◌∷◌, length, refl, ap, sym, ◌∙◌, arith, add-one, nat_eq, ne_eqb, subst}
use Rattle.std.specs.Prelude.{not, ◌||◌, slice_get, slice_index, MatchOption, if◌then◌else◌}
use Rattle.std.specs.List.{list_any}
use Rattle.std.proofs.Math.Nat.{div-div-eq-div-mul}
use Rattle.std.proofs.lemmas.Nat.{mod-pow-add, pow-add}
use Rattle.std.proofs.lemmas.Bool.Decides.{nat_tests}
use Rattle.word16.specs.Words.{has_bit}
use Rattle.netlist.specs.declared.node.Block.{Block}
use Rattle.netlist.specs.Reads.{address_in}
use Rattle.netlist.specs.Value.{spelled_number}
use Rattle.netlist.proofs.Keeping.{get_there}
use Rattle.netlist.proofs.Rows.{spelled_more}
use Rattle.gate_sim.specs.declared.plan.Lane.{Lane}
use Rattle.gate_sim.specs.declared.plan.Slot.{Slot}
use Rattle.gate_sim.specs.Inner.Plans.{place_of, AreSideBySide}
use Rattle.gate_sim.specs.Inner.Slots.{slot_at, value_at, change_at}

worth : (x : ℕ) → (if nat_eq (x % 2) 1 then 1 else 0) ≡ x % 2
worth x = grind (arith, nat_tests)

-- nodes that have bits side by side spell these bits
spelled_bits : (f : ℕ → Bool) (w at : ℕ) (nodes : List ℕ) → ((i : ℕ) → i < length nodes → f (slice_index nodes i) ≡ has_bit w (at + i)) → spelled_number f nodes ≡ w / 2 ^ at % 2 ^ length nodes
spelled_bits f w at [] bits = omega arith
spelled_bits f w at (node ∷ nodes) bits =
    let n = length nodes in
    let none : at + 0 ≡ at = omega arith in
    let here : f node ≡ has_bit w at = bits 0 (omega arith) ∙ ap (has_bit w) none in
    let rest : spelled_number f nodes ≡ w / 2 ^ (at + 1) % 2 ^ n = spelled_bits f w (at + 1) nodes (λ i less. let e : at + suc i ≡ at + 1 + i = omega arith in bits (suc i) (omega arith) ∙ ap (has_bit w) e) in
    let next : w / 2 ^ (at + 1) ≡ w / 2 ^ at / 2 = ap (λ p. w / p) (pow-add 2 at 1) ∙ sym (div-div-eq-div-mul w (2 ^ at) 2) in
    let split : w / 2 ^ at % 2 ^ (n + 1) ≡ (w / 2 ^ at / 2 % 2 ^ n) * 2 + w / 2 ^ at % 2 = mod-pow-add (w / 2 ^ at) n 1 in
    let named : 2 ^ suc n ≡ 2 ^ (n + 1) = ap (λ k. 2 ^ k) (sym (add-one n)) in
    spelled_more f node nodes ∙ (rw (here, worth (w / 2 ^ at), rest, next, named, split) (omega arith))

-- one of them is on where they spell no zero
any_spelled : (f : ℕ → Bool) (nodes : List ℕ) → list_any f nodes ≡ not (nat_eq (spelled_number f nodes) 0)
any_spelled f [] = refl
any_spelled f (node ∷ nodes) = step (f node) (list_any f nodes) (spelled_number f nodes) (any_spelled f nodes) ∙ ap (λ n. not (nat_eq n 0)) (sym (spelled_more f node nodes))
  where
    step : (here rest : Bool) (n : ℕ) → rest ≡ not (nat_eq n 0) → (here || rest) ≡ not (nat_eq ((if here then 1 else 0) + 2 * n) 0)
    step true rest n e = sym (ap not (ne_eqb (1 + 2 * n) 0 (omega arith)))
    step false rest zero e = e
    step false rest (suc n) e = e ∙ ap not (ne_eqb (suc n) 0 (omega arith)) ∙ sym (ap not (ne_eqb (0 + 2 * suc n) 0 (omega arith)))

-- the number that an address spells, and whether it changed, are bits of the words of its slot
module _ (places : List Lane) (q : ℕ) (nodes : List ℕ) (first : Lane) (side : AreSideBySide places q nodes first) (slots : List Slot) where
  pub number_side : spelled_number (value_at places slots) nodes ≡ (slot_at slots first.slot).value / 2 ^ first.at % 2 ^ length nodes
  number_side = spelled_bits (value_at places slots) (slot_at slots first.slot).value first.at nodes (λ i less.
      let at = side.lanes i less in
      ap (λ r. has_bit (slot_at slots r).value (place_of places (slice_index nodes i)).at) at.0 ∙ ap (has_bit (slot_at slots first.slot).value) at.1)

  pub any_side : list_any (change_at places slots) nodes ≡ not (nat_eq ((slot_at slots first.slot).change / 2 ^ first.at % 2 ^ length nodes) 0)
  any_side =
      any_spelled (change_at places slots) nodes
      ∙ ap (λ n. not (nat_eq n 0)) (spelled_bits (change_at places slots) (slot_at slots first.slot).change first.at nodes (λ i less.
      let at = side.lanes i less in
      ap (λ r. has_bit (slot_at slots r).change (place_of places (slice_index nodes i)).at) at.0 ∙ ap (has_bit (slot_at slots first.slot).change) at.1))

pub side_there : (places : List Lane) (q : ℕ) (blocks : List Block) (b : ℕ) (first : Lane) → b < length blocks → AreSideBySide places q (address_in (slice_get blocks b)) first → MatchOption (slice_get blocks b) ⊥ (λ block. AreSideBySide places q block.address first)
side_there places q blocks b first inside side =
    let there = get_there blocks b inside in
    subst (λ o. MatchOption o ⊥ (λ block. AreSideBySide places q block.address first)) (sym there.1) (subst (λ o. AreSideBySide places q (address_in o) first) there.1 side)
