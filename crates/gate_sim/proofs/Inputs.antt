-- Pins by their nodes and by their ranks.
use Rattle.std.proofs.Common.{◌≡◌, ℕ, zero, suc, ◌+◌, ◌<◌, Bool, true, false, List, [], ◌∷◌, Some, None, Option, refl, ap, sym, ◌∙◌, arith, inl, inr, eq-eqb, ne_eqb}
use Rattle.std.specs.Prelude.{slice_get, nat_eq, ◌||◌, ◌&&◌, if◌then◌else◌}
use Rattle.std.proofs.lemmas.Option.{same_Some}
use Rattle.std.proofs.lemmas.Bool.{cases_eq, false≢true}
use Rattle.netlist.specs.declared.node.Node.{Node}
use Rattle.netlist.specs.declared.node.Node.TheVariants.{Pin, Nand, Flip, Word, Zero}
use Rattle.netlist.specs.Histories.{rank}
use Rattle.netlist.proofs.Ranks.{same_pin}
use Rattle.gate_sim.specs.Calls.{Call, input_bit, is_pin, pins_of, was_input_set, was_set}
use Rattle.gate_sim.specs.Calls.Call.{Set}

-- what is no pin is another node
not_there : (nodes : List Node) (node k : ℕ) (o : Option Node) → slice_get nodes node ≡ Some Pin → slice_get nodes k ≡ o → is_pin o ≡ false → nat_eq node k ≡ false
not_there nodes node k o pin there other = ne_eqb node k (λ e. false≢true (sym other ∙ ap is_pin (sym there ∙ ap (slice_get nodes) (sym e) ∙ pin)))

-- of a pin the test by rank is the test by node
same_test : (nodes : List Node) (node k : ℕ) → slice_get nodes node ≡ Some Pin → slice_get nodes k ≡ Some Pin → nat_eq (rank nodes node) (rank nodes k) ≡ nat_eq node k
same_test nodes node k pin there =
    elim (cases_eq node k) [
      | inl e ↦ eq-eqb (rank nodes node) (rank nodes k) (ap (rank nodes) e) ∙ sym (eq-eqb node k e)
      | inr ne ↦ ne_eqb (rank nodes node) (rank nodes k) (λ e. ne (same_pin nodes node k pin there e)) ∙ sym (ne_eqb node k ne)
    ]

-- the pins after one was set
pins_by : (nodes : List Node) (calls : List Call) (node : ℕ) (bit : Bool) → slice_get nodes node ≡ Some Pin → (k : ℕ) (o : Option Node) → slice_get nodes k ≡ o → (is_pin o && (if nat_eq (rank nodes node) (rank nodes k) then bit else input_bit calls (rank nodes k))) ≡ (if nat_eq node k then bit else is_pin o && input_bit calls (rank nodes k))
pins_by nodes calls node bit pin k None there = sym (ap (λ (t : Bool). if t then bit else false) (not_there nodes node k None pin there refl))
pins_by nodes calls node bit pin k (Some Pin) there = ap (λ (t : Bool). if t then bit else input_bit calls (rank nodes k)) (same_test nodes node k pin there)
pins_by nodes calls node bit pin k (Some (Nand i j)) there = sym (ap (λ (t : Bool). if t then bit else false) (not_there nodes node k _ pin there refl))
pins_by nodes calls node bit pin k (Some (Flip i)) there = sym (ap (λ (t : Bool). if t then bit else false) (not_there nodes node k _ pin there refl))
pins_by nodes calls node bit pin k (Some (Word n b)) there = sym (ap (λ (t : Bool). if t then bit else false) (not_there nodes node k _ pin there refl))
pins_by nodes calls node bit pin k (Some Zero) there = sym (ap (λ (t : Bool). if t then bit else false) (not_there nodes node k _ pin there refl))

pub pins_set : (nodes : List Node) (calls : List Call) (node : ℕ) (bit : Bool) → slice_get nodes node ≡ Some Pin → (k : ℕ) → pins_of nodes (Set (rank nodes node) bit ∷ calls) k ≡ (if nat_eq node k then bit else pins_of nodes calls k)
pins_set nodes calls node bit pin k = pins_by nodes calls node bit pin k (slice_get nodes k) refl

-- the same of what was set
set_by : (nodes : List Node) (calls : List Call) (node : ℕ) → slice_get nodes node ≡ Some Pin → (k : ℕ) (o : Option Node) → slice_get nodes k ≡ o → (is_pin o && (nat_eq (rank nodes node) (rank nodes k) || was_input_set calls (rank nodes k))) ≡ (nat_eq node k || (is_pin o && was_input_set calls (rank nodes k)))
set_by nodes calls node pin k None there = sym (ap (λ (t : Bool). t || false) (not_there nodes node k None pin there refl))
set_by nodes calls node pin k (Some Pin) there = ap (λ (t : Bool). t || was_input_set calls (rank nodes k)) (same_test nodes node k pin there)
set_by nodes calls node pin k (Some (Nand i j)) there = sym (ap (λ (t : Bool). t || false) (not_there nodes node k _ pin there refl))
set_by nodes calls node pin k (Some (Flip i)) there = sym (ap (λ (t : Bool). t || false) (not_there nodes node k _ pin there refl))
set_by nodes calls node pin k (Some (Word n b)) there = sym (ap (λ (t : Bool). t || false) (not_there nodes node k _ pin there refl))
set_by nodes calls node pin k (Some Zero) there = sym (ap (λ (t : Bool). t || false) (not_there nodes node k _ pin there refl))

pub set_more : (nodes : List Node) (calls : List Call) (node : ℕ) (bit : Bool) → slice_get nodes node ≡ Some Pin → (k : ℕ) → was_set nodes (Set (rank nodes node) bit ∷ calls) k ≡ (nat_eq node k || was_set nodes calls k)
set_more nodes calls node bit pin k = set_by nodes calls node pin k (slice_get nodes k) refl

pub unset : (b : Bool) → (b && false) ≡ false
unset true = refl
unset false = refl
