-- Parts of a chip without faults nest less deep than there are chips.
use Rattle.std.proofs.Common.{◌≡◌, ℕ, zero, suc, ◌<◌, List, [], ◌∷◌, length, Some, refl, sym, subst, arith}
use Rattle.std.specs.Prelude.{slice_get}
use Rattle.hdl_tree.specs.declared.library.Entry.{Entry}
use Rattle.hdl_tree.specs.Chips.{Chips, find_chip, parts_of}
use Rattle.hdl_tree.specs.Behaviour.{inner_chip}
use Rattle.hdl_check.specs.Locations.{IsFaultless}
use Rattle.hdl_plans.specs.Ways.{JointsFit, TreeFits}
use Rattle.hdl_plans.proofs.Fewer.{left, left_all, left_less}
use Rattle.hdl_plans.proofs.Fits.{tree_fits}
use Rattle.hdl_plans.proofs.Nesting.{inner_by}
use Rattle.hdl_plans.proofs.Walks.{at_part}
use Rattle.hdl_loops.specs.Inner.Knowing.{Nests}

nests : (d : ℕ) (chips : Chips) (names : List (List ℕ)) (chip : Entry) → IsFaultless chips names chip → left names chips.entries < d → Nests d chips chip
nests zero chips names chip faultless lt = absurd (omega (arith, lt))
nests (suc d) chips names chip faultless lt = (
  tree_fits chips names chip faultless [] chip refl,
  λ i inner e.
      let n = inner_by chips names chip i inner (slice_get (parts_of chips chip) i) refl e faultless in
      let less = left_less chips.entries n.name inner names n.there n.apart in
      nests d chips (inner.name ∷ names) inner n.faultless (omega (arith, less, lt)),
)

pub faultless_nests : (chips : Chips) (name : List ℕ) (chip : Entry) → find_chip chips name ≡ Some chip → IsFaultless chips (chip.name ∷ []) chip → Nests (length chips.entries) chips chip
faultless_nests chips name chip there faultless =
    let less = left_less chips.entries name chip [] there refl in
    let all = left_all chips.entries in
    nests (length chips.entries) chips (chip.name ∷ []) chip faultless (omega (arith, less, all))

pub not_zero : (d : ℕ) (chips : Chips) (chip : Entry) → Nests d chips chip → 0 < d
not_zero zero chips chip n = absurd n
not_zero (suc d) chips chip n = omega arith

pub parts_nest : (d e : ℕ) (chips : Chips) (chip : Entry) → Nests d chips chip → suc e ≡ d → (i : ℕ) (inner : Entry) → inner_chip chips chip i ≡ Some inner → Nests e chips inner
parts_nest d e chips chip n same i inner found = let m : Nests (suc e) chips chip = subst (λ (v : ℕ). Nests v chips chip) (sym same) n in m.1 i inner found

pub nests_fit : (d : ℕ) (chips : Chips) (chip : Entry) → Nests d chips chip → TreeFits chips chip
nests_fit zero chips chip n path c at = absurd n
nests_fit (suc d) chips chip n [] c at = let same : chip ≡ c = cc in subst (JointsFit chips) same n.0
nests_fit (suc d) chips chip n (i ∷ q) c at = let a = at_part chips chip i q c at in nests_fit d chips a.inner (n.1 i a.inner a.found) q c a.rest
