-- Parts nest no deeper than there are chips.
use Rattle.std.proofs.Common.{◌≡◌, ℕ, zero, suc, ◌<◌, Bool, true, false, cond, List, [], ◌∷◌, length, Option, Some, None, refl, sym, ap, ◌∙◌, arith}
use Rattle.std.specs.Prelude.{slice_get}
use Rattle.hdl_tree.specs.declared.ends.End.{End}
use Rattle.hdl_tree.specs.declared.tree.Part.{Part}
use Rattle.hdl_tree.specs.declared.library.Entry.{Entry}
use Rattle.hdl_tree.specs.Chips.{Chips, end_of, find_chip, parts_of, parts_unless, parts_of_body}
use Rattle.hdl_tree.specs.Behaviour.{chip_of}
use Rattle.hdl_tree.specs.Writable.{is_among}
use Rattle.hdl_check.specs.declared.fault.NamedFault.{NamedFault}
use Rattle.hdl_check.specs.Faults.{part_fault_by}
use Rattle.hdl_check.specs.Locations.{AtPart, Inside, at_inner, inner_of, fault_of_part, fault_at, IsFaultless}
use Rattle.hdl_plans.specs.Plans.{IsPlan, IsSound, EndFits}
use Rattle.hdl_plans.specs.Planned.{HasEnds, output_of, plan_of}
use Rattle.hdl_plans.proofs.Fewer.{left, left_all, left_less}
use Rattle.hdl_plans.proofs.Unjoined.{faultless_plan}

not_told : (b : Bool) (t : NamedFault) → cond b (Some t) None ≡ None → b ≡ false
not_told true t h = absurd cc
not_told false t h = refl

-- an end has the plan of its text, which has no parts
end_plan : (chips : Chips) (name : List ℕ) (chip : Entry) (e : End) → HasEnds chips → find_chip chips name ≡ Some chip → end_of chips.memories chip ≡ Some e → IsPlan chips chip (plan_of chips chip)
end_plan chips name chip e ends there is =
    let none : parts_of chips chip ≡ [] = ap (λ o. parts_unless o (parts_of_body chip.chip.body)) is in
    record {
      output = λ i j k part inner conn at found here way lt. let f : slice_get [] i ≡ Some part = ap (λ (ps : List Part). slice_get ps i) (sym none) ∙ at in absurd cc;
      input = λ i j k part inner conn at found here way lt. let f : slice_get [] i ≡ Some part = ap (λ (ps : List Part). slice_get ps i) (sym none) ∙ at in absurd cc;
      unjoined = λ i width bit pin part inner at found w lt free. let f : slice_get [] i ≡ Some part = ap (λ (ps : List Part). slice_get ps i) (sym none) ∙ at in absurd cc;
      undriven = λ width bit pin w lt free. (ends.apart name chip e there is pin width w, ap (λ (ps : List Part). output_of chips 0 pin bit ps) none);
    }

plan_by : (chips : Chips) (names : List (List ℕ)) (name : List ℕ) (chip : Entry) (o : Option End) → HasEnds chips → find_chip chips name ≡ Some chip → IsFaultless chips names chip → end_of chips.memories chip ≡ o → IsPlan chips chip (plan_of chips chip) × EndFits chip o
plan_by chips names name chip None ends there faultless is = (faultless_plan chips names chip faultless is, tt)
plan_by chips names name chip (Some e) ends there faultless is = (end_plan chips name chip e ends there is, ends.fits name chip e there is)

-- a part of a chip without faults: its chip is in the library, has no fault, and has none of the names context
pub record InnerIsFine (chips : Chips) (names : List (List ℕ)) (inner : Entry) : Type 0 where
  pub name : List ℕ
  pub there : find_chip chips name ≡ Some inner
  pub apart : is_among inner.name names ≡ false
  pub faultless : IsFaultless chips (inner.name ∷ names) inner

pub inner_by : (chips : Chips) (names : List (List ℕ)) (chip : Entry) (i : ℕ) (inner : Entry) (o : Option Part) → slice_get (parts_of chips chip) i ≡ o → chip_of chips o ≡ Some inner → IsFaultless chips names chip → InnerIsFine chips names inner
inner_by chips names chip i inner None e f faultless = absurd cc
inner_by chips names chip i inner (Some part) e f faultless =
    let at : part_fault_by names chip.name part.chip (Some inner) ≡ None = sym (ap (fault_of_part chips names chip) e ∙ ap (part_fault_by names chip.name part.chip) f) ∙ faultless (AtPart i) in
    record {
      name = part.chip;
      there = f;
      apart = not_told _ _ at;
      faultless = λ s. sym (ap (λ p. at_inner (λ y. fault_at chips (y.name ∷ names) y s) (inner_of chips p)) e ∙ ap (at_inner (λ y. fault_at chips (y.name ∷ names) y s)) f) ∙ faultless (Inside i s);
    }

sound : (d : ℕ) (chips : Chips) (names : List (List ℕ)) (name : List ℕ) (chip : Entry) → HasEnds chips → find_chip chips name ≡ Some chip → IsFaultless chips names chip → left names chips.entries < d → IsSound d chips (plan_of chips) chip
sound zero chips names name chip ends there faultless lt = absurd (omega (arith, lt))
sound (suc d) chips names name chip ends there faultless lt =
    let p = plan_by chips names name chip (end_of chips.memories chip) ends there faultless refl in (
      p.0,
      p.1,
      λ i inner e.
          let n = inner_by chips names chip i inner (slice_get (parts_of chips chip) i) refl e faultless in
          let less = left_less chips.entries n.name inner names n.there n.apart in
          sound d chips (inner.name ∷ names) n.name inner ends n.there n.faultless (omega (arith, less, lt)),
    )

pub faultless_sound : (chips : Chips) (name : List ℕ) (chip : Entry) → HasEnds chips → find_chip chips name ≡ Some chip → IsFaultless chips (chip.name ∷ []) chip → IsSound (length chips.entries) chips (plan_of chips) chip
faultless_sound chips name chip ends there faultless =
    let less = left_less chips.entries name chip [] there refl in
    let all = left_all chips.entries in
    sound (length chips.entries) chips (chip.name ∷ []) name chip ends there faultless (omega (arith, less, all))
