-- What a chip says, by the stage that it is in.
use Rattle.std.proofs.Common.{◌≡◌, ℕ, ◌<◌, ◌≤◌, ◌⊎◌, inl, inr, Bool, true, false, cond, List, length, get_or, Option, Some, None, Result, Ok, Err, refl, ap, ◌∙◌, arith}
use Rattle.std.specs.Prelude.{slice_get, IfErr}
use Rattle.std.proofs.lemmas.Option.{slice_get_cases}
use Rattle.hdl_tree.specs.declared.library.Entry.{Entry}
use Rattle.hdl_tree.specs.Chips.{Chips}
use Rattle.hdl_check.specs.declared.fault.NamedFault.{NamedFault}
use Rattle.hdl_check.specs.Faults.{fault_in}
use Rattle.hdl_check.specs.Inner.Checked.{Checks}
use Rattle.hdl_check.specs.Faults.{part_fault_by}
use Rattle.hdl_check.specs.Inner.Progress.{AreOpen, is_new, is_open}
use Rattle.hdl_check.specs.declared.fault.FaultKind.TheVariants as kinds
use Rattle.hdl_check.specs.declared.fault.ElabFault.{ElabFault}
use Rattle.hdl_check.specs.declared.stage.Stage.{Stage}
use Rattle.hdl_check.specs.declared.stage.Stage.TheVariants.{New, Open, Done}

-- there is a chip at a place
pub entry_there : (entries : List Entry) (k : ℕ) → k < length entries → (entry : Entry) × (slice_get entries k ≡ Some entry)
entry_there entries k lt = by (slice_get_cases entries k).1
  where
    by : ((x : Entry) × (k < length entries) × (slice_get entries k ≡ Some x) × (get_or entries k x ≡ x)) ⊎ ((length entries ≤ k) × (slice_get entries k ≡ None)) → (entry : Entry) × (slice_get entries k ≡ Some entry)
    by (inl h) = (h.0, h.2)
    by (inr h) = let le : length entries ≤ k = h.0 in absurd (omega arith)

module _ (chips : Chips) (s : List Stage) (k : ℕ) (names : List (List ℕ)) (o : AreOpen chips s names) (lt : k < length chips.entries) (chip name : List ℕ) where
  pub by_stage : (b : Bool) → is_open (slice_get s k) ≡ b → part_fault_by names chip name (slice_get chips.entries k) ≡ cond b (Some (fault_in chip kinds.Recursive name)) None
  by_stage b h =
      let x = entry_there chips.entries k lt in
      ap (part_fault_by names chip name) x.1 ∙ ap (λ (c : Bool). cond c (Some (fault_in chip kinds.Recursive name)) None) (o k x.0 x.1 ∙ h)

pub new_is : (s : Stage) → is_new s ≡ true → s ≡ New
new_is New h = refl
new_is Open h = absurd cc
new_is (Done r) h = absurd cc

pub done_is : (s : Stage) → is_new s ≡ false → is_open (Some s) ≡ false → (r : ℕ) × (s ≡ Done r)
done_is New h k = absurd cc
done_is Open h k = absurd cc
done_is (Done r) h k = (r, refl)

pub checks_err : (r : Result (Unit {0}) ElabFault) (wanted : Option NamedFault) (Q : ElabFault → Type 0) → ((e : ElabFault) → Checks wanted (Err e) → Q e) → Checks wanted r → IfErr r Q
checks_err (Ok u) wanted Q go h = tt
checks_err (Err e) wanted Q go h = go e h
