-- A run of the virtual machine has one number of moves and one end, and its report is one text.
use Rattle.std.proofs.Common.{◌≡◌, ◌≤◌, ◌<◌, ◌⊎◌, inl, inr, ℕ, Bool, true, false, List, [], None, refl, sym, ◌∙◌, ap, subst, arith, get_or}
use Rattle.std.specs.Prelude.{nat_eq, nat_le}
use Rattle.std.proofs.lemmas.Bool.Decides.{nat_tests}
use Rattle.machine_io.specs.Report.{report_text}
use Rattle.machine_io.specs.declared.driving.End.{End}
use Rattle.machine_io.specs.declared.driving.End.TheVariants as ends
use Rattle.machine_io.specs.declared.report.LevelName.TheVariants as names
use Rattle.machine_io.specs.declared.report.Show.{Show}
use Rattle.simulation.specs.Trace.{point_at, steps}
use Rattle.jack_core.specs.Texts.{names_of}
use Rattle.jack_core.specs.declared.program.Core.{Core}
use Rattle.vm_link.specs.declared.linked.Linked.{Linked}
use Rattle.vm_machine.specs.Step.{Acts, Done, Full, Outcome, Strays}
use Rattle.vm_machine.specs.Level.{state_after}
use Rattle.tower.specs.VmRun.{MakesMoves, VmEnds, outcome_at, vm_trace, vm_word}
use Rattle.nand_cli.specs.Commands.RunVm.{IsVmReport}

-- how n moves end after m of them, by what comes of the next one
abbrev end_by : Bool → Outcome → End
end_by true o = ends.Bound
end_by false Done = ends.Done
end_by false (Strays why) = ends.Stray why
end_by false (Full w) = ends.Full w
end_by false (Acts heard s) = ends.Bound

not_yet : (n m : ℕ) → m < n → nat_eq m n ≡ false
not_yet n m h = grind (arith, nat_tests, h)

made : (n m : ℕ) → m ≡ n → nat_eq m n ≡ true
made n m h = grind (arith, nat_tests, h)

module _ (linked : Linked) (code : ℕ → ℕ) (n : ℕ) where
  ends_by : (m : ℕ) (end : End) → VmEnds linked code n m end → end ≡ end_by (nat_eq m n) (outcome_at linked code m)
  ends_by m ends.Bound h = λ i. end_by (sym (made n m h) i) (outcome_at linked code m)
  ends_by m ends.Done h = λ i. end_by (sym (not_yet n m h.0) i) (sym h.1 i)
  ends_by m (ends.Stray why) h = λ i. end_by (sym (not_yet n m h.0) i) (sym h.1 i)
  ends_by m (ends.Full w) h = λ i. end_by (sym (not_yet n m h.0) i) (sym h.1 i)

  -- all the moves are made, or there is no next one
  last_or_stuck : (m : ℕ) (end : End) → VmEnds linked code n m end → (m ≡ n) ⊎ ((m < n) × (state_after (outcome_at linked code m) ≡ None))
  last_or_stuck m ends.Bound h = inl h
  last_or_stuck m ends.Done h = inr (h.0, ap state_after h.1)
  last_or_stuck m (ends.Stray why) h = inr (h.0, ap state_after h.1)
  last_or_stuck m (ends.Full w) h = inr (h.0, ap state_after h.1)

  at_most : (m : ℕ) (end : End) → VmEnds linked code n m end → m ≤ n
  at_most m end h = by (last_or_stuck m end h)
    where
      by : (m ≡ n) ⊎ ((m < n) × (state_after (outcome_at linked code m) ≡ None)) → m ≤ n
      by (inl e) = omega (arith, e)
      by (inr k) = let less = k.0 in omega (arith, less)

  -- of two numbers of moves neither is less
  not_less : (m k : ℕ) → (m ≡ n) ⊎ ((m < n) × (state_after (outcome_at linked code m) ≡ None)) → k ≤ n → MakesMoves linked code k → k ≤ m
  not_less m k (inl e) few moves = omega (arith, e, few)
  not_less m k (inr (less, stuck)) few moves = by_order (nat_le k m) refl
    where
      later : m < k → ⊥
      later more = let goes = moves m more in let no : ⊥ = cc in no

      by_order : (c : Bool) → nat_le k m ≡ c → k ≤ m
      by_order true e = grind (arith, nat_tests, e)
      by_order false e = absurd (later (grind (arith, nat_tests, e)))

  one_run : (m k : ℕ) (end end' : End) → MakesMoves linked code m → VmEnds linked code n m end → MakesMoves linked code k → VmEnds linked code n k end' → (m ≡ k) × (end ≡ end')
  one_run m k end end' a h b d =
      let below = not_less m k (last_or_stuck m end h) (at_most k end' d) b in
      let above = not_less k m (last_or_stuck k end' d) (at_most m end h) a in
      let same : m ≡ k = omega (arith, below, above) in
      (same, ends_by m end h ∙ (λ i. end_by (nat_eq (same i) n) (outcome_at linked code (same i))) ∙ sym (ends_by k end' d))

pub one_vm_text : (core core' : Core) (code : ℕ → ℕ) (n : ℕ) (show : Show) (text text' : List ℕ) (h : IsVmReport core code n show text) (k : IsVmReport core' code n show text')
    → h.linked ≡ k.linked → names_of core ≡ names_of core' → text ≡ text'
one_vm_text core core' code n show text text' h k linked called =
    let one = one_run h.linked code n h.moves k.moves h.end k.end h.made h.ends
    (subst (λ (l : Linked). MakesMoves l code k.moves) (sym linked) k.made) (subst (λ (l : Linked). VmEnds l code n k.moves k.end) (sym linked) k.ends) in
    let moves = one.0 in
    let end = one.1 in
    let points = sym h.seen ∙ (λ i. point_at (vm_trace (linked i) code) (moves i)) ∙ k.seen in
    let point : h.point ≡ k.point = cc in
    h.reports
    ∙ (λ i. report_text names.Vm (moves i) (steps (vm_trace (linked i) code) (moves i)) (get_or (called i) (point i).sub []) (point i).number (end i) show (vm_word (linked i) code (moves i)))
    ∙ sym k.reports
