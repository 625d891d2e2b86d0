-- The computer in its endless loop.
use Rattle.std.proofs.Common.{◌≡◌, ◌≢◌, ◌⊎◌, ℕ, ◌+◌, ◌%◌, Bool, true, false, List, refl, inl, inr, ap, ◌∙◌, sym, subst, arith}
use Rattle.std.specs.Prelude.{Some, if◌then◌else◌, slice_index, nat_eq, ◌&&◌, ◌||◌}
use Rattle.std.proofs.lemmas.Bool.Decides.{nat_tests}
use Rattle.std.proofs.lemmas.Bool.{eq-eqb, eqb-true}
use Rattle.hack_isa.specs.Table.{alu_out, instr_of}
use Rattle.hack_isa.specs.Machine.{Machine, jumps, perform, step}
use Rattle.simulation.specs.System.{System, Idles, IdlesAtEnd}
use Rattle.vm_templates.specs.Computer.{HasLoop}
use Rattle.image_map.specs.Map.{Map}
use Rattle.image_map.specs.Computer.{reads_key, in_loop, hack_system}
use Rattle.vm_templates.specs.Going.{MayReadKey}
use Rattle.vm_templates.specs.Laws.{LoopsIdle}
use Rattle.vm_templates.proofs.Keys.{not_heard, false_if}

abbrev At : ℕ → Machine → Type 0
At loop s = (s.pc ≡ loop) ⊎ ((s.pc ≡ loop + 1) × (s.a ≡ loop))

bools : (p q r : Bool) → (p || (q && r)) ≡ true → (p ≡ true) ⊎ ((q ≡ true) × (r ≡ true))
bools true q r e = inl refl
bools false true true e = inr (refl, refl)
bools false true false e = absurd (cc e)
bools false false r e = absurd (cc e)

both_true : (p q r : Bool) → q ≡ true → r ≡ true → (p || (q && r)) ≡ true
both_true true q r e f = refl
both_true false q r e f = rw (e, f)

at_loop : (loop : ℕ) (s : Machine) → in_loop loop s ≡ true → At loop s
at_loop loop s h = elim (bools (nat_eq s.pc loop) (nat_eq s.pc (loop + 1)) (nat_eq s.a loop) h) [ inl e ↦ inl (eqb-true _ _ e) | inr e ↦ inr (eqb-true _ _ e.0, eqb-true _ _ e.1) ]

loop_at : (loop : ℕ) (s : Machine) → At loop s → in_loop loop s ≡ true
loop_at loop s (inl e) = rw (eq-eqb _ _ e)
loop_at loop s (inr e) = both_true (nat_eq s.pc loop) (nat_eq s.pc (loop + 1)) (nat_eq s.a loop) (eq-eqb _ _ e.0) (eq-eqb _ _ e.1)

-- the computer stands in the loop where it is before its first instruction
pub stands_in_loop : (loop : ℕ) (s : Machine) → s.pc ≡ loop → in_loop loop s ≡ true
stands_in_loop loop s e = loop_at loop s (inl e)

-- elsewhere it does not
pub moves_apart : (loop : ℕ) (s : Machine) → s.pc ≢ loop → s.pc ≢ loop + 1 → in_loop loop s ≡ false
moves_apart loop s h k = false_if (in_loop loop s) (λ e. elim (at_loop loop s e) [ inl p ↦ h p | inr p ↦ k p.0 ])

always : (out : ℕ) → jumps 7 out ≡ true
unfolding jumps
always out = grind (arith, nat_tests)

some_is : {A : Type 0} (a b : A) → Some a ≡ Some b → a ≡ b
some_is a b e = cc

module _ (image : List ℕ) (map : Map) (loop : ℕ) (h : HasLoop image map loop) where
  abbrev sys : System Machine
  sys = hack_system image map loop

  to_second : (s : Machine) (key : ℕ) → s.pc ≡ loop → step image key s ≡ record s { a = loop; pc = loop + 1 }
  unfolding step
  to_second s key e =
      let low = h.low in
      let i = ap (λ p. instr_of (slice_index image p)) e ∙ h.stands.0 in
      let p : (s.pc + 1) % 32768 ≡ loop + 1 = omega (arith, low, e) in
      ap (λ z. perform z key s) i ∙ ap (λ z. let after : Machine = record s { a = loop; pc = z } in after) p

  to_first : (s : Machine) (key : ℕ) → s.pc ≡ loop + 1 → s.a ≡ loop → step image key s ≡ record s { pc = loop }
  unfolding step
  to_first s key e f =
      let low = h.low in
      let i = ap (λ p. instr_of (slice_index image p)) e ∙ h.stands.1.0 in
      let p : s.a % 32768 ≡ loop = omega (arith, low, f) in
      ap (λ z. perform z key s) i ∙ ap (λ b. let after : Machine = record s { pc = if b then s.a % 32768 else (s.pc + 1) % 32768 } in after) (always (alu_out 42 s.d s.a))
      ∙ ap (λ z. let after : Machine = record s { pc = z } in after) p

  quiet_at : (s : Machine) → At loop s → (map.commits s.pc ≡ false) × (reads_key (slice_index image s.pc) s.a ≡ false)
  quiet_at s (inl e) =
      let i = ap (λ p. instr_of (slice_index image p)) e ∙ h.stands.0 in
      (ap map.commits e ∙ h.commits.0, not_heard (slice_index image s.pc) s (λ r. subst (λ c. MayReadKey c s) i r))
  quiet_at s (inr e) =
      let i = ap (λ p. instr_of (slice_index image p)) e.0 ∙ h.stands.1.0 in
      (ap map.commits e.0 ∙ h.commits.1, not_heard (slice_index image s.pc) s (λ r. let n : false ≡ true = (subst (λ c. MayReadKey c s) i r).0 in cc))

  idles_at : (s s' : Machine) (key : ℕ) → At loop s → step image key s ≡ s' → Idles sys s s'
  idles_at s s' key (inl e) r =
      let second : Machine = record s { a = loop; pc = loop + 1 } in
      subst (Idles sys s) (sym (to_second s key e) ∙ r)
      (record { halted = loop_at loop second (inr (refl, refl)); words = λ a d. refl; point = h.points ∙ sym (ap map.points e); fits = refl })
  idles_at s s' key (inr e) r =
      let first : Machine = record s { pc = loop } in
      subst (Idles sys s) (sym (to_first s key e.0 e.1) ∙ r)
      (record { halted = loop_at loop first (inl refl); words = λ a d. refl; point = sym h.points ∙ sym (ap map.points e.0); fits = refl })

  pub idles_at_end : IdlesAtEnd sys
  idles_at_end = record {
    quiet = λ s a. quiet_at s (at_loop loop s a);
    idles = λ s s' key a e. idles_at s s' key (at_loop loop s a) (some_is _ _ e);
  }

pub loops_idle : LoopsIdle
loops_idle = idles_at_end
