-- Key reads by instruction and by word, and words that are kept.
use Rattle.std.proofs.Common.{◌≡◌, ◌≢◌, ◌⊎◌, ℕ, ◌<◌, ◌≤◌, ◌%◌, ◌/◌, ◌^◌, Bool, true, false, List, inl, inr, refl, sym, subst, arith}
use Rattle.std.specs.Prelude.{if◌then◌else◌, nat_eq, nat_lt, not, ◌&&◌}
use Rattle.std.proofs.lemmas.Grind.{common_steps}
use Rattle.std.proofs.lemmas.Bool.Decides.{nat_tests}
use Rattle.std.proofs.lemmas.Bool.{eq-eqb, eqb-true}
use Rattle.word16.specs.Words.{has_bit}
use Rattle.hack_isa.specs.Table.{instr_of, is_shift, shift_of}
use Rattle.hack_isa.specs.declared.Instr.{Instr}
use Rattle.hack_isa.specs.declared.Instr.TheVariants.{Address, Compute, Shift}
use Rattle.hack_isa.specs.Machine.{Machine, write, perform, fetch, step}
use Rattle.simulation.specs.System.{IsData}
use Rattle.image_map.specs.Computer.{reads_key}
use Rattle.vm_templates.specs.Going.{IsDataWrite, IsKeyRead, MayReadKey}

-- a word is kept where nothing is written to the data
write_keeps : (m : ℕ → ℕ) (at v a : ℕ) → a ≢ at % 32768 → write m at v a ≡ m a
unfolding write
write_keeps m at v a h = grind (arith, nat_tests, common_steps)

kept_by : (b : Bool) (s : Machine) (v a : ℕ) → ((b ≡ true) × IsData (s.a % 32768) → ⊥) → IsData a → (if b then write s.memory s.a v else s.memory) a ≡ s.memory a
kept_by true s v a h d = write_keeps s.memory s.a v a (λ e. h (refl, subst IsData e d))
kept_by false s v a h d = refl

performs_keeps : (i : Instr) (key : ℕ) (s : Machine) (a : ℕ) → (IsDataWrite i s → ⊥) → IsData a → (perform i key s).memory a ≡ s.memory a
performs_keeps (Address n) key s a h d = refl
performs_keeps (Compute m comp dest jump) key s a h d = kept_by (has_bit dest 0) s _ a h d
performs_keeps (Shift m left of_d dest jump) key s a h d = kept_by (has_bit dest 0) s _ a h d

pub step_keeps : (image : List ℕ) (key : ℕ) (s : Machine) (a : ℕ) → (IsDataWrite (fetch image s) s → ⊥) → IsData a → (step image key s).memory a ≡ s.memory a
unfolding step
step_keeps image key s a h d = performs_keeps (fetch image s) key s a h d

-- the test of the key read
all_true : (p q r : Bool) → (p && (q && r)) ≡ true → (p ≡ true) × (q ≡ true) × (r ≡ true)
all_true true true true e = (refl, refl, refl)
all_true true true false e = absurd (cc e)
all_true true false r e = absurd (cc e)
all_true false q r e = absurd (cc e)

are_true : (p q r : Bool) → p ≡ true → q ≡ true → r ≡ true → (p && (q && r)) ≡ true
are_true p q r e f g = rw (e, f, g)

-- bit 15 tells the two kinds of instruction apart
high : (w : ℕ) → has_bit w 15 ≡ true → nat_lt w 32768 ≡ false
high w e = let b : w / 2 ^ 15 % 2 ≡ 1 = eqb-true _ _ e in grind (arith, nat_tests)

bit_high : (w : ℕ) → w < 65536 → nat_lt w 32768 ≡ false → has_bit w 15 ≡ true
bit_high w l e = let h : 32768 ≤ w = grind (arith, nat_tests) in let b : w / 2 ^ 15 % 2 ≡ 1 = omega (arith, h) in eq-eqb _ _ b

first_true : (p q : Bool) → (p && q) ≡ true → p ≡ true
first_true true q e = refl
first_true false q e = e

-- the instruction of a word, by its top bit and whether it is a shift
abbrev instr_by : Bool → Bool → ℕ → Instr
instr_by top shift w = if top then Address w else (if shift then shift_of w else Compute (has_bit w 12) (w / 64 % 64) (w / 8 % 8) (w % 8))

read_of : (b t : Bool) (w : ℕ) (s : Machine) → nat_lt w 32768 ≡ b → IsKeyRead (instr_by b t w) s → (nat_lt w 32768 ≡ false) × (has_bit w 12 ≡ true) × (s.a ≡ 24576)
read_of true t w s e h = absurd h
read_of false true w s e h = (e, first_true (has_bit w 12) (not (has_bit w 10)) h.0, h.1)
read_of false false w s e h = (e, h.0, h.1)

pub is_heard : (w : ℕ) (s : Machine) → w < 65536 → IsKeyRead (instr_of w) s → reads_key w s.a ≡ true
unfolding instr_of
is_heard w s l h = let r = read_of (nat_lt w 32768) (is_shift w) w s refl h in are_true _ _ _ (bit_high w l r.0) r.1 (eq-eqb _ _ r.2)

-- with the bit of M a shift is one of M or of D
of_m_or_d : (p q : Bool) → p ≡ true → ((p && not q) ≡ true) ⊎ (q ≡ true)
of_m_or_d p true e = inr refl
of_m_or_d p false e = inl (rw e refl)

may_read : (t : Bool) (w : ℕ) (s : Machine) → has_bit w 12 ≡ true → s.a ≡ 24576 → MayReadKey (instr_by false t w) s
may_read true w s e a = (of_m_or_d (has_bit w 12) (has_bit w 10) e, a)
may_read false w s e a = (e, a)

hears_may : (w : ℕ) (s : Machine) → reads_key w s.a ≡ true → MayReadKey (instr_of w) s
unfolding instr_of
hears_may w s h =
    let r = all_true (has_bit w 15) (has_bit w 12) (nat_eq s.a 24576) h in
    subst (λ b. MayReadKey (instr_by b (is_shift w) w) s) (sym (high w r.0)) (may_read (is_shift w) w s r.1 (eqb-true _ _ r.2))

pub false_if : (b : Bool) → (b ≡ true → ⊥) → b ≡ false
false_if true h = absurd (h refl)
false_if false h = refl

pub not_heard : (w : ℕ) (s : Machine) → (MayReadKey (instr_of w) s → ⊥) → reads_key w s.a ≡ false
not_heard w s h = false_if (reads_key w s.a) (λ e. h (hears_may w s e))
