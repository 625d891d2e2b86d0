-- The laws of the meaning, on the machine.
use Rattle.std.proofs.Common.{◌≡◌, ⊎_elim, ℕ, zero, suc, ◌+◌, ◌*◌, ◌≤◌, List, [], ◌∷◌, ◌++◌, length, Result, Ok, Err, IfOk, sym, ap, ◌∙◌, subst, arith, length-append}
use Rattle.std.proofs.lemmas.Bool.{cases_lt}
use Rattle.std.proofs.lemmas.Nat.Bits.{bit_at-lt}
use Rattle.jack_core.specs.Texts.{the_subroutines}
use Rattle.jack_meaning.specs.Text.{Subroutine}
use Rattle.jack_meaning.specs.Meaning.{State, new_frame}
use Rattle.jack_machine.specs.Whole.{jack_state}
use Rattle.jack_machine.specs.declared.jack.Jack.{Jack}
use Rattle.os_laws.specs.Calls.{NextCall, no_key, Stops, ComesBack, ComesToCall, given_back}
use Rattle.os_laws.specs.Inner.Stepping.{StopsAt, Comes}
use Rattle.os_laws.specs.HeapCalls.{Laid, Allocated, Freed}
use Rattle.os_laws.specs.Machine.{CallsMultiply, CallsDivide, CallsDivideByZero, CallsInit, CallsAlloc, CallsAllocOfNothing, CallsAllocOfTooMuch, CallsDeAlloc, StandsAt}
use Rattle.os_laws.specs.Names.{names_in, number_of, error_number}
use Rattle.os_laws.specs.Numbers.{bits_from, product, quotient, multiply_steps}
use Rattle.os_laws.proofs.StepsMade.{stops_back}
use Rattle.os_laws.proofs.NamedKernel.{is_multiply, is_divide, is_init, is_alloc, is_deAlloc}
use Rattle.os_laws.proofs.Multiplying as multiplying
use Rattle.os_laws.proofs.Quotients as quotients
use Rattle.os_laws.proofs.Allocating as allocating
use Rattle.os_laws.proofs.Allocating.{first_fit}
use Rattle.os_laws.proofs.FewParts.{few_parts}
use Rattle.os_laws.proofs.HeapCalls.{free_law, init_law}
use Rattle.os_laws.proofs.Errors.{laws as errors}

-- what follows on success
pub on_ok : {T E : Type 0} (P Q : T → Type 0) (r : Result T E) → ((x : T) → P x → Q x) → IfOk r P → IfOk r Q
on_ok P Q (Ok x) f h = f x h
on_ok P Q (Err e) f h = h

abbrev Subs : Jack → List Subroutine
Subs j = the_subroutines j.core.now

back_stops : (j : Jack) (frames n : ℕ) (s : State) → frames ≡ length (jack_state j).frames → ComesBack (Subs j) (jack_state j) n s → StopsAt j frames n s
back_stops j frames n s e b = subst (λ k. Stops (Subs j) no_key (jack_state j) k n s) (sym e) (stops_back (Subs j) (jack_state j) n s b)

-- ---- multiplication and division

few_bits : (y i k : ℕ) → bits_from y i k ≤ k
few_bits y i zero = omega arith
few_bits y i (suc k) = omega (arith, few_bits y (suc i) k, bit_at-lt y i)

pub few_steps : (y : ℕ) → multiply_steps y ≤ 500
few_steps y = omega (arith, few_bits y 0 16)

-- the state in which the product is in the call's place
abbrev pub with_product : (j : Jack) → CallsMultiply j → State
with_product j c = given_back (jack_state j) c.made.call.caller c.made.call.below (product c.made.x c.made.y)

pub multiply_stops : (j : Jack) (frames : ℕ) → frames ≡ length (jack_state j).frames → (c : CallsMultiply j) → StopsAt j frames (multiply_steps c.made.y) (with_product j c)
multiply_stops j frames e c = back_stops j frames (multiply_steps c.made.y) (with_product j c) e (multiplying.law (Subs j) (jack_state j) (number_of c.math) (names_in c.math).own (is_multiply j.core.now c.math) c.made)

abbrev pub with_quotient : (j : Jack) → CallsDivide j → State
with_quotient j c = given_back (jack_state j) c.made.call.caller c.made.call.below (quotient c.made.x c.made.y)

pub divide_stops : (j : Jack) (frames : ℕ) → frames ≡ length (jack_state j).frames → (c : CallsDivide j) → (n : ℕ) × (n ≤ 800) × StopsAt j frames n (with_quotient j c)
divide_stops j frames e c =
    let d = quotients.law (Subs j) (jack_state j) (number_of c.math) (names_in c.math).own (error_number (names_in c.math)) (is_divide j.core.now c.math c.errs) c.made in
    (d.0, d.1, back_stops j frames d.0 (with_quotient j c) e d.2)

-- ---- the heap

allocates : (j : Jack) (c : CallsAlloc j) → (n : ℕ) × (n ≤ 60 + 18 * c.made.k) × (s : State) × ComesBack (Subs j) (jack_state j) n s × Allocated c.made.call c.has.free c.made.size c.made.live s
allocates j c = allocating.law (Subs j) (jack_state j) (number_of c.has.memory) (names_in c.has.memory).own (error_number (names_in c.has.memory)) c.has.free (is_alloc j.core.now c.has.memory c.has.free c.has.errs c.has.is_free) c.made

pub alloc_stops : (j : Jack) (frames : ℕ) → frames ≡ length (jack_state j).frames → (c : CallsAlloc j) → (n : ℕ) × (n ≤ 300000) × (s : State) × StopsAt j frames n s
alloc_stops j frames e c =
    let a = allocates j c in
    let m = c.made in
    let f = first_fit (jack_state j).words (m.size + 1) m.k m.parts m.fit in
    let longer : length m.parts ≡ length f.before + suc (length f.after) = ap length f.shape ∙ length-append f.before (f.c ∷ f.after) in
    (a.0, omega (arith, a.1, few_parts (jack_state j).words _ m.parts m.live m.heap.heap, longer, f.count), a.2, back_stops j frames a.0 a.2 e a.3)

pub has_allocated : (j : Jack) (frames : ℕ) → frames ≡ length (jack_state j).frames → (c : CallsAlloc j) (k : ℕ) (new : Jack) → Comes j frames k new
    → (k ≤ 60 + 18 * c.made.k) × Allocated c.made.call c.has.free c.made.size c.made.live (jack_state new)
has_allocated j frames e c k new h =
    let a = allocates j c in
    let r = h a.0 a.2 (back_stops j frames a.0 a.2 e a.3) in
    (omega (arith, r.0, a.1), subst (λ s. Allocated c.made.call c.has.free c.made.size c.made.live s) (sym r.1) a.4)

frees : (j : Jack) (c : CallsDeAlloc j) → (s : State) × ComesBack (Subs j) (jack_state j) 13 s × Freed c.made.call c.free (c.made.front ++ c.made.back) s
frees j c = free_law (Subs j) (jack_state j) (number_of c.memory) (names_in c.memory).own c.free (is_deAlloc j.core.now c.memory c.free c.is_free) c.made

pub free_stops : (j : Jack) (frames : ℕ) → frames ≡ length (jack_state j).frames → (c : CallsDeAlloc j) → (n : ℕ) × (n ≤ 300000) × (s : State) × StopsAt j frames n s
free_stops j frames e c = let a = frees j c in (13, omega arith, a.0, back_stops j frames 13 a.0 e a.1)

pub has_freed : (j : Jack) (frames : ℕ) → frames ≡ length (jack_state j).frames → (c : CallsDeAlloc j) (k : ℕ) (new : Jack) → Comes j frames k new → (k ≤ 16) × Freed c.made.call c.free (c.made.front ++ c.made.back) (jack_state new)
has_freed j frames e c k new h =
    let a = frees j c in
    let r = h 13 a.0 (back_stops j frames 13 a.0 e a.1) in
    (omega (arith, r.0), subst (λ s. Freed c.made.call c.free (c.made.front ++ c.made.back) s) (sym r.1) a.2)

lays : (j : Jack) (c : CallsInit j) → (s : State) × ComesBack (Subs j) (jack_state j) 15 s × Laid c.made.call c.free s
lays j c = init_law (Subs j) (jack_state j) (number_of c.memory) (names_in c.memory).own c.free (is_init j.core.now c.memory c.free c.is_free) c.made

pub init_stops : (j : Jack) (frames : ℕ) → frames ≡ length (jack_state j).frames → (c : CallsInit j) → (n : ℕ) × (n ≤ 15) × (s : State) × StopsAt j frames n s
init_stops j frames e c = let a = lays j c in (15, omega arith, a.0, back_stops j frames 15 a.0 e a.1)

pub has_laid : (j : Jack) (frames : ℕ) → frames ≡ length (jack_state j).frames → (c : CallsInit j) (k : ℕ) (new : Jack) → Comes j frames k new → (k ≡ 15) × Laid c.made.call c.free (jack_state new)
has_laid j frames e c k new h =
    let a = lays j c in
    let r = h 15 a.0 (back_stops j frames 15 a.0 e a.1) in
    (r.0, subst (λ s. Laid c.made.call c.free s) (sym r.1) a.2)

-- ---- a call of Sys.error

module _ (j : Jack) (frames : ℕ) (deep : frames ≡ suc (suc (length (jack_state j).frames))) {g : ℕ} {values : List ℕ} (call : NextCall (Subs j) (jack_state j) g values) (error v n : ℕ) (c : ComesToCall call error (v ∷ []) n) where
  pub error_stops : StopsAt j frames n (record (jack_state j) { frames = new_frame (Subs j) error (v ∷ []) ∷ c.callee ∷ call.caller ∷ call.below })
  error_stops = subst (λ k. Stops (Subs j) no_key (jack_state j) k n (record (jack_state j) { frames = new_frame (Subs j) error (v ∷ []) ∷ c.callee ∷ call.caller ∷ call.below })) (sym deep) (c.stops no_key)

  pub stands_at : (k : ℕ) (new : Jack) → Comes j frames k new → (k ≡ n) × StandsAt call error v (jack_state new)
  stands_at k new h = let r = h n _ error_stops in (r.0, record { callee = c.callee; state = r.1 })

pub zero_comes : (j : Jack) (c : CallsDivideByZero j) → ComesToCall c.made.call (error_number (names_in c.math)) (3 ∷ []) 7
zero_comes j c = errors.zero (Subs j) (jack_state j) (number_of c.math) (names_in c.math).own (error_number (names_in c.math)) (is_divide j.core.now c.math c.errs) c.made

pub nothing_comes : (j : Jack) (c : CallsAllocOfNothing j) → ComesToCall c.made.call (error_number (names_in c.has.memory)) (5 ∷ []) 7
nothing_comes j c =
    errors.size (Subs j) (jack_state j) (number_of c.has.memory) (names_in c.has.memory).own (error_number (names_in c.has.memory)) c.has.free (is_alloc j.core.now c.has.memory c.has.free c.has.errs c.has.is_free) c.made

few_enough : (k : ℕ) → k ≤ 14336 → 22 + 18 * k ≤ 300000
few_enough k h = omega (arith, h)

pub full_comes : (j : Jack) (c : CallsAllocOfTooMuch j) → (n : ℕ) × (n ≤ 300000) × ComesToCall c.made.call (error_number (names_in c.has.memory)) (6 ∷ []) n
full_comes j c =
    let m = c.made in
    let own = (names_in c.has.memory).own in
    let error = error_number (names_in c.has.memory) in
    let kernel = is_alloc j.core.now c.has.memory c.has.free c.has.errs c.has.is_free in
    ⊎_elim
    (λ great. (11, omega arith, errors.great (Subs j) (jack_state j) (number_of c.has.memory) m.size own error c.has.free kernel great m.high m.call))
    (λ full. ⊎_elim
    (λ small. (
      22 + 18 * length full.parts,
      few_enough (length full.parts) (few_parts (jack_state j).words _ full.parts full.live full.heap),
      errors.full (Subs j) (jack_state j) (number_of c.has.memory) m.size own error c.has.free kernel m.low (omega (arith, small)) full m.call,
    ))
    (λ great. (11, omega arith, errors.great (Subs j) (jack_state j) (number_of c.has.memory) m.size own error c.has.free kernel great m.high m.call))
    (cases_lt m.size 14336))
    m.none
