-- The rows of runs and stores.
use Rattle.std.proofs.Common.{◌≡◌, ◌≢◌, inl, inr, ⊎_elim, ℕ, zero, suc, ◌-◌, ◌<◌, ◌≤◌, Bool, true, false, nat_eq, List, [], ◌∷◌, length, Option, Some, None, option_and_then, refl, sym, ap, ◌∙◌, subst, arith}
use Rattle.std.specs.Prelude.{slice_index, slice_set, replicate, if◌then◌else◌}
use Rattle.std.proofs.lemmas.Bool.Decides.{nat_tests}
use Rattle.std.proofs.lemmas.List.{get_or-set_other}
use Rattle.jack_meaning.specs.Text.{Local, Literal, Value, Open, NoMore, More, Call, Let, Do, Text, End, Next, Subroutine}
use Rattle.jack_meaning.specs.Meaning.{State, step}
use Rattle.jack_meaning.specs.Level.{next_of}
use Rattle.os_laws.specs.Calls.{after, no_key}
use Rattle.os_laws.specs.Heap.{HeapOf, passed_block}
use Rattle.os_laws.specs.HeapRun.{Back, Uses, laid, stepped}
use Rattle.os_laws.specs.HeapRun as run
use Rattle.os_laws.specs.Rows.{begun_memory, taken_memory, three}
use Rattle.os_laws.specs.StepRows.{kernel}
use Rattle.os_laws.specs.RunRows.{numbers, running, RunRows}

-- ---- steps in which another number of frames is there

abbrev then_stays : ℕ → (State → Bool) → Option State → Bool
then_stays d more None = false
then_stays d more (Some t) = if nat_eq (length t.frames) d then false else more t

abbrev stays : List Subroutine → ℕ → ℕ → State → Bool
stays subs d zero s = true
stays subs d (suc k) s = then_stays d (stays subs d k) (next_of (step subs 0 s))

differs : (a b : ℕ) → nat_eq a b ≡ false → a ≢ b
differs a b h e = grind (arith, nat_tests)

-- the first step, and those after it
split : (subs : List Subroutine) (d k : ℕ) (o : Option State) → then_stays d (stays subs d k) o ≡ true → (t : State) × (o ≡ Some t) × (length t.frames ≢ d) × (stays subs d k t ≡ true)
split subs d k None h = absurd (cc h)
split subs d k (Some t) h = split_with (nat_eq (length t.frames) d) refl h
  where
    split_with : (b : Bool) → nat_eq (length t.frames) d ≡ b → (if b then false else stays subs d k t) ≡ true → (t' : State) × (Some t ≡ Some t') × (length t'.frames ≢ d) × (stays subs d k t' ≡ true)
    split_with true e h = absurd (cc h)
    split_with false e h = (t, refl, differs _ _ e, h)

between : (subs : List Subroutine) (d k : ℕ) (s : State) → stays subs d k s ≡ true → (j : ℕ) → 0 < j → j ≤ k → (t : State) × (after subs no_key j s ≡ Some t) × (length t.frames ≢ d)
between subs d zero s h j low high = absurd (omega (arith, low, high))
between subs d (suc k) s h zero low high = absurd (omega (arith, low))
between subs d (suc k) s h (suc zero) low high = let r = split subs d k (next_of (step subs 0 s)) h in (r.0, ap (option_and_then (after subs no_key zero)) r.1, r.2)
between subs d (suc k) s h (suc (suc j)) low high =
    let r = split subs d k (next_of (step subs 0 s)) h in
    let rest = between subs d k r.0 r.3 (suc j) (omega arith) (omega (arith, high)) in
    (rest.0, ap (option_and_then (after subs no_key (suc j))) r.1 ∙ rest.1, rest.2)

comes_back : (s s' : State) (n : ℕ) → stays kernel (length s.frames) n s ≡ true → after kernel no_key (suc n) s ≡ Some s' → length s'.frames ≡ length s.frames → Back kernel s s'
comes_back s s' n h e same = record {
  keys = no_key;
  n = suc n;
  stops = record { some = omega arith; leads = e; there = same; before = λ j low high. between kernel (length s.frames) n s h j low (omega (arith, high)) };
}

-- ---- the run

abbrev asks : Text
asks = Next (Let 2 (Local 0) (Call 4 (More (Literal 3) NoMore))) End

abbrev asks_three : Text
asks_three = Next (Let 2 (Local 0) (Call 4 (More (Value 3) NoMore))) End

abbrev at_first : State
at_first = running (Next (Do 1 (Call 3 NoMore)) asks) (0 ∷ []) (replicate 22528 0)

abbrev at_init : State
at_init = running (Next (Do 1 (Value 0)) asks) (2048 ∷ []) begun_memory

has_laid : Uses kernel numbers at_init []
has_laid = laid (record { static = omega arith; words = refl }) (record { top = _; caller = record { subroutine = 0; arguments = []; locals = 0 ∷ []; this = 0; text = Next (Do 1 Open) asks }; below = []; frames = refl; calls = refl })
    (comes_back at_first at_init 14 refl refl refl)

has_passed : Uses kernel numbers (running asks (2048 ∷ []) begun_memory) []
has_passed = stepped 0 false has_laid refl (record { static = refl; statics = refl; words = inl refl })

has_read : Uses kernel numbers (running asks_three (2048 ∷ []) begun_memory) []
has_read = stepped 0 false has_passed refl (record { static = refl; statics = refl; words = inl refl })

fits : (parts : List ℕ) → HeapOf begun_memory 2048 parts [] → (k : ℕ) × (passed_block begun_memory 4 parts ≡ Some k)
fits [] h = absurd (let e = h.links in omega (arith, e))
fits (c ∷ cs) h = subst (λ z. (k : ℕ) × (passed_block begun_memory 4 (z ∷ cs) ≡ Some k)) h.links.0 (0, refl)

uses : Uses kernel numbers (running (Next (Let 2 (Local 0) (Value 16381)) End) (2048 ∷ []) taken_memory) (three ∷ [])
uses =
    run.taken has_read (omega arith) (omega arith) fits (record { top = _; caller = record { subroutine = 0; arguments = []; locals = 0 ∷ []; this = 0; text = Next (Let 2 (Local 0) Open) End }; below = []; frames = refl; calls = refl })
    (comes_back (running asks_three (2048 ∷ []) begun_memory) (running (Next (Let 2 (Local 0) (Value 16381)) End) (2048 ∷ []) taken_memory) 56 refl refl refl) refl

-- ---- stores

was : slice_index taken_memory 14332 ≡ 4
was = refl

becomes : slice_index (slice_set taken_memory 14332 9) 14332 ≡ 9
becomes = refl

pub rows : RunRows
rows = record {
  uses = uses;
  last = λ s. record { static = refl; statics = refl; words = inr (16383, 7, inl (inl (omega arith, omega arith)), refl) };
  screen = λ s. record { static = refl; statics = refl; words = inr (16384, 7, inr (omega arith, omega arith), refl) };
  length = λ s e w.
      let at : (ws : List ℕ) → slice_set s.words 14332 9 ≡ ws → slice_index ws 14332 ≡ 9 = λ ws q. ap (λ z. slice_index z 14332) (sym q ∙ ap (λ z. slice_set z 14332 9) e) ∙ becomes in
      let before : slice_index s.words 14332 ≡ 4 = ap (λ z. slice_index z 14332) e ∙ was in
      ⊎_elim
      (λ same. let now = at s.words same in omega (arith, before, now))
      (λ st.
      let now = at (slice_set s.words (st.0 - 2048) st.1) st.3 in
      let kept = st.2 in
      let away : 14332 ≡ st.0 - 2048 → ⊥ = λ q. ⊎_elim (λ mine. ⊎_elim (λ i. omega (arith, i, q)) (λ none. none) mine) (λ s. omega (arith, s, q)) kept in
      let other = get_or-set_other s.words (st.0 - 2048) 14332 st.1 0 away in
      omega (arith, before, now, other))
      w.words;
}
