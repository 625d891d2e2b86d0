-- Steps of the machine under key 0.
use Rattle.std.proofs.Common.{◌≡◌, ◌≢◌, ℕ, zero, suc, ◌+◌, ◌<◌, Bool, List, length, Option, Some, None, option_and_then, refl, sym, ap, ◌∙◌, arith, suc-add, ⊎_elim, Bor}
use Rattle.std.proofs.lemmas.Bool.{cases_lt}
use Rattle.machine_io.specs.History.{moves_in}
use Rattle.machine_io.specs.declared.machine.Moved.{Moved}
use Rattle.machine_io.specs.declared.machine.Stray.TheVariants as Why
use Rattle.machine_io.proofs.Drives.{goes_more}
use Rattle.jack_meaning.specs.Text.{Subroutine}
use Rattle.jack_meaning.specs.Meaning.{State, Outcome, Acts, Stray, Done, step}
use Rattle.jack_meaning.specs.Level.{next_of}
use Rattle.jack_core.specs.Texts.{the_subroutines}
use Rattle.jack_core.specs.declared.program.Core.{Core}
use Rattle.jack_machine.specs.Whole.{JackStep, Stands, jack_state}
use Rattle.jack_machine.specs.declared.jack.Jack.{Jack}
use Rattle.jack_machine.proofs.Histories.{stands_on}
use Rattle.os_laws.specs.Calls.{after, no_key, Stops, ComesBack}
use Rattle.os_laws.specs.Machine.{GoesOn}
use Rattle.os_laws.proofs.Basics.{none-some, some_is}

-- a call that comes back stops where as many frames are there again
pub stops_back : (subs : List Subroutine) (s : State) (n : ℕ) (s' : State) → ComesBack subs s n s' → Stops subs no_key s (length s.frames) n s'
stops_back subs s n s' c = record {
  some = c.some;
  leads = c.leads no_key;
  there = c.frames;
  before = λ j low high. let i = c.inside no_key j low high in (i.0, i.1, (λ e. omega (arith, i.2, e)));
}

-- the first step, and the rest
after_first : (subs : List Subroutine) (n : ℕ) (o : Option State) (t : State) → option_and_then (after subs no_key n) o ≡ Some t → (m : State) × (o ≡ Some m) × (after subs no_key n m ≡ Some t)
after_first subs n None t e = absurd (none-some t e)
after_first subs n (Some m) t e = (m, refl, e)

-- the steps after the first m
after_rest : (subs : List Subroutine) (m n : ℕ) (s t u : State) → after subs no_key m s ≡ Some t → after subs no_key (m + n) s ≡ Some u → after subs no_key n t ≡ Some u
after_rest subs zero n s t u p q = ap (after subs no_key n) (sym (some_is s t p)) ∙ ap (λ k. after subs no_key k s) (let e : n ≡ 0 + n = omega arith in e) ∙ q
after_rest subs (suc m) n s t u p q =
    let f = after_first subs m (next_of (step subs 0 s)) t p in
    after_rest subs m n f.0 t u f.2 (sym (ap (option_and_then (after subs no_key (m + n))) f.1) ∙ ap (λ k. after subs no_key k s) (sym (suc-add m n)) ∙ q)

acted : (subs : List Subroutine) (o : Outcome) (t : State) → option_and_then (after subs no_key zero) (next_of o) ≡ Some t → (heard : Bool) × (o ≡ Acts heard t)
acted subs (Acts heard s) t e = (heard, ap (Acts heard) (some_is s t e))
acted subs (Stray a) t e = absurd (none-some t e)
acted subs Done t e = absurd (none-some t e)

-- the answer to a step that is made
by_answer : (mid new : Jack) (t : State) (heard : Bool) (answer : Moved) → JackStep 0 mid answer new → step (the_subroutines mid.core.now) 0 (jack_state mid) ≡ Acts heard t → (answer ≡ Moved.Acted) × (jack_state new ≡ t)
by_answer mid new t heard Moved.Acted h e = (refl, let f = sym h.1 ∙ e in cc f)
by_answer mid new t heard (Moved.Stray (Why.Address a)) h e = absurd (let f = sym h.0 ∙ e in cc f)
by_answer mid new t heard Moved.Done h e = absurd (let f = sym h.0 ∙ e in cc f)
by_answer mid new t heard (Moved.Full w) h e = absurd h
by_answer mid new t heard (Moved.Stray Why.Values) h e = absurd h
by_answer mid new t heard (Moved.Stray Why.Argument) h e = absurd h
by_answer mid new t heard (Moved.Stray Why.Local) h e = absurd h
by_answer mid new t heard (Moved.Stray Why.Code) h e = absurd h

abbrev subs_of : Jack → List Subroutine
subs_of j = the_subroutines j.core.now

-- the state after one more step
next_there : (subs : List Subroutine) (s : State) (frames n : ℕ) (s' : State) (i : ℕ) → Stops subs no_key s frames n s' → i < n → (t : State) × (after subs no_key (i + 1) s ≡ Some t)
next_there subs s frames n s' i st h = ⊎_elim (λ l. let b = st.before (i + 1) (omega arith) l in (b.0, b.1)) (λ g. (s', ap (λ k. after subs no_key k s) (let e : i + 1 ≡ n = omega (arith, g, h) in e) ∙ st.leads)) (cases_lt (i + 1) n)

-- one more step
pub goes_on : (old mid new : Jack) (frames n : ℕ) (s' : State) (i : ℕ) (answer : Moved) → Stops (subs_of old) no_key (jack_state old) frames n s' → i < n → GoesOn old i mid → JackStep 0 mid answer new → new.core ≡ mid.core
    → new.moves ≡ moves_in answer + mid.moves → GoesOn old (i + 1) new
goes_on old mid new frames n s' i answer st h g made same counted =
    let there = next_there (subs_of old) (jack_state old) frames n s' i st h in
    let one = after_rest (subs_of old) i 1 (jack_state old) (jack_state mid) there.0 g.state there.1 in
    let a = acted (subs_of old) (step (subs_of old) 0 (jack_state mid)) there.0 one in
    let subs_same : subs_of mid ≡ subs_of old = ap (λ (c : Bor Core). the_subroutines c.now) g.core in
    let b = by_answer mid new there.0 a.0 answer made (ap (λ subs. step subs 0 (jack_state mid)) subs_same ∙ a.1) in
    record {
      state = there.1 ∙ ap (λ (t : State). Some t) (sym b.1);
      history = goes_more no_key (Stands old) (Stands mid) (Stands new) old.moves i (old.moves + i) mid.moves new.moves 0 answer g.history (sym g.history.counts) refl b.0 (stands_on 0 mid new answer made same) counted;
      core = same ∙ g.core;
    }

-- where this many frames are there, the steps have stopped, and elsewhere they go on
module _ (old new : Jack) (frames i : ℕ) (g : GoesOn old (i + 1) new) (n : ℕ) (s : State) (st : Stops (subs_of old) no_key (jack_state old) frames n s) (h : i < n) where
  as_before : i + 1 < n → length (jack_state new).frames ≢ frames
  as_before l e =
      let b = st.before (i + 1) (omega arith) l in
      let same : b.0 ≡ jack_state new = some_is b.0 (jack_state new) (sym b.1 ∙ g.state) in
      b.2 (ap (λ (t : State). length t.frames) same ∙ e)

  as_there : i + 1 ≡ n → jack_state new ≡ s
  as_there e = some_is (jack_state new) s (sym g.state ∙ ap (λ k. after (subs_of old) no_key k (jack_state old)) e ∙ st.leads)

  pub stopped : length (jack_state new).frames ≡ frames → (i + 1 ≡ n) × (jack_state new ≡ s)
  stopped e = ⊎_elim (λ l. absurd (as_before l e)) (λ k. let m : i + 1 ≡ n = omega (arith, k, h) in (m, as_there m)) (cases_lt (i + 1) n)

  pub going : length (jack_state new).frames ≢ frames → i + 1 < n
  going d =
      ⊎_elim (λ l. l)
      (λ k. let m : i + 1 ≡ n = omega (arith, k, h) in absurd (d (ap (λ (t : State). length t.frames) (as_there m) ∙ st.there)))
      (cases_lt (i + 1) n)
