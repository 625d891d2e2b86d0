-- Runs in which no key is held.
use Rattle.std.proofs.Common.{◌≡◌, ℕ, zero, suc, Bool, true, false, List, [], ◌∷◌, ◌++◌, Option, Some, None, refl, sym, ap, subst, ◌∙◌}
use Rattle.std.specs.Prelude.{option_and_then, option_map, if◌then◌else◌}
use Rattle.simulation.specs.System.{System, Listening, keys_heard, first_key, other_keys, step_from, run_of, Tame}
use Rattle.simulation.specs.Trace.{Trace, heard_keys}
use Rattle.nand_cli.specs.Commands.SoakLevels.{after_steps}

abbrev pub AreZero : List ℕ → Type 0
AreZero [] = Unit {0}
AreZero (k ∷ ks) = (k ≡ 0) × AreZero ks

zero_two : (ks js : List ℕ) → AreZero ks → AreZero js → AreZero (ks ++ js)
zero_two [] js h k = k
zero_two (i ∷ ks) js h k = (h.0, zero_two ks js h.1 k)

zero_heard : (b : Bool) (k : ℕ) → k ≡ 0 → AreZero (keys_heard b k)
zero_heard true k h = (h, tt)
zero_heard false k h = tt

pub heard_zero : (t : Trace) → ((c : ℕ) → t.key c ≡ 0) → (n : ℕ) → AreZero (heard_keys t n)
heard_zero t h zero = tt
heard_zero t h (suc n) = zero_two (heard_keys t n) (keys_heard (t.hears n) (t.key n)) (heard_zero t h n) (zero_heard (t.hears n) (t.key n) (h n))

first_zero : (ks : List ℕ) → AreZero ks → first_key ks ≡ 0
first_zero [] h = refl
first_zero (k ∷ ks) h = h.0

others_zero : (ks : List ℕ) → AreZero ks → AreZero (other_keys ks)
others_zero [] h = tt
others_zero (k ∷ ks) h = h.1

left_zero : (b : Bool) (ks : List ℕ) → AreZero ks → AreZero (if b then other_keys ks else ks)
left_zero true ks h = others_zero ks h
left_zero false ks h = h

module _ {S : Type 0} (sys : System S) (first : S) where
  -- a run over such keys has the states of the run under key 0
  abbrev SameRun : Option (Listening S) → Option S → Type 0
  SameRun None None = Unit {0}
  SameRun None (Some s) = ⊥
  SameRun (Some l) None = ⊥
  SameRun (Some l) (Some s) = (l.state ≡ s) × AreZero l.keys

  stepped : (l : Listening S) (o p : Option S) → o ≡ p → AreZero l.keys → SameRun (option_map (λ (t : S). record { state = t; keys = if sys.hears l.state then other_keys l.keys else l.keys }) o) p
  stepped l o p e h = subst (λ (q : Option S). SameRun (option_map (λ (t : S). record { state = t; keys = if sys.hears l.state then other_keys l.keys else l.keys }) o) q) e (by o)
    where
      by : (o : Option S) → SameRun (option_map (λ (t : S). record { state = t; keys = if sys.hears l.state then other_keys l.keys else l.keys }) o) o
      by None = tt
      by (Some t) = (refl, left_zero (sys.hears l.state) l.keys h)

  one_step : (o : Option (Listening S)) (p : Option S) → SameRun o p → SameRun (option_and_then (step_from sys) o) (option_and_then (sys.step 0) p)
  one_step None None h = tt
  one_step None (Some s) h = absurd h
  one_step (Some l) None h = absurd h
  one_step (Some l) (Some s) h = stepped l (sys.step (first_key l.keys) l.state) (sys.step 0 s) (λ i. sys.step (first_zero l.keys h.1 i) (h.0 i)) h.1

  pub same_run : (ks : List ℕ) → AreZero ks → (m : ℕ) → SameRun (run_of sys first ks m) (after_steps sys first m)
  same_run ks h zero = (refl, h)
  same_run ks h (suc m) = one_step (run_of sys first ks m) (after_steps sys first m) (same_run ks h m)

  -- the state of a run over such keys
  found_by : (o : Option (Listening S)) (p : Option S) → SameRun o p → (l : Listening S) → o ≡ Some l → p ≡ Some l.state
  found_by None p h l e = absurd cc
  found_by (Some k) None h l e = absurd h
  found_by (Some k) (Some s) h l e = let same : k ≡ l = cc in ap Some (sym h.0) ∙ ap (λ (x : Listening S). Some x.state) same

  pub found : (ks : List ℕ) → AreZero ks → (m : ℕ) (l : Listening S) → run_of sys first ks m ≡ Some l → after_steps sys first m ≡ Some l.state
  found ks h m l e = found_by (run_of sys first ks m) (after_steps sys first m) (same_run ks h m) l e

  there_by : (o : Option (Listening S)) (s : S) → SameRun o (Some s) → (l : Listening S) × (o ≡ Some l) × (l.state ≡ s)
  there_by None s h = absurd h
  there_by (Some l) s h = (l, refl, h.0)

  there : (ks : List ℕ) → AreZero ks → (m : ℕ) (s : S) → after_steps sys first m ≡ Some s → (l : Listening S) × (run_of sys first ks m ≡ Some l) × (l.state ≡ s)
  there ks h m s e = there_by (run_of sys first ks m) s (subst (SameRun (run_of sys first ks m)) e (same_run ks h m))

  -- tame over no keys, and so over these
  pub tame_there : (ks : List ℕ) → AreZero ks → (m : ℕ) → Tame sys first [] m → Tame sys first ks m
  tame_there ks h m tame j le =
      let t = tame j le in
      let r = there ks h j t.0.state (found [] tt j t.0 t.1) in
      (r.0, r.1, subst (λ (s : S). sys.fits s ≡ true) (sym r.2) t.2)
