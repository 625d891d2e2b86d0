-- Runs over a list of keys.
use Rattle.std.proofs.Common.{◌≡◌, ℕ, suc, Bool, true, false, List, [], ◌∷◌, ◌++◌, refl, ap, ◌∙◌, sym, append_assoc}
use Rattle.std.specs.Prelude.{Option, Some, None, option_map, option_and_then, if◌then◌else◌}
use Rattle.simulation.specs.System.{System, keys_heard, first_key, other_keys, Listening, step_from, run_of, IsMeaning}

pub none-some : {A : Type 0} (a : A) → ◌≡◌ {A = Option A} None (Some a) → ⊥
none-some a e = cc e

pub some_is : {A : Type 0} (a b : A) → Some a ≡ Some b → a ≡ b
some_is a b e = cc e

mapped : {A B : Type 0} (f : A → B) (g : B → A) → ((a : A) → g (f a) ≡ a) → (o : Option A) (b : B) → option_map f o ≡ Some b → o ≡ Some (g b)
mapped f g r None b e = absurd (none-some b e)
mapped f g r (Some a) b e = ap Some (sym (r a) ∙ ap g (some_is (f a) b e))

module _ {S : Type 0} (sys : System S) (start : S) (laws : IsMeaning sys) where
  abbrev pub with_keys : S → List ℕ → Listening S
  with_keys s keys = record { state = s; keys = keys }

  -- m steps that hear exactly the keys `used` lead to s
  abbrev pub Trail : List ℕ → ℕ → S → Type 0
  Trail used m s = (rest : List ℕ) → run_of sys start (used ++ rest) m ≡ Some (with_keys s rest)

  pub trail-zero : Trail [] 0 start
  trail-zero rest = refl

  step_with : (b : Bool) (s s' : S) (k : ℕ) (rest : List ℕ) → sys.hears s ≡ b → sys.step k s ≡ Some s' → step_from sys (with_keys s (keys_heard b k ++ rest)) ≡ Some (with_keys s' rest)
  step_with true s s' k rest h e = rw (e, h)
  step_with false s s' k rest h e = rw (laws.deaf s (first_key rest) k h, e, h)

  step_by : (s s' : S) (k : ℕ) (rest : List ℕ) → sys.step k s ≡ Some s' → step_from sys (with_keys s (keys_heard (sys.hears s) k ++ rest)) ≡ Some (with_keys s' rest)
  step_by s s' k rest e = step_with (sys.hears s) s s' k rest refl e

  pub trail-suc : (used : List ℕ) (m : ℕ) (s s' : S) (k : ℕ) → Trail used m s → sys.step k s ≡ Some s' → Trail (used ++ keys_heard (sys.hears s) k) (suc m) s'
  trail-suc used m s s' k t e rest =
      ap (λ z. option_and_then (step_from sys) (run_of sys start z m)) (append_assoc used (keys_heard (sys.hears s) k) rest)
      ∙ ap (option_and_then (step_from sys)) (t (keys_heard (sys.hears s) k ++ rest))
      ∙ step_by s s' k rest e

  step_back : (b : Bool) (s : S) (k : ℕ) (rest : List ℕ) (l : Listening S) → sys.hears s ≡ b → step_from sys (with_keys s (keys_heard b k ++ rest)) ≡ Some l → sys.step k s ≡ Some l.state
  step_back true s k rest l h e = mapped (λ s'. with_keys s' (if sys.hears s then rest else k ∷ rest)) (λ x. x.state) (λ x. refl) (sys.step k s) l e
  step_back false s k rest l h e =
      laws.deaf s k (first_key rest) h ∙ mapped (λ s'. with_keys s' (if sys.hears s then other_keys rest else rest)) (λ x. x.state) (λ x. refl) (sys.step (first_key rest) s) l e

  -- where the run goes on from s, s makes the step
  pub trail-step : (used : List ℕ) (m : ℕ) (s : S) (k : ℕ) (rest : List ℕ) (l : Listening S) → Trail used m s → run_of sys start (used ++ (keys_heard (sys.hears s) k ++ rest)) (suc m) ≡ Some l → sys.step k s ≡ Some l.state
  trail-step used m s k rest l t e =
      step_back (sys.hears s) s k rest l refl (sym (ap (option_and_then (step_from sys)) (t (keys_heard (sys.hears s) k ++ rest))) ∙ e)

  -- a state that has come to its end has no next one
  pub trail-end : (used : List ℕ) (m : ℕ) (s : S) (rest : List ℕ) (l : Listening S) → Trail used m s → run_of sys start (used ++ rest) (suc m) ≡ Some l → sys.halted s ≡ true → ⊥
  trail-end used m s rest l t e h =
      let some = mapped (λ s'. with_keys s' (if sys.hears s then other_keys rest else rest)) (λ x. x.state) (λ x. refl) (sys.step (first_key rest) s) l (sym (ap (option_and_then (step_from sys)) (t rest)) ∙ e) in
      none-some _ (sym (laws.stops s (first_key rest) h) ∙ some)
