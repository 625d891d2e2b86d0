-- Runs that are tame, and runs that are not, by computation.
use Rattle.std.proofs.Common.{◌≡◌, ◌≢◌, inl, inr, ℕ, zero, suc, ◌+◌, ◌≤◌, Bool, true, false, ◌&&◌, List, Option, Some, None, option_map, option_and_then, refl, ap, subst, ◌∙◌, arith}
use Rattle.std.proofs.lemmas.Bool.{cases_eq}
use Rattle.simulation.specs.System.{System, Listening, step_from, run_of, Tame}

both : (a b : Bool) → (a && b) ≡ true → (a ≡ true) × (b ≡ true)
both true b h = (refl, h)
both false b h = absurd cc

module _ {S : Type 0} (sys : System S) (start : S) (keys : List ℕ) where
  -- from here this many more steps can be made, and at each state the words in use leave room
  abbrev pub all_fit : ℕ → Option (Listening S) → Bool
  all_fit n None = false
  all_fit zero (Some l) = sys.fits l.state
  all_fit (suc n) (Some l) = sys.fits l.state && all_fit n (step_from sys l)

  abbrev pub IsFitAt : ℕ → Type 0
  IsFitAt j = (l : Listening S) × (run_of sys start keys j ≡ Some l) × (sys.fits l.state ≡ true)

  tame_with : (n k : ℕ) (o : Option (Listening S)) → run_of sys start keys k ≡ o → all_fit n o ≡ true → (j : ℕ) → k ≤ j → j ≤ k + n → IsFitAt j
  tame_with n k None e h j low high = absurd cc
  tame_with zero k (Some l) e h j low high =
      let same : k ≡ j = omega (arith, low, high) in
      subst IsFitAt same (l, e, h)
  tame_with (suc n) k (Some l) e h j low high = elim (cases_eq k j) [
    | inl same ↦ subst IsFitAt same (l, e, (both (sys.fits l.state) (all_fit n (step_from sys l)) h).0)
    | inr other ↦
        tame_with n (suc k) (step_from sys l) (ap (option_and_then (step_from sys)) e) (both (sys.fits l.state) (all_fit n (step_from sys l)) h).1
        j (omega (arith, low, other)) (omega (arith, high))
  ]

  pub tamed : (m : ℕ) → all_fit m (run_of sys start keys zero) ≡ true → Tame sys start keys m
  tamed m h j high = tame_with m zero (run_of sys start keys zero) refl h j (omega arith) (omega (arith, high))

  -- where the m-th state is missing or leaves no room, the run is not tame
  pub untamed : (m : ℕ) → option_map (λ l. sys.fits l.state) (run_of sys start keys m) ≢ Some true → Tame sys start keys m → ⊥
  untamed m h t =
      let at = t m (omega arith) in
      h (ap (option_map (λ l. sys.fits l.state)) at.1 ∙ ap (λ (b : Bool). Some b) at.2)
