-- The usual pieces of a way.
use Rattle.std.proofs.Common.{◌≡◌, ℕ, ◌+◌, ◌≤◌, Bool, true, false, List, [], ◌∷◌, ◌++◌, ap, ◌∙◌, sym, subst, append-nil}
use Rattle.std.specs.Prelude.{Some}
use Rattle.simulation.specs.System.{System, IsKey, keys_heard}
use Rattle.simulation.specs.Layers.{Shows, Along, last, lands, onward, Way}

module _ {U L : Type 0} (up : System U) (low : System L) (cost : L → ℕ) (u : U) where
  still_pending : (b : Bool) (pend : List ℕ) (key : ℕ) → b ≡ false → pend ++ keys_heard b key ≡ pend
  still_pending b pend key h = ap (λ z. pend ++ keys_heard z key) h ∙ append-nil pend

  -- a step that neither commits nor hears
  pub quiet_step : (End : List ℕ → L → Type 0) (n m : ℕ) (pend : List ℕ) (l l' : L) → Shows up low u l → low.commits l ≡ false → low.hears l ≡ false → cost l + m ≤ n → ((key : ℕ) → IsKey key → low.step key l ≡ Some l') → Along up low cost u End m pend l' → Along up low cost u End n pend l
  quiet_step End n m pend l l' s c h b step rest =
      onward n m pend l s c b (λ key w. l') step (λ key w. subst (λ z. Along up low cost u End m z l') (sym (still_pending (low.hears l) pend key h)) rest)

  -- a step that hears the key for a later commit
  pub hearing_step : (End : List ℕ → L → Type 0) (n m : ℕ) (l : L) (to : (key : ℕ) → IsKey key → L) → Shows up low u l → low.commits l ≡ false → low.hears l ≡ true → cost l + m ≤ n → ((key : ℕ) (w : IsKey key) → low.step key l ≡ Some (to key w)) → ((key : ℕ) (w : IsKey key) → Along up low cost u End m (key ∷ []) (to key w)) → Along up low cost u End n [] l
  hearing_step End n m l to s c h b step rest =
      onward n m [] l s c b to step (λ key w. subst (λ z. Along up low cost u End m z (to key w)) (sym (ap (λ z. keys_heard z key) h)) (rest key w))

  -- the last step, where both hear the key or neither does
  pub last_step : (R : U → L → Type 0) (n : ℕ) (l : L) → Shows up low u l → low.commits l ≡ up.commits u → up.halted u ≡ false → low.halted l ≡ false → low.hears l ≡ up.hears u → cost l ≤ n
      → ((key : ℕ) → IsKey key → (u' : U) × (up.step key u ≡ Some u') × (l' : L) × (low.step key l ≡ Some l') × R u' l') → Way up low cost R u n [] l
  last_step R n l s c g m h b leads =
      last n [] l
      (lands [] l (record { shows = s; commit = c; going = g; moving = m; leads = λ key w. let x = leads key w in (key, w, ap (λ z. keys_heard z key) h, x.0, x.1, x.2, x.3, x.4) })) b
