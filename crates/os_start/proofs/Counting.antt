-- How many cycles the lower machine of a layer takes for steps that hear no key, each within one bound.
use Rattle.std.proofs.Common.{◌≡◌, ℕ, suc, ◌+◌, ◌≤◌, Bool, true, false, List, [], ◌++◌, refl, ap, ◌∙◌, sym, subst, arith}
use Rattle.std.specs.Prelude.{Some, if◌then◌else◌}
use Rattle.simulation.specs.System.{System, IsKey, keys_heard}
use Rattle.simulation.specs.Trace.{Trace, steps, heard_keys, trace_of}
use Rattle.simulation.specs.Layers.{lands, rests, strays, last, onward, Way, Simulates, Opens, ready, before}
use Rattle.simulation.proofs.Runs.{some_is, none-some}

module _ {U L : Type 0} (up : System U) (low : System L) (cost : L → ℕ) (R : U → L → Type 0) (keys : ℕ → ℕ) (state : ℕ → L) where
  abbrev pub t : Trace
  t = trace_of low keys state

  -- a step that is the same under every key, counts and hears none
  pub record Makes (u u' : U) : Type 0 where
    pub step : (key : ℕ) → up.step key u ≡ Some u'
    pub unheard : up.hears u ≡ false
    pub counts : up.commits u ≡ true
    pub going : up.halted u ≡ false

  -- At a cycle up to this one m steps have been counted, no key has been heard, and the machine's state is related to u.
  pub record Comes (u : U) (until m : ℕ) : Type 0 where
    pub at : ℕ
    pub soon : at ≤ until
    pub counted : steps t at ≡ m
    pub unheard : heard_keys t at ≡ []
    pub met : R u (state at)

  pub sooner : (u : U) (until until' m : ℕ) → until ≤ until' → Comes u until m → Comes u until' m
  sooner u until until' m h c = record { at = c.at; soon = omega (arith, h, c.soon); counted = c.counted; unheard = c.unheard; met = c.met }

  module _ (key_words : (c : ℕ) → IsKey (keys c)) (runs : (c : ℕ) → low.step (keys c) (state c) ≡ Some (state (suc c))) (paid : (l : L) → 1 ≤ cost l) where
    no_keys : (b : Bool) (key : ℕ) → b ≡ false → keys_heard b key ≡ []
    no_keys b key e = ap (λ z. keys_heard z key) e

    stepped : (n : ℕ) (l l' : L) → state n ≡ l → low.step (keys n) l ≡ Some l' → state (suc n) ≡ l'
    stepped n l l' e s = some_is (state (suc n)) l' (sym (runs n) ∙ ap (low.step (keys n)) e ∙ s)

    -- along a way, on which these keys have been heard so far
    pub along : (u u' : U) → Makes u u' → (left n : ℕ) (pend : List ℕ) (l : L) → state n ≡ l → heard_keys t n ≡ pend → Way up low cost R u left pend l → Comes u' (n + left) (suc (steps t n))
    along u u' m left n pend l e k (last _ _ _ (lands _ _ h) c) =
        let x = h.leads (keys n) (key_words n) in
        let same : x.3 ≡ u' = some_is x.3 u' (sym {b = Some x.3} x.4 ∙ m.step x.0) in
        let now : state (suc n) ≡ x.5 = stepped n l x.5 e x.6 in
        record {
          at = suc n;
          soon = omega (arith, c, paid l);
          counted = ap (λ b. if b then suc (steps t n) else steps t n) (ap low.commits e ∙ h.commit ∙ m.counts);
          unheard = ap (λ z. z ++ keys_heard (low.hears (state n)) (keys n)) k ∙ ap (λ z. pend ++ keys_heard (low.hears z) (keys n)) e ∙ x.2 ∙ no_keys (up.hears u) x.0 m.unheard;
          met = subst (λ z. R z (state (suc n))) same (subst (R x.3) (sym now) x.7);
        }
    along u u' m left n pend l e k (last _ _ _ (rests _ h) c) = absurd (let a = h.upper in let b = m.going in cc (a, b))
    along u u' m left n pend l e k (last _ _ _ (strays _ h) c) = absurd (none-some u' (sym (h.none 0 (omega arith)) ∙ m.step 0))
    along u u' m left n pend l e k (onward _ left' _ _ s q c to moves ways) =
        let now : state (suc n) ≡ to (keys n) (key_words n) = stepped n l (to (keys n) (key_words n)) e (moves (keys n) (key_words n)) in
        let heard : heard_keys t (suc n) ≡ pend ++ keys_heard (low.hears l) (keys n) =
        ap (λ z. z ++ keys_heard (low.hears (state n)) (keys n)) k ∙ ap (λ z. pend ++ keys_heard (low.hears z) (keys n)) e in
        let rest = along u u' m left' (suc n) (pend ++ keys_heard (low.hears l) (keys n)) (to (keys n) (key_words n)) now heard (ways (keys n) (key_words n)) in
        let none : steps t (suc n) ≡ steps t n = ap (λ b. if b then suc (steps t n) else steps t n) (ap low.commits e ∙ q) in
        record {
          at = rest.at;
          soon = omega (arith, rest.soon, c, paid l);
          counted = rest.counted ∙ ap suc none;
          unheard = rest.unheard;
          met = rest.met;
        }

    -- to the upper machine's start
    pub opening : (u : U) (left n m : ℕ) (l : L) → state n ≡ l → heard_keys t n ≡ [] → steps t n ≡ m → Opens up low cost R u left l → Comes u (n + left) m
    opening u left n m l e k s (ready _ _ r) = record { at = n; soon = omega arith; counted = s; unheard = k; met = subst (R u) (sym e) r }
    opening u left n m l e k s (before _ left' _ shows q h c to moves opens) =
        let now : state (suc n) ≡ to (keys n) (key_words n) = stepped n l (to (keys n) (key_words n)) e (moves (keys n) (key_words n)) in
        let heard : heard_keys t (suc n) ≡ [] = ap (λ z. z ++ keys_heard (low.hears (state n)) (keys n)) k ∙ no_keys (low.hears (state n)) (keys n) (ap low.hears e ∙ h) in
        let counted : steps t (suc n) ≡ m = ap (λ b. if b then suc (steps t n) else steps t n) (ap low.commits e ∙ q) ∙ s in
        let rest = opening u left' (suc n) m (to (keys n) (key_words n)) now heard counted (opens (keys n) (key_words n)) in
        sooner u (suc n + left') (n + left) m (omega (arith, c, paid l)) rest

    -- one step more
    pub one_more : (bound : ℕ) → Simulates up low cost R (λ u. bound) → (u u' : U) (until m : ℕ) → up.fits u ≡ true → Makes u u' → Comes u until m → Comes u' (until + bound) (suc m)
    one_more bound layer u u' until m fits makes c =
        let next = along u u' makes bound c.at [] (state c.at) refl c.unheard (layer.goes u (state c.at) c.met fits) in
        record {
          at = next.at;
          soon = omega (arith, next.soon, c.soon);
          counted = next.counted ∙ ap suc c.counted;
          unheard = next.unheard;
          met = next.met;
        }
