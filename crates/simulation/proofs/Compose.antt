-- Two layers, one over the other, are one layer.
use Rattle.std.proofs.Common.{◌≡◌, ◌⊎◌, ℕ, ◌+◌, ◌≤◌, Bool, true, false, List, [], ◌∷◌, ◌++◌, refl, inl, inr, ap, ◌∙◌, sym, subst, arith, append_assoc, append-nil}
use Rattle.std.specs.Prelude.{Option, Some, None}
use Rattle.outer_world.specs.declared.point.Point.{Point}
use Rattle.simulation.specs.System.{System, IsKey, keys_heard}
use Rattle.simulation.proofs.Runs.{none-some, some_is}
use Rattle.simulation.specs.Layers.{Shows, Lands, GoesAstray, Ends, lands, rests, strays, last, onward, Way, Simulates, Opens, ready, before, Through}

true-ne-false : (b : Bool) → b ≡ true → b ≡ false → ⊥
true-ne-false b p q = cc

-- the point, where there is one, passes down
point_down : (p q r : Option Point) → (q ≡ p) ⊎ (q ≡ None) → (r ≡ q) ⊎ (r ≡ None) → (r ≡ p) ⊎ (r ≡ None)
point_down p q r (inl e) (inl f) = inl (f ∙ e)
point_down p q r (inr e) (inl f) = inr (f ∙ e)
point_down p q r x (inr f) = inr f

no_keys : (pend : List ℕ) (b : Bool) (key : ℕ) → pend ++ keys_heard b key ≡ [] → (pend ≡ []) × (b ≡ false)
no_keys [] true key e = absurd cc
no_keys [] false key e = (refl, refl)
no_keys (k ∷ pend) b key e = absurd cc

module _ {U V L : Type 0} (up : System U) (mid : System V) (low : System L) (cost_mid : V → ℕ) (cost : L → ℕ) (R : U → V → Type 0) (S : V → L → Type 0) where
  shows_through : (u : U) (v : V) (l : L) → Shows up mid u v → Shows mid low v l → Shows up low u l
  shows_through u v l s t = record {
    words = λ a d. t.words a d ∙ s.words a d;
    point = point_down (up.point u) (mid.point v) (low.point l) s.point t.point;
    fits = t.fits;
  }

  lands_through : (u : U) (v : V) (l : L) (pend pend' : List ℕ) → Lands up mid R u pend v → Lands mid low S v pend' l → Lands up low (Through R S) u (pend ++ pend') l
  lands_through u v l pend pend' a b = record {
    shows = shows_through u v l a.shows b.shows;
    commit = b.commit ∙ a.commit;
    going = a.going;
    moving = b.moving;
    leads = λ key w.
        let x = b.leads key w in
        let y = a.leads x.0 x.1 in (
          y.0,
          y.1,
          append_assoc pend pend' (keys_heard (low.hears l) key) ∙ ap (λ z. pend ++ z) x.2 ∙ y.2,
          y.3,
          y.4,
          x.5,
          x.6,
          (x.3, subst (R y.3) (some_is y.5 x.3 (sym y.6 ∙ x.4)) y.7, x.7),
        );
  }

  -- what the lower machine does for a machine between that goes astray with the upper one
  astray_through : (u : U) (v : V) (l : L) (pend : List ℕ) → GoesAstray up mid u v → Ends mid low S v pend l → (pend ≡ []) × GoesAstray up low u l
  astray_through u v l pend a (lands _ _ b) =
      let x = b.leads 0 (omega arith) in
      let none = no_keys pend (low.hears l) 0 (x.2 ∙ ap (λ z. keys_heard z x.0) a.deaf.1) in (
        none.0,
        record { shows = shows_through u v l a.shows b.shows; commit = b.commit ∙ a.commit; going = a.going; moving = b.moving; deaf = (a.deaf.0, none.1); none = a.none },
      )
  astray_through u v l pend a (rests _ b) = absurd (true-ne-false (mid.halted v) b.upper a.moving)
  astray_through u v l pend a (strays _ b) = (
    refl,
    record { shows = shows_through u v l a.shows b.shows; commit = b.commit ∙ a.commit; going = a.going; moving = b.moving; deaf = (a.deaf.0, b.deaf.1); none = a.none },
  )

  -- a way of the lower machine, with what is done at its end
  carry : (u : U) (v : V) (more : ℕ) (pend : List ℕ) → Shows up mid u v
      → ((n : ℕ) (pend' : List ℕ) (l : L) → Ends mid low S v pend' l → cost l + more ≤ n → Way up low cost (Through R S) u n (pend ++ pend') l)
      → (m n : ℕ) (pend' : List ℕ) (l : L) → m + more ≤ n → Way mid low cost S v m pend' l → Way up low cost (Through R S) u n (pend ++ pend') l
  carry u v more pend s ending m n pend' l b (last _ _ _ h c) = ending n pend' l h (omega arith)
  carry u v more pend s ending m n pend' l b (onward _ m' _ _ t q c to steps ways) =
      onward n (m' + more) (pend ++ pend') l (shows_through u v l s t) q (omega arith) to steps
      (λ key w. subst (λ z. Way up low cost (Through R S) u (m' + more) z (to key w)) (sym (append_assoc pend pend' (keys_heard (low.hears l) key)))
      (carry u v more pend s ending m' (m' + more) (pend' ++ keys_heard (low.hears l) key) (to key w) (omega arith) (ways key w)))

  steps_not : (v v' : V) (key : ℕ) → mid.step key v ≡ Some v' → mid.step key v ≡ None → ⊥
  steps_not v v' key e f = none-some v' (sym f ∙ e)

  -- the end of a way of the machine between, where the lower one ends its own
  end_through : (u : U) (v : V) (l : L) (pend pend' : List ℕ) → Ends up mid R u pend v → Ends mid low S v pend' l → Ends up low (Through R S) u (pend ++ pend') l
  end_through u v l pend pend' (lands _ _ a) (lands _ _ b) = lands (pend ++ pend') l (lands_through u v l pend pend' a b)
  end_through u v l pend pend' (lands _ _ a) (rests _ b) = absurd (true-ne-false (mid.halted v) b.upper a.moving)
  end_through u v l pend pend' (lands _ _ a) (strays _ b) = absurd (let x = a.leads 0 (omega arith) in steps_not v x.5 0 x.6 (b.none 0 (omega arith)))
  end_through u v l pend pend' (rests _ a) (lands _ _ b) = absurd (true-ne-false (mid.halted v) a.lower b.going)
  end_through u v l pend pend' (rests _ a) (rests _ b) = rests l (record { shows = shows_through u v l a.shows b.shows; upper = a.upper; lower = b.lower })
  end_through u v l pend pend' (rests _ a) (strays _ b) = absurd (true-ne-false (mid.halted v) a.lower b.going)
  end_through u v l pend pend' (strays _ a) b = let x = astray_through u v l pend' a b in subst (λ z. Ends up low (Through R S) u z l) (sym x.0) (strays l x.1)

  end_shows : (u : U) (pend : List ℕ) (v : V) → Ends up mid R u pend v → Shows up mid u v
  end_shows u pend v (lands _ _ a) = a.shows
  end_shows u pend v (rests _ a) = a.shows
  end_shows u pend v (strays _ a) = a.shows

  module _ (stops : (v : V) (key : ℕ) → mid.halted v ≡ true → mid.step key v ≡ None) (below : Simulates mid low cost S cost_mid) where
    stopped : (v : V) → mid.halted v ≡ true → {v' : V} → mid.step 0 v ≡ Some v' → ⊥
    stopped v h e = cc (stops v 0 h)

    -- a step of the machine between that is on its way, made by the lower one
    passes : (u : U) (v : V) (n more : ℕ) (pend pend' : List ℕ) (l : L) → Shows up mid u v → mid.commits v ≡ false → (to : (key : ℕ) → IsKey key → V) → ((key : ℕ) (w : IsKey key) → mid.step key v ≡ Some (to key w))
        → ((key : ℕ) (w : IsKey key) (l' : L) → S (to key w) l' → Way up low cost (Through R S) u more (pend ++ keys_heard (mid.hears v) key) l')
        → cost l + more ≤ n → Ends mid low S v pend' l → Way up low cost (Through R S) u n (pend ++ pend') l
    passes u v n more pend pend' l a q to steps rest d (lands _ _ b) =
        onward n more (pend ++ pend') l (shows_through u v l a b.shows) (b.commit ∙ q) d (λ key w. (b.leads key w).5) (λ key w. (b.leads key w).6)
        (λ key w.
        let x = b.leads key w in
        subst (λ z. Way up low cost (Through R S) u more z x.5) (ap (λ z. pend ++ z) (sym x.2) ∙ sym (append_assoc pend pend' (keys_heard (low.hears l) key)))
        (rest x.0 x.1 x.5 (subst (λ z. S z x.5) (some_is x.3 (to x.0 x.1) (sym x.4 ∙ steps x.0 x.1)) x.7)))
    passes u v n more pend pend' l a q to steps rest d (rests _ b) = absurd (stopped v b.upper (steps 0 (omega arith)))
    passes u v n more pend pend' l a q to steps rest d (strays _ b) = absurd (steps_not v (to 0 (omega arith)) 0 (steps 0 (omega arith)) (b.none 0 (omega arith)))

    -- a way of the machine between, made by the lower one
    pub compose : (u : U) (v : V) (l : L) (n : ℕ) (pend : List ℕ) → Way up mid cost_mid R u n pend v → S v l → Way up low cost (Through R S) u n pend l
    compose u v l n pend (last _ _ _ a c) r =
        let shown = end_shows u pend v a in
        subst (λ z. Way up low cost (Through R S) u n z l) (append-nil pend)
        (carry u v 0 pend shown (λ m pend' l' b d. last m (pend ++ pend') l' (end_through u v l' pend pend' a b) (omega arith))
        (cost_mid v) n [] l (omega arith) (below.goes v l r shown.fits))
    compose u v l n pend (onward _ more _ _ a q c to steps ways) r =
        subst (λ z. Way up low cost (Through R S) u n z l) (append-nil pend)
        (carry u v more pend a
        (λ m pend' l' b d. passes u v m more pend pend' l' a q to steps (λ key w l'' t. compose u (to key w) l'' more (pend ++ keys_heard (mid.hears v) key) (ways key w) t) d b)
        (cost_mid v) n [] l (omega arith) (below.goes v l r a.fits))

    way_shows : (u : U) (n : ℕ) (pend : List ℕ) (v : V) → Way up mid cost_mid R u n pend v → Shows up mid u v
    way_shows u n pend v (last _ _ _ a c) = end_shows u pend v a
    way_shows u n pend v (onward _ m _ _ a q c to steps ways) = a

    -- two layers are one
    pub through : (bound : U → ℕ) → Simulates up mid cost_mid R bound → Simulates up low cost (Through R S) bound
    through bound above = record {
      point = λ u l r f. below.point r.0 l r.2 (way_shows u (bound u) [] r.0 (above.goes u r.0 r.1 f)).fits ∙ above.point u r.0 r.1 f;
      goes = λ u l r f. compose u r.0 l (bound u) [] (above.goes u r.0 r.1 f) r.2;
    }

    open_through : (u : U) (v : V) → R u v → Shows up mid u v → (n : ℕ) (l : L) → Opens mid low cost S v n l → Opens up low cost (Through R S) u n l
    open_through u v r s n l (ready _ _ q) = ready n l (v, r, q)
    open_through u v r s n l (before _ m _ t c h b to steps opens) =
        before n m l (shows_through u v l s t) c h b to steps (λ key w. open_through u v r s m (to key w) (opens key w))

    -- the lower machine's opening leads to the upper machine's start
    pub opens : (bound : U → ℕ) (u : U) (v : V) → Simulates up mid cost_mid R bound → R u v → up.fits u ≡ true → (n : ℕ) (l : L) → Opens mid low cost S v n l → Opens up low cost (Through R S) u n l
    opens bound u v above r f n l o = open_through u v r (way_shows u (bound u) [] v (above.goes u v r f)) n l o
