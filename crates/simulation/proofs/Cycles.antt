-- What one layer's contract says of a whole run, cycle by cycle.
use Rattle.std.proofs.Common.{◌≡◌, ◌⊎◌, ℕ, zero, suc, ◌+◌, ◌-◌, ◌<◌, ◌≤◌, Bool, true, false, List, [], ◌++◌, refl, inl, inr, ap, ◌∙◌, sym, subst, arith, append_assoc, append-nil}
use Rattle.std.specs.Prelude.{Option, Some, None, if◌then◌else◌}
use Rattle.std.specs.Option.{option_or}
use Rattle.std.proofs.lemmas.Bool.{cases_lt}
use Rattle.outer_world.specs.declared.point.Point.{Point}
use Rattle.simulation.specs.System.{System, IsKey, keys_heard, Listening, run_of, Tame, IsMeaning, IdlesAtEnd}
use Rattle.simulation.specs.Trace.{Trace, steps, heard_keys, point_at, trace_of}
use Rattle.simulation.specs.Layers.{Shows, Lands, Rests, GoesAstray, Ends, lands, rests, strays, last, onward, Way, Simulates, Opens, ready, before, Starts}
use Rattle.simulation.specs.Headline.{Agrees, Follows, Meets}
use Rattle.simulation.proofs.Runs.{Trail, trail-zero, trail-suc, trail-step, trail-end, some_is, none-some, with_keys}

-- the point stays where a cycle has the same one or none
point_stays : (p q r : Option Point) → (q ≡ p) ⊎ (q ≡ None) → r ≡ p → option_or q r ≡ p
point_stays p None r x e = e
point_stays p (Some y) r (inl f) e = f
point_stays p (Some y) r (inr f) e = absurd (none-some y (sym f))

point_new : (p q r : Option Point) → ((x : Point) × (p ≡ Some x)) → q ≡ p → option_or q r ≡ p
point_new p q r x e = subst (λ z. option_or z r ≡ p) (sym (e ∙ x.1)) (sym x.1)

point_kept : (p q r : Option Point) → (q ≡ p) ⊎ (q ≡ None) → r ≡ q → (r ≡ p) ⊎ (r ≡ None)
point_kept p q r (inl e) f = inl (f ∙ e)
point_kept p q r (inr e) f = inr (f ∙ e)

not_true : (b : Bool) → (b ≡ true → ⊥) → b ≡ false
not_true true h = absurd (h refl)
not_true false h = refl

one_more : (b : Bool) (n : ℕ) → n ≤ (if b then suc n else n)
one_more true n = omega arith
one_more false n = omega arith

module _ (t : Trace) where
  grows : (n d : ℕ) → steps t n ≤ steps t (d + n)
  grows n zero = subst (λ k. steps t n ≤ steps t k) (let z : n ≡ 0 + n = omega arith in z) (omega arith)
  grows n (suc d) =
      let more = one_more (t.commits (d + n)) (steps t (d + n)) in
      let before = grows n d in
      subst (λ k. steps t n ≤ steps t k) (let z : suc (d + n) ≡ suc d + n = omega arith in z) (omega (arith, more, before))

  pub steps_grow : (a b : ℕ) → a ≤ b → steps t a ≤ steps t b
  steps_grow a b h = subst (λ k. steps t a ≤ steps t k) (let z : (b - a) + a ≡ b = omega arith in z) (grows a (b - a))

module _ {U L : Type 0} (up : System U) (start : U) (low : System L) (cost : L → ℕ) (R : U → L → Type 0) (bound : U → ℕ) (keys : ℕ → ℕ) (state : ℕ → L) (gap : ℕ) where
  abbrev pub t : Trace
  t = trace_of low keys state

  -- no step has been made, or u was first met at a cycle, from which on none has been made
  abbrev pub Since : U → ℕ → Type 0
  Since u n = (steps t n ≡ 0) ⊎ ((o : ℕ) × (o ≤ n) × R u (state o) × (up.fits u ≡ true) × (steps t o ≡ steps t n))

  pub record Coupled (laws : IsMeaning up) (n : ℕ) : Type 0 where
    pub u : U
    pub used : List ℕ
    pub pend : List ℕ
    pub left : ℕ
    pub trail : Trail up start laws used (steps t n) u
    pub keys_are : heard_keys t n ≡ used ++ pend
    pub way : Way up low cost R u left pend (state n)
    pub point : point_at t n ≡ up.point u
    pub within : left ≤ gap
    pub since : Since u n

  module _ (laws : IsMeaning up) (low_laws : IdlesAtEnd low) (layer : Simulates up low cost R bound) (key_words : (c : ℕ) → IsKey (keys c)) (until : ℕ) (runs : (c : ℕ) → c < until → low.step (keys c) (state c) ≡ Some (state (suc c))) (paid : (l : L) → 1 ≤ cost l) (still : (l l' : L) (key : ℕ) → low.halted l ≡ true → low.step key l ≡ Some l' → cost l' ≤ cost l) (small : (u : U) → bound u + 16 ≤ gap) (begins : up.fits start ≡ true → Starts up low cost R start 16 (state 0)) where
    widen : (u : U) (m n : ℕ) (pend : List ℕ) (l : L) → m ≤ n → Way up low cost R u m pend l → Way up low cost R u n pend l
    widen u m n pend l b (last _ _ _ h c) = last n pend l h (omega arith)
    widen u m n pend l b (onward _ k _ _ s q c to moves ways) = onward n k pend l s q (omega arith) to moves ways

    end_shows : (u : U) (pend : List ℕ) (l : L) → Ends up low R u pend l → Shows up low u l
    end_shows u pend l (lands _ _ h) = h.shows
    end_shows u pend l (rests _ h) = h.shows
    end_shows u pend l (strays _ h) = h.shows

    shows : (u : U) (m : ℕ) (pend : List ℕ) (l : L) → Way up low cost R u m pend l → Shows up low u l
    shows u m pend l (last _ _ _ h c) = end_shows u pend l h
    shows u m pend l (onward _ k _ _ s q c to moves ways) = s

    opening : (n : ℕ) (l : L) → up.fits start ≡ true → Opens up low cost R start n l → Way up low cost R start (n + bound start) [] l
    opening n l f (ready _ _ r) = widen start (bound start) (n + bound start) [] l (omega arith) (layer.goes start l r f)
    opening n l f (before _ m _ s c h b to moves opens) =
        onward (n + bound start) (m + bound start) [] l s c (omega arith) to moves
        (λ key w. subst (λ z. Way up low cost R start (m + bound start) z (to key w)) (sym (ap (λ b. keys_heard b key) h))
        (opening m (to key w) f (opens key w)))

    commit_adds : (n : ℕ) → low.commits (state n) ≡ true → steps t (suc n) ≡ suc (steps t n)
    commit_adds n c = ap (λ b. if b then suc (steps t n) else steps t n) c

    quiet_adds : (n : ℕ) → low.commits (state n) ≡ false → steps t (suc n) ≡ steps t n
    quiet_adds n c = ap (λ b. if b then suc (steps t n) else steps t n) c

    still_since : (u : U) (n : ℕ) → steps t (suc n) ≡ steps t n → Since u n → Since u (suc n)
    still_since u n e (inl z) = inl (e ∙ z)
    still_since u n e (inr o) = inr (o.0, (let b = o.1 in omega arith), o.2, o.3, o.4 ∙ sym e)

    -- the next cycle
    advance : (n : ℕ) (rest : List ℕ) (u : U) (used pend : List ℕ) (left : ℕ) (l : L) → n < until → state n ≡ l
        → Tame up start (heard_keys t (suc n) ++ rest) (steps t (suc n))
        → Trail up start laws used (steps t n) u → heard_keys t n ≡ used ++ pend → point_at t n ≡ up.point u → left ≤ gap → Since u n
        → Way up low cost R u left pend l → Coupled laws (suc n)
    advance n rest u used pend left l near e tame trail k p b o (last _ _ _ (lands _ _ h) c) =
        let h' = subst (Lands up low R u pend) (sym e) h in
        let counted = commit_adds n (h'.commit ∙ laws.commits u) in
        let x = h'.leads (keys n) (key_words n) in
        let now = keys_heard (up.hears u) x.0 in
        let listened : heard_keys t (suc n) ≡ used ++ now =
        ap (λ z. z ++ keys_heard (low.hears (state n)) (keys n)) k ∙ append_assoc used pend (keys_heard (low.hears (state n)) (keys n)) ∙ ap (λ z. used ++ z) x.2 in
        let made = tame (suc (steps t n)) (omega (arith, counted)) in
        let made' = subst (λ z. run_of up start z (suc (steps t n)) ≡ Some made.0) (ap (λ z. z ++ rest) listened ∙ append_assoc used now rest) made.1 in
        let u' = made.0.state in
        let step = trail-step up start laws used (steps t n) u x.0 rest made.0 trail made' in
        let related = subst (λ z. R z x.5) (some_is x.3 u' (sym {b = Some x.3} x.4 ∙ step)) x.7 in
        let r = subst (R u') (some_is x.5 (state (suc n)) (sym {b = Some x.5} x.6 ∙ runs n near)) related in
        record {
          u = u';
          used = used ++ now;
          pend = [];
          left = bound u';
          trail = subst (λ z. Trail up start laws (used ++ now) z u') (sym counted) (trail-suc up start laws used (steps t n) u u' x.0 trail step);
          keys_are = listened ∙ sym (append-nil (used ++ now));
          way = layer.goes u' (state (suc n)) r made.2;
          point = point_new (up.point u') (low.point (state (suc n))) (point_at t n) (laws.pointed u') (layer.point u' (state (suc n)) r made.2);
          within = omega (arith, small u');
          since = inr (suc n, omega arith, r, made.2, refl);
        }
    advance n rest u used pend left l near e tame trail k p b o (last _ _ _ (rests _ h) c) =
        let h' = subst (Rests up low u) (sym e) h in
        let q = low_laws.quiet (state n) h'.lower in
        let i = low_laws.idles (state n) (state (suc n)) (keys n) h'.lower (runs n near) in
        let less = still (state n) (state (suc n)) (keys n) h'.lower (runs n near) in
        let c' : cost (state n) ≤ left = subst (λ z. cost z ≤ left) (sym e) c in
        let shows' : Shows up low u (state (suc n)) = record {
          words = λ a d. i.words a d ∙ h'.shows.words a d;
          point = point_kept (up.point u) (low.point (state n)) (low.point (state (suc n))) h'.shows.point i.point;
          fits = i.fits;
        } in
        record {
          u = u;
          used = used;
          pend = [];
          left = left;
          trail = subst (λ z. Trail up start laws used z u) (sym (quiet_adds n q.0)) trail;
          keys_are = ap (λ b. heard_keys t n ++ keys_heard b (keys n)) q.1 ∙ append-nil (heard_keys t n) ∙ k;
          way = last left [] (state (suc n)) (rests (state (suc n)) (record { shows = shows'; upper = h'.upper; lower = i.halted })) (omega (arith, less, c'));
          point = point_stays (up.point u) (low.point (state (suc n))) (point_at t n) shows'.point p;
          within = b;
          since = still_since u n (quiet_adds n q.0) o;
        }
    advance n rest u used pend left l near e tame trail k p b o (last _ _ _ (strays _ h) c) =
        let h' = subst (GoesAstray up low u) (sym e) h in
        let counted = commit_adds n (h'.commit ∙ laws.commits u) in
        let made = tame (suc (steps t n)) (omega (arith, counted)) in
        let listened : heard_keys t (suc n) ≡ used ++ keys_heard (up.hears u) 0 =
        ap (λ z. z ++ keys_heard (low.hears (state n)) (keys n)) k ∙ append_assoc used [] (keys_heard (low.hears (state n)) (keys n)) ∙ ap (λ z. used ++ z) (ap (λ b. keys_heard b (keys n)) h'.deaf.1 ∙ sym (ap (λ b. keys_heard b 0) h'.deaf.0)) in
        let made' = subst (λ z. run_of up start z (suc (steps t n)) ≡ Some made.0) (ap (λ z. z ++ rest) listened ∙ append_assoc used (keys_heard (up.hears u) 0) rest) made.1 in
        absurd (none-some made.0.state (sym (h'.none 0 (omega arith)) ∙ trail-step up start laws used (steps t n) u 0 rest made.0 trail made'))
    advance n rest u used pend left l near e tame trail k p b o (onward _ m _ _ s q c to moves ways) =
        let q' = subst (λ z. low.commits z ≡ false) (sym e) q in
        let next = some_is (to (keys n) (key_words n)) (state (suc n)) (sym (moves (keys n) (key_words n)) ∙ ap (low.step (keys n)) (sym e) ∙ runs n near) in
        let way = subst (λ z. Way up low cost R u m (pend ++ keys_heard (low.hears z) (keys n)) (state (suc n))) (sym e)
        (subst (Way up low cost R u m (pend ++ keys_heard (low.hears l) (keys n))) next (ways (keys n) (key_words n))) in
        record {
          u = u;
          used = used;
          pend = pend ++ keys_heard (low.hears (state n)) (keys n);
          left = m;
          trail = subst (λ z. Trail up start laws used z u) (sym (quiet_adds n q')) trail;
          keys_are = ap (λ z. z ++ keys_heard (low.hears (state n)) (keys n)) k ∙ append_assoc used pend (keys_heard (low.hears (state n)) (keys n));
          way = way;
          point = point_stays (up.point u) (low.point (state (suc n))) (point_at t n) (shows u m _ (state (suc n)) way).point p;
          within = omega arith;
          since = still_since u n (quiet_adds n q') o;
        }

    -- at each cycle of a tame run the states are coupled
    claim : (n : ℕ) (rest : List ℕ) → n ≤ until → Tame up start (heard_keys t n ++ rest) (steps t n) → Coupled laws n
    claim zero rest near tame =
        let made = tame 0 (omega arith) in
        let f = subst (λ z. up.fits z.state ≡ true) (sym (some_is (with_keys up start laws start rest) made.0 made.1)) made.2 in
        let b = begins f in
        record {
          u = start;
          used = [];
          pend = [];
          left = 16 + bound start;
          trail = trail-zero up start laws;
          keys_are = refl;
          way = opening 16 (state 0) f b.opens;
          point = b.point;
          within = omega (arith, small start);
          since = inl refl;
        }
    claim (suc n) rest near tame =
        let now = keys_heard (low.hears (state n)) (keys n) in
        let more = one_more (low.commits (state n)) (steps t n) in
        let c = claim n (now ++ rest) (omega arith) (λ j h. subst (λ z. (l : Listening U) × (run_of up start z j ≡ Some l) × (up.fits l.state ≡ true)) (append_assoc (heard_keys t n) now rest) (tame j (omega (arith, h, more)))) in
        advance n rest c.u c.used c.pend c.left (state n) (omega arith) refl tame c.trail c.keys_are c.point c.within c.since c.way

    later : (u : U) (m n : ℕ) (pend : List ℕ) (l : L) → n + m ≤ until → up.halted u ≡ false → state n ≡ l → Way up low cost R u m pend l → steps t n < steps t (n + m)
    later u m n pend l near g e (last _ _ _ (lands _ _ h) c) =
        let h' = subst (Lands up low R u pend) (sym e) h in
        let counted = commit_adds n (h'.commit ∙ laws.commits u) in
        let after = steps_grow t (suc n) (n + m) (omega (arith, paid l)) in
        omega (arith, counted, after)
    later u m n pend l near g e (last _ _ _ (rests _ h) c) = absurd (let h' = h.upper in cc (g, h'))
    later u m n pend l near g e (last _ _ _ (strays _ h) c) =
        let h' = subst (GoesAstray up low u) (sym e) h in
        let counted = commit_adds n (h'.commit ∙ laws.commits u) in
        let after = steps_grow t (suc n) (n + m) (omega (arith, paid l)) in
        omega (arith, counted, after)
    later u m n pend l near g e (onward _ m' _ _ s q c to moves ways) =
        let q' = quiet_adds n (subst (λ z. low.commits z ≡ false) (sym e) q) in
        let next = some_is (to (keys n) (key_words n)) (state (suc n)) (sym (moves (keys n) (key_words n)) ∙ ap (low.step (keys n)) (sym e) ∙ runs n (omega (arith, paid l))) in
        let rest = later u m' (suc n) _ (to (keys n) (key_words n)) (omega (arith, paid l)) g (sym next) (ways (keys n) (key_words n)) in
        let after = steps_grow t (suc n + m') (n + m) (omega (arith, paid l)) in
        omega (arith, q', rest, after)

    pub agrees : (n : ℕ) → n ≤ until → Tame up start (heard_keys t n) (steps t n) → Agrees up start t (λ c. low.word (state c)) n
    agrees n near tame =
        let c = claim n [] near (subst (λ z. Tame up start z (steps t n)) (sym (append-nil (heard_keys t n))) tame) in
        record {
          after = with_keys up start laws c.u c.pend;
          run = subst (λ z. run_of up start z (steps t n) ≡ Some (with_keys up start laws c.u c.pend)) (sym c.keys_are) (c.trail c.pend);
          words = (shows c.u c.left c.pend (state n) c.way).words;
          point = c.point;
        }

    pub goes_on : (n : ℕ) → n + gap ≤ until → Tame up start (heard_keys t n) (suc (steps t n)) → steps t n < steps t (n + gap)
    goes_on n near tame =
        let c = claim n [] (omega arith) (subst (λ z. Tame up start z (steps t n)) (sym (append-nil (heard_keys t n))) (λ j h. tame j (omega arith))) in
        let within = c.within in
        let made = tame (suc (steps t n)) (omega arith) in
        let made' = subst (λ z. run_of up start z (suc (steps t n)) ≡ Some made.0) c.keys_are made.1 in
        let going = not_true (up.halted c.u) (trail-end up start laws c.used (steps t n) c.u c.pend made.0 c.trail made') in
        let rest = later c.u c.left n c.pend (state n) (omega (arith, within)) going refl c.way in
        let after = steps_grow t (n + c.left) (n + gap) (omega (arith, within)) in
        omega (arith, rest, after)

    -- a machine on the way of a step that is made goes on
    moves : (u : U) (used pend : List ℕ) (m n : ℕ) (made : Listening U) (l : L) → Trail up start laws used (steps t n) u → run_of up start (used ++ pend) (suc (steps t n)) ≡ Some made → Way up low cost R u m pend l → (l' : L) × (low.step (keys n) l ≡ Some l')
    moves u used pend m n made l trail run (last _ _ _ (lands _ _ h) c) = let x = h.leads (keys n) (key_words n) in (x.5, x.6)
    moves u used pend m n made l trail run (last _ _ _ (rests _ h) c) = absurd (trail-end up start laws used (steps t n) u [] made trail run h.upper)
    moves u used pend m n made l trail run (last _ _ _ (strays _ h) c) =
        let run' = subst (λ z. run_of up start (used ++ z) (suc (steps t n)) ≡ Some made) (sym (ap (λ b. keys_heard b 0 ++ []) h.deaf.0)) run in
        absurd (none-some made.state (sym (h.none 0 (omega arith)) ∙ trail-step up start laws used (steps t n) u 0 [] made trail run'))
    moves u used pend m n made l trail run (onward _ k _ _ s q c to e w) = (to (keys n) (key_words n), e (keys n) (key_words n))

    pub moves_on : (n : ℕ) → n ≤ until → Tame up start (heard_keys t n) (suc (steps t n)) → (l : L) × (low.step (keys n) (state n) ≡ Some l)
    moves_on n near tame =
        let c = claim n [] near (subst (λ z. Tame up start z (steps t n)) (sym (append-nil (heard_keys t n))) (λ j h. tame j (omega arith))) in
        let made = tame (suc (steps t n)) (omega arith) in
        moves c.u c.used c.pend c.left n made.0 (state n) c.trail (subst (λ z. run_of up start z (suc (steps t n)) ≡ Some made.0) c.keys_are made.1) c.way

    -- where the machine stands after n steps: on a way of the state that the meaning has come to
    pub record Standing (n : ℕ) : Type 0 where
      pub after : Listening U
      pub run : run_of up start (heard_keys t n) (steps t n) ≡ Some after
      pub left : ℕ
      pub pend : List ℕ
      pub way : Way up low cost R after.state left pend (state n)
      pub since : Since after.state n

    pub standing : (n : ℕ) → n ≤ until → Tame up start (heard_keys t n) (steps t n) → Standing n
    standing n near tame =
        let c = claim n [] near (subst (λ z. Tame up start z (steps t n)) (sym (append-nil (heard_keys t n))) tame) in
        record {
          after = with_keys up start laws c.u c.pend;
          run = subst (λ z. run_of up start z (steps t n) ≡ Some (with_keys up start laws c.u c.pend)) (sym c.keys_are) (c.trail c.pend);
          left = c.left;
          pend = c.pend;
          way = c.way;
          since = c.since;
        }

    -- a state that was met since the last commit was met after it
    met_now : (n : ℕ) (u : U) → low.commits (state n) ≡ true → Since u (suc n) → R u (state (suc n))
    met_now n u c (inl z) = absurd (let e = commit_adds n c in omega (arith, e, z))
    met_now n u c (inr o) =
        let e = commit_adds n c in
        let same = o.4 in
        let within = o.1 in
        elim (cases_lt o.0 (suc n)) [
          | inl less ↦ absurd (let g = steps_grow t o.0 n (omega (arith, less)) in omega (arith, e, same, g))
          | inr more ↦ (let here : o.0 ≡ suc n = omega (arith, within, more) in subst (λ z. R u (state z)) here o.2)
        ]

    -- At the cycle after a commit the machine's state is related to the meaning's.
    pub meets : (n : ℕ) → suc n ≤ until → low.commits (state n) ≡ true → Tame up start (heard_keys t (suc n)) (steps t (suc n)) → Meets up start low R keys state (suc n)
    meets n near c tame =
        let s = standing (suc n) near tame in
        record { after = s.after; run = s.run; met = met_now n s.after.state c s.since }

    pub follows : (n : ℕ) → n + gap ≤ until → Follows up start t (λ c. low.word (state c)) gap n
    follows n near = record { agrees = agrees n (omega arith); goes_on = goes_on n near }
