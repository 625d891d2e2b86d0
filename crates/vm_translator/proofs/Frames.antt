-- What the effects of commands are on the state that the memory holds.
use Rattle.std.proofs.Common.{◌≡◌, ◌≢◌, ◌⊎◌, ⊎_elim, inl, inr, ℕ, Option, ◌+◌, ◌-◌, ◌<◌, ◌≤◌, List, [], ◌∷◌, ◌++◌, length, refl, ap, ◌∙◌, sym, subst, arith, length-append}
use Rattle.std.specs.Prelude.{nat_eq, if◌then◌else◌}
use Rattle.std.proofs.lemmas.Bool.Decides.{nat_tests}
use Rattle.vm_templates.specs.Effects.{IsKept, Pushed, Joined, Turned, Stored, Dropped}
use Rattle.vm_machine.specs.State.{Frame, State, words_in_use}
use Rattle.vm_translator.specs.Stands.{Holds, own_words, lcl_of, arg_of, SameMemory}
use Rattle.vm_translator.proofs.Stack.{holds_kept, holds_both, holds_front, holds_back, use_is, laid_kept, own_top}

pub lcl_same : (f g : Frame) (below : List Frame) → length g.arguments ≡ length f.arguments → lcl_of (g ∷ below) ≡ lcl_of (f ∷ below)
lcl_same f g [] e = refl
lcl_same f g (h ∷ below) e = ap (λ n. 256 + words_in_use (h ∷ below) + n + 5) e

pub arg_same : (f g : Frame) (below : List Frame) → arg_of (g ∷ below) ≡ arg_of (f ∷ below)
arg_same f g [] = refl
arg_same f g (h ∷ below) = refl

high : (k : ℕ) → 16 ≤ k → IsKept k
high k h = (omega arith, omega arith, omega arith, omega arith)

low : (k : ℕ) → 1 ≤ k → k < 13 → IsKept k
low k h l = (omega arith, omega arith, omega arith, omega arith)

-- one word is written
pub record Written (m after : ℕ → ℕ) (to y : ℕ) : Type 0 where
  pub there : after to ≡ y
  pub same : (k : ℕ) → k ≢ to → after k ≡ m k

-- to store the topmost value is to take it away and then to write it
pub taken_first : (m after : ℕ → ℕ) (to : ℕ) → 1 ≤ to → Stored m after to → (mid : ℕ → ℕ) × Dropped m mid × Written mid after to (m (m 0 - 1))
taken_first m after to one s =
    let sp = s.sp in (
      (λ k. if nat_eq k to then m k else after k),
      record { sp = grind (arith, nat_tests); same = λ k h. let r = s.same k h in grind (arith, nat_tests) },
      record { there = s.there; same = λ k e. grind (arith, nat_tests) },
    )

module _ (address : Option ℕ → ℕ → ℕ) where
  abbrev pub base : List Frame → ℕ
  base below = 256 + words_in_use below

  abbrev pub with_frame : State → Frame → List Frame → State
  with_frame v g below = record v { frames = g ∷ below }

  -- what the memory says of the innermost frame
  pub record Inner (f : Frame) (below : List Frame) (m : ℕ → ℕ) : Type 0 where
    pub sp : m 0 ≡ base below + length (own_words address f below)
    pub own : Holds m (base below) (own_words address f below)

  pub at_frames : (v : State) (f : Frame) (below : List Frame) (m : ℕ → ℕ) → v.frames ≡ f ∷ below → SameMemory address v m → SameMemory address (with_frame v f below) m
  at_frames v f below m e h = subst (λ fs. SameMemory address (record v { frames = fs }) m) e h

  pub inner_of : (v : State) (f : Frame) (below : List Frame) (m : ℕ → ℕ) → v.frames ≡ f ∷ below → SameMemory address v m → Inner f below m
  inner_of v f below m e h =
      let h' = at_frames v f below m e h in
      let u = use_is address f below in
      record { sp = h'.sp ∙ omega arith; own = h'.laid.1 }

  -- Only the innermost frame changes, and of it neither the pointers nor the number of arguments.
  pub frame_changed : (v : State) (f g : Frame) (below : List Frame) (m after : ℕ → ℕ) → v.frames ≡ f ∷ below → SameMemory address v m → length g.arguments ≡ length f.arguments → g.this ≡ f.this → g.that ≡ f.that → after 0 ≡ 256 + words_in_use (g ∷ below) → Holds after (base below) (own_words address g below) → words_in_use below ≤ 1792
      → ((k : ℕ) → IsKept k → (k < base below) ⊎ (2048 ≤ k) → after k ≡ m k) → SameMemory address (with_frame v g below) after
  frame_changed v f g below m after e h args this that sp own room kept =
      let h' = at_frames v f below m e h in
      record {
        sp = sp;
        lcl = kept 1 (low 1 (omega arith) (omega arith)) (inl (omega arith)) ∙ h'.lcl ∙ sym (lcl_same f g below args);
        arg = kept 2 (low 2 (omega arith) (omega arith)) (inl (omega arith)) ∙ h'.arg ∙ sym (arg_same f g below);
        this = kept 3 (low 3 (omega arith) (omega arith)) (inl (omega arith)) ∙ h'.this ∙ sym this;
        that = kept 4 (low 4 (omega arith) (omega arith)) (inl (omega arith)) ∙ h'.that ∙ sym that;
        temps = λ k l. kept (5 + k) (low (5 + k) (omega arith) (omega arith)) (inl (omega arith)) ∙ h'.temps k l;
        statics = λ k l. kept (16 + k) (high (16 + k) (omega arith)) (inl (omega arith)) ∙ h'.statics k l;
        laid = (laid_kept address m after below h'.laid.0 (λ k a b. kept k (high k (omega arith)) (inl b)), own);
        words = λ k a b. kept k (high k (omega arith)) (inr a) ∙ h'.words k a b;
      }

  more : (ws all : List ℕ) (y : ℕ) → all ≡ ws ++ y ∷ [] → length all ≡ length ws + 1
  more ws all y e = ap length e ∙ length-append ws (y ∷ [])

  -- one value less: what is left of the innermost frame
  pub left_words : (f : Frame) (below : List Frame) (m : ℕ → ℕ) (y : ℕ) (values : List ℕ) → f.values ≡ y ∷ values → Inner f below m → Holds m (base below) (own_words address (record f { values = values }) below) × (m (m 0 - 1) ≡ y) × (m 0 ≡ base below + length (own_words address (record f { values = values }) below) + 1)
  left_words f below m y values b i =
      let lower = own_words address (record f { values = values }) below in
      let own = own_top address f below y values b in
      let n = more lower (own_words address f below) y own in
      let to : base below + length lower ≡ m 0 - 1 = omega (arith, i.sp) in
      let both = subst (Holds m (base below)) own i.own in
      (holds_front m (base below) lower (y ∷ []) both, subst (λ k. m k ≡ y) to (holds_back m (base below) lower (y ∷ []) both).0, omega (arith, i.sp))

  -- two values less
  pub left_two : (f : Frame) (below : List Frame) (m : ℕ → ℕ) (y x : ℕ) (values : List ℕ) → f.values ≡ y ∷ x ∷ values → Inner f below m → Holds m (base below) (own_words address (record f { values = values }) below) × (m (m 0 - 1) ≡ y) × (m (m 0 - 2) ≡ x) × (m 0 ≡ base below + length (own_words address (record f { values = values }) below) + 2)
  left_two f below m y x values b i =
      let f1 : Frame = record f { values = x ∷ values } in
      let lower = own_words address (record f { values = values }) below in
      let one = left_words f below m y (x ∷ values) b i in
      let own = own_top address f1 below x values refl in
      let n = more lower (own_words address f1 below) x own in
      let both = subst (Holds m (base below)) own one.0 in
      let to : base below + length lower ≡ m 0 - 2 = omega (arith, one.2) in
      (holds_front m (base below) lower (x ∷ []) both, one.1, subst (λ k. m k ≡ x) to (holds_back m (base below) lower (x ∷ []) both).0, omega (arith, one.2))

  pub pushed_same : (v : State) (f : Frame) (below : List Frame) (place w : ℕ) (m after : ℕ → ℕ) → v.frames ≡ f ∷ below → SameMemory address v m → Pushed m after w → words_in_use (f ∷ below) < 1792 → SameMemory address (with_frame v (record f { place = place; values = w ∷ f.values }) below) after
  pushed_same v f below place w m after e h p room =
      let i = inner_of v f below m e h in
      let g : Frame = record f { place = place; values = w ∷ f.values } in
      let own = own_top address g below w f.values refl in
      let u = use_is address f below in
      let u' = use_is address g below in
      let len = more (own_words address f below) (own_words address g below) w own in
      let there : after (base below + length (own_words address f below)) ≡ w = ap after (sym i.sp) ∙ p.top in
      let kept = holds_kept m after (base below) (own_words address f below) i.own (λ k a b. p.same k (high k (omega arith)) (omega (arith, i.sp))) in
      frame_changed v f g below m after e h refl refl refl (omega (arith, p.sp, i.sp))
      (subst (Holds after (base below)) (sym own) (holds_both after (base below) (own_words address f below) (w ∷ []) kept (there, tt)))
      (omega arith)
      (λ k a b. p.same k a (⊎_elim (λ l. omega (arith, i.sp)) (λ l. omega (arith, i.sp)) b))

  pub joined_same : (v : State) (f : Frame) (below : List Frame) (place y x w : ℕ) (values : List ℕ) (m after : ℕ → ℕ) → v.frames ≡ f ∷ below → f.values ≡ y ∷ x ∷ values → SameMemory address v m → Joined m after w → words_in_use (f ∷ below) ≤ 1792 → SameMemory address (with_frame v (record f { place = place; values = w ∷ values }) below) after
  joined_same v f below place y x w values m after e b h j room =
      let i = inner_of v f below m e h in
      let g : Frame = record f { place = place; values = w ∷ values } in
      let lower = own_words address (record f { values = values }) below in
      let l = left_two f below m y x values b i in
      let own = own_top address g below w values refl in
      let n = more lower (own_words address g below) w own in
      let u = use_is address f below in
      let u' = use_is address g below in
      let to : m 0 - 2 ≡ base below + length lower = omega (arith, l.3) in
      let kept = holds_kept m after (base below) lower l.0 (λ k p q. j.same k (high k (omega arith)) (omega arith)) in
      frame_changed v f g below m after e h refl refl refl (omega (arith, j.sp, l.3))
      (subst (Holds after (base below)) (sym own) (holds_both after (base below) lower (w ∷ []) kept (ap after (sym to) ∙ j.top, tt)))
      (omega (arith, i.sp))
      (λ k a c. j.same k a (⊎_elim (λ s. omega (arith, l.3)) (λ s. omega (arith, l.3, i.sp)) c))

  pub turned_same : (v : State) (f : Frame) (below : List Frame) (place x w : ℕ) (values : List ℕ) (m after : ℕ → ℕ) → v.frames ≡ f ∷ below → f.values ≡ x ∷ values → SameMemory address v m → Turned m after w → words_in_use (f ∷ below) ≤ 1792 → SameMemory address (with_frame v (record f { place = place; values = w ∷ values }) below) after
  turned_same v f below place x w values m after e b h j room =
      let i = inner_of v f below m e h in
      let g : Frame = record f { place = place; values = w ∷ values } in
      let lower = own_words address (record f { values = values }) below in
      let l = left_words f below m x values b i in
      let own = own_top address g below w values refl in
      let n = more lower (own_words address g below) w own in
      let u = use_is address f below in
      let u' = use_is address g below in
      let to : m 0 - 1 ≡ base below + length lower = omega (arith, l.2) in
      let sp : after 0 ≡ m 0 = j.same 0 (omega (arith, l.2)) in
      let kept = holds_kept m after (base below) lower l.0 (λ k p q. j.same k (omega arith)) in
      frame_changed v f g below m after e h refl refl refl (omega (arith, sp, l.2))
      (subst (Holds after (base below)) (sym own) (holds_both after (base below) lower (w ∷ []) kept (ap after (sym to) ∙ j.top, tt)))
      (omega (arith, i.sp))
      (λ k a c. j.same k (⊎_elim (λ s. omega (arith, l.2)) (λ s. omega (arith, l.2, i.sp)) c))

  pub dropped_same : (v : State) (f : Frame) (below : List Frame) (place y : ℕ) (values : List ℕ) (m after : ℕ → ℕ) → v.frames ≡ f ∷ below → f.values ≡ y ∷ values → SameMemory address v m → Dropped m after → words_in_use (f ∷ below) ≤ 1792 → SameMemory address (with_frame v (record f { place = place; values = values }) below) after
  dropped_same v f below place y values m after e b h j room =
      let i = inner_of v f below m e h in
      let g : Frame = record f { place = place; values = values } in
      let l = left_words f below m y values b i in
      let u = use_is address f below in
      let u' = use_is address g below in
      let kept = holds_kept m after (base below) (own_words address g below) l.0 (λ k p q. j.same k (high k (omega arith))) in
      frame_changed v f g below m after e h refl refl refl (omega (arith, j.sp, l.2)) kept (omega (arith, i.sp)) (λ k a c. j.same k a)

  pub moved_same : (v : State) (f : Frame) (below : List Frame) (place : ℕ) (m after : ℕ → ℕ) → v.frames ≡ f ∷ below → SameMemory address v m → ((k : ℕ) → after k ≡ m k) → words_in_use (f ∷ below) ≤ 1792 → SameMemory address (with_frame v (record f { place = place }) below) after
  moved_same v f below place m after e h same room =
      let i = inner_of v f below m e h in
      let g : Frame = record f { place = place } in
      let u = use_is address f below in
      let u' = use_is address g below in
      let kept = holds_kept m after (base below) (own_words address g below) i.own (λ k p q. same k) in
      frame_changed v f g below m after e h refl refl refl (same 0 ∙ i.sp ∙ omega arith) kept (omega (arith, i.sp)) (λ k a c. same k)
