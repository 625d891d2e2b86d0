-- Calls, functions and returns on the state that the memory holds.
use Rattle.std.proofs.Common.{◌≡◌, ◌≢◌, ⊎_elim, inl, inr, ℕ, Option, zero, suc, ◌+◌, ◌-◌, ◌<◌, ◌≤◌, List, [], ◌∷◌, ◌++◌, length, reverse, take, drop, refl, ap, ◌∙◌, sym, subst, arith, append-nil, length-append}
use Rattle.std.specs.Prelude.{replicate}
use Rattle.std.proofs.lemmas.List.{length-reverse, length-take-le}
use Rattle.vm_templates.specs.Effects.{IsKept, PushedAll, Called, Returned}
use Rattle.vm_machine.specs.State.{Frame, State, words_in_use}
use Rattle.vm_machine.specs.Step.{called_frame}
use Rattle.vm_translator.specs.Stands.{Holds, own_words, words_saved, SameMemory}
use Rattle.vm_translator.proofs.Stack.{holds_kept, holds_both, holds_front, holds_back, use_is, laid_kept, own_top, own_cut}
use Rattle.vm_translator.proofs.Frames.{inner_of, base, with_frame, at_frames, lcl_same, arg_same, frame_changed, left_words}

high : (k : ℕ) → 16 ≤ k → IsKept k
high k h = (omega arith, omega arith, omega arith, omega arith)

low : (k : ℕ) → 1 ≤ k → k < 13 → IsKept k
low k h l = (omega arith, omega arith, omega arith, omega arith)

pub length-copies : (n : ℕ) → (let zeros : List ℕ = replicate n 0 in length zeros ≡ n)
length-copies zero = refl
length-copies (suc n) = ap suc (length-copies n)

holds_copies : (m : ℕ → ℕ) (b n : ℕ) → ((k : ℕ) → k < n → m (b + k) ≡ 0) → Holds m b (replicate n 0)
holds_copies m b zero z = tt
holds_copies m b (suc n) z =
    let first : b + 0 ≡ b = omega arith in
    (ap m (sym first) ∙ z 0 (omega arith), holds_copies m (b + 1) n (λ k l. (let e : b + 1 + k ≡ b + suc k = omega arith in ap m e) ∙ z (suc k) (omega arith)))

module _ (address : Option ℕ → ℕ → ℕ) (v : State) (m after : ℕ → ℕ) (h : SameMemory address v m) where
  -- a call of function k with n arguments
  pub called_same : (f : Frame) (below : List Frame) (k place n back : ℕ) → v.frames ≡ f ∷ below → n ≤ length f.values → words_in_use (f ∷ below) + 5 ≤ 1792 → back ≡ address f.function place → Called m after back n
      → SameMemory address (record v { frames = called_frame k n f ∷ record f { place = place; values = drop n f.values } ∷ below }) after
  called_same f below k place n back e few room back_is c =
      let h' = at_frames address v f below m e h in
      let i = inner_of address v f below m e h in
      let caller : Frame = record f { place = place; values = drop n f.values } in
      let callee = called_frame k n f in
      let args = reverse (take n f.values) in
      let link = words_saved address caller below in
      let own = own_cut address f below n in
      let lower = own_words address caller below in
      let both = subst (Holds m (base address below)) own i.own in
      let args_length : length args ≡ n = length-reverse (take n f.values) ∙ length-take-le n f.values few in
      let own_length = ap length own ∙ length-append lower args in
      let u = use_is address f below in
      let u' = use_is address caller below in
      let lower_base : base address below + length lower ≡ base address (caller ∷ below) = omega arith in
      let old_args = subst (λ b. Holds m b args) lower_base (holds_back m (base address below) lower args both) in
      let sp_is : m 0 ≡ base address (caller ∷ below) + n = omega (arith, i.sp) in
      let at_sp : base address (caller ∷ below) + length args ≡ m 0 = omega (arith, args_length) in
      let same : (j : ℕ) → 16 ≤ j → j < m 0 → after j ≡ m j = λ j a b. c.same j (high j a) (omega arith) (omega arith) (inl b) in
      let new_args = holds_kept m after (base address (caller ∷ below)) args old_args (λ j a b. same j (omega arith) (omega arith)) in
      let saved_words : Holds after (m 0) link = (
        c.return_address ∙ back_is,
        (
          c.saved_lcl ∙ h'.lcl ∙ sym (lcl_same f caller below refl),
          (
            (let z : m 0 + 1 + 1 ≡ m 0 + 2 = omega arith in ap after z) ∙ c.saved_arg ∙ h'.arg ∙ sym (arg_same f caller below),
            ((let z : m 0 + 1 + 1 + 1 ≡ m 0 + 3 = omega arith in ap after z) ∙ c.saved_this ∙ h'.this, ((let z : m 0 + 1 + 1 + 1 + 1 ≡ m 0 + 4 = omega arith in ap after z) ∙ c.saved_that ∙ h'.that, tt)),
          ),
        ),
      ) in
      let front = holds_both after (base address (caller ∷ below)) args link new_args (subst (λ b. Holds after b link) (sym at_sp) saved_words) in
      let callee_own = holds_both after (base address (caller ∷ below)) (args ++ link) [] front tt in
      let kept : (j : ℕ) → 1 ≤ j → j < 256 → IsKept j → j ≢ 1 → j ≢ 2 → after j ≡ m j = λ j a b q one two. c.same j q one two (inl (omega arith)) in
      record {
        sp = c.sp ∙ omega (arith, args_length);
        lcl = c.lcl ∙ omega (arith, args_length);
        arg = c.arg ∙ omega arith;
        this = kept 3 (omega arith) (omega arith) (low 3 (omega arith) (omega arith)) (omega arith) (omega arith) ∙ h'.this;
        that = kept 4 (omega arith) (omega arith) (low 4 (omega arith) (omega arith)) (omega arith) (omega arith) ∙ h'.that;
        temps = λ j l. kept (5 + j) (omega arith) (omega arith) (low (5 + j) (omega arith) (omega arith)) (omega arith) (omega arith) ∙ h'.temps j l;
        statics = λ j l. kept (16 + j) (omega arith) (omega arith) (high (16 + j) (omega arith)) (omega arith) (omega arith) ∙ h'.statics j l;
        laid = (
          (laid_kept address m after below h'.laid.0 (λ j a b. same j (omega arith) (omega arith)), holds_kept m after (base address below) lower (holds_front m (base address below) lower args both) (λ j a b. same j (omega arith) (omega arith))),
          callee_own,
        );
        words = λ j a b. c.same j (high j (omega arith)) (omega arith) (omega arith) (inr (omega (arith, sp_is, u))) ∙ h'.words j a b;
      }

  -- the start of a function
  pub begun_same : (f c : Frame) (below : List Frame) (place n : ℕ) → v.frames ≡ f ∷ c ∷ below → f.locals ≡ [] → f.values ≡ [] → words_in_use (f ∷ c ∷ below) + n ≤ 1792 → PushedAll m after n (λ k. 0)
      → SameMemory address (with_frame address v (record f { place = place; locals = replicate n 0 }) (c ∷ below)) after
  begun_same f c below place n e no_locals no_values room p =
      let i = inner_of address v f (c ∷ below) m e h in
      let g : Frame = record f { place = place; locals = replicate n 0 } in
      let front = f.arguments ++ words_saved address c below in
      let old : own_words address f (c ∷ below) ≡ front = ap (λ l. front ++ (l ++ reverse f.values)) no_locals ∙ ap (λ l. front ++ reverse l) no_values ∙ append-nil front in
      let new : own_words address g (c ∷ below) ≡ front ++ replicate n 0 = ap (λ l. front ++ (replicate n 0 ++ reverse l)) no_values ∙ ap (λ l. front ++ l) (append-nil (replicate n 0)) in
      let count = ap length old in
      let count' = ap length new ∙ length-append front (replicate n 0) in
      let copies = length-copies n in
      let u = use_is address f (c ∷ below) in
      let u' = use_is address g (c ∷ below) in
      let lower = subst (Holds m (base address (c ∷ below))) old i.own in
      let new_lower = holds_kept m after (base address (c ∷ below)) front lower (λ k a b. p.same k (high k (omega arith)) (inl (omega (arith, i.sp)))) in
      let to : m 0 ≡ base address (c ∷ below) + length front = omega (arith, i.sp) in
      frame_changed address v f g (c ∷ below) m after e h refl refl refl (omega (arith, p.sp, i.sp))
      (subst (Holds after (base address (c ∷ below))) (sym new) (holds_both after (base address (c ∷ below)) front (replicate n 0) new_lower (subst (λ b. Holds after b (replicate n 0)) to (holds_copies after (m 0) n p.words))))
      (omega arith)
      (λ k a b. p.same k a (⊎_elim (λ l. inl (omega (arith, i.sp))) (λ l. inr (omega (arith, i.sp))) b))

  -- what a frame returns to: the words below LCL
  pub links : (f g : Frame) (below : List Frame) → v.frames ≡ f ∷ g ∷ below → (m 1 ≡ base address (g ∷ below) + length f.arguments + 5) × (m 2 ≡ base address (g ∷ below)) × Holds m (m 1 - 5) (words_saved address g below)
  links f g below e =
      let h' = at_frames address v f (g ∷ below) m e h in
      let own = holds_front m (base address (g ∷ below)) (f.arguments ++ words_saved address g below) (f.locals ++ reverse f.values) h'.laid.1 in
      let link = holds_back m (base address (g ∷ below)) f.arguments (words_saved address g below) own in
      let lcl = h'.lcl in
      let to : base address (g ∷ below) + length f.arguments ≡ m 1 - 5 = omega arith in
      (lcl, h'.arg, subst (λ b. Holds m b (words_saved address g below)) to link)

  pub return_address : (f g : Frame) (below : List Frame) → v.frames ≡ f ∷ g ∷ below → m (m 1 - 5) ≡ address g.function g.place
  return_address f g below e = (links f g below e).2.0

  pub returned_same : (f g : Frame) (below : List Frame) (w : ℕ) (values : List ℕ) → v.frames ≡ f ∷ g ∷ below → f.values ≡ w ∷ values → words_in_use (f ∷ g ∷ below) ≤ 1792 → Returned m after
      → SameMemory address (with_frame address v (record g { values = w ∷ g.values }) below) after
  returned_same f g below w values e b room r =
      let h' = at_frames address v f (g ∷ below) m e h in
      let i = inner_of address v f (g ∷ below) m e h in
      let l = links f g below e in
      let lcl = l.0 in
      let arg = l.1 in
      let link = l.2 in
      let top = left_words address f (g ∷ below) m w values b i in
      let g' : Frame = record g { values = w ∷ g.values } in
      let own = own_top address g' below w g.values refl in
      let u = use_is address g below in
      let u' = use_is address g' below in
      let count = ap length own ∙ length-append (own_words address g below) (w ∷ []) in
      let same : (k : ℕ) → 16 ≤ k → k ≢ m 2 → after k ≡ m k = λ k a n. r.same k (high k a) (omega arith) (omega arith) (omega arith) (omega arith) n in
      let lower = holds_kept m after (base address below) (own_words address g below) (h'.laid.0).1 (λ k p q. same k (omega arith) (omega arith)) in
      let there : after (base address below + length (own_words address g below)) ≡ w = (let z : base address below + length (own_words address g below) ≡ m 2 = omega arith in ap after z) ∙ r.result ∙ top.1 in
      let small : (k : ℕ) → 5 ≤ k → k < 256 → IsKept k → after k ≡ m k = λ k a c q. r.same k q (omega arith) (omega arith) (omega arith) (omega arith) (omega arith) in
      record {
        sp = r.sp ∙ omega arith;
        lcl = r.lcl ∙ (let z : m 1 - 4 ≡ m 1 - 5 + 1 = omega arith in ap m z) ∙ link.1.0 ∙ sym (lcl_same g g' below refl);
        arg = r.arg ∙ (let z : m 1 - 3 ≡ m 1 - 5 + 1 + 1 = omega arith in ap m z) ∙ link.1.1.0 ∙ sym (arg_same g g' below);
        this = r.this ∙ (let z : m 1 - 2 ≡ m 1 - 5 + 1 + 1 + 1 = omega arith in ap m z) ∙ link.1.1.1.0;
        that = r.that ∙ (let z : m 1 - 1 ≡ m 1 - 5 + 1 + 1 + 1 + 1 = omega arith in ap m z) ∙ link.1.1.1.1.0;
        temps = λ k q. small (5 + k) (omega arith) (omega arith) (low (5 + k) (omega arith) (omega arith)) ∙ h'.temps k q;
        statics = λ k q. small (16 + k) (omega arith) (omega arith) (high (16 + k) (omega arith)) ∙ h'.statics k q;
        laid = (laid_kept address m after below (h'.laid.0).0 (λ k p q. same k (omega arith) (omega arith)), subst (Holds after (base address below)) (sym own) (holds_both after (base address below) (own_words address g below) (w ∷ []) lower (there, tt)));
        words = λ k p q. same k (omega arith) (omega arith) ∙ h'.words k p q;
      }
