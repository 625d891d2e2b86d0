-- One word is written, on both sides.
use Rattle.std.proofs.Common.{◌≡◌, ◌≢◌, ◌⊎◌, ⊎_elim, ℕ, Option, zero, suc, ◌+◌, ◌-◌, ◌<◌, ◌≤◌, List, [], ◌∷◌, ◌++◌, length, reverse, refl, ap, ◌∙◌, sym, subst, arith, length-append}
use Rattle.std.specs.Prelude.{slice_index, slice_set}
use Rattle.std.proofs.lemmas.List.{get_or-set_same, get_or-set_other}
use Rattle.std.proofs.Math.ListN.{length-set}
use Rattle.vm_machine.specs.State.{Frame, State, words_in_use}
use Rattle.vm_translator.specs.Stands.{Holds, own_words, words_saved, SameMemory}
use Rattle.vm_translator.proofs.Stack.{holds_kept, holds_set, use_is, laid_kept}
use Rattle.vm_translator.proofs.Frames.{Written, inner_of, base, with_frame, at_frames, lcl_same, arg_same, frame_changed}

same_or_not : (k i : ℕ) → (k ≡ i) ⊎ (k ≢ i)
same_or_not k i = grind arith

set_back : (a b : List ℕ) (i y : ℕ) → slice_set (a ++ b) (length a + i) y ≡ a ++ slice_set b i y
set_back [] b i y = let z : 0 + i ≡ i = omega arith in ap (λ k. slice_set b k y) z
set_back (x ∷ a) b i y =
    let z : suc (length a) + i ≡ suc (length a + i) = omega arith in
    ap (λ k. slice_set (x ∷ (a ++ b)) k y) z ∙ ap (λ r. x ∷ r) (set_back a b i y)

set_front : (a b : List ℕ) (i y : ℕ) → i < length a → slice_set (a ++ b) i y ≡ slice_set a i y ++ b
set_front [] b i y l = absurd (omega arith)
set_front (x ∷ a) b zero y l = refl
set_front (x ∷ a) b (suc i) y l = ap (λ r. x ∷ r) (set_front a b i y (omega arith))

-- a list where one element is another
listed : (ws : List ℕ) (i y : ℕ) (value : ℕ → ℕ) (n : ℕ) → length ws ≡ n → i < n → value i ≡ y → ((k : ℕ) → k < n → k ≢ i → value k ≡ slice_index ws k) → (k : ℕ) → k < n → value k ≡ slice_index (slice_set ws i y) k
listed ws i y value n len small there same k l =
    ⊎_elim
    (λ e. ap value e ∙ there ∙ sym (ap (λ j. slice_index (slice_set ws i y) j) e ∙ get_or-set_same ws i y 0 (omega arith)))
    (λ ne. same k l ne ∙ sym (get_or-set_other ws i k y 0 ne))
    (same_or_not k i)

module _ (address : Option ℕ → ℕ → ℕ) (v : State) (m after : ℕ → ℕ) (h : SameMemory address v m) (room : words_in_use v.frames ≤ 1792) where
  pub set_static : (i y : ℕ) → i < 240 → length v.statics ≡ 240 → Written m after (16 + i) y → SameMemory address (record v { statics = slice_set v.statics i y }) after
  set_static i y small len w = record {
    sp = w.same 0 (omega arith) ∙ h.sp;
    lcl = w.same 1 (omega arith) ∙ h.lcl;
    arg = w.same 2 (omega arith) ∙ h.arg;
    this = w.same 3 (omega arith) ∙ h.this;
    that = w.same 4 (omega arith) ∙ h.that;
    temps = λ k l. w.same (5 + k) (omega arith) ∙ h.temps k l;
    statics = listed v.statics i y (λ k. after (16 + k)) 240 len small w.there (λ k l ne. w.same (16 + k) (omega arith) ∙ h.statics k l);
    laid = laid_kept address m after v.frames h.laid (λ k a b. w.same k (omega arith));
    words = λ k a b. w.same k (omega arith) ∙ h.words k a b;
  }

  pub set_temp : (i y : ℕ) → i < 8 → length v.temps ≡ 8 → Written m after (5 + i) y → SameMemory address (record v { temps = slice_set v.temps i y }) after
  set_temp i y small len w = record {
    sp = w.same 0 (omega arith) ∙ h.sp;
    lcl = w.same 1 (omega arith) ∙ h.lcl;
    arg = w.same 2 (omega arith) ∙ h.arg;
    this = w.same 3 (omega arith) ∙ h.this;
    that = w.same 4 (omega arith) ∙ h.that;
    temps = listed v.temps i y (λ k. after (5 + k)) 8 len small w.there (λ k l ne. w.same (5 + k) (omega arith) ∙ h.temps k l);
    statics = λ k l. w.same (16 + k) (omega arith) ∙ h.statics k l;
    laid = laid_kept address m after v.frames h.laid (λ k a b. w.same k (omega arith));
    words = λ k a b. w.same k (omega arith) ∙ h.words k a b;
  }

  pub set_word : (a y : ℕ) → 2048 ≤ a → a < 24576 → length v.words ≡ 22528 → Written m after a y → SameMemory address (record v { words = slice_set v.words (a - 2048) y }) after
  set_word a y low high len w =
      let there : after (2048 + (a - 2048)) ≡ y = (let z : 2048 + (a - 2048) ≡ a = omega arith in ap after z) ∙ w.there in
      let each = listed v.words (a - 2048) y (λ k. after (2048 + k)) 22528 len (omega arith) there (λ k l ne. w.same (2048 + k) (omega arith) ∙ h.words (2048 + k) (omega arith) (omega arith) ∙ (let z : 2048 + k - 2048 ≡ k = omega arith in ap (λ j. slice_index v.words j) z)) in
      record {
        sp = w.same 0 (omega arith) ∙ h.sp;
        lcl = w.same 1 (omega arith) ∙ h.lcl;
        arg = w.same 2 (omega arith) ∙ h.arg;
        this = w.same 3 (omega arith) ∙ h.this;
        that = w.same 4 (omega arith) ∙ h.that;
        temps = λ k l. w.same (5 + k) (omega arith) ∙ h.temps k l;
        statics = λ k l. w.same (16 + k) (omega arith) ∙ h.statics k l;
        laid = laid_kept address m after v.frames h.laid (λ k p q. w.same k (omega arith));
        words = λ k p q. (let z : k ≡ 2048 + (k - 2048) = omega arith in ap after z) ∙ each (k - 2048) (omega arith);
      }

  pub set_this : (f : Frame) (below : List Frame) (y : ℕ) → v.frames ≡ f ∷ below → Written m after 3 y → SameMemory address (with_frame address v (record f { this = y }) below) after
  set_this f below y e w =
      let h' = at_frames address v f below m e h in
      let g : Frame = record f { this = y } in
      let room' = subst (λ fs. words_in_use fs ≤ 1792) e room in
      let u = use_is address f below in
      let u' = use_is address g below in
      record {
        sp = w.same 0 (omega arith) ∙ h'.sp ∙ omega arith;
        lcl = w.same 1 (omega arith) ∙ h'.lcl ∙ sym (lcl_same f g below refl);
        arg = w.same 2 (omega arith) ∙ h'.arg ∙ sym (arg_same f g below);
        this = w.there;
        that = w.same 4 (omega arith) ∙ h'.that;
        temps = λ k l. w.same (5 + k) (omega arith) ∙ h'.temps k l;
        statics = λ k l. w.same (16 + k) (omega arith) ∙ h'.statics k l;
        laid = (laid_kept address m after below h'.laid.0 (λ k a b. w.same k (omega arith)), holds_kept m after (base address below) (own_words address g below) h'.laid.1 (λ k a b. w.same k (omega arith)));
        words = λ k a b. w.same k (omega arith) ∙ h'.words k a b;
      }

  pub set_that : (f : Frame) (below : List Frame) (y : ℕ) → v.frames ≡ f ∷ below → Written m after 4 y → SameMemory address (with_frame address v (record f { that = y }) below) after
  set_that f below y e w =
      let h' = at_frames address v f below m e h in
      let g : Frame = record f { that = y } in
      let u = use_is address f below in
      let u' = use_is address g below in
      record {
        sp = w.same 0 (omega arith) ∙ h'.sp ∙ omega arith;
        lcl = w.same 1 (omega arith) ∙ h'.lcl ∙ sym (lcl_same f g below refl);
        arg = w.same 2 (omega arith) ∙ h'.arg ∙ sym (arg_same f g below);
        this = w.same 3 (omega arith) ∙ h'.this;
        that = w.there;
        temps = λ k l. w.same (5 + k) (omega arith) ∙ h'.temps k l;
        statics = λ k l. w.same (16 + k) (omega arith) ∙ h'.statics k l;
        laid = (laid_kept address m after below h'.laid.0 (λ k a b. w.same k (omega arith)), holds_kept m after (base address below) (own_words address g below) h'.laid.1 (λ k a b. w.same k (omega arith)));
        words = λ k a b. w.same k (omega arith) ∙ h'.words k a b;
      }

  -- where the locals and arguments of a called frame are
  pub local_place : (f c : Frame) (below : List Frame) → v.frames ≡ f ∷ c ∷ below → m 1 ≡ base address (c ∷ below) + length (f.arguments ++ words_saved address c below)
  local_place f c below e =
      let h' = at_frames address v f (c ∷ below) m e h in
      h'.lcl ∙ omega (arith, length-append f.arguments (words_saved address c below))

  pub argument_place : (f c : Frame) (below : List Frame) → v.frames ≡ f ∷ c ∷ below → m 2 ≡ base address (c ∷ below)
  argument_place f c below e = let h' = at_frames address v f (c ∷ below) m e h in h'.arg

  -- a word of the innermost frame's own is written
  set_own : (f g : Frame) (below : List Frame) (i y : ℕ) → v.frames ≡ f ∷ below → length g.arguments ≡ length f.arguments → g.this ≡ f.this → g.that ≡ f.that → i < length (own_words address f below) → own_words address g below ≡ slice_set (own_words address f below) i y → Written m after (base address below + i) y → SameMemory address (with_frame address v g below) after
  set_own f g below i y e args this that small own w =
      let n = inner_of address v f below m e h in
      let len = ap length own ∙ length-set (own_words address f below) i y in
      let u = use_is address f below in
      let u' = use_is address g below in
      let room' = subst (λ fs. words_in_use fs ≤ 1792) e room in
      frame_changed address v f g below m after e h args this that (w.same 0 (omega arith) ∙ n.sp ∙ omega arith)
      (subst (Holds after (base address below)) (sym own) (holds_set m after (base address below) (own_words address f below) i y n.own w.there (λ k a b ne. w.same k ne)))
      (omega arith)
      (λ k a b. w.same k (⊎_elim (λ l. omega arith) (λ l. omega arith) b))

  pub set_local : (f c : Frame) (below : List Frame) (i y : ℕ) → v.frames ≡ f ∷ c ∷ below → i < length f.locals → Written m after (m 1 + i) y → SameMemory address (with_frame address v (record f { locals = slice_set f.locals i y }) (c ∷ below)) after
  set_local f c below i y e small w =
      let g : Frame = record f { locals = slice_set f.locals i y } in
      let front = f.arguments ++ words_saved address c below in
      let at = local_place f c below e in
      let to : m 1 + i ≡ base address (c ∷ below) + (length front + i) = omega arith in
      let own : own_words address g (c ∷ below) ≡ slice_set (own_words address f (c ∷ below)) (length front + i) y = sym (set_back front (f.locals ++ reverse f.values) i y ∙ ap (λ r. front ++ r) (set_front f.locals (reverse f.values) i y small)) in
      set_own f g (c ∷ below) (length front + i) y e refl refl refl (omega (arith, length-append front (f.locals ++ reverse f.values), length-append f.locals (reverse f.values))) own (subst (λ k. Written m after k y) to w)

  pub set_argument : (f c : Frame) (below : List Frame) (i y : ℕ) → v.frames ≡ f ∷ c ∷ below → i < length f.arguments → Written m after (m 2 + i) y → SameMemory address (with_frame address v (record f { arguments = slice_set f.arguments i y }) (c ∷ below)) after
  set_argument f c below i y e small w =
      let g : Frame = record f { arguments = slice_set f.arguments i y } in
      let link = words_saved address c below in
      let rest = f.locals ++ reverse f.values in
      let at = argument_place f c below e in
      let to : m 2 + i ≡ base address (c ∷ below) + i = omega arith in
      let inner = length-append f.arguments link in
      let own : own_words address g (c ∷ below) ≡ slice_set (own_words address f (c ∷ below)) i y = sym (set_front (f.arguments ++ link) rest i y (omega arith) ∙ ap (λ r. r ++ rest) (set_front f.arguments link i y small)) in
      set_own f g (c ∷ below) i y e (length-set f.arguments i y) refl refl (omega (arith, inner, length-append (f.arguments ++ link) rest)) own (subst (λ k. Written m after k y) to w)
