-- Pushes and pops carry the memory to the next state.
use Rattle.std.proofs.Common.{◌≡◌, ◌⊎◌, ⊎_elim, inl, inr, ℕ, Option, Some, zero, suc, ◌+◌, ◌-◌, ◌<◌, ◌≤◌, ◌%◌, true, false, List, [], ◌∷◌, ◌++◌, length, refl, ap, ◌∙◌, sym, subst, arith, length-append}
use Rattle.std.specs.Prelude.{slice_get, slice_index, slice_set, reverse}
use Rattle.std.proofs.lemmas.Option.{get_or_from_slice_get, slice_get_within}
use Rattle.word16.specs.Words.{word_add}
use Rattle.vm_tree.specs.declared.command.Segment.{Segment}
use Rattle.vm_tree.specs.declared.command.Segment.TheVariants as segment
use Rattle.machine_io.specs.declared.machine.Stray.TheVariants as stray
use Rattle.vm_link.specs.declared.linked.Linked.{Linked}
use Rattle.vm_templates.specs.declared.shape.Shape.{Shape}
use Rattle.vm_templates.specs.declared.shape.Shape.TheVariants as shape
use Rattle.vm_templates.specs.Effects.{Pushed, Stored, Dropped}
use Rattle.vm_templates.specs.Commands.{IsShape, HasValues, address_at, topmost, Ready, Effect, next}
use Rattle.vm_machine.specs.State.{Frame, State, words_in_use}
use Rattle.vm_machine.specs.Step.{Outcome, Acts, Strays, fit_outcome, goes, after, load, store, push, pop, on_top}
use Rattle.vm_machine.specs.Step as vm
use Rattle.vm_machine.specs.Sound.{IsSoundState, AreSoundFrames}
use Rattle.vm_translator.specs.Stands.{SameMemory, words_saved}
use Rattle.vm_translator.specs.Carries.{Carries, place_of}
use Rattle.vm_translator.proofs.Clamped.{push_from, pop_to, pushed, popped, push_shape, push_ready, push_effect, pop_shape, pop_ready, pop_effect}
use Rattle.vm_translator.proofs.Stack.{holds_front, holds_back, holds_at}
use Rattle.vm_translator.proofs.Frames.{Written, taken_first, inner_of, base, at_frames, left_words, dropped_same}
use Rattle.vm_translator.proofs.Sets.{set_static, set_temp, set_word, set_this, set_that, set_local, set_argument, local_place, argument_place}
use Rattle.vm_translator.proofs.Cases.{goes_case, word_case, less_case, not_less_case, less_or, same_or, grown, values_in_use}
use Rattle.vm_translator.proofs.Carries.{push_carries}

-- a frame with arguments or locals was called
caller : (l : Linked) (f : Frame) (fs : List Frame) → AreSoundFrames l (f ∷ fs) → (1 ≤ length f.arguments) ⊎ (1 ≤ length f.locals) → (c : Frame) × (rest : List Frame) × (fs ≡ c ∷ rest)
caller l f [] s some = ⊎_elim (λ n. let z = ap length s.1.arguments in absurd (omega arith)) (λ n. let z = ap length s.1.locals in absurd (omega arith)) some
caller l f (c ∷ rest) s some = (c, rest, refl)

module _ (address : Option ℕ → ℕ → ℕ) (l : Linked) (v : State) (f : Frame) (below : List Frame) (m : ℕ → ℕ) (e : v.frames ≡ f ∷ below) (sound : IsSoundState l v) (h : SameMemory address v m) (words : (k : ℕ) → m k < 65536) (here : ℕ) where
  room : words_in_use (f ∷ below) ≤ 1792
  room = subst (λ fs. words_in_use fs ≤ 1792) e sound.room

  sp_is : m 0 ≡ 256 + words_in_use (f ∷ below)
  sp_is = h.sp ∙ ap (λ fs. 256 + words_in_use fs) e

  frames : AreSoundFrames l (f ∷ below)
  frames = subst (AreSoundFrames l) e sound.frames

  this_is : m 3 ≡ f.this
  this_is = let h' = at_frames address v f below m e h in h'.this

  that_is : m 4 ≡ f.that
  that_is = let h' = at_frames address v f below m e h in h'.that

  -- where an argument and a local are
  pub argument_at : (i : ℕ) → i < length f.arguments → (m (m 2 + i) ≡ slice_index f.arguments i) × (256 ≤ m 2) × (m 2 + i < 2048)
  argument_at i small =
      let k = caller l f below frames (inl (omega arith)) in
      let e' : v.frames ≡ f ∷ k.0 ∷ k.1 = e ∙ ap (λ fs. f ∷ fs) k.2 in
      let n = inner_of address v f (k.0 ∷ k.1) m e' h in
      let at = argument_place address v m m h sound.room f k.0 k.1 e' in
      let own = holds_front m (base address (k.0 ∷ k.1)) f.arguments (words_saved address k.0 k.1) (holds_front m (base address (k.0 ∷ k.1)) (f.arguments ++ words_saved address k.0 k.1) _ n.own) in
      let len = length-append (f.arguments ++ words_saved address k.0 k.1) (f.locals ++ reverse f.values) in
      let inner = length-append f.arguments (words_saved address k.0 k.1) in
      let sp = sp_is in
      let r = room in
      (ap (λ b. m (b + i)) at ∙ holds_at m (base address (k.0 ∷ k.1)) f.arguments i own small, omega arith, omega (arith, n.sp, at, len, inner, sp, r))

  pub local_at : (i : ℕ) → i < length f.locals → (m (m 1 + i) ≡ slice_index f.locals i) × (256 ≤ m 1) × (m 1 + i < 2048)
  local_at i small =
      let k = caller l f below frames (inr (omega arith)) in
      let e' : v.frames ≡ f ∷ k.0 ∷ k.1 = e ∙ ap (λ fs. f ∷ fs) k.2 in
      let n = inner_of address v f (k.0 ∷ k.1) m e' h in
      let at = local_place address v m m h sound.room f k.0 k.1 e' in
      let front = f.arguments ++ words_saved address k.0 k.1 in
      let upper = holds_back m (base address (k.0 ∷ k.1)) front (f.locals ++ reverse f.values) n.own in
      let own = holds_front m (base address (k.0 ∷ k.1) + length front) f.locals (reverse f.values) upper in
      let len = length-append front (f.locals ++ reverse f.values) in
      let inner = length-append f.locals (reverse f.values) in
      let sp = sp_is in
      let r = room in
      (ap (λ b. m (b + i)) at ∙ holds_at m (base address (k.0 ∷ k.1) + length front) f.locals i own small, omega arith, omega (arith, n.sp, at, len, inner, sp, r))

  near : (r i : ℕ) → m r + i < 2048 → address_at m r i ≡ m r + i
  near r i small = omega arith

  pointed : (r a i : ℕ) → m r ≡ a → address_at m r i ≡ word_add a i
  pointed r a i is = ap (λ k. (k + i) % 65536) is

  push_at_carries : (r i w : ℕ) (v' : State) → 1 ≤ r → r ≤ 4 → i < 32768 → address_at m r i < 24576 → m (address_at m r i) ≡ w → next (push_from r i) here m ≡ address f.function (f.place + 1)
      → fit_outcome (vm.push_outcome false v f below w) ≡ Acts false v' → Carries address (push_from r i) here m v'
  push_at_carries r i w v' one four small near is to acts =
      push_carries address l v f below m e sound h here (push_from r i) w false false v' (push_shape r m words i one four small) (λ s. push_ready r m words i s near) (λ t p. subst (Pushed m t) is (push_effect r m words i here t p)) to acts

  push_word_carries : (a w : ℕ) (v' : State) → 3 ≤ a → a < 256 → m a ≡ w → next (shape.PushWord a) here m ≡ address f.function (f.place + 1)
      → fit_outcome (vm.push_outcome false v f below w) ≡ Acts false v' → Carries address (shape.PushWord a) here m v'
  push_word_carries a w v' low small is to acts =
      push_carries address l v f below m e sound h here (shape.PushWord a) w false false v' (low, small) (λ s. s) (λ t p. subst (Pushed m t) is p) to acts

  -- a load of heap or screen
  load_carries : (r base key i : ℕ) (v' : State) → 1 ≤ r → r ≤ 4 → m r ≡ base → next (push_from r i) here m ≡ address f.function (f.place + 1)
      → fit_outcome (vm.write_outcome i (load key (word_add base i) v f below)) ≡ Acts false v' → Carries address (push_from r i) here m v'
  load_carries r base key i v' one four is to acts =
      let p = less_case i 32768 (load key (word_add base i) v f below) stray.Code false v' acts in
      let a = word_add base i in
      let at = pointed r base i is in
      let q = not_less_case a 2048 _ (stray.Address a) false v' p.1 in
      let there = h.words in
      ⊎_elim
      (λ d. push_at_carries r i (slice_index v.words (a - 2048)) v' one four p.0 (omega (arith, at, d.0)) (ap m at ∙ there a q.0 d.0) to d.1)
      (λ d. ⊎_elim
      (λ k. let g = goes_case true false (record v { frames = after f (key ∷ f.values) ∷ below }) v' k.1 in let no : true ≡ false = g.1 in absurd (cc no))
      (λ k. absurd (cc k))
      (same_or a 24576 _ _ false v' d.1))
      (less_or a 24576 _ _ false v' q.1)

  pub segment_push_carries : (key : ℕ) (g : Segment) (i : ℕ) (v' : State) → next (pushed g i) here m ≡ address f.function (f.place + 1) → fit_outcome (push key g i v f below) ≡ Acts false v' → Carries address (pushed g i) here m v'
  segment_push_carries key segment.Constant i v' to acts =
      let p = less_case i 32768 (vm.push_outcome false v f below i) stray.Code false v' acts in
      push_carries address l v f below m e sound h here (shape.PushConstant i) i false false v' p.0 (λ s. s) (λ t q. q) to p.1
  segment_push_carries key segment.Argument i v' to acts =
      let p = word_case stray.Argument (slice_get f.arguments i) (vm.push_outcome false v f below) false v' acts in
      let small = slice_get_within f.arguments i p.0 p.1 in
      let at = argument_at i small in
      let a = near 2 i at.2 in
      push_at_carries 2 i p.0 v' (omega arith) (omega arith) (omega (arith, at.2)) (omega (arith, a, at.2)) (ap m a ∙ at.0 ∙ get_or_from_slice_get f.arguments i p.0 0 p.1) to p.2
  segment_push_carries key segment.Local i v' to acts =
      let p = word_case stray.Local (slice_get f.locals i) (vm.push_outcome false v f below) false v' acts in
      let small = slice_get_within f.locals i p.0 p.1 in
      let at = local_at i small in
      let a = near 1 i at.2 in
      push_at_carries 1 i p.0 v' (omega arith) (omega arith) (omega (arith, at.2)) (omega (arith, a, at.2)) (ap m a ∙ at.0 ∙ get_or_from_slice_get f.locals i p.0 0 p.1) to p.2
  segment_push_carries key segment.Static i v' to acts =
      let p = word_case stray.Code (slice_get v.statics i) (vm.push_outcome false v f below) false v' acts in
      let small = slice_get_within v.statics i p.0 p.1 in
      let len = sound.statics_length in
      push_word_carries (16 + i) p.0 v' (omega arith) (omega arith) (h.statics i (omega arith) ∙ get_or_from_slice_get v.statics i p.0 0 p.1) to p.2
  segment_push_carries key segment.Temp i v' to acts =
      let p = word_case stray.Code (slice_get v.temps i) (vm.push_outcome false v f below) false v' acts in
      let small = slice_get_within v.temps i p.0 p.1 in
      let len = sound.temps_length in
      push_word_carries (5 + i) p.0 v' (omega arith) (omega arith) (h.temps i (omega arith) ∙ get_or_from_slice_get v.temps i p.0 0 p.1) to p.2
  segment_push_carries key segment.Pointer i v' to acts =
      let p = word_case stray.Code (slice_get (f.this ∷ f.that ∷ []) i) (vm.push_outcome false v f below) false v' acts in
      let small = slice_get_within (f.this ∷ f.that ∷ []) i p.0 p.1 in
      push_word_carries (3 + i) p.0 v' (omega arith) (omega arith) (pointer i p.0 p.1) to p.2
    where
      pointer : (i w : ℕ) → slice_get (f.this ∷ f.that ∷ []) i ≡ Some w → m (3 + i) ≡ w
      pointer zero w is = (let z : 3 + 0 ≡ 3 = refl in ap m z) ∙ this_is ∙ cc
      pointer (suc zero) w is = (let z : 3 + 1 ≡ 4 = refl in ap m z) ∙ that_is ∙ cc
      pointer (suc (suc i)) w is = cc
  segment_push_carries key segment.This i v' to acts = load_carries 3 f.this key i v' (omega arith) (omega arith) this_is to acts
  segment_push_carries key segment.That i v' to acts = load_carries 4 f.that key i v' (omega arith) (omega arith) that_is to acts

  -- The topmost value y is taken away.
  module _ (y : ℕ) (values : List ℕ) (is : f.values ≡ y ∷ values) where
    has_one : HasValues 1 m
    has_one =
        let n = ap length is in
        let some : 1 ≤ length f.values = omega arith in
        let s = values_in_use f below in
        let sp = sp_is in
        let r = room in
        (omega arith, omega arith)

    top_is : topmost m ≡ y
    top_is = (left_words address f below m y values is (inner_of address v f below m e h)).1

    v1 : State
    v1 = record v { frames = after f values ∷ below }

    room1 : words_in_use (after f values ∷ below) ≤ 1792
    room1 = let n = ap length is in let g = grown f (after f values) below refl refl in let r = room in omega arith

    -- the state without it, before the value is written
    taken : (t : ℕ → ℕ) (to : ℕ) → 1 ≤ to → Stored m t to → (mid : ℕ → ℕ) × SameMemory address (record v { frames = after f values ∷ below }) mid × Written mid t to y × Dropped m mid
    taken t to one s =
        let p = taken_first m t to one s in
        (p.0, dropped_same address v f below (f.place + 1) y values m p.0 e is h p.1 room, subst (Written p.0 t to) top_is p.2, p.1)

    pop_carries : (c : Shape) (to : ℕ) (after_state v' : State) → IsShape c → (HasValues 1 m → Ready c m) → 1 ≤ to → ((t : ℕ → ℕ) → Effect c here m t → Stored m t to) → next c here m ≡ place_of address after_state.frames
        → ((t mid : ℕ → ℕ) → SameMemory address (record v { frames = after f values ∷ below }) mid → Written mid t to y → Dropped m mid → SameMemory address after_state t)
        → fit_outcome (Acts false after_state) ≡ Acts false v' → Carries address c here m v'
    pop_carries c to after_state v' fits ready one effect goes_to writes acts =
        let a = goes_case false false after_state v' acts in
        subst (Carries address c here m) a.0 (record {
          shape = fits;
          ready = ready has_one;
          leads = λ t p. let k = taken t to one (effect t p) in writes t k.0 k.1 k.2 k.3;
          to = goes_to;
        })

    -- a store to heap or screen
    store_carries : (r base i : ℕ) (v' : State) → 1 ≤ r → r ≤ 4 → m r ≡ base → next (pop_to r i) here m ≡ address f.function (f.place + 1)
        → fit_outcome (vm.write_outcome i (store (word_add base i) y values v f below)) ≡ Acts false v' → Carries address (pop_to r i) here m v'
    store_carries r base i v' one four is_base to acts =
        let p = less_case i 32768 (store (word_add base i) y values v f below) stray.Code false v' acts in
        let a = word_add base i in
        let at = pointed r base i is_base in
        let q = not_less_case a 2048 _ (stray.Address a) false v' p.1 in
        let d = less_case a 24576 _ (stray.Address a) false v' q.1 in
        pop_carries (pop_to r i) a (record v { frames = after f values ∷ below; words = slice_set v.words (a - 2048) y }) v' (pop_shape r m words i one four p.0) (λ s. pop_ready r m words i s (omega (arith, at, q.0)) (omega (arith, at, d.0))) (omega (arith, q.0)) (λ t s. subst (Stored m t) at (pop_effect r m words i here t s)) to
        (λ t mid same w drop. set_word address (record v { frames = after f values ∷ below }) mid t same room1 a y q.0 d.0 sound.words_length w)
        d.1

    pub segment_pop_carries : (g : Segment) (i : ℕ) (v' : State) → next (popped g i) here m ≡ address f.function (f.place + 1) → fit_outcome (pop g i v f below y values) ≡ Acts false v' → Carries address (popped g i) here m v'
    segment_pop_carries segment.Constant i v' to acts = absurd (cc acts)
    segment_pop_carries segment.Argument i v' to acts =
        let p = less_case i (length f.arguments) (goes v below (record (after f values) { arguments = slice_set f.arguments i y })) stray.Argument false v' acts in
        let at = argument_at i p.0 in
        let a = near 2 i at.2 in
        let k = caller l f below frames (inl (omega (arith, p.0))) in
        let e' : after f values ∷ below ≡ after f values ∷ k.0 ∷ k.1 = ap (λ fs. after f values ∷ fs) k.2 in
        pop_carries (pop_to 2 i) (m 2 + i) (record v { frames = record (after f values) { arguments = slice_set f.arguments i y } ∷ below }) v' (pop_shape 2 m words i (omega arith) (omega arith) (omega (arith, at.2))) (λ s. pop_ready 2 m words i s (omega (arith, a, at.1)) (omega (arith, a, at.2))) (omega (arith, at.1)) (λ t s. subst (Stored m t) a (pop_effect 2 m words i here t s)) to
        (λ t mid same w drop.
        let kept = drop.same 2 (omega arith, omega arith, omega arith, omega arith) in
        let r = set_argument address (record v { frames = after f values ∷ below }) mid t same room1 (after f values) k.0 k.1 i y e' p.0 (subst (λ b. Written mid t (b + i) y) (sym kept) w) in
        subst (λ fs. SameMemory address (record v { frames = record (after f values) { arguments = slice_set f.arguments i y } ∷ fs }) t) (sym k.2) r)
        p.1
    segment_pop_carries segment.Local i v' to acts =
        let p = less_case i (length f.locals) (goes v below (record (after f values) { locals = slice_set f.locals i y })) stray.Local false v' acts in
        let at = local_at i p.0 in
        let a = near 1 i at.2 in
        let k = caller l f below frames (inr (omega (arith, p.0))) in
        let e' : after f values ∷ below ≡ after f values ∷ k.0 ∷ k.1 = ap (λ fs. after f values ∷ fs) k.2 in
        pop_carries (pop_to 1 i) (m 1 + i) (record v { frames = record (after f values) { locals = slice_set f.locals i y } ∷ below }) v' (pop_shape 1 m words i (omega arith) (omega arith) (omega (arith, at.2))) (λ s. pop_ready 1 m words i s (omega (arith, a, at.1)) (omega (arith, a, at.2))) (omega (arith, at.1)) (λ t s. subst (Stored m t) a (pop_effect 1 m words i here t s)) to
        (λ t mid same w drop.
        let kept = drop.same 1 (omega arith, omega arith, omega arith, omega arith) in
        let r = set_local address (record v { frames = after f values ∷ below }) mid t same room1 (after f values) k.0 k.1 i y e' p.0 (subst (λ b. Written mid t (b + i) y) (sym kept) w) in
        subst (λ fs. SameMemory address (record v { frames = record (after f values) { locals = slice_set f.locals i y } ∷ fs }) t) (sym k.2) r)
        p.1
    segment_pop_carries segment.Static i v' to acts =
        let p = less_case i (length v.statics) (goes (record v { statics = slice_set v.statics i y }) below (after f values)) stray.Code false v' acts in
        let len = sound.statics_length in
        pop_carries (shape.PopWord (16 + i)) (16 + i) (record v { frames = after f values ∷ below; statics = slice_set v.statics i y }) v' (omega arith, omega (arith, p.0)) (λ s. s) (omega arith) (λ t s. s) to
        (λ t mid same w drop. set_static address (record v { frames = after f values ∷ below }) mid t same room1 i y (omega (arith, p.0)) len w)
        p.1
    segment_pop_carries segment.Temp i v' to acts =
        let p = less_case i (length v.temps) (goes (record v { temps = slice_set v.temps i y }) below (after f values)) stray.Code false v' acts in
        let len = sound.temps_length in
        pop_carries (shape.PopWord (5 + i)) (5 + i) (record v { frames = after f values ∷ below; temps = slice_set v.temps i y }) v' (omega arith, omega (arith, p.0)) (λ s. s) (omega arith) (λ t s. s) to
        (λ t mid same w drop. set_temp address (record v { frames = after f values ∷ below }) mid t same room1 i y (omega (arith, p.0)) len w)
        p.1
    segment_pop_carries segment.Pointer i v' to acts =
        ⊎_elim
        (λ z. let three : 3 + i ≡ 3 = omega (arith, z.0) in
        pop_carries (shape.PopWord (3 + i)) (3 + i) (record v { frames = record (after f values) { this = y } ∷ below }) v' (omega arith, omega (arith, three)) (λ s. s) (omega arith) (λ t s. s) to
        (λ t mid same w drop. set_this address (record v { frames = after f values ∷ below }) mid t same room1 (after f values) below y refl (subst (λ k. Written mid t k y) three w))
        z.1)
        (λ z. ⊎_elim
        (λ o. let four : 3 + i ≡ 4 = omega (arith, o.0) in
        pop_carries (shape.PopWord (3 + i)) (3 + i) (record v { frames = record (after f values) { that = y } ∷ below }) v' (omega arith, omega (arith, four)) (λ s. s) (omega arith) (λ t s. s) to
        (λ t mid same w drop. set_that address (record v { frames = after f values ∷ below }) mid t same room1 (after f values) below y refl (subst (λ k. Written mid t k y) four w))
        o.1)
        (λ o. absurd (cc o))
        (same_or i 1 _ _ false v' z))
        (same_or i 0 _ _ false v' acts)
    segment_pop_carries segment.This i v' to acts = store_carries 3 f.this i v' (omega arith) (omega arith) this_is to acts
    segment_pop_carries segment.That i v' to acts = store_carries 4 f.that i v' (omega arith) (omega arith) that_is to acts
