-- Steps that hear the key, and those that go astray at an address.
use Rattle.std.proofs.Common.{◌≡◌, ◌≢◌, ◌⊎◌, ⊎_elim, inl, inr, ℕ, Option, ◌+◌, ◌-◌, ◌<◌, ◌≤◌, ◌%◌, Bool, true, false, List, [], ◌∷◌, length, refl, ap, ◌∙◌, sym, subst, arith}
use Rattle.std.specs.Prelude.{nat_lt, nat_eq, if◌then◌else◌, slice_index}
use Rattle.std.proofs.lemmas.Bool.Decides.{nat_tests}
use Rattle.word16.specs.Words.{word_add}
use Rattle.machine_io.specs.declared.machine.Stray.{Stray}
use Rattle.machine_io.specs.declared.machine.Stray.TheVariants as stray
use Rattle.vm_tree.specs.declared.command.Segment.TheVariants as segment
use Rattle.vm_link.specs.declared.linked.Step.{Step}
use Rattle.vm_link.specs.declared.linked.Step.TheVariants as step
use Rattle.vm_link.specs.declared.linked.Linked.{Linked}
use Rattle.vm_templates.specs.Commands.{HasValues, address_at, next}
use Rattle.vm_machine.specs.State.{Frame, State, words_in_use}
use Rattle.vm_machine.specs.Step.{Outcome, Acts, Strays, Full, fit_outcome, after, act, load, store, on_top}
use Rattle.vm_machine.specs.Step as vm
use Rattle.vm_machine.specs.Sound.{IsSoundState}
use Rattle.vm_translator.specs.Stands.{SameMemory}
use Rattle.vm_translator.specs.Shapes.{shape_of}
use Rattle.vm_translator.specs.Carries.{IsStep}
use Rattle.vm_translator.specs.Laws.{CarriesKey, MissesPush, MissesPop, AllStepsCarry}
use Rattle.vm_translator.proofs.Clamped.{push_from, pop_to, plain_of, plain_same, push_next, push_shape, push_reads, pop_shape, pop_goes}
use Rattle.vm_translator.proofs.Outcomes.{Allowed, may_hear, may_miss, outcome_allowed, by_kind}
use Rattle.vm_translator.proofs.Frames.{at_frames, pushed_same}
use Rattle.vm_translator.proofs.Cases.{goes_case, less_case, not_less_case, less_or, same_or, grown, values_in_use}
use Rattle.vm_translator.proofs.Steps.{step_carries}

-- what acts or is full does not go astray
not_astray : (b h : Bool) (n : ℕ) (s : State) (why : Stray) → (if b then Full n else Acts h s) ≡ Strays why → ⊥
not_astray true h n s why e = cc
not_astray false h n s why e = cc

-- a load that goes astray at an address
load_misses : (key base i a : ℕ) (v : State) (f : Frame) (below : List Frame) → fit_outcome (vm.write_outcome i (load key (word_add base i) v f below)) ≡ Strays (stray.Address a) → (i < 32768) × (word_add base i ≢ 24576)
load_misses key base i a v f below e =
    let w = word_add base i in
    inner (nat_lt i 32768) (nat_lt w 2048) (nat_lt w 24576) (nat_eq w 24576) refl refl refl refl (written_is (nat_lt i 32768) e)
  where
    Rest : Bool → Bool → Bool → Outcome
    Rest low high at = if low then Strays (stray.Address (word_add base i)) else (if high then vm.push_outcome false v f below (slice_index v.words (word_add base i - 2048)) else (if at then vm.push_outcome true v f below key else Strays (stray.Address (word_add base i))))

    written_is : (b : Bool) → fit_outcome (if nat_lt i 32768 then load key (word_add base i) v f below else Strays stray.Code) ≡ Strays (stray.Address a) → fit_outcome (if nat_lt i 32768 then Rest (nat_lt (word_add base i) 2048) (nat_lt (word_add base i) 24576) (nat_eq (word_add base i) 24576) else Strays stray.Code) ≡ Strays (stray.Address a)
    written_is b e = e

    inner : (b low high at : Bool) → nat_lt i 32768 ≡ b → nat_lt (word_add base i) 2048 ≡ low → nat_lt (word_add base i) 24576 ≡ high → nat_eq (word_add base i) 24576 ≡ at
        → fit_outcome (if nat_lt i 32768 then Rest (nat_lt (word_add base i) 2048) (nat_lt (word_add base i) 24576) (nat_eq (word_add base i) 24576) else Strays stray.Code) ≡ Strays (stray.Address a) → (i < 32768) × (word_add base i ≢ 24576)
    inner b low high at eb el eh ea e =
        let e' = subst (λ z. fit_outcome (if z then Rest (nat_lt (word_add base i) 2048) (nat_lt (word_add base i) 24576) (nat_eq (word_add base i) 24576) else Strays stray.Code) ≡ Strays (stray.Address a)) eb e in
        let e2 = subst (λ z. fit_outcome (if b then Rest z (nat_lt (word_add base i) 24576) (nat_eq (word_add base i) 24576) else Strays stray.Code) ≡ Strays (stray.Address a)) el e' in
        let e3 = subst (λ z. fit_outcome (if b then Rest low z (nat_eq (word_add base i) 24576) else Strays stray.Code) ≡ Strays (stray.Address a)) eh e2 in
        let e4 = subst (λ z. fit_outcome (if b then Rest low high z else Strays stray.Code) ≡ Strays (stray.Address a)) ea e3 in
        told b low high at eb el eh ea e4
      where
        told : (b low high at : Bool) → nat_lt i 32768 ≡ b → nat_lt (word_add base i) 2048 ≡ low → nat_lt (word_add base i) 24576 ≡ high → nat_eq (word_add base i) 24576 ≡ at → fit_outcome (if b then Rest low high at else Strays stray.Code) ≡ Strays (stray.Address a) → (i < 32768) × (word_add base i ≢ 24576)
        told false low high at eb el eh ea e = absurd (cc e)
        told true true high at eb el eh ea e = (grind (arith, nat_tests), λ q. grind (arith, nat_tests))
        told true false true at eb el eh ea e = absurd (not_astray _ _ _ _ _ e)
        told true false false true eb el eh ea e = absurd (not_astray _ _ _ _ _ e)
        told true false false false eb el eh ea e = (grind (arith, nat_tests), λ q. grind (arith, nat_tests))

-- a pop that goes astray at an address had a value, and a number that a text can have
pop_misses : (vs : List ℕ) (base i a : ℕ) (v : State) (f : Frame) (below : List Frame) → fit_outcome (on_top vs (λ w values. vm.write_outcome i (store (word_add base i) w values v f below))) ≡ Strays (stray.Address a) → (1 ≤ length vs) × (i < 32768)
pop_misses [] base i a v f below e = absurd (cc e)
pop_misses (w ∷ values) base i a v f below e = (omega arith, small (nat_lt i 32768) refl e)
  where
    small : (b : Bool) → nat_lt i 32768 ≡ b → fit_outcome (if nat_lt i 32768 then store (word_add base i) w values v f below else Strays stray.Code) ≡ Strays (stray.Address a) → i < 32768
    small b eb e = told b eb (subst (λ z. fit_outcome (if z then store (word_add base i) w values v f below else Strays stray.Code) ≡ Strays (stray.Address a)) eb e)
      where
        told : (b : Bool) → nat_lt i 32768 ≡ b → fit_outcome (if b then store (word_add base i) w values v f below else Strays stray.Code) ≡ Strays (stray.Address a) → i < 32768
        told true eb e = grind (arith, nat_tests)
        told false eb e = absurd (cc e)

module _ (address : Option ℕ → ℕ → ℕ) (l : Linked) (v : State) (f : Frame) (below : List Frame) (here : ℕ) (m : ℕ → ℕ) (e : v.frames ≡ f ∷ below) (sound : IsSoundState l v) (h : SameMemory address v m) (words : (k : ℕ) → m k < 65536) where
  pointed : (r a i : ℕ) → m r ≡ a → address_at m r i ≡ word_add a i
  pointed r a i is = ap (λ k. (k + i) % 65536) is

  sp_is : m 0 ≡ 256 + words_in_use (f ∷ below)
  sp_is = h.sp ∙ ap (λ fs. 256 + words_in_use fs) e

  load_hears : (r base key i : ℕ) (v' : State) → 1 ≤ r → r ≤ 4 → m r ≡ base → next (push_from r i) here m ≡ address f.function (f.place + 1) → fit_outcome (vm.write_outcome i (load key (word_add base i) v f below)) ≡ Acts true v' → CarriesKey address (push_from r i) here key m v'
  load_hears r base key i v' one four is to acts =
      let p = less_case i 32768 (load key (word_add base i) v f below) stray.Code true v' acts in
      let a = word_add base i in
      let at = pointed r base i is in
      let q = not_less_case a 2048 _ (stray.Address a) true v' p.1 in
      let s : State = record v { frames = after f (key ∷ f.values) ∷ below } in
      ⊎_elim
      (λ d. let g = goes_case false true (record v { frames = after f (slice_index v.words (a - 2048) ∷ f.values) ∷ below }) v' d.1 in let no : false ≡ true = g.1 in absurd (cc no))
      (λ d. ⊎_elim
      (λ k.
      let g = goes_case true true s v' k.1 in
      let more = grown f (after f (key ∷ f.values)) below refl refl in
      subst (CarriesKey address (push_from r i) here key m) g.0 (record {
        shape = push_shape r m words i one four p.0;
        room = (omega (arith, sp_is), omega (arith, sp_is, more, g.2));
        at_key = push_reads r m words i 24576 (at ∙ k.0);
        leads = λ t b. pushed_same address v f below (f.place + 1) key m t e h b (omega (arith, more, g.2));
        to = to;
      }))
      (λ k. absurd (cc k))
      (same_or a 24576 _ _ true v' d.1))
      (less_or a 24576 _ _ true v' q.1)

  some_value : 1 ≤ length f.values → HasValues 1 m
  some_value some =
      let room = subst (λ fs. words_in_use fs ≤ 1792) e sound.room in
      let u = values_in_use f below in
      let sp = sp_is in
      (omega arith, omega arith)

  load_missed : (r base key i a : ℕ) → 1 ≤ r → r ≤ 4 → m r ≡ base → fit_outcome (vm.write_outcome i (load key (word_add base i) v f below)) ≡ Strays (stray.Address a) → MissesPush (push_from r i) m
  load_missed r base key i a one four is x =
      let p = load_misses key base i a v f below x in
      let at = pointed r base i is in
      record { shape = push_shape r m words i one four p.0; from = word_add base i; pushes = push_reads r m words i (word_add base i) at; apart = p.1 }

  store_missed : (r base i a : ℕ) → 1 ≤ r → r ≤ 4 → m r ≡ base → fit_outcome (on_top f.values (λ w values. vm.write_outcome i (store (word_add base i) w values v f below))) ≡ Strays (stray.Address a) → MissesPop (pop_to r i) m
  store_missed r base i a one four is x =
      let p = pop_misses f.values base i a v f below x in
      record { shape = pop_shape r m words i one four p.1; to = word_add base i; pops = pop_goes r m words i (word_add base i) (pointed r base i is); values = some_value p.0 }

module _ (address : Option ℕ → ℕ → ℕ) (l : Linked) (v : State) (f : Frame) (below : List Frame) (here to : ℕ) (m : ℕ → ℕ) where
  abbrev Hears : Step → Type 0
  Hears c = (key : ℕ) (v' : State) → IsStep address l v f below c here to m → fit_outcome (act key c v f below) ≡ Acts true v' → CarriesKey address (plain_of to c) here key m v'

  never_hears : (c : Step) → may_hear c ≡ false → Hears c
  never_hears c deaf key v' s acts = let z : false ≡ true = sym deaf ∙ subst (Allowed (may_hear c) (may_miss c)) acts (outcome_allowed key v f below c) in absurd (cc z)

  hears_plainly : (c : Step) → Hears c
  hears_plainly = by_kind Hears (λ c deaf never. never_hears c deaf)
      (λ i key v' s acts. load_hears address l v f below here m s.frames s.sound s.memory s.words 3 f.this key i v' (omega arith) (omega arith) (at_frames address v f below m s.frames s.memory).this (sym (push_next segment.This i here m) ∙ s.after) acts)
      (λ i key v' s acts. load_hears address l v f below here m s.frames s.sound s.memory s.words 4 f.that key i v' (omega arith) (omega arith) (at_frames address v f below m s.frames s.memory).that (sym (push_next segment.That i here m) ∙ s.after) acts)
      (λ i. never_hears (step.Pop segment.This i) refl) (λ i. never_hears (step.Pop segment.That i) refl)

  hears : (c : Step) → (key : ℕ) (v' : State) → IsStep address l v f below c here to m → fit_outcome (act key c v f below) ≡ Acts true v' → CarriesKey address (shape_of to c) here key m v'
  hears c key v' s acts =
      let h = hears_plainly c key v' s acts in
      subst (λ d. CarriesKey address d here key m v') (sym (plain_same to c h.shape)) h

  abbrev Misses : Step → Type 0
  Misses c = (key a : ℕ) → IsStep address l v f below c here to m → fit_outcome (act key c v f below) ≡ Strays (stray.Address a) → MissesPush (plain_of to c) m ⊎ MissesPop (plain_of to c) m

  misses_plainly : (c : Step) → Misses c
  misses_plainly = by_kind Misses (λ c deaf never key a s x. let z : false ≡ true = sym never ∙ subst (Allowed (may_hear c) (may_miss c)) x (outcome_allowed key v f below c) in absurd (cc z))
      (λ i key a s x. inl (load_missed address l v f below here m s.frames s.sound s.memory s.words 3 f.this key i a (omega arith) (omega arith) (at_frames address v f below m s.frames s.memory).this x))
      (λ i key a s x. inl (load_missed address l v f below here m s.frames s.sound s.memory s.words 4 f.that key i a (omega arith) (omega arith) (at_frames address v f below m s.frames s.memory).that x))
      (λ i key a s x. inr (store_missed address l v f below here m s.frames s.sound s.memory s.words 3 f.this i a (omega arith) (omega arith) (at_frames address v f below m s.frames s.memory).this x))
      (λ i key a s x. inr (store_missed address l v f below here m s.frames s.sound s.memory s.words 4 f.that i a (omega arith) (omega arith) (at_frames address v f below m s.frames s.memory).that x))

  misses : (c : Step) (key a : ℕ) → IsStep address l v f below c here to m → fit_outcome (act key c v f below) ≡ Strays (stray.Address a) → MissesPush (shape_of to c) m ⊎ MissesPop (shape_of to c) m
  misses c key a s x = by_shape (misses_plainly c key a s x)
    where
      by_shape : MissesPush (plain_of to c) m ⊎ MissesPop (plain_of to c) m → MissesPush (shape_of to c) m ⊎ MissesPop (shape_of to c) m
      by_shape (inl h) = inl (subst (λ d. MissesPush d m) (sym (plain_same to c h.shape)) h)
      by_shape (inr h) = inr (subst (λ d. MissesPop d m) (sym (plain_same to c h.shape)) h)

pub all_steps_carry : AllStepsCarry
all_steps_carry = λ address l v f below here to m. record {
  acts = λ key c v' s a. step_carries address l v f below here to m key c v' s a;
  hears = λ key c v' s a. hears address l v f below here to m c key v' s a;
  misses = λ key c a s x. misses address l v f below here to m c key a s x;
}
