-- What the computer does for each step, by instructions.
use Rattle.std.proofs.Common.{◌≡◌, ℕ, zero, suc, Option, Some, None, ◌-◌, ◌≤◌, Bool, true, false, List, [], ◌∷◌, length, refl, ap, ◌∙◌, sym, subst, arith}
use Rattle.std.specs.Prelude.{slice_get, map}
use Rattle.hack_isa.specs.Machine.{Machine}
use Rattle.hack_isa.specs.Table.{word_of}
use Rattle.hack_isa.specs.declared.Instr.{Instr}
use Rattle.machine_io.specs.declared.machine.Stray.TheVariants as stray
use Rattle.vm_tree.specs.declared.command.Segment.{Segment}
use Rattle.vm_tree.specs.declared.command.Segment.TheVariants as segment
use Rattle.vm_link.specs.declared.linked.Code.{Code}
use Rattle.vm_link.specs.declared.linked.Step.{Step}
use Rattle.vm_link.specs.declared.linked.Step.TheVariants as step
use Rattle.vm_link.specs.declared.linked.Linked.{Linked}
use Rattle.vm_link.specs.Sound.{IsSound}
use Rattle.vm_link.specs.Uniform.{IsUniform}
use Rattle.vm_templates.specs.Templates.{size}
use Rattle.vm_translator.proofs.Routines.{ranges_cover}
use Rattle.vm_translator.proofs.Sizes.{length_with}
use Rattle.vm_translator.specs.Shared.{used_routines}
use Rattle.vm_templates.specs.Budgets.{most_steps}
use Rattle.image_map.specs.Map.{Map, map_of, Covers, CoversShared}
use Rattle.vm_templates.specs.Going.{Does}
use Rattle.vm_templates.specs.Commands.{MayStore, IsInside, last_of, cycles}
use Rattle.vm_templates.proofs.Block.{within as fewer}
use Rattle.vm_machine.specs.State.{Frame, State}
use Rattle.vm_machine.specs.Step.{Outcome, Acts, Strays, Full, Done, act, fit_outcome, end_outcome, code_in, start, on_top, pop, goes, after}
use Rattle.vm_machine.specs.Step as vm
use Rattle.vm_machine.specs.Level.{vm_cost, cost_of, next_of, is_done, has_heard, state_after}
use Rattle.vm_machine.specs.Sound.{AreSoundFrames}
use Rattle.vm_machine.proofs.Deaf.{key_law}
use Rattle.vm_machine.proofs.Ends.{end_law}
use Rattle.vm_machine.proofs.Kept.{sound_law}
use Rattle.vm_translator.specs.Shapes.{push_from, push_shape, pop_shape, shape_of}
use Rattle.vm_translator.specs.Image.{commits_of, image_of, points_of, routines, shared_at, shared_ranges}
use Rattle.vm_translator.specs.Carries.{IsStep}
use Rattle.vm_translator.specs.Related.{StandsFor}
use Rattle.image_map.specs.declared.map.PointRange.{PointRange}
use Rattle.vm_translator.specs.Mapping.{location}
use Rattle.vm_translator.proofs.Covered.{covers}
use Rattle.vm_translator.specs.Translated.{Writes, IsStore, IsWithin, IsLast, MakesStep, MakesHearing, IsTranslated}
use Rattle.vm_translator.proofs.Clamped.{push_size, pop_data}
use Rattle.vm_translator.proofs.Sums.{size_quick, cycles_quick}
use Rattle.vm_translator.proofs.Cases.{top_case, less_case}
use Rattle.vm_translator.proofs.Segments.{argument_at, local_at}
use Rattle.vm_translator.proofs.Keys.{all_steps_carry}
use Rattle.vm_translator.proofs.Outcomes.{Allowed, may_hear, may_miss, outcome_allowed, never_done}
use Rattle.vm_translator.proofs.Ways.{acts_does, does_map, hearing_map}
use Rattle.vm_translator.proofs.OtherWays.{hears_does, stray_does}
use Rattle.vm_translator.proofs.Placing.{image_words, has_loop}
use Rattle.vm_translator.proofs.Simulating.{location_low, ended_is, here, own, own_place, at_step, acts_is, at_loop, simulates, starts_so, opens_so}

-- no instruction of these writes data
from_quiet : (base i : ℕ) (m : ℕ → ℕ) → MayStore (push_from base i) m → ⊥
from_quiet base zero m h = h
from_quiet base (suc i) m h = h

push_quiet : (g : Segment) (i : ℕ) (m : ℕ → ℕ) → MayStore (push_shape g i) m → ⊥
push_quiet segment.Argument i m h = from_quiet 2 i m h
push_quiet segment.Local i m h = from_quiet 1 i m h
push_quiet segment.Static i m h = h
push_quiet segment.Constant i m h = h
push_quiet segment.This i m h = from_quiet 3 i m h
push_quiet segment.That i m h = from_quiet 4 i m h
push_quiet segment.Pointer i m h = h
push_quiet segment.Temp i m h = h

module _ (address : Option ℕ → ℕ → ℕ) (l : Linked) (v v' : State) (f : Frame) (below : List Frame) (place to : ℕ) (m : ℕ → ℕ) where
  pop_writes : (g : Segment) (i : ℕ) → IsStep address l v f below (step.Pop g i) place to m → fit_outcome (on_top f.values (pop g i v f below)) ≡ Acts false v' → MayStore (pop_shape g i) m → Writes (step.Pop g i)
  pop_writes segment.Argument i s acts h =
      let one = top_case f.values (pop segment.Argument i v f below) false v' acts in
      let small = less_case i (length f.arguments) _ stray.Argument false v' one.3 in
      let at = argument_at address l v f below m s.frames s.sound s.memory s.words place i small.0 in
      let low = at.2 in
      let is_data = pop_data 2 m s.words i (omega arith) h in
      let high = is_data.0 in
      omega arith
  pop_writes segment.Local i s acts h =
      let one = top_case f.values (pop segment.Local i v f below) false v' acts in
      let small = less_case i (length f.locals) _ stray.Local false v' one.3 in
      let at = local_at address l v f below m s.frames s.sound s.memory s.words place i small.0 in
      let low = at.2 in
      let is_data = pop_data 1 m s.words i (omega arith) h in
      let high = is_data.0 in
      omega arith
  pop_writes segment.Static i s acts h = h
  pop_writes segment.Constant i s acts h = h
  pop_writes segment.This i s acts h = tt
  pop_writes segment.That i s acts h = tt
  pop_writes segment.Pointer i s acts h = h
  pop_writes segment.Temp i s acts h = h

  store_is : (x : Step) → IsStep address l v f below x place to m → fit_outcome (act 0 x v f below) ≡ Acts false v' → MayStore (shape_of to x) m → Writes x
  store_is (step.Operate o) s acts h = h
  store_is (step.Push g i) s acts h = push_quiet g i m h
  store_is (step.Pop g i) s acts h = pop_writes g i s acts h
  store_is (step.Goto p) s acts h = h
  store_is (step.IfGoto p) s acts h = h
  store_is (step.Function n) s acts h = h
  store_is (step.Call g n) s acts h = h
  store_is step.Return s acts h = h

module _ (l : Linked) (sound : IsSound l) (uniform : IsUniform l) (whole : l.bare ≡ false) (few : length (image_of l) ≤ 32768) where
  abbrev Image : List ℕ
  Image = map word_of (image_of l)

  abbrev Points : Map
  Points = map_of (commits_of l) (points_of l)

  abbrev Stood : State → Machine → Type 0
  Stood = StandsFor (location l) l

  module _ (v : State) (s : Machine) (h : StandsFor (location l) l v s) (f : Frame) (below : List Frame) (e : v.frames ≡ f ∷ below) where
    -- what the frame without a command does not do
    no_act : slice_get (code_in l f.function) f.place ≡ None → (heard : Bool) (v' : State) → vm.step l 0 v ≡ Acts heard v' → ⊥
    no_act g heard v' q = by_function f.function (sym (ended_is l v f below 0 e g) ∙ q)
      where
        by_function : (function : Option ℕ) → fit_outcome (end_outcome function) ≡ Acts heard v' → ⊥
        by_function None z = cc z
        by_function (Some k) z = cc z

    no_miss : slice_get (code_in l f.function) f.place ≡ None → (a : ℕ) → vm.step l 0 v ≡ Strays (stray.Address a) → ⊥
    no_miss g a q = by_function f.function (sym (ended_is l v f below 0 e g) ∙ q)
      where
        by_function : (function : Option ℕ) → fit_outcome (end_outcome function) ≡ Strays (stray.Address a) → ⊥
        by_function None z = cc z
        by_function (Some k) z = cc z

    ended_loop : slice_get (code_in l f.function) f.place ≡ None → is_done (vm.step l 0 v) ≡ true → s.pc ≡ 21
    ended_loop g q = by_function f.function refl
      where
        by_function : (function : Option ℕ) → f.function ≡ function → s.pc ≡ 21
        by_function None z = h.pc ∙ at_loop l sound uniform whole few v s h f below e g z
        by_function (Some k) z = let d = ended_is l v f below 0 e g ∙ ap (λ function. fit_outcome (end_outcome function)) z in absurd (cc (sym (ap is_done d) ∙ q))

    module _ (n : ℕ) (b : Bool) where
      abbrev With : Step → Code
      With x = record { step = x; statement = n; commit = b }

      abbrev Nexts : Step → Type 0
      Nexts x = slice_get (code_in l f.function) f.place ≡ Some (record { step = x; statement = n; commit = b })

      next_is : (x : Step) → Nexts x → next_of l v.frames ≡ Some (record { step = x; statement = n; commit = b })
      next_is x g = ap (next_of l) e ∙ g

      cost_is : (x : Step) → Nexts x → vm_cost most_steps l v ≡ most_steps x
      cost_is x g = ap (cost_of most_steps) (next_is x g)

      allowed : (x : Step) → Nexts x → (o : Outcome) → vm.step l 0 v ≡ o → Allowed (may_hear x) (may_miss x) o
      allowed x g o q = subst (Allowed (may_hear x) (may_miss x)) (acts_is l sound uniform whole few v s h f below e n b x g 0 o q) (outcome_allowed 0 v f below x)

      -- its own addresses and those of its routine, but the last, and the last
      abbrev Inside : (x : Step) → Nexts x → ℕ → Type 0
      Inside x g k = let p = here l sound uniform whole few v s h f below e (With x) g in IsInside (routines l) s.pc (shape_of p.to x) k

      abbrev LastOf : (x : Step) → Nexts x → ℕ
      LastOf x g = let p = here l sound uniform whole few v s h f below e (With x) g in last_of (routines l) s.pc (shape_of p.to x)

      within : (x : Step) (g : Nexts x) (k : ℕ) → Inside x g k → IsWithin l Image Points v k
      within x g k i =
          let p = here l sound uniform whole few v s h f below e (With x) g in
          let o = own l sound uniform whole few v s h f below e (With x) g in
          (own_place l sound uniform whole few v s h f below e (With x) g k (p.way.inside k i), o.commits k i)

      ends_last : (x : Step) (g : Nexts x) → IsLast l Image Points v (LastOf x g)
      ends_last x g =
          let p = here l sound uniform whole few v s h f below e (With x) g in
          let o = own l sound uniform whole few v s h f below e (With x) g in
          record { place = own_place l sound uniform whole few v s h f below e (With x) g (LastOf x g) p.way.last_inside; commit = o.last_commit }

      -- what is done at a command's own addresses and at its routine's, in as many steps as these have instructions
      made : (x : Step) (g : Nexts x) (may may' : Type 0) (goal : Machine → Type 0) → (may → may')
          → (let p = here l sound uniform whole few v s h f below e (With x) g in Does Image (Inside x g) (LastOf x g) may goal (cycles (shape_of p.to x) - 1) s) → MakesStep l Image Points v may' goal s
      made x g may may' goal w d =
          let p = here l sound uniform whole few v s h f below e (With x) g in
          let quick = cycles_quick p.to x in
          let cost = cost_is x g in
          record {
            last = LastOf x g;
            is_last = ends_last x g;
            does = fewer (cycles (shape_of p.to x) - 1) (vm_cost most_steps l v - 1) s (omega arith)
                (does_map Image (Inside x g) (IsWithin l Image Points v) (LastOf x g) may may' goal goal (cycles (shape_of p.to x) - 1) s (within x g) w (λ t r. r) d);
          }

      acted : (x : Step) → Nexts x → (v' : State) → vm.step l 0 v ≡ Acts false v' → MakesStep l (map word_of (image_of l)) (map_of (commits_of l) (points_of l)) v (IsStore (next_of l v.frames)) (StandsFor (location l) l v') s
      acted x g v' q =
          let p = here l sound uniform whole few v s h f below e (With x) g in
          let at = at_step l sound uniform whole few v s h f below e n b x g in
          made x g (MayStore (shape_of p.to x) s.memory) (IsStore (next_of l v.frames)) (StandsFor (location l) l v')
          (λ w. subst IsStore (sym (next_is x g)) (store_is (location l) l v v' f below s.pc p.to s.memory x at (acts_is l sound uniform whole few v s h f below e n b x g 0 (Acts false v') q) w))
          (acts_does (location l) l key_law sound_law sound whole Image (image_words l sound uniform whole few) Points 21 (routines l) v v' s f below (With x) p.to e g q h (location_low l) p.next p.target p.stands p.fits p.shared)

      -- a key read in the middle of a push
      heard : (x : Step) → Nexts x → (v' : State) → vm.step l 0 v ≡ Acts true v' → MakesHearing l (map word_of (image_of l)) (map_of (commits_of l) (points_of l)) v (λ key t. (u : State) → vm.step l key v ≡ Acts true u → StandsFor (location l) l u t) s
      heard x g v' q =
          let p = here l sound uniform whole few v s h f below e (With x) g in
          let law = all_steps_carry (location l) l v f below s.pc p.to s.memory in
          let carry = λ (key : ℕ) (u : State) (acts : vm.step l key v ≡ Acts true u). law.hears key x u (at_step l sound uniform whole few v s h f below e n b x g) (acts_is l sound uniform whole few v s h f below e n b x g key (Acts true u) acts) in
          let zero = carry 0 v' q in
          let seven = push_size (shape_of p.to x) s.memory 24576 zero.at_key in
          let quick = size_quick p.to x in
          let cost = cost_is x g in
          record {
            last = LastOf x g;
            is_last = ends_last x g;
            before = size (shape_of p.to x) - 5;
            after = 3;
            few = omega arith;
            does = hearing_map Image (Inside x g) (IsWithin l Image Points v) (LastOf x g) ⊥ (λ key t. (u : State) → vm.step l key v ≡ Acts true u → StandsFor (location l) l u t) (λ key t. (u : State) → vm.step l key v ≡ Acts true u → StandsFor (location l) l u t) 3 (size (shape_of p.to x) - 5) s
                (within x g) (λ key w t r. r)
                (hears_does (location l) l key_law sound_law sound whole Image (image_words l sound uniform whole few) Points 21 (routines l) v s h (shape_of p.to x) (ap has_heard q) carry v' (ap state_after q) (p.stands, p.fits, p.shared));
          }

      missed : (x : Step) → Nexts x → (a : ℕ) → vm.step l 0 v ≡ Strays (stray.Address a) → MakesStep l (map word_of (image_of l)) (map_of (commits_of l) (points_of l)) v (Unit {0}) (λ t. Unit {0}) s
      missed x g a q =
          let p = here l sound uniform whole few v s h f below e (With x) g in
          let law = all_steps_carry (location l) l v f below s.pc p.to s.memory in
          let miss = law.misses 0 x a (at_step l sound uniform whole few v s h f below e n b x g) (acts_is l sound uniform whole few v s h f below e n b x g 0 (Strays (stray.Address a)) q) in
          made x g (Unit {0}) (Unit {0}) (λ t. Unit {0}) (λ w. w)
          (stray_does (location l) l key_law sound_law sound whole Image (image_words l sound uniform whole few) Points 21 (routines l) v s h (shape_of p.to x) miss (p.stands, p.fits, p.shared))

    frame_acts : (o : Option Code) → slice_get (code_in l f.function) f.place ≡ o → (v' : State) → vm.step l 0 v ≡ Acts false v' → MakesStep l Image Points v (IsStore (next_of l v.frames)) (StandsFor (location l) l v') s
    frame_acts None g v' q = absurd (no_act g false v' q)
    frame_acts (Some c) g v' q = acted c.statement c.commit c.step g v' q

    frame_hears : (o : Option Code) → slice_get (code_in l f.function) f.place ≡ o → (v' : State) → vm.step l 0 v ≡ Acts true v' → MakesHearing l Image Points v (λ key t. (u : State) → vm.step l key v ≡ Acts true u → StandsFor (location l) l u t) s
    frame_hears None g v' q = absurd (no_act g true v' q)
    frame_hears (Some c) g v' q = heard c.statement c.commit c.step g v' q

    frame_strays : (o : Option Code) → slice_get (code_in l f.function) f.place ≡ o → (a : ℕ) → vm.step l 0 v ≡ Strays (stray.Address a) → MakesStep l Image Points v (Unit {0}) (λ t. Unit {0}) s
    frame_strays None g a q = absurd (no_miss g a q)
    frame_strays (Some c) g a q = missed c.statement c.commit c.step g a q

    frame_rests : (o : Option Code) → slice_get (code_in l f.function) f.place ≡ o → is_done (vm.step l 0 v) ≡ true → s.pc ≡ 21
    frame_rests None g q = ended_loop g q
    frame_rests (Some c) g q = absurd (never_done (may_hear c.step) (may_miss c.step) (vm.step l 0 v) (allowed c.statement c.commit c.step g (vm.step l 0 v) refl) q)

  acts : (v v' : State) (s : Machine) → StandsFor (location l) l v s → vm.step l 0 v ≡ Acts false v' → MakesStep l Image Points v (IsStore (next_of l v.frames)) (StandsFor (location l) l v') s
  acts v v' s h q = by_frames v.frames refl
    where
      by_frames : (fs : List Frame) → v.frames ≡ fs → MakesStep l (map word_of (image_of l)) (map_of (commits_of l) (points_of l)) v (IsStore (next_of l v.frames)) (StandsFor (location l) l v') s
      by_frames [] e = absurd (subst (AreSoundFrames l) e h.sound.frames)
      by_frames (f ∷ below) e = frame_acts v s h f below e (slice_get (code_in l f.function) f.place) refl v' q

  hears : (v : State) (s : Machine) → StandsFor (location l) l v s → (v' : State) → vm.step l 0 v ≡ Acts true v' → MakesHearing l Image Points v (λ key t. (u : State) → vm.step l key v ≡ Acts true u → StandsFor (location l) l u t) s
  hears v s h v' q = by_frames v.frames refl
    where
      by_frames : (fs : List Frame) → v.frames ≡ fs → MakesHearing l (map word_of (image_of l)) (map_of (commits_of l) (points_of l)) v (λ key t. (u : State) → vm.step l key v ≡ Acts true u → StandsFor (location l) l u t) s
      by_frames [] e = absurd (subst (AreSoundFrames l) e h.sound.frames)
      by_frames (f ∷ below) e = frame_hears v s h f below e (slice_get (code_in l f.function) f.place) refl v' q

  strays : (v : State) (s : Machine) (a : ℕ) → StandsFor (location l) l v s → vm.step l 0 v ≡ Strays (stray.Address a) → MakesStep l Image Points v (Unit {0}) (λ t. Unit {0}) s
  strays v s a h q = by_frames v.frames refl
    where
      by_frames : (fs : List Frame) → v.frames ≡ fs → MakesStep l (map word_of (image_of l)) (map_of (commits_of l) (points_of l)) v (Unit {0}) (λ t. Unit {0}) s
      by_frames [] e = absurd (subst (AreSoundFrames l) e h.sound.frames)
      by_frames (f ∷ below) e = frame_strays v s h f below e (slice_get (code_in l f.function) f.place) refl a q

  rests : (v : State) (s : Machine) → StandsFor (location l) l v s → is_done (vm.step l 0 v) ≡ true → s.pc ≡ 21
  rests v s h q = by_frames v.frames refl
    where
      by_frames : (fs : List Frame) → v.frames ≡ fs → s.pc ≡ 21
      by_frames [] e = absurd (subst (AreSoundFrames l) e h.sound.frames)
      by_frames (f ∷ below) e = frame_rests v s h f below e (slice_get (code_in l f.function) f.place) refl q

  -- the whole contract
  pub translated : IsTranslated l (map word_of (image_of l)) (map_of (commits_of l) (points_of l)) 21
  translated = record {
    stops = end_law.ends l;
    starts = starts_so l sound uniform whole few;
    opens = opens_so l sound uniform whole few;
    steps = simulates l sound uniform whole few;
    ends = has_loop l sound uniform whole few;
    acts = acts;
    hears = hears;
    strays = strays;
    rests = rests;
  }

-- the same of lists that are the image, the commits and the points
pub translated_as : (l : Linked) (instrs : List Instr) (commits : List ℕ) (points : List PointRange) → IsSound l → IsUniform l → length (image_of l) ≤ 32768 → instrs ≡ image_of l → commits ≡ commits_of l → points ≡ points_of l
    → l.bare ≡ false → IsTranslated l (map word_of instrs) (map_of commits points) 21
translated_as l instrs commits points sound uniform few i c p whole =
    subst (λ z. IsTranslated l (map word_of z) (map_of commits points) 21) (sym i)
    (subst (λ z. IsTranslated l (map word_of (image_of l)) (map_of z points) 21) (sym c)
    (subst (λ z. IsTranslated l (map word_of (image_of l)) (map_of (commits_of l) z) 21) (sym p) (translated l sound uniform whole few)))

pub covers_as : (l : Linked) (points : List PointRange) → points ≡ points_of l → Covers 0 points (shared_at l)
covers_as l points p = subst (λ z. Covers 0 z (shared_at l)) (sym p) (covers l)

-- the routines cover what is after the points
pub shared_covers : (l : Linked) → CoversShared (shared_at l) (shared_ranges l) (length (image_of l))
shared_covers l = subst (CoversShared (shared_at l) (shared_ranges l)) (sym (length_with l)) (ranges_cover (shared_at l) (used_routines l))

pub shared_covers_as : (l : Linked) (instrs : List Instr) (shared : List (ℕ × ℕ)) → instrs ≡ image_of l → shared ≡ shared_ranges l → CoversShared (shared_at l) shared (length instrs)
shared_covers_as l instrs shared i p =
    subst (λ z. CoversShared (shared_at l) shared (length z)) (sym i) (subst (λ z. CoversShared (shared_at l) z (length (image_of l))) (sym p) (shared_covers l))
