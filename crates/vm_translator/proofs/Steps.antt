-- Each step of linked code carries the memory to the next state.
use Rattle.std.proofs.Common.{◌≡◌, ℕ, Option, Some, ◌+◌, ◌≤◌, ◌%◌, Bool, true, false, List, [], ◌∷◌, length, take, drop, refl, ap, ◌∙◌, sym, subst, arith}
use Rattle.std.specs.Prelude.{nat_eq, if◌then◌else◌, replicate}
use Rattle.machine_io.specs.declared.machine.Stray.TheVariants as stray
use Rattle.vm_link.specs.declared.linked.Step.{Step}
use Rattle.vm_link.specs.declared.linked.Step.TheVariants as step
use Rattle.vm_link.specs.declared.linked.Linked.{Linked}
use Rattle.vm_templates.specs.declared.shape.Shape.TheVariants as shape
use Rattle.vm_templates.specs.Commands.{HasValues}
use Rattle.vm_machine.specs.State.{Frame, State, words_in_use}
use Rattle.vm_machine.specs.Step.{Acts, fit_outcome, goes, after, act, on_top, pop, call, called_frame, begin, return}
use Rattle.vm_translator.specs.Shapes.{shape_of}
use Rattle.vm_translator.specs.Carries.{Carries, IsStep}
use Rattle.vm_translator.proofs.Clamped.{plain_of, plain_same, push_next, pop_next}
use Rattle.std.proofs.lemmas.List.{length-reverse, length-take-le, length-drop}
use Rattle.vm_translator.proofs.Frames.{inner_of, left_words, dropped_same, moved_same}
use Rattle.vm_translator.proofs.Calls.{length-copies, called_same, begun_same, links, return_address, returned_same}
use Rattle.vm_translator.proofs.Cases.{goes_case, top_case, not_less_case, grown, values_in_use}
use Rattle.vm_translator.proofs.Carries.{operate_carries}
use Rattle.vm_translator.proofs.Segments.{segment_push_carries, segment_pop_carries}

zero_or : (b : Bool) (w p q : ℕ) → nat_eq w 0 ≡ b → (if nat_eq w 0 then p else q) ≡ (if b then p else q)
zero_or b w p q e = ap (λ c. if c then p else q) e

placed_by : (address : Option ℕ → ℕ → ℕ) (function : Option ℕ) (b : Bool) (p q here to : ℕ) → here ≡ address function p → to ≡ address function q → (if b then here else to) ≡ address function (if b then p else q)
placed_by address function true p q here to e g = e
placed_by address function false p q here to e g = g

module _ (address : Option ℕ → ℕ → ℕ) (l : Linked) (v : State) (f : Frame) (below : List Frame) (here to : ℕ) (m : ℕ → ℕ) where
  in_use : (c : Step) → IsStep address l v f below c here to m → words_in_use (f ∷ below) ≤ 1792
  in_use c s = subst (λ fs. words_in_use fs ≤ 1792) s.frames s.sound.room

  sp_is : (c : Step) → IsStep address l v f below c here to m → m 0 ≡ 256 + words_in_use (f ∷ below)
  sp_is c s = s.memory.sp ∙ ap (λ fs. 256 + words_in_use fs) s.frames

  has_one : (c : Step) (y : ℕ) (values : List ℕ) → IsStep address l v f below c here to m → f.values ≡ y ∷ values → HasValues 1 m
  has_one c y values s is =
      let n = ap length is in
      let some : 1 ≤ length f.values = omega arith in
      let u = values_in_use f below in
      let sp = sp_is c s in
      let r = in_use c s in
      (omega arith, omega arith)

  goto_carries : (p : ℕ) (v' : State) → IsStep address l v f below (step.Goto p) here to m → fit_outcome (goes v below (record f { place = p })) ≡ Acts false v' → Carries address (shape.Goto to) here m v'
  goto_carries p v' s acts =
      let a = goes_case false false (record v { frames = record f { place = p } ∷ below }) v' acts in
      let low = s.low f.function p in
      let target = s.target in
      subst (Carries address (shape.Goto to) here m) a.0 (record {
        shape = omega arith;
        ready = tt;
        leads = λ t same. moved_same address v f below p m t s.frames s.memory same (in_use (step.Goto p) s);
        to = target;
      })

  if_goto_carries : (p : ℕ) (v' : State) → IsStep address l v f below (step.IfGoto p) here to m → fit_outcome (on_top f.values (λ w values. goes v below (record f { place = if nat_eq w 0 then f.place + 1 else p; values = values }))) ≡ Acts false v' → Carries address (shape.IfGoto to) here m v'
  if_goto_carries p v' s acts =
      let one = top_case f.values (λ w values. goes v below (record f { place = if nat_eq w 0 then f.place + 1 else p; values = values })) false v' acts in
      let w = one.0 in
      let values = one.1 in
      let is = one.2 in
      let place = if nat_eq w 0 then f.place + 1 else p in
      let a = goes_case false false (record v { frames = record f { place = if nat_eq w 0 then f.place + 1 else p; values = values } ∷ below }) v' one.3 in
      let low = s.low f.function p in
      let target = s.target in
      let top = (left_words address f below m w values is (inner_of address v f below m s.frames s.memory)).1 in
      subst (Carries address (shape.IfGoto to) here m) a.0 (record {
        shape = omega arith;
        ready = has_one (step.IfGoto p) w values s is;
        leads = λ t d. dropped_same address v f below (if nat_eq w 0 then f.place + 1 else p) w values m t s.frames is s.memory d (in_use (step.IfGoto p) s);
        to = ap (λ z. if nat_eq z 0 then (here + 5) % 32768 else to) top ∙ placed_by address f.function (nat_eq w 0) (f.place + 1) p ((here + 5) % 32768) to s.after target;
      })

  call_carries : (g n : ℕ) (v' : State) → IsStep address l v f below (step.Call g n) here to m → fit_outcome (call g n v f below) ≡ Acts false v' → Carries address (shape.Call to n) here m v'
  call_carries g n v' s acts =
      let p = not_less_case (length f.values) n (goes v (after f (drop n f.values) ∷ below) (called_frame g n f)) stray.Values false v' acts in
      let a = goes_case false false (record v { frames = called_frame g n f ∷ after f (drop n f.values) ∷ below }) v' p.1 in
      let target = s.target in
      let low = s.low (Some g) 0 in
      let sp = sp_is (step.Call g n) s in
      let r = in_use (step.Call g n) s in
      let u = values_in_use f below in
      let size_is = called_use g n p.0 in
      subst (Carries address (shape.Call to n) here m) a.0 (record {
        shape = (omega arith, omega (arith, p.0, u, r));
        ready = (omega arith, omega (arith, sp, size_is, a.2));
        leads = λ t c. called_same address v m t s.memory f below g (f.place + 1) n ((here + 12) % 32768) s.frames p.0 (omega (arith, size_is, a.2)) s.after c;
        to = target;
      })
    where
      called_use : (g n : ℕ) → n ≤ length f.values → words_in_use (called_frame g n f ∷ after f (drop n f.values) ∷ below) ≡ words_in_use (f ∷ below) + 5
      called_use g n few =
          let one = grown f (after f (drop n f.values)) below refl refl in
          let d = length-drop n f.values in
          let k = length-reverse (take n f.values) ∙ length-take-le n f.values few in
          omega arith

  begin_carries : (n : ℕ) (fs : List Frame) (locals values : List ℕ) (v' : State) → f.locals ≡ locals → f.values ≡ values → below ≡ fs → IsStep address l v f below (step.Function n) here to m → fit_outcome (begin n locals values v f fs) ≡ Acts false v' → Carries address (shape.Function n) here m v'
  begin_carries n [] [] [] v' no_locals no_values b s acts = absurd (cc acts)
  begin_carries n fs (w ∷ locals) values v' no_locals no_values b s acts = absurd (cc acts)
  begin_carries n fs [] (w ∷ values) v' no_locals no_values b s acts = absurd (cc acts)
  begin_carries n (c ∷ rest) [] [] v' no_locals no_values b s acts =
      let a = goes_case false false (record v { frames = record f { place = f.place + 1; locals = replicate n 0 } ∷ c ∷ rest }) v' acts in
      let e = s.frames ∙ ap (λ fs. f ∷ fs) b in
      let sp = sp_is (step.Function n) s ∙ ap (λ fs. 256 + words_in_use (f ∷ fs)) b in
      let copies = length-copies n in
      let no = ap length no_locals in
      subst (Carries address (shape.Function n) here m) a.0 (record {
        shape = tt;
        ready = (omega arith, omega (arith, sp, a.2, copies, no));
        leads = λ t p. begun_same address v m t s.memory f c rest (f.place + 1) n e no_locals no_values (omega (arith, a.2, copies, no)) p;
        to = s.after;
      })

  return_carries : (fs : List Frame) (w : ℕ) (values : List ℕ) (v' : State) → f.values ≡ w ∷ values → below ≡ fs → IsStep address l v f below step.Return here to m → fit_outcome (return fs v w values) ≡ Acts false v' → Carries address shape.Return here m v'
  return_carries [] w values v' is b s acts = absurd (cc acts)
  return_carries (g ∷ rest) w values v' is b s acts =
      let a = goes_case false false (record v { frames = record g { values = w ∷ g.values } ∷ rest }) v' acts in
      let e = s.frames ∙ ap (λ fs. f ∷ fs) b in
      let k = links address v m m s.memory f g rest e in
      let back = return_address address v m m s.memory f g rest e in
      let low = s.low g.function g.place in
      let sp = sp_is step.Return s ∙ ap (λ fs. 256 + words_in_use (f ∷ fs)) b in
      let r = subst (λ fs. words_in_use (f ∷ fs) ≤ 1792) b (in_use step.Return s) in
      subst (Carries address shape.Return here m) a.0 (record {
        shape = tt;
        ready = (has_one step.Return w values s is, omega (arith, k.1), omega (arith, k.0, k.1), omega (arith, k.0, r), omega (arith, back, low));
        leads = λ t p. returned_same address v m t s.memory f g rest w values e is r p;
        to = back;
      })

  plainly : (key : ℕ) (c : Step) (v' : State) → IsStep address l v f below c here to m → fit_outcome (act key c v f below) ≡ Acts false v' → Carries address (plain_of to c) here m v'
  plainly key (step.Operate o) v' s acts = operate_carries address l v f below m s.frames s.sound s.memory here o false v' s.after acts
  plainly key (step.Push g i) v' s acts = segment_push_carries address l v f below m s.frames s.sound s.memory s.words here key g i v' (sym (push_next g i here m) ∙ s.after) acts
  plainly key (step.Pop g i) v' s acts =
      let one = top_case f.values (λ w values. pop g i v f below w values) false v' acts in
      segment_pop_carries address l v f below m s.frames s.sound s.memory s.words here one.0 one.1 one.2 g i v' (sym (pop_next g i here m) ∙ s.after) one.3
  plainly key (step.Goto p) v' s acts = goto_carries p v' s acts
  plainly key (step.IfGoto p) v' s acts = if_goto_carries p v' s acts
  plainly key (step.Function n) v' s acts = begin_carries n below f.locals f.values v' refl refl refl s acts
  plainly key (step.Call g n) v' s acts = call_carries g n v' s acts
  plainly key step.Return v' s acts =
      let one = top_case f.values (λ w values. return below v w values) false v' acts in
      return_carries below one.0 one.1 v' one.2 refl s one.3

  -- A step that acts has numbers that an instruction can name.
  pub step_carries : (key : ℕ) (c : Step) (v' : State) → IsStep address l v f below c here to m → fit_outcome (act key c v f below) ≡ Acts false v' → Carries address (shape_of to c) here m v'
  step_carries key c v' s acts =
      let p = plainly key c v' s acts in
      subst (λ z. Carries address z here m v') (sym (plain_same to c p.shape)) p
