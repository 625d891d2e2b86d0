-- The computer with the image of a program is at Main.main within 200,000 cycles.
use Rattle.std.proofs.Common.{◌≡◌, ◌≤◌, ◌+◌, ◌*◌, ℕ, zero, suc, true, false, nat_le, List, [], ◌∷◌, length, Option, Ok, Some, codes, refl, sym, ap, ◌∙◌, subst, arith}
use Rattle.std.specs.List.{Contains}
use Rattle.std.specs.Option.{option_or}
use Rattle.std.specs.Prelude.{◌-◌, slice_index}
use Rattle.outer_world.specs.declared.point.Point.{Point}
use Rattle.std.proofs.lemmas.Bool.Decides.{nat_tests}
use Rattle.hack_isa.specs.Machine.{Machine, machine_at}
use Rattle.hack_isa.specs.Machine as hack
use Rattle.simulation.specs.System.{System, IsKey}
use Rattle.simulation.specs.Trace.{Trace, point_at}
use Rattle.simulation.specs.Layers.{Simulates, Through}
use Rattle.simulation.proofs.Compose.{opens, through}
use Rattle.image_map.specs.declared.map.Image.{Image}
use Rattle.image_map.specs.Map as addresses
use Rattle.image_map.specs.Map.{Map, the_map}
use Rattle.image_map.specs.Computer.{hack_system, endless_loop}
use Rattle.vm_templates.specs.Budgets.{most_steps}
use Rattle.hack_isa.specs.Table.{word_of}
use Rattle.vm_link.specs.declared.linked.Linked.{Linked}
use Rattle.vm_link.specs.Links.{Links}
use Rattle.vm_link.proofs.Marking.{length_mapped}
use Rattle.vm_link.proofs.SoundLemmas.{sound_if}
use Rattle.vm_machine.specs.State.{State as VmState}
use Rattle.vm_machine.specs.Step.{start as vm_start}
use Rattle.vm_machine.specs.Level.{vm_system, vm_cost, subroutine_of, number_of as function_number}
use Rattle.vm_translator.specs.Image.{image_of, points_of}
use Rattle.vm_translator.specs.Mapping.{location}
use Rattle.vm_translator.specs.Related.{StandsFor}
use Rattle.vm_translator.specs.Translated.{IsTranslated}
use Rattle.vm_translator.proofs.Instructed.{translated}
use Rattle.jack_meaning.specs.Text.{Program, Subroutine, Kind, Function, Method, Constructor, Let, LetField, LetThis, Store, Do, If, While, Return, Text, End, Next}
use Rattle.jack_meaning.specs.Meaning.{Frame, State, new_frame, start, text_point}
use Rattle.jack_meaning.specs.StackWords.{stack_words, standing_first}
use Rattle.jack_meaning.specs.Level.{meaning_of, point_in}
use Rattle.jack_meaning.specs.Linked.{IsLinked, init, called, text_calls}
use Rattle.jack_core.specs.declared.program.Core.{Core}
use Rattle.jack_core.specs.Texts.{the_program, the_subroutines}
use Rattle.jack_compiler.specs.Templates.{Numbers}
use Rattle.jack_compiler.specs.Fits.{Scope, IsFit, IsFreshText, IsBody, scope_of, without_object}
use Rattle.jack_compiler.specs.Files.{files_of}
use Rattle.jack_compiler.specs.Match.{before, IsCodeOf, Match, MatchFrames}
use Rattle.jack_compiler.specs.Linked.{IsLinkedOf}
use Rattle.jack_compiler.specs.Resolved.{IsResolvedCore}
use Rattle.jack_compiler.proofs.Redexes.{whole_standing}
use Rattle.jack_compiler.proofs.Seam.{compiled}
use Rattle.jack_compiler.proofs.Starts.{simulation}
use Rattle.jack_compiler.proofs.Uniform.{code_is_uniform}
use Rattle.os_laws.specs.Names.{IsShipped}
use Rattle.os_functions.specs.Calls.{routine_number, HasStatics}
use Rattle.os_functions.proofs.Named.{numbered, number_of}
use Rattle.tower.specs.Image.{IsImageOf, image_for}
use Rattle.tower.proofs.Computers.{linked_bare}
use Rattle.os_start.specs.Laws.{main_of, HasRoom, image_trace, ReachesMain}
use Rattle.os_start.proofs.Plain.{plain_meaning}
use Rattle.os_start.proofs.Counting.{Makes, Comes, opening, one_more}
use Rattle.os_start.proofs.Calm.{Path, here, onward, calm_plain, quiet_steps}
use Rattle.os_start.proofs.Simulating.{simulates}
use Rattle.os_start.proofs.Pointing.{tops, top_next, top_function, machine_point}
use Rattle.os_start.proofs.Beginning.{has_start, at_begin, begun_at, tame_to}

module _ (program : Program) (numbers : Numbers) (linked : Linked) (depth most_locals : ℕ) (image : List ℕ) (map : Map)
    (fit : IsFit program numbers depth most_locals) (code : IsCodeOf program numbers linked) (does : IsTranslated linked image map endless_loop) where
  abbrev up : System State
  up = plain_meaning program.subroutines

  abbrev machine : System Machine
  machine = hack_system image map endless_loop

  abbrev Matches : State → VmState → Type 0
  Matches = Match program numbers linked 4

  abbrev StandsAt : VmState → Machine → Type 0
  StandsAt = StandsFor (location linked) linked

  above : Simulates up (vm_system linked) (vm_cost most_steps linked) Matches (λ s. 105)
  above = simulates program numbers linked code depth most_locals fit

  layer : Simulates up machine (λ s. 1) (Through Matches StandsAt) (λ s. 105)
  layer = through up (vm_system linked) machine (vm_cost most_steps linked) (λ s. 1) Matches StandsAt does.stops does.steps (λ s. 105) above

  begun : Matches (start program) vm_start
  begun =
      let m = simulation.starts program numbers linked depth most_locals fit code in
      record {
        frames = before (record { subroutine = refl; text_is = refl; function = refl; place_is = refl; values_are = refl });
        memory = record { words = m.memory.words; statics = m.memory.statics; known = m.memory.known; free = m.memory.free; temps = m.memory.temps };
      }

  module _ (keys : ℕ → ℕ) (words : (c : ℕ) → IsKey (keys c)) where
    abbrev ComesTo : State → ℕ → ℕ → Type 0
    ComesTo s until m = Comes up machine (λ s. 1) (Through Matches StandsAt) keys (machine_at image keys) s until m

    opened : up.fits (start program) ≡ true → ComesTo (start program) 16 0
    opened fits =
        opening up machine (λ s. 1) (Through Matches StandsAt) keys (machine_at image keys) words (λ c. refl) (λ l. omega arith) (start program) 16 0 0 hack.start refl refl refl
        (opens up (vm_system linked) machine (vm_cost most_steps linked) (λ s. 1) Matches StandsAt does.stops does.steps (λ s. 105) (start program) vm_start above begun fits 16 hack.start does.starts.opens)

    comes_as : (s : State) (until until' m m' : ℕ) → until ≡ until' → m ≡ m' → ComesTo s until m → ComesTo s until' m'
    comes_as s until until' m m' e f c = record { at = c.at; soon = omega (arith, c.soon, e); counted = c.counted ∙ f; unheard = c.unheard; met = c.met }

    along : (n : ℕ) (s u : State) → Path program.subroutines n s u → (until m : ℕ) → ComesTo s until m → ComesTo u (until + 105 * n) (m + n)
    along n s u (here _) until m c = comes_as s until (until + 105 * 0) m (m + 0) (omega arith) (omega arith) c
    along n s u (onward n' _ t _ calm q p) until m c =
        let made = quiet_steps program.subroutines s t q in
        let makes : Makes up machine (λ l. 1) (Through Matches StandsAt) keys (machine_at image keys) s t = record { step = made.step; unheard = made.unheard; counts = refl; going = made.going } in
        let next = one_more up machine (λ l. 1) (Through Matches StandsAt) keys (machine_at image keys) words (λ c. refl) (λ l. omega arith) 105 layer s t until m (calm_plain program.subroutines s calm) makes c in
        comes_as u (until + 105 + 105 * n') (until + 105 * suc n') (suc m + n') (m + suc n') (omega arith) (omega arith) (along n' t u p (until + 105) (suc m) next)

    pub path_comes : (n : ℕ) (u : State) → Path program.subroutines n (start program) u → up.fits (start program) ≡ true → ComesTo u (16 + 105 * n) n
    path_comes n u p fits = comes_as u (16 + 105 * n) (16 + 105 * n) (0 + n) n refl (omega arith) (along n (start program) u p 16 0 (opened fits))

-- ---- the frame of Main.main

module _ (subs : List Subroutine) (numbers : Numbers) (scope : Scope) where
  fresh_first : (t : Text) → IsFreshText subs numbers scope t → standing_first t ≡ 0
  fresh_first End h = refl
  fresh_first (Next (Let n x e) rest) h = whole_standing subs numbers scope e h.0.1
  fresh_first (Next (LetField n k e) rest) h = whole_standing subs numbers scope e h.0.1
  fresh_first (Next (LetThis n e) rest) h = absurd h.0
  fresh_first (Next (Store n a i e) rest) h = omega (arith, whole_standing subs numbers scope a h.0.0, whole_standing subs numbers scope i h.0.1, whole_standing subs numbers scope e h.0.2)
  fresh_first (Next (Do n e) rest) h = whole_standing subs numbers scope e h.0
  fresh_first (Next (If n o c a b) rest) h = whole_standing subs numbers scope c h.0.0
  fresh_first (Next (While n c s) rest) h = refl
  fresh_first (Next (Return n e) rest) h = whole_standing subs numbers scope e h.0

  body_first : (kind : Kind) (t : Text) → IsBody subs numbers scope kind t → standing_first t ≡ 0
  body_first Function t h = fresh_first t h
  body_first Method t h = fresh_first t h
  body_first Constructor End h = absurd h
  body_first Constructor (Next (LetThis n e) rest) h = whole_standing subs numbers (without_object scope) e h.0
  body_first Constructor (Next (Let n x e) rest) h = absurd h
  body_first Constructor (Next (LetField n k e) rest) h = absurd h
  body_first Constructor (Next (Store n a i e) rest) h = absurd h
  body_first Constructor (Next (Do n e) rest) h = absurd h
  body_first Constructor (Next (If n o c a b) rest) h = absurd h
  body_first Constructor (Next (While n c s) rest) h = absurd h
  body_first Constructor (Next (Return n e) rest) h = absurd h

fits_if : (w : ℕ) → w + 8 ≤ 1792 → nat_le (w + 8) 1792 ≡ true
fits_if w h = grind (arith, nat_tests)

module _ {core : Core} (p : IsShipped core) (h : HasStatics p) (linked : Linked) (code : IsLinkedOf core linked) where
  abbrev main_at : ℕ
  main_at = routine_number p (codes "Main") (codes "main")

  -- Sys.init calls it
  pub main_linked : IsLinked (the_program core) main_at
  main_linked =
      let calls : Contains (text_calls (at_begin p h)) (number_of core p (codes "Main") (codes "main")) = (5, omega arith, refl) in
      subst (λ (g : ℕ). IsLinked (the_program core) g) (sym (numbered core p (codes "Main") (codes "main")))
      (called init (subst (λ (sub : Subroutine). Contains (text_calls sub.body) (number_of core p (codes "Main") (codes "main"))) (sym (has_start p h)) calls))

  no_value : standing_first (main_of p).body ≡ 0
  no_value = let fit = code.fits.each main_at (code.all main_at main_linked) in body_first (the_subroutines core) code.numbers (scope_of (main_of p)) (main_of p).kind (main_of p).body fit.body

  pub has_room : HasRoom p → (meaning_of (the_subroutines core)).fits (begun_at p h).state ≡ true
  has_room few = fits_if (stack_words (begun_at p h).state.frames) (omega (arith, few, (begun_at p h).top, no_value))

-- ---- the image does what its linked code does (as in the proofs of the tower's computers)

image_does : (core : Core) (linked : Linked) (image : Image) → Links false (files_of core) (Ok linked) → IsLinkedOf core linked → image ≡ image_for linked → length image.words ≤ 32768
    → IsTranslated linked image.words (the_map image.map) endless_loop
image_does core linked image links code is fits =
    let few : length (image_of linked) ≤ 32768 = subst (λ (n : ℕ). n ≤ 32768) (length_mapped word_of (image_of linked)) (subst (λ (q : Image). length q.words ≤ 32768) is fits) in
    subst (λ (q : Image). IsTranslated linked q.words (the_map q.map) endless_loop) (sym is)
    (translated linked (sound_if false (files_of core) linked links) (code_is_uniform (the_program core) linked code) (linked_bare false (files_of core) linked links) few)

-- ---- the point

point_here : (t : Trace) (n : ℕ) (x : Point) → t.point n ≡ Some x → point_at t n ≡ Some x
point_here t zero x e = e
point_here t (suc n) x e = ap (λ o. option_or o (point_at t n)) e

module _ {core : Core} (p : IsShipped core) (h : HasStatics p) (linked : Linked) (code : IsLinkedOf core linked) (links : Links false (files_of core) (Ok linked)) (few : length (image_of linked) ≤ 32768) where
  abbrev first_frame : Frame
  first_frame = new_frame (the_subroutines core) (routine_number p (codes "Main") (codes "main")) []

  -- the computer that stands for a matching state with this frame on top
  main_point : (g : Frame) (below : List Frame) (v : VmState) (s : Machine) → MatchFrames (the_program core) code.numbers linked 4 (first_frame ∷ g ∷ below) v.frames → StandsFor (location linked) linked v s
      → addresses.point_in (points_of linked) s.pc ≡ Some (record { sub = first_frame.subroutine; number = text_point first_frame.text })
  main_point g below v s m stands =
      let top = tops (the_program core) code.numbers linked 4 first_frame g below v.frames m in
      let fit = code.fits.each first_frame.subroutine (code.all first_frame.subroutine (main_linked p h linked code)) in
      let next = top_next (the_program core) code.numbers linked 4 code.code first_frame top.frame fit.closed fit.body refl top.top in
      let (kept, function) = top_function (the_program core) code.numbers linked 4 code.code first_frame top.frame top.top in
      let fa = code.code.function first_frame.subroutine kept in
      let number : subroutine_of linked top.frame.function ≡ first_frame.subroutine = ap (subroutine_of linked) function ∙ (ap function_number fa.1 ∙ fa.2) in
      machine_point linked (sound_if false (files_of core) linked links) (code_is_uniform (the_program core) linked code) (linked_bare false (files_of core) linked links) few v s stands top.frame top.others top.is next.found next.at
      ∙ ap (λ (k : ℕ). made_point k next.found.statement) number ∙ ap (λ (k : ℕ). made_point first_frame.subroutine k) next.number
    where
      made_point : ℕ → ℕ → Option Point
      made_point sub number = Some (record { sub = sub; number = number })

pub reached : (core : Core) (image : Image) → IsResolvedCore core → IsImageOf core image → (p : IsShipped core) (h : HasStatics p) (keys : ℕ → ℕ) → ((c : ℕ) → IsKey (keys c)) → ReachesMain p h image keys
reached core image resolved is p h keys words =
    let code = compiled.linked core is.linked resolved is.links in
    let does = image_does core is.linked image is.links code is.is_image is.fits in
    let b = begun_at p h in
    let program = the_program core in
    let few : length (image_of is.linked) ≤ 32768 = subst (λ (n : ℕ). n ≤ 32768) (length_mapped word_of (image_of is.linked)) (subst (λ (q : Image). length q.words ≤ 32768) is.is_image is.fits) in
    let c = path_comes program code.numbers is.linked code.depth code.most_locals image.words (the_map image.map) code.fits code.code does keys words 1735 b.state b.path refl in
    let s = b.state in
    let matched = subst (λ (fs : List Frame). MatchFrames program code.numbers is.linked 4 fs c.met.0.frames) b.at.frames c.met.1.frames in
    let AtPoint : Image → Type 0 = λ q. StandsFor (location is.linked) is.linked c.met.0 (machine_at q.words keys c.at)
    → (the_map q.map).points (machine_at q.words keys c.at).pc ≡ Some (record { sub = (first_frame p h is.linked code is.links few).subroutine; number = text_point (first_frame p h is.linked code is.links few).text }) in
    let at : AtPoint image = subst AtPoint (sym is.is_image) (λ stands. main_point p h is.linked code is.links few b.at.init (b.at.start ∷ []) c.met.0 (machine_at (image_for is.linked).words keys c.at) matched stands) in
    record {
      cycle = c.at;
      soon = omega (arith, c.soon);
      count = c.counted;
      unheard = c.unheard;
      state = s;
      at = b.at;
      words = λ a d. c.met.2.memory.words a d.0 d.1 ∙ ap (λ (ws : List ℕ). slice_index ws (a - 2048)) c.met.1.memory.words;
      point = point_here (image_trace image keys) c.at (point_in (record s { frames = first_frame p h is.linked code is.links few ∷ b.at.init ∷ b.at.start ∷ [] })) (at c.met.2) ∙ ap (λ (fs : List Frame). Some (point_in (record s { frames = fs }))) (sym b.at.frames);
      tame = λ room heard. tame_to p h (has_room p h is.linked code room) heard;
    }
