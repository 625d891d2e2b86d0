-- Where the computer made of gates stops, its view is that of the program's meaning.
use Rattle.std.proofs.Common.{◌≡◌, ◌<◌, ◌≤◌, ◌+◌, ◌∷◌, [], ℕ, zero, suc, true, false, List, Option, Some, length, map, refl, sym, ap, ◌∙◌, subst, arith}
use Rattle.std.proofs.lemmas.Bool.{leb-true}
use Rattle.std.specs.Prelude.{None, option_map}
use Rattle.std.specs.Option.{option_or}
use Rattle.hack_isa.specs.Machine.{machine_at}
use Rattle.outer_world.specs.declared.point.Point.{Point}
use Rattle.hack_isa.specs.Table.{word_of}
use Rattle.simulation.specs.Laws.{SameCounts}
use Rattle.simulation.specs.System.{IsKey, Listening, Tame, run_of}
use Rattle.simulation.specs.Headline.{Agrees}
use Rattle.simulation.specs.Trace.{Trace, heard_keys, point_at, steps}
use Rattle.simulation.proofs.Runs.{some_is}
use Rattle.simulation.proofs.Traces.{same_counts}
use Rattle.image_map.specs.Computer.{endless_loop, run_trace, run_word}
use Rattle.image_map.specs.Map.{the_map}
use Rattle.image_map.specs.declared.map.Image.{Image}
use Rattle.hdl_tree.specs.Behaviour.{Histories}
use Rattle.hack_cpu.specs.Computer.{pc_at, word_at}
use Rattle.gate_computer.specs.Computer.{IsComputer}
use Rattle.gate_computer.proofs.Seen.{same_trace, shows_at}
use Rattle.vm_link.proofs.Marking.{length_mapped}
use Rattle.vm_link.proofs.SoundLemmas.{sound_if}
use Rattle.vm_link.specs.declared.linked.Linked.{Linked}
use Rattle.vm_machine.specs.State.{Frame as VmFrame, State as VmState}
use Rattle.vm_translator.specs.Image.{image_of}
use Rattle.vm_translator.specs.Seen.{IsImage}
use Rattle.vm_translator.specs.Translated.{IsTranslated}
use Rattle.vm_translator.proofs.Instructed.{translated}
use Rattle.jack_meaning.specs.Meaning.{Frame, State, start}
use Rattle.jack_meaning.specs.StackWords.{stack_words}
use Rattle.jack_core.specs.Texts.{the_program}
use Rattle.jack_core.specs.declared.program.Core.{Core}
use Rattle.jack_compiler.specs.Files.{files_of}
use Rattle.jack_compiler.specs.Linked.{IsLinkedOf}
use Rattle.jack_compiler.specs.Match.{Match, MatchFrames}
use Rattle.jack_compiler.specs.Resolved.{IsResolvedCore}
use Rattle.jack_compiler.proofs.Seam.{compiled}
use Rattle.jack_compiler.proofs.Seen.{seen as frames_law}
use Rattle.jack_compiler.proofs.Uniform.{code_is_uniform}
use Rattle.jack_debug.specs.Walk.{Walk, sub_at}
use Rattle.jack_debug.specs.Walk.{point_in as placed_in}
use Rattle.jack_debug.specs.declared.places.Places.{Places}
use Rattle.jack_debug.specs.declared.places.SubPlaces.{SubPlaces}
use Rattle.jack_debug.specs.declared.seen.View.{View}
use Rattle.jack_debug.proofs.Views.{walk_law}
use Rattle.tower.specs.Image.{IsImageOf}
use Rattle.tower.proofs.Computers.{linked_bare}
use Rattle.tower.proofs.Headline.{behind, headline}
use Rattle.vm_debug.specs.Meanings.{view_of as meant_view}
use Rattle.vm_debug.specs.Program.{ArePlacesOf}
use Rattle.vm_debug.proofs.Meant.{view_of}
use Rattle.nand_cli.specs.Commands.Debug.{IsBetweenSteps, IsMeant}
use Rattle.nand_cli.specs.Commands.Gates.{gates_trace, meaning_in}

both : {A B : Type 0} (P : A → B → Type 0) (a a' : A) (b b' : B) → a ≡ a' → b ≡ b' → P a b → P a' b'
both P a a' b b' e f p = subst (λ z. P z b') e (subst (P a) f p)

-- a point of a cycle is the point there
point_here : (t : Trace) (n : ℕ) (p : Point) → t.point n ≡ Some p → point_at t n ≡ Some p
point_here t zero p e = e
point_here t (suc n) p e = ap (λ o. option_or o (point_at t n)) e

same_point : (o : Option Point) (q : Point) → option_map (λ (p : Point). record { sub = p.sub; number = p.number }) o ≡ Some q → o ≡ Some q
same_point None q e = absurd (cc e)
same_point (Some p) q e = e

one_frame : (f g h : Frame) (below : List Frame) → f ∷ [] ≡ g ∷ h ∷ below → ⊥
one_frame f g h below e = let n = ap length e in omega (arith, n)

module _ (core : Core) (image : Image) (places : Places) (resolved : IsResolvedCore core) (is : IsImageOf core image) (are : ArePlacesOf (the_program core) is.linked places) (code : ℕ → ℕ) (words : (c : ℕ) → IsKey (code c)) where
  abbrev linked : Linked
  linked = is.linked

  code_is : IsLinkedOf core linked
  code_is = compiled.linked core linked resolved is.links

  few : length (image_of linked) ≤ 32768
  few = subst (λ (n : ℕ). n ≤ 32768) (length_mapped word_of (image_of linked)) (subst (λ (q : Image). length q.words ≤ 32768) is.is_image is.fits)

  imaged : IsImage linked
  imaged = record { sound = sound_if false (files_of core) linked is.links; whole = linked_bare false (files_of core) linked is.links; few = few }

  does : IsTranslated linked image.words (the_map image.map) endless_loop
  does =
      subst (λ (q : Image). IsTranslated linked q.words (the_map q.map) endless_loop) (sym is.is_image)
      (translated linked imaged.sound (code_is_uniform (the_program core) linked code_is) imaged.whole few)

  abbrev ran : Trace
  ran = run_trace image.words (the_map image.map) code

  -- the points of the places are those of the image
  ranges_are : (a : ℕ) → placed_in places.ranges a ≡ option_map (λ (p : Point). record { sub = p.sub; number = p.number }) ((the_map image.map).points a)
  ranges_are a =
      subst (λ (q : Image). placed_in places.ranges a ≡ option_map (λ (p : Point). record { sub = p.sub; number = p.number }) ((the_map q.map).points a)) (sym is.is_image) (are.image.ranges a)

  -- where the meaning is tame, the computer's control point is its own
  agreed : (n : ℕ) → Tame (meaning_in core) (start (the_program core)) (heard_keys ran n) (steps ran n)
      → Agrees (meaning_in core) (start (the_program core)) ran (run_word image.words code) n
  agreed n quiet = (headline (the_program core) code_is.numbers linked code_is.depth code_is.most_locals image.words (the_map image.map) code_is.fits code_is.code does code words n).agrees quiet

  -- the places know the subroutine of a call that is under way
  module _ (s : State) (v : VmState) (f g : Frame) (below : List Frame) (m : Match (the_program core) code_is.numbers linked code_is.depth s v) (e : s.frames ≡ f ∷ g ∷ below) where
    known_by : (vfs : List VmFrame) → v.frames ≡ vfs → MatchFrames (the_program core) code_is.numbers linked code_is.depth (f ∷ g ∷ below) vfs
        → (sub : SubPlaces) × (sub_at places f.subroutine ≡ Some sub)
    known_by [] d h = absurd h
    known_by (vf ∷ []) d h = absurd h
    known_by (vf ∷ vg ∷ vbelow) d h =
        let both_are = frames_law.frames (the_program core) code_is.numbers linked code_is.depth code_is.most_locals code_is.fits code_is.code s v f g below vf vg vbelow m e d in
        let function = code_is.code.function f.subroutine both_are.0.point.kept in
        let placed = are.image.subs (code_is.numbers.function f.subroutine) function.0 function.1 in
        (placed.sub, subst (λ k. sub_at places k ≡ Some placed.sub) function.2 placed.there)

    known : (sub : SubPlaces) × (sub_at places f.subroutine ≡ Some sub)
    known = known_by v.frames refl (subst (λ fs. MatchFrames (the_program core) code_is.numbers linked code_is.depth fs v.frames) e m.frames)

  module _ (view : View) (m : ℕ) (wires : List ℕ → Histories) (behaves : IsComputer image.words code m wires) where
    abbrev seen : Trace
    seen = gates_trace image code wires

    abbrev IsTame : Trace → ℕ → Type 0
    IsTame t n = Tame (meaning_in core) (start (the_program core)) (heard_keys t n) (steps t n)

    alike : (n : ℕ) → n < m → SameCounts seen ran n
    alike n near = same_counts seen ran n (same_trace image.words code m wires behaves (the_map image.map) n near)

    -- the view's point is the meaning's
    point_is : (n : ℕ) → n < m → Walk places (word_at wires n) (pc_at wires n) view → IsTame ran n
        → (after : Listening State) → run_of (meaning_in core) (start (the_program core)) (heard_keys ran n) (steps ran n) ≡ Some after
        → (meaning_in core).point after.state ≡ Some view.point
    point_is n near walk quiet after reached =
        let shows = shows_at image.words code m wires behaves n near in
        let machine = machine_at image.words code n in
        let here : placed_in places.ranges machine.pc ≡ Some view.point = subst (λ k. placed_in places.ranges k ≡ Some view.point) shows.pc walk.point in
        let in_image : (the_map image.map).points machine.pc ≡ Some view.point = same_point ((the_map image.map).points machine.pc) view.point (sym (ranges_are machine.pc) ∙ here) in
        let a = agreed n quiet in
        let same : a.after ≡ after = some_is a.after after (sym a.run ∙ reached) in
        subst (λ (l : Listening State). (meaning_in core).point l.state ≡ Some view.point) same (sym a.point ∙ point_here ran n view.point in_image)

    -- after a commit
    behind_commit : (c : ℕ) → suc c < m → seen.commits c ≡ true → IsTame seen (suc c) → Walk places (word_at wires (suc c)) (pc_at wires (suc c)) view → IsMeant core places view seen (suc c)
    behind_commit c near committed tame walk =
        let same = alike (suc c) near in
        let shows = shows_at image.words code m wires behaves (suc c) near in
        let before = shows_at image.words code m wires behaves c (let l : c < m = omega (arith, near) in l) in
        let now : ran.commits c ≡ true = sym (ap (the_map image.map).commits before.pc) ∙ committed in
        let quiet : IsTame ran (suc c) = both (λ ks k. Tame (meaning_in core) (start (the_program core)) ks k) _ _ _ _ same.heard_are same.steps_are tame in
        let b = behind (the_program core) code_is.numbers linked code_is.depth code_is.most_locals image.words (the_map image.map) code_is.fits code_is.code does code words c now quiet in
        let machine = machine_at image.words code (suc c) in
        let told : Walk places machine.memory machine.pc view =
        subst (λ k. Walk places machine.memory k view) shows.pc (walk_law.told places (word_at wires (suc c)) machine.memory (pc_at wires (suc c)) view (λ a l. shows.memory a l) walk) in
        record {
          after = b.after;
          run = ap (λ ks. run_of (meaning_in core) (start (the_program core)) ks (steps seen (suc c))) same.heard_are
              ∙ ap (run_of (meaning_in core) (start (the_program core)) (heard_keys ran (suc c))) same.steps_are ∙ b.run;
          point = point_is (suc c) near walk quiet b.after b.run;
          is_view = λ f g below e.
              let known_sub = known b.after.state b.between f g below b.matches e in
              let s = known_sub.0 in
              let there = known_sub.1 in (
                s,
                there,
                walk_law.one places machine.memory machine.pc view (meant_view places (λ k. k) (the_program core) s b.after.state f (g ∷ below)) told
                    (view_of.view_of (the_program core) linked code_is places (λ k. k) b.after.state b.between machine f g below s imaged are.image b.matches b.stands e (leb-true (stack_words b.after.state.frames + 8) 1792 b.fits) there
                    (are.names f.subroutine s there) (are.statics f.subroutine s there)),
              );
        }

    pub meant : (n : ℕ) → n < m → IsBetweenSteps seen n → Walk places (word_at wires n) (pc_at wires n) view → IsTame seen n → IsMeant core places view seen n
    meant zero near between walk tame = record {
      after = record { state = start (the_program core); keys = [] };
      run = refl;
      point = point_is zero near walk tame (record { state = start (the_program core); keys = [] }) refl;
      is_view = λ f g below e. absurd (one_frame _ f g below e);
    }
    meant (suc c) near between walk tame = behind_commit c near between tame walk
