-- The view of a state of the virtual machine is that of the meaning's state that it matches.
use Rattle.std.proofs.Common.{◌≡◌, ◌<◌, ◌≤◌, ◌+◌, ◌-◌, ℕ, zero, suc, Bool, true, false, nat_eq, if◌then◌else◌, List, [], ◌∷◌, map, length, replicate, refl, sym, ap, subst, ◌∙◌, arith}
use Rattle.std.specs.Prelude.{Option, Some, None, slice_get, slice_index}
use Rattle.std.proofs.lemmas.Bool.Decides.{nat_tests}
use Rattle.hack_isa.specs.Machine.{Machine}
use Rattle.jack_tree.specs.declared.tree.Form.{Form}
use Rattle.jack_tree.specs.declared.tree.Form.TheVariants as form
use Rattle.vm_link.specs.declared.linked.Linked.{Linked}
use Rattle.vm_machine.specs.State.{words_in_use}
use Rattle.vm_machine.specs.State.{Frame as VmFrame, State as VmState}
use Rattle.vm_machine.specs.Step.{code_in}
use Rattle.vm_machine.specs.Level.{subroutine_of, number_of, statement_of, end_statement}
use Rattle.vm_translator.specs.Mapping.{location}
use Rattle.vm_translator.specs.Related.{StandsFor}
use Rattle.vm_translator.specs.Seen.{IsImage}
use Rattle.jack_meaning.specs.Text.{Program}
use Rattle.jack_meaning.specs.Meaning.{Frame, State, subroutine_at, text_point}
use Rattle.jack_meaning.specs.StackWords.{stack_words}
use Rattle.jack_compiler.specs.Files.{statics_before}
use Rattle.jack_compiler.specs.Statics.{has_word, static_word}
use Rattle.jack_compiler.specs.Match.{Match, MatchFrames}
use Rattle.jack_compiler.specs.Linked.{IsLinkedProgram}
use Rattle.jack_compiler.specs.Seen.{PointsAlike, SeesAlike, CallersAlike}
use Rattle.jack_compiler.proofs.Starts.{simulation}
use Rattle.jack_compiler.proofs.Seen.{seen}
use Rattle.jack_debug.specs.declared.places.Places.{Places}
use Rattle.jack_debug.specs.declared.places.PlacedStatic.{PlacedStatic}
use Rattle.jack_debug.specs.declared.places.SubPlaces.{SubPlaces}
use Rattle.jack_debug.specs.declared.seen.Caller.{Caller}
use Rattle.jack_debug.specs.Walk.{sub_at, name_of, first_named, variables_from, statics_of, Walk}
use Rattle.vm_debug.specs.Views.{IsPlacesOf, HaveCommands, FitsFrame, AreStatics, callers_at, this_at, static_at, view_at}
use Rattle.vm_debug.specs.Meanings.{kind_of, Names, AreStaticsOf, HaveWords, callers_of, this_of, statics_from}
use Rattle.vm_debug.specs.Meanings.{view_of as view_meant}
use Rattle.vm_debug.specs.Laws.{ViewOfLaw}
use Rattle.vm_debug.proofs.Walks.{walk_of, shown_same}

some_is : {A : Type 0} {a b : A} → Some a ≡ Some b → a ≡ b
some_is {A} {a} {b} e = cc e

module _ (program : Program) (linked : Linked) (is : IsLinkedProgram program linked) (places : Places) (index : ℕ → ℕ) where
  -- the subroutine of a frame's function
  subroutine_is : (f : Frame) (vf : VmFrame) → PointsAlike program is.numbers linked f vf → subroutine_of linked vf.function ≡ f.subroutine
  subroutine_is f vf p = let fa = is.code.function f.subroutine p.kept in ap (subroutine_of linked) p.function ∙ (ap number_of fa.1 ∙ fa.2)

  number_is : (f : Frame) (vf : VmFrame) → PointsAlike program is.numbers linked f vf → statement_of (end_statement linked vf.function) (slice_get (code_in linked vf.function) vf.place) ≡ text_point f.text
  number_is f vf p = ap (statement_of (end_statement linked vf.function)) p.there ∙ p.number

  named : (i i' n n' : ℕ) → i ≡ i' → n ≡ n' → ◌≡◌ {A = Caller} (record { sub = name_of (sub_at places (index i)) (index i); number = n }) (record { sub = name_of (sub_at places (index i')) (index i'); number = n' })
  named i i' n n' e d = λ j. record { sub = name_of (sub_at places (index (e j))) (index (e j)); number = d j }

  callers_same : (fs : List Frame) (vfs : List VmFrame) → CallersAlike program is.numbers linked fs vfs → callers_at linked places index vfs ≡ callers_of places index fs
  callers_same [] vfs c = absurd c
  callers_same (f ∷ []) [] c = absurd c
  callers_same (f ∷ []) (vf ∷ []) c =
      let sub : subroutine_of linked vf.function ≡ f.subroutine = ap (subroutine_of linked) c.function ∙ sym c.subroutine in
      let there : slice_get (code_in linked vf.function) vf.place ≡ slice_get (code_in linked None) 1 = ap (λ o. slice_get (code_in linked o) vf.place) c.function ∙ ap (slice_get (code_in linked None)) c.place in
      let number : statement_of (end_statement linked vf.function) (slice_get (code_in linked vf.function) vf.place) ≡ text_point f.text = ap (statement_of (end_statement linked vf.function)) there ∙ sym c.number in
      ap (λ (x : Caller). x ∷ []) (named _ _ _ _ sub number)
  callers_same (f ∷ []) (vf ∷ vg ∷ vfs) c = absurd c
  callers_same (f ∷ g ∷ fs) [] c = absurd c
  callers_same (f ∷ g ∷ fs) (vf ∷ []) c = absurd c
  callers_same (f ∷ g ∷ fs) (vf ∷ vg ∷ vfs) c =
      let head = named _ _ _ _ (subroutine_is f vf c.0) (number_is f vf c.0) in
      let rest = callers_same (g ∷ fs) (vg ∷ vfs) c.1 in
      λ j. head j ∷ rest j

  commands_there : (fs : List Frame) (vfs : List VmFrame) → CallersAlike program is.numbers linked fs vfs → HaveCommands linked vfs
  commands_there [] vfs c = absurd c
  commands_there (f ∷ []) [] c = absurd c
  commands_there (f ∷ []) (vf ∷ []) c =
      let there : slice_get (code_in linked vf.function) vf.place ≡ slice_get (code_in linked None) 1 = ap (λ o. slice_get (code_in linked o) vf.place) c.function ∙ ap (slice_get (code_in linked None)) c.place in
      ((_, there), tt)
  commands_there (f ∷ []) (vf ∷ vg ∷ vfs) c = absurd c
  commands_there (f ∷ g ∷ fs) [] c = absurd c
  commands_there (f ∷ g ∷ fs) (vf ∷ []) c = absurd c
  commands_there (f ∷ g ∷ fs) (vf ∷ vg ∷ vfs) c = ((c.0.command, c.0.there), commands_there (g ∷ fs) (vg ∷ vfs) c.1)

  zeros : (n k : ℕ) → slice_index (replicate n 0) k ≡ 0
  zeros zero k = refl
  zeros (suc n) zero = refl
  zeros (suc n) (suc k) = zeros n k

  -- one static
  static_same : (s : State) (v : VmState) → Match program is.numbers linked is.depth s v → (k : ℕ) (o : Option ℕ) → o ≡ (if has_word program linked k then Some (16 + static_word program linked k) else None)
      → static_at linked places index v o ≡ slice_index s.statics k
  static_same s v m k o e = subst (λ z. static_at linked places index v z ≡ slice_index s.statics k) (sym e) (by_word (has_word program linked k) refl)
    where
      by_word : (b : Bool) → has_word program linked k ≡ b → static_at linked places index v (if b then Some (16 + static_word program linked k) else None) ≡ slice_index s.statics k
      by_word true t =
          let a = seen.statics program is.numbers linked is.depth s v m in
          let at : 16 + static_word program linked k - 16 ≡ static_word program linked k = omega arith in
          ap (slice_index v.statics) at ∙ ap (slice_index v.statics) (sym (is.static k)) ∙ a.held k (is.holds k ∙ t)
      by_word false t = let a = seen.statics program is.numbers linked is.depth s v m in sym (a.free k (is.holds k ∙ t))

  statics_same : (s : State) (v : VmState) → Match program is.numbers linked is.depth s v → (k : ℕ) (ss : List PlacedStatic) → HaveWords program linked k ss
      → map (λ x. record { name = x.name; word = static_at linked places index v x.address }) ss ≡ statics_from places index s.statics k ss
  statics_same s v m k [] a = refl
  statics_same s v m k (x ∷ xs) a =
      let head = static_same s v m k x.address a.0 in
      let rest = statics_same s v m (k + 1) xs a.1 in
      λ j. record { name = x.name; word = head j } ∷ rest j

  -- the words of statics are static words
  are_statics : (k : ℕ) (ss : List PlacedStatic) → HaveWords program linked k ss → AreStatics ss
  are_statics k [] a i s w e d = absurd (cc e)
  are_statics k (x ∷ xs) a zero s w e d =
      let same : x ≡ s = some_is e in
      let at : Some w ≡ (if has_word program linked k then Some (16 + static_word program linked k) else None) = sym d ∙ sym (ap (λ (z : PlacedStatic). z.address) same) ∙ a.0 in
      by_word (has_word program linked k) refl at
    where
      by_word : (b : Bool) → has_word program linked k ≡ b → Some w ≡ (if b then Some (16 + static_word program linked k) else None) → (16 ≤ w) × (w < 256)
      by_word true t at =
          let room = is.code.room k (is.holds k ∙ t) in
          let number = is.static k in
          let same : w ≡ 16 + static_word program linked k = some_is at in
          (omega arith, omega arith)
      by_word false t at = absurd (cc at)
  are_statics k (x ∷ xs) a (suc i) s w e d = are_statics (k + 1) xs a.1 i s w e d

  -- `this` of the innermost call
  this_same : (f : Frame) (vf : VmFrame) → SeesAlike program is.numbers linked f vf → (x : Form) → (subroutine_at program.subroutines f.subroutine).kind ≡ kind_of x → (n : ℕ) → n ≡ text_point f.text
      → this_at linked places index x n vf ≡ this_of places index x f
  this_same f vf a form.Method kind n e = ap Some (ap (λ (l : List ℕ). slice_index l 0) a.arguments ∙ a.object kind)
  this_same f vf a form.Constructor kind n e = ap (λ (z : ℕ). Some (if nat_eq z 0 then 0 else vf.this)) e ∙ ap Some (a.this kind)
  this_same f vf a form.Function kind n e = refl

  local_same : (f : Frame) (vf : VmFrame) → SeesAlike program is.numbers linked f vf → (p : ℕ) → vf.place ≡ p → (k : ℕ) → (if nat_eq p 0 then 0 else slice_index vf.locals k) ≡ slice_index f.locals k
  local_same f vf a zero e k = sym (ap (λ (l : List ℕ). slice_index l k) (a.unmade e).1 ∙ zeros (subroutine_at program.subroutines f.subroutine).locals k)
  local_same f vf a (suc p) e k =
      let z : nat_eq (suc p) 0 ≡ false = grind (arith, nat_tests) in
      ap (λ (b : Bool). if b then 0 else slice_index vf.locals k) z ∙ ap (λ (l : List ℕ). slice_index l k) (a.made (omega arith))

  module _ (s : State) (v : VmState) (c : Machine) (f g : Frame) (below : List Frame) (sub : SubPlaces) (imaged : IsImage linked) (are : IsPlacesOf linked places index)
      (m : Match program is.numbers linked is.depth s v) (stands : StandsFor (location linked) linked v c) (e : s.frames ≡ f ∷ g ∷ below) (room : stack_words s.frames + 8 ≤ 1792)
      (there : sub_at places (index f.subroutine) ≡ Some sub) (names : Names sub (subroutine_at program.subroutines f.subroutine))
      (statics : AreStaticsOf program linked (subroutine_at program.subroutines f.subroutine).class (statics_of (slice_get places.classes sub.class))) where
    module _ (vf vg : VmFrame) (vbelow : List VmFrame) (d : v.frames ≡ vf ∷ vg ∷ vbelow) where
      both : SeesAlike program is.numbers linked f vf × CallersAlike program is.numbers linked (g ∷ below) (vg ∷ vbelow)
      both = seen.frames program is.numbers linked is.depth is.most_locals is.fits is.code s v f g below vf vg vbelow m e d

      fits : FitsFrame sub vf
      fits =
          let a = both.0 in
          let n = names.arguments in
          let l = names.locals in
          let x = a.arguments_are in
          let y = a.locals_are in
          let z = ap length a.arguments in
          record { arguments = omega arith; locals = λ p. let w = ap length (a.made p) in omega arith }

      room_there : words_in_use v.frames + 8 ≤ 1792
      room_there = let w = simulation.words program is.numbers linked is.depth s v m in omega arith

      walk_there : Walk places c.memory c.pc (view_at linked places index sub v vf (vg ∷ vbelow))
      walk_there =
          let a = both.0 in
          let fa = is.code.function f.subroutine a.point.kept in
          walk_of.walk_of linked places index v c vf vg vbelow (is.numbers.function f.subroutine) fa.0 sub imaged are stands d room_there
          ((a.point.command, a.point.there), commands_there (g ∷ below) (vg ∷ vbelow) both.1) a.point.function fa.1 (ap (λ (z : ℕ). sub_at places (index z)) fa.2 ∙ there) fits
          (are_statics (statics_before program.classes (subroutine_at program.subroutines f.subroutine).class) (statics_of (slice_get places.classes sub.class)) statics.words)

      same_view : view_at linked places index sub v vf (vg ∷ vbelow) ≡ view_meant places index program sub s f (g ∷ below)
      same_view =
          let a = both.0 in
          let sub_same = subroutine_is f vf a.point in
          let number_same = number_is f vf a.point in
          let this_is = this_same f vf a sub.form names.kind _ number_same in
          let args : variables_from (λ k. slice_index vf.arguments k) (first_named sub.form) sub.arguments ≡ variables_from (λ k. slice_index f.arguments k) (first_named sub.form) sub.arguments =
          ap (λ (l : List ℕ). variables_from (λ k. slice_index l k) (first_named sub.form) sub.arguments) a.arguments in
          let locals : variables_from (λ k. if nat_eq vf.place 0 then 0 else slice_index vf.locals k) 0 sub.locals ≡ variables_from (λ k. slice_index f.locals k) 0 sub.locals =
          shown_same _ _ 0 sub.locals (λ j h k. local_same f vf a vf.place refl j) in
          let stats = statics_same s v m (statics_before program.classes (subroutine_at program.subroutines f.subroutine).class) (statics_of (slice_get places.classes sub.class)) statics.words in
          let calls = callers_same (g ∷ below) (vg ∷ vbelow) both.1 in
          λ j. record {
            point = record { sub = index (sub_same j); number = number_same j };
            this = this_is j;
            arguments = args j;
            locals = locals j;
            statics = stats j;
            callers = calls j;
            lost = false;
          }

      walk_meant : Walk places c.memory c.pc (view_meant places index program sub s f (g ∷ below))
      walk_meant = subst (Walk places c.memory c.pc) same_view walk_there

    by_frames : (vfs : List VmFrame) → v.frames ≡ vfs → MatchFrames program is.numbers linked is.depth (f ∷ g ∷ below) vfs → Walk places c.memory c.pc (view_meant places index program sub s f (g ∷ below))
    by_frames [] d h = absurd h
    by_frames (vf ∷ []) d h = absurd h
    by_frames (vf ∷ vg ∷ vbelow) d h = walk_meant vf vg vbelow d

    view : Walk places c.memory c.pc (view_meant places index program sub s f (g ∷ below))
    view = by_frames v.frames refl (subst (λ fs. MatchFrames program is.numbers linked is.depth fs v.frames) e m.frames)

pub view_of : ViewOfLaw
view_of = record { view_of = view }
