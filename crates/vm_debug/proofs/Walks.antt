-- The walk of the words of a memory that holds a state.
use Rattle.std.proofs.Common.{◌≡◌, ◌<◌, ◌≤◌, ◌+◌, ◌-◌, ◌&&◌, ℕ, zero, suc, Bool, true, false, nat_eq, nat_lt, nat_le, if◌then◌else◌, List, [], ◌∷◌, map, length, refl, sym, ap, subst, ◌∙◌, arith}
use Rattle.std.specs.Prelude.{Option, Some, None, option_map, slice_get, slice_index}
use Rattle.outer_world.specs.declared.point.Point.{Point}
use Rattle.std.proofs.lemmas.Bool.Decides.{nat_tests}
use Rattle.hack_isa.specs.Machine.{Machine}
use Rattle.jack_tree.specs.declared.tree.Form.{Form}
use Rattle.jack_tree.specs.declared.tree.Form.TheVariants.{Constructor, Function, Method}
use Rattle.vm_link.specs.declared.linked.Code.{Code}
use Rattle.vm_link.specs.declared.linked.Linked.{Linked}
use Rattle.vm_link.specs.declared.linked.LinkedFunction.{LinkedFunction}
use Rattle.vm_machine.specs.State.{Frame, State, words_in_use}
use Rattle.vm_machine.specs.Step.{code_in}
use Rattle.vm_machine.specs.Level.{subroutine_of, number_of, statement_of, end_statement}
use Rattle.vm_machine.specs.Sound.{AreSoundFrames}
use Rattle.vm_translator.specs.Mapping.{location}
use Rattle.vm_translator.specs.Places.{address_of}
use Rattle.vm_translator.specs.Related.{StandsFor}
use Rattle.vm_translator.specs.Carries.{place_of}
use Rattle.vm_translator.specs.Seen.{IsImage, IsCalledBy, HasCallers, HasVariables}
use Rattle.vm_translator.proofs.Seen.{seen}
use Rattle.jack_debug.specs.declared.places.Places.{Places}
use Rattle.jack_debug.specs.declared.places.PlacedStatic.{PlacedStatic}
use Rattle.jack_debug.specs.declared.places.SubPlaces.{SubPlaces}
use Rattle.jack_debug.specs.Walk.{is_in, point_in, sub_at, word_at, first_named, variables_from, static_word, static_variable, statics_of, IsFrame, Callers, to_start, called, this_of, ShowsCall, ShowsSub, Walk}
use Rattle.vm_debug.specs.Views.{IsPlacesOf, HaveCommands, FitsFrame, AreStatics, point_at, callers_at, this_at, static_at, view_at}
use Rattle.vm_debug.specs.Laws.{WalkOfLaw}

-- names with the same values
pub shown_same : (value value' : ℕ → ℕ) (k : ℕ) (names : List (List ℕ)) → ((j : ℕ) → k ≤ j → j < k + length names → value j ≡ value' j) → variables_from value k names ≡ variables_from value' k names
shown_same value value' k [] h = refl
shown_same value value' k (n ∷ ns) h =
    λ i. record { name = n; word = h k (omega arith) (omega arith) i } ∷ shown_same value value' (k + 1) ns (λ j a b. h j (omega arith) (omega arith)) i

low_word : (m : ℕ → ℕ) (a : ℕ) → a < 24576 → word_at m a ≡ m a
low_word m a h = ap (λ b. if b then m a else 0) (let t : nat_lt a 24576 ≡ true = grind (arith, nat_tests) in t)

inside : (from to a : ℕ) → from ≤ a → a < to → is_in from to a ≡ true
inside from to a h k = let t : nat_le from a ≡ true = grind (arith, nat_tests) in let u : nat_lt a to ≡ true = grind (arith, nat_tests) in ap (λ b. b && nat_lt a to) t ∙ u

outside : (from to a : ℕ) → to ≤ a → is_in from to a ≡ false
outside from to a h = by_first (nat_le from a)
  where
    t : nat_lt a to ≡ false
    t = grind (arith, nat_tests)

    by_first : (b : Bool) → (b && nat_lt a to) ≡ false
    by_first true = t
    by_first false = refl

statics_same : (l : Linked) (places : Places) (index : ℕ → ℕ) (m : ℕ → ℕ) (v : State) → ((j : ℕ) → j < 240 → m (16 + j) ≡ slice_index v.statics j) → (ss : List PlacedStatic) → AreStatics ss
    → map (λ s. record { name = s.name; word = static_at l places index v s.address }) ss ≡ map (static_variable m) ss
statics_same l places index m v h [] a = refl
statics_same l places index m v h (s ∷ ss) a =
    λ i. record { name = s.name; word = by_address s.address (λ w e. a 0 s w refl e) i } ∷ statics_same l places index m v h ss (λ j t w e f. a (suc j) t w e f) i
  where
    by_address : (o : Option ℕ) → ((w : ℕ) → o ≡ Some w → (16 ≤ w) × (w < 256)) → static_at l places index v o ≡ static_word m o
    by_address None k = refl
    by_address (Some w) k =
        let b = k w refl in
        let low = b.0 in
        let high = b.1 in
        let e : 16 + (w - 16) ≡ w = omega arith in
        sym (low_word m w (omega arith) ∙ ap m (sym e) ∙ h (w - 16) (omega arith))

module _ (l : Linked) (is : IsImage l) (places : Places) (index : ℕ → ℕ) (are : IsPlacesOf l places index) (m : ℕ → ℕ) where
  -- the point of a frame with a command
  place_point : (f : Frame) (below : List Frame) (c : Code) → slice_get (code_in l f.function) f.place ≡ Some c → point_in places.ranges (location l f.function f.place) ≡ Some (point_at l places index (f ∷ below))
  place_point f below c g =
      are.ranges (location l f.function f.place)
      ∙ ap (option_map (λ (p : Point). record { sub = index p.sub; number = p.number })) (seen.points l is f.function f.place c g)
      ∙ ap (λ o. Some (record { sub = index (subroutine_of l f.function); number = statement_of (end_statement l f.function) o })) (sym g)

  positive : (n : ℕ) (sub : SubPlaces) → sub_at places n ≡ Some sub → 0 < n
  positive zero sub e = absurd (cc e)
  positive (suc n) sub e = omega arith

  -- a function that is there
  there : (fs : List LinkedFunction) (k : ℕ) → k < length fs → (f : LinkedFunction) × (slice_get fs k ≡ Some f)
  there [] k h = absurd (omega arith)
  there (f ∷ fs) zero h = (f, refl)
  there (f ∷ fs) (suc k) h = there fs k (omega arith)

  frame_of : (above j : ℕ) (g : Frame) → IsCalledBy (location l) m above j g → IsFrame above j
  frame_of above j g c = record { from = c.from; to = c.to; below = c.below }

  sub_positive : (g : Frame) (below : List Frame) (k : ℕ) → g.function ≡ Some k → k < length l.functions → 0 < (point_at l places index (g ∷ below)).sub
  sub_positive g below k e h =
      let f = there l.functions k h in
      let s = are.subs k f.0 f.1 in
      let number : subroutine_of l g.function ≡ f.0.number = ap (subroutine_of l) e ∙ ap number_of f.1 in
      let p = positive (index f.0.number) s.sub s.there in
      subst (λ n. 0 < index n) (sym number) p

  callers_walk : (above j : ℕ) (g : Frame) (below : List Frame) → AreSoundFrames l (g ∷ below) → HaveCommands l (g ∷ below) → HasCallers (location l) m above j (g ∷ below)
      → Callers places m above j (callers_at l places index (g ∷ below)) false
  callers_walk above j g [] sound commands c =
      let p = place_point g [] commands.0.0 commands.0.1 in
      let zero_sub : index (subroutine_of l g.function) ≡ 0 = ap (λ o. index (subroutine_of l o)) sound.1.function ∙ are.start in
      to_start above j (point_at l places index (g ∷ [])) (frame_of above j g c) (ap (point_in places.ranges) c.back ∙ p) zero_sub
  callers_walk above j g (h ∷ below) sound commands c =
      let p = place_point g (h ∷ below) commands.0.0 commands.0.1 in
      called above j (point_at l places index (g ∷ h ∷ below)) (callers_at l places index (h ∷ below)) false (frame_of above j g c.0) (ap (point_in places.ranges) c.0.back ∙ p)
      (sub_positive g (h ∷ below) sound.1.0 sound.1.1 sound.1.2)
      (callers_walk j (m (j - 4)) h below sound.2 commands.1 c.1)

module _ (l : Linked) (places : Places) (index : ℕ → ℕ) (v : State) (s : Machine) (f g : Frame) (below : List Frame) (k : ℕ) (fn : LinkedFunction) (sub : SubPlaces) (is : IsImage l) (are : IsPlacesOf l places index)
    (stands : StandsFor (location l) l v s) (e : v.frames ≡ f ∷ g ∷ below) (room : words_in_use v.frames + 8 ≤ 1792) (commands : HaveCommands l (f ∷ g ∷ below)) (function : f.function ≡ Some k)
    (fn_there : slice_get l.functions k ≡ Some fn) (sub_there : sub_at places (index fn.number) ≡ Some sub) (fits : FitsFrame sub f) (statics : AreStatics (statics_of (slice_get places.classes sub.class))) where
  pc : s.pc ≡ location l f.function f.place
  pc = stands.pc ∙ ap (place_of (location l)) e

  vars : HasVariables s.memory f
  vars = seen.variables (location l) v s.memory f g below stands.memory e room

  sub_is : sub_at places (point_at l places index (f ∷ g ∷ below)).sub ≡ Some sub
  sub_is = ap (λ o. sub_at places (index (subroutine_of l o))) function ∙ ap (λ o. sub_at places (index (number_of o))) fn_there ∙ sub_there

  -- the entry code
  entry_from : sub.from ≡ address_of l k 0
  entry_from = let t = are.subs k fn fn_there in let same : t.sub ≡ sub = (let both : Some t.sub ≡ Some sub = sym t.there ∙ sub_there in cc) in sym (ap (λ (z : SubPlaces). z.from) same) ∙ t.from

  entry_to : sub.to ≡ address_of l k 1
  entry_to = let t = are.subs k fn fn_there in let same : t.sub ≡ sub = (let both : Some t.sub ≡ Some sub = sym t.there ∙ sub_there in cc) in sym (ap (λ (z : SubPlaces). z.to) same) ∙ t.to

  at_place : (p : ℕ) → f.place ≡ p → s.pc ≡ location l (Some k) p
  at_place p h = pc ∙ ap (location l f.function) h ∙ ap (λ o. location l o p) function

  command_at : (p : ℕ) → f.place ≡ p → slice_get (code_in l (Some k)) p ≡ Some commands.0.0
  command_at p h = ap (slice_get (code_in l (Some k))) (sym h) ∙ ap (λ o. slice_get (code_in l o) f.place) (sym function) ∙ commands.0.1

  local_same : (p : ℕ) → f.place ≡ p → (j : ℕ) → j < length sub.locals
      → (if nat_eq p 0 then 0 else slice_index f.locals j) ≡ (if is_in sub.from sub.to s.pc then 0 else word_at s.memory (s.memory 1 + j))
  local_same zero h j b =
      let n = seen.entry l is k commands.0.0 (command_at zero h) in
      let at = at_place zero h in
      let here = n.0 in
      let up = n.1 in
      let from = entry_from in
      let to = entry_to in
      let i = inside sub.from sub.to s.pc (omega arith) (omega arith) in
      sym (ap (λ (z : Bool). if z then 0 else word_at s.memory (s.memory 1 + j)) i)
  local_same (suc p) h j b =
      let n = seen.behind l is k (suc p) commands.0.0 (omega arith) (command_at (suc p) h) in
      let at = at_place (suc p) h in
      let to = entry_to in
      let i = outside sub.from sub.to s.pc (omega arith) in
      let many = fits.locals (omega arith) in
      let on = vars.locals_on in
      let there = vars.locals j (omega arith) in
      let z : nat_eq (suc p) 0 ≡ false = grind (arith, nat_tests) in
      ap (λ (y : Bool). if y then 0 else slice_index f.locals j) z ∙ sym there ∙ sym (low_word s.memory (s.memory 1 + j) (omega arith)) ∙ sym (ap (λ (y : Bool). if y then 0 else word_at s.memory (s.memory 1 + j)) i)

  this_same : (form : Form) (n : ℕ) → first_named form ≤ length f.arguments → this_at l places index form n f ≡ this_of s.memory form n
  this_same Method n h =
      let on = vars.arguments_on in
      let there = vars.arguments 0 (omega arith) in
      let z : s.memory 2 + 0 ≡ s.memory 2 = omega arith in
      ap Some (sym there ∙ ap s.memory z ∙ sym (low_word s.memory (s.memory 2) (omega arith)))
  this_same Constructor n h = ap (λ w. Some (if nat_eq n 0 then 0 else w)) (sym vars.this)
  this_same Function n h = refl

  argument_same : (j : ℕ) → first_named sub.form ≤ j → j < first_named sub.form + length sub.arguments → slice_index f.arguments j ≡ word_at s.memory (s.memory 2 + j)
  argument_same j a b =
      let many = fits.arguments in
      let on = vars.arguments_on in
      sym (vars.arguments j (omega arith)) ∙ sym (low_word s.memory (s.memory 2 + j) (omega arith))

  below_sound : AreSoundFrames l (g ∷ below)
  below_sound = let t = subst (AreSoundFrames l) e stands.sound.frames in t.2

  call : ShowsCall places s.memory sub s.pc (view_at l places index sub v f (g ∷ below))
  call = record {
    this = this_same sub.form (point_at l places index (f ∷ g ∷ below)).number (let many = fits.arguments in omega arith);
    arguments = shown_same _ _ (first_named sub.form) sub.arguments argument_same;
    locals = shown_same _ _ 0 sub.locals (λ j a b. local_same f.place refl j (omega arith));
    statics = statics_same l places index s.memory v stands.memory.statics (statics_of (slice_get places.classes sub.class)) statics;
    callers = callers_walk l is places index are s.memory 2052 (s.memory 1) g below below_sound commands.1 (seen.callers (location l) v s.memory f g below stands.memory e room);
  }

  walk : Walk places s.memory s.pc (view_at l places index sub v f (g ∷ below))
  walk = record {
    point = ap (point_in places.ranges) pc ∙ place_point l is places index are s.memory f (g ∷ below) commands.0.0 commands.0.1;
    shows = subst (λ o. ShowsSub places s.memory o s.pc (view_at l places index sub v f (g ∷ below))) (sym sub_is) call;
  }

pub walk_of : WalkOfLaw
walk_of = record { walk_of = walk }
