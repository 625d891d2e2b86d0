-- What the memory says of frames, and what the map says of places.
use Rattle.std.proofs.Common.{◌≡◌, ◌<◌, ◌≤◌, ℕ, zero, suc, ◌+◌, ◌-◌, List, [], ◌∷◌, ◌++◌, length, take, drop, refl, sym, ap, subst, ◌∙◌, arith, length-append}
use Rattle.std.specs.Prelude.{Option, Some, None, option_map, unwrap_or, slice_get, map, reverse, if◌then◌else◌}
use Rattle.std.proofs.lemmas.List.{map-append}
use Rattle.vm_link.specs.declared.linked.Code.{Code}
use Rattle.vm_link.specs.declared.linked.Linked.{Linked}
use Rattle.vm_tree.specs.declared.command.Segment.TheVariants as segment
use Rattle.vm_link.specs.declared.linked.Step.TheVariants as step
use Rattle.vm_link.specs.declared.linked.LinkedFunction.{LinkedFunction}
use Rattle.vm_machine.specs.State.{Frame, State, words_in_use}
use Rattle.vm_machine.specs.Step.{code_in, code_of}
use Rattle.vm_machine.specs.Level.{subroutine_of, number_of}
use Rattle.vm_translator.specs.Shapes.{step_size}
use Rattle.vm_translator.specs.Stands.{Holds, words_saved, own_words, lcl_of, Laid, SameMemory}
use Rattle.vm_translator.specs.Places.{address_of, base_of, code_at, end_of, program, words_of}
use Rattle.vm_translator.specs.Mapping.{location}
use Rattle.image_map.specs.Map.{point_in}
use Rattle.vm_translator.specs.Image.{points_of, range_of, start_ranges}
use Rattle.vm_translator.specs.Seen.{HasVariables, IsCalledBy, HasCallers, IsImage, SeenLaw}
use Rattle.vm_translator.proofs.Stack.{holds_front, holds_back, holds_at}
use Rattle.vm_translator.proofs.Frames.{at_frames}
use Rattle.vm_translator.proofs.Sums.{size_some, address_next}
use Rattle.vm_translator.proofs.Sizes.{length_image}
use Rattle.vm_translator.proofs.Chained.{Chain, chain_split, chain_from, chain_up, among_from}
use Rattle.vm_translator.proofs.Covered.{in_range, past_ranges, chain_covers, points_are, start_covers}

module _ (address : Option ℕ → ℕ → ℕ) (m : ℕ → ℕ) where
  -- the parts of a frame's words
  record Parts (f g : Frame) (below : List Frame) : Type 0 where
    arguments : Holds m (256 + words_in_use (g ∷ below)) f.arguments
    links : Holds m (256 + words_in_use (g ∷ below) + length f.arguments) (words_saved address g below)
    locals : Holds m (256 + words_in_use (g ∷ below) + length f.arguments + 5) f.locals

  parts : (f g : Frame) (below : List Frame) → Holds m (256 + words_in_use (g ∷ below)) (own_words address f (g ∷ below)) → Parts f g below
  parts f g below own =
      let b = 256 + words_in_use (g ∷ below) in
      let lower = holds_front m b (f.arguments ++ words_saved address g below) (f.locals ++ reverse f.values) own in
      let upper = holds_back m b (f.arguments ++ words_saved address g below) (f.locals ++ reverse f.values) own in
      let size : b + length (f.arguments ++ words_saved address g below) ≡ b + length f.arguments + 5 = omega (arith, length-append f.arguments (words_saved address g below)) in
      record {
        arguments = holds_front m b f.arguments (words_saved address g below) lower;
        links = holds_back m b f.arguments (words_saved address g below) lower;
        locals = subst (λ a. Holds m a f.locals) size (holds_front m (b + length (f.arguments ++ words_saved address g below)) f.locals (reverse f.values) upper);
      }

  called_by : (f g : Frame) (below : List Frame) (above : ℕ) → Parts f g below → lcl_of (f ∷ g ∷ below) + 5 ≤ above → lcl_of (f ∷ g ∷ below) ≤ 2047 → IsCalledBy address m above (lcl_of (f ∷ g ∷ below)) g
  called_by f g below above p h k =
      let at : 256 + words_in_use (g ∷ below) + length f.arguments + 5 - 5 ≡ 256 + words_in_use (g ∷ below) + length f.arguments = omega arith in
      record { from = omega arith; to = k; below = h; back = ap m at ∙ p.links.0 }

  leads : (f g : Frame) (below : List Frame) (above : ℕ) → Laid address m (f ∷ g ∷ below) → lcl_of (f ∷ g ∷ below) + 5 ≤ above → lcl_of (f ∷ g ∷ below) ≤ 2047
      → HasCallers address m above (lcl_of (f ∷ g ∷ below)) (g ∷ below)
  leads f g [] above laid h k = called_by f g [] above (parts f g [] laid.1) h k
  leads f g (x ∷ xs) above laid h k =
      let p = parts f g (x ∷ xs) laid.1 in
      let l = lcl_of (f ∷ g ∷ x ∷ xs) in
      let at : 256 + words_in_use (g ∷ x ∷ xs) + length f.arguments + 5 - 4 ≡ 256 + words_in_use (g ∷ x ∷ xs) + length f.arguments + 1 = omega arith in
      let next : m (l - 4) ≡ lcl_of (g ∷ x ∷ xs) = ap m at ∙ p.links.1.0 in
      (called_by f g (x ∷ xs) above p h k, subst (λ a. HasCallers address m l a (x ∷ xs)) (sym next) (leads g x xs l laid.0 (omega arith) (omega arith)))

module _ (address : Option ℕ → ℕ → ℕ) (v : State) (m : ℕ → ℕ) (f g : Frame) (below : List Frame) (h : SameMemory address v m) (e : v.frames ≡ f ∷ g ∷ below) (room : words_in_use v.frames + 8 ≤ 1792) where
  same : SameMemory address (record v { frames = f ∷ g ∷ below }) m
  same = at_frames address v f (g ∷ below) m e h

  room_is : words_in_use (f ∷ g ∷ below) + 8 ≤ 1792
  room_is = subst (λ fs. words_in_use fs + 8 ≤ 1792) e room

  pub variables : HasVariables m f
  variables =
      let s = same in
      let p = parts address m f g below s.laid.1 in
      let r = room_is in
      let arg = s.arg in
      let lcl = s.lcl in
      record {
        arguments = λ k l. ap (λ a. m (a + k)) arg ∙ holds_at m (256 + words_in_use (g ∷ below)) f.arguments k p.arguments l;
        arguments_on = omega arith;
        locals = λ k l. ap (λ a. m (a + k)) lcl ∙ holds_at m (256 + words_in_use (g ∷ below) + length f.arguments + 5) f.locals k p.locals l;
        locals_on = omega arith;
        this = s.this;
      }

  pub callers : HasCallers address m 2052 (m 1) (g ∷ below)
  callers =
      let s = same in
      let r = room_is in
      subst (λ a. HasCallers address m 2052 a (g ∷ below)) (sym s.lcl) (leads address m f g below 2052 s.laid (omega arith) (omega arith))

module _ (l : Linked) (is : IsImage l) where
  base_is : base_of l ≡ 23
  base_is = ap (λ b. if b then 0 else 23) is.whole

  end_few : end_of l ≤ 32768
  end_few = let n = length_image l in let few = is.few in omega arith

  -- The start code has the points of `start`.
  start_ranges_are : start_ranges l ≡ record { from = 0; to = 21; point = record { sub = 0; number = 1 } } ∷ record { from = 21; to = 23; point = record { sub = 0; number = 2 } } ∷ []
  start_ranges_are = ap (λ b. if b then [] else record { from = 0; to = 21; point = record { sub = 0; number = 1 } } ∷ record { from = 21; to = 23; point = record { sub = 0; number = 2 } } ∷ []) is.whole

  start_point : (a : ℕ) → a < 21 → point_in (points_of l) a ≡ Some (record { sub = 0; number = 1 })
  start_point a h =
      points_are l a (omega (arith, base_is)) ∙ ap (λ rs. point_in (rs ++ map range_of (program l)) a) start_ranges_are
      ∙ in_range (record { from = 0; to = 21; point = record { sub = 0; number = 1 } }) (record { from = 21; to = 23; point = record { sub = 0; number = 2 } } ∷ map range_of (program l)) a (omega arith) h

  -- where a function's command stands, and the point there
  record Standing (k p : ℕ) (c : Code) : Type 0 where
    within : address_of l k p + step_size c.step ≤ end_of l
    point : point_in (points_of l) (address_of l k p) ≡ Some (record { sub = number_of (slice_get l.functions k); number = c.statement })
    location_is : location l (Some k) p ≡ address_of l k p

  standing : (k p : ℕ) (c : Code) → slice_get (code_in l (Some k)) p ≡ Some c → Standing k p c
  standing k p c g =
      let a = among_from 0 (base_of l) l.functions k p c g in
      let base = base_of l in
      let end = end_of l in
      let here = address_of l k p in
      let at : a.placed.at ≡ here = a.at_is in
      let size : step_size a.placed.code.step ≡ step_size c.step = ap (λ (d : Code). step_size d.step) a.code in
      let some = size_some c.step in
      let few = end_few in
      let chain = chain_split base end a.before (a.placed ∷ a.behind) (subst (λ xs. Chain base xs end) a.whole (chain_from 0 base l.functions)) in
      let mid = chain.0 in
      let front : Chain base a.before mid = chain.1 in
      let back : Chain mid (a.placed ∷ a.behind) end = chain.2 in
      let stands : a.placed.at ≡ mid = back.0 in
      let rest : Chain (mid + step_size a.placed.code.step) a.behind end = back.1 in
      let up = chain_up (mid + step_size a.placed.code.step) end a.behind rest in
      let low = chain_up base mid a.before front in
      record {
        within = omega arith;
        point =
            points_are l here (omega arith) ∙ past_ranges 0 base (start_ranges l) (map range_of (program l)) (start_covers l) here (omega arith)
            ∙ ap (λ xs. point_in (map range_of xs) here) a.whole ∙ ap (λ rs. point_in rs here) (map-append range_of a.before (a.placed ∷ a.behind))
            ∙ past_ranges base mid (map range_of a.before) (map range_of (a.placed ∷ a.behind)) (chain_covers base mid a.before front) here (omega arith)
            ∙ in_range (range_of a.placed) (map range_of a.behind) here (omega arith) (omega arith) ∙ ap Some a.point_is;
        location_is = omega arith;
      }

  pub points : (function : Option ℕ) (p : ℕ) (c : Code) → slice_get (code_in l function) p ≡ Some c
      → point_in (points_of l) (location l function p) ≡ Some (record { sub = subroutine_of l function; number = c.statement })
  points None zero c h =
      let e : record { step = step.Call (unwrap_or l.start 0) 0; statement = 1; commit = l.marked } ≡ c = cc in
      start_point 4 (omega arith) ∙ ap (λ (c : Code). Some (record { sub = 0; number = c.statement })) e
  points None (suc zero) c h =
      let e : record { step = step.Pop segment.Temp 0; statement = 1; commit = l.marked } ≡ c = cc in
      start_point 16 (omega arith) ∙ ap (λ (c : Code). Some (record { sub = 0; number = c.statement })) e
  points None (suc (suc p)) c h = absurd (cc h)
  points (Some k) p c h = let x = standing k p c h in ap (point_in (points_of l)) x.location_is ∙ x.point

  code_same : (o : Option LinkedFunction) → code_of o ≡ unwrap_or (option_map (λ f. f.code) o) []
  code_same None = refl
  code_same (Some f) = refl

  rest_at : (cs : List Code) (p : ℕ) (c : Code) → slice_get cs p ≡ Some c → drop p cs ≡ c ∷ drop (suc p) cs
  rest_at [] p c g = absurd (cc g)
  rest_at (d ∷ cs) zero c g = let e : d ≡ c = cc in ap (λ z. z ∷ cs) e
  rest_at (d ∷ cs) (suc p) c g = rest_at cs p c g

  pub entry : (k : ℕ) (c : Code) → slice_get (code_in l (Some k)) 0 ≡ Some c → (location l (Some k) 0 ≡ address_of l k 0) × (address_of l k 0 < address_of l k 1)
  entry k c h =
      let x = standing k 0 c h in
      let code : drop 0 (code_at l.functions k) ≡ c ∷ drop 1 (code_of (slice_get l.functions k)) = ap (drop 0) (sym (code_same (slice_get l.functions k))) ∙ rest_at (code_of (slice_get l.functions k)) 0 c h in
      let after = address_next (base_of l) l.functions k 0 c (drop 1 (code_of (slice_get l.functions k))) code in
      let one : 0 + 1 ≡ 1 = omega arith in
      let after' : address_of l k 1 ≡ address_of l k 0 + step_size c.step = ap (address_of l k) (sym one) ∙ after in
      let some = size_some c.step in
      (x.location_is, omega arith)

  first_words : (cs : List Code) (p : ℕ) → 0 < p → words_of (take 1 cs) ≤ words_of (take p cs)
  first_words cs zero h = absurd (omega arith)
  first_words [] (suc p) h = omega arith
  first_words (c ∷ cs) (suc p) h = omega arith

  pub behind : (k p : ℕ) (c : Code) → 0 < p → slice_get (code_in l (Some k)) p ≡ Some c → address_of l k 1 ≤ location l (Some k) p
  behind k p c some h =
      let x = standing k p c h in
      let at = x.location_is in
      let less = first_words (code_at l.functions k) p some in
      omega arith

pub seen : SeenLaw
seen = record {
  variables = variables;
  callers = callers;
  points = points;
  entry = entry;
  behind = behind;
}
