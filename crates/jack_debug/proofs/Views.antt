-- There is one view, and few callers.
use Rattle.std.proofs.Common.{◌≡◌, ◌<◌, ◌≤◌, ◌+◌, ◌-◌, ◌*◌, ℕ, zero, suc, Bool, true, false, List, [], ◌∷◌, length, refl, sym, ap, subst, ◌∙◌, arith}
use Rattle.std.specs.Prelude.{map, nat_lt, nat_eq, if◌then◌else◌, Option, Some, None, slice_get}
use Rattle.std.proofs.lemmas.Bool.{ltb-true}
use Rattle.jack_tree.specs.declared.tree.Form.{Form}
use Rattle.jack_tree.specs.declared.tree.Form.TheVariants.{Constructor, Function, Method}
use Rattle.outer_world.specs.declared.point.Point.{Point}
use Rattle.jack_debug.specs.declared.places.PlacedStatic.{PlacedStatic}
use Rattle.jack_debug.specs.declared.places.Places.{Places}
use Rattle.jack_debug.specs.declared.places.SubPlaces.{SubPlaces}
use Rattle.jack_debug.specs.declared.seen.Caller.{Caller}
use Rattle.jack_debug.specs.declared.seen.View.{View}
use Rattle.jack_debug.specs.Walk.{is_in, word_at, variables_from, first_named, static_word, static_variable, statics_of, this_of, point_in, sub_at, IsFrame, caller_of, Callers, no_frame, no_point, to_start, called, ShowsCall, ShowsStart, ShowsSub, Walk}
use Rattle.jack_debug.specs.Laws.{WalkLaw}

some_is : {A : Type 0} {a b : A} → Some a ≡ Some b → a ≡ b
some_is {A} {a} {b} e = cc e

none_some : {A : Type 0} {a : A} → ◌≡◌ {A = Option A} None (Some a) → ⊥
none_some {A} {a} e = cc e

module _ (places : Places) (words : ℕ → ℕ) where
  -- what the callers are, as one value
  record Same (cs ds : List Caller) (b c : Bool) : Type 0 where
    callers : cs ≡ ds
    lost_too : b ≡ c

  one : (above l : ℕ) (cs ds : List Caller) (b c : Bool) → Callers places words above l cs b → Callers places words above l ds c → Same cs ds b c
  one above l cs ds b c (no_frame _ _ n) (no_frame _ _ m) = record { callers = refl; lost_too = refl }
  one above l cs ds b c (no_frame _ _ n) (no_point _ _ f e) = absurd (n f)
  one above l cs ds b c (no_frame _ _ n) (to_start _ _ p f e z) = absurd (n f)
  one above l cs ds b c (no_frame _ _ n) (called _ _ p ds' _ f e z r) = absurd (n f)
  one above l cs ds b c (no_point _ _ f e) (no_frame _ _ n) = absurd (n f)
  one above l cs ds b c (no_point _ _ f e) (no_point _ _ g h) = record { callers = refl; lost_too = refl }
  one above l cs ds b c (no_point _ _ f e) (to_start _ _ p g h z) = absurd (none_some (sym e ∙ h))
  one above l cs ds b c (no_point _ _ f e) (called _ _ p ds' _ g h z r) = absurd (none_some (sym e ∙ h))
  one above l cs ds b c (to_start _ _ p f e z) (no_frame _ _ n) = absurd (n f)
  one above l cs ds b c (to_start _ _ p f e z) (no_point _ _ g h) = absurd (none_some (sym h ∙ e))
  one above l cs ds b c (to_start _ _ p f e z) (to_start _ _ q g h y) =
      let same : p ≡ q = some_is (sym e ∙ h) in record { callers = ap (λ x. caller_of places words x ∷ []) same; lost_too = refl }
  one above l cs ds b c (to_start _ _ p f e z) (called _ _ q ds' _ g h y r) =
      let same : p ≡ q = some_is (sym e ∙ h) in absurd (let k = ap (λ (x : Point). x.sub) same in omega arith)
  one above l cs ds b c (called _ _ p cs' _ f e z r) (no_frame _ _ n) = absurd (n f)
  one above l cs ds b c (called _ _ p cs' _ f e z r) (no_point _ _ g h) = absurd (none_some (sym h ∙ e))
  one above l cs ds b c (called _ _ p cs' _ f e z r) (to_start _ _ q g h y) =
      let same : p ≡ q = some_is (sym e ∙ h) in absurd (let k = ap (λ (x : Point). x.sub) same in omega arith)
  one above l cs ds b c (called _ _ p cs' _ f e z r) (called _ _ q ds' _ g h y s) =
      let same : p ≡ q = some_is (sym e ∙ h) in
      let rest = one l (words (l - 4)) cs' ds' b c r s in
      record { callers = (λ i. caller_of places words (same i) ∷ rest.callers i); lost_too = rest.lost_too }

  -- each caller is five words below the one before
  few : (above l : ℕ) (cs : List Caller) (b : Bool) → Callers places words above l cs b → 0 < length cs → 5 * length cs + 261 ≤ above
  few above l cs b (no_frame _ _ n) h = absurd (omega arith)
  few above l cs b (no_point _ _ f e) h = absurd (omega arith)
  few above l cs b (to_start _ _ p f e z) h = omega arith
  few above l cs b (called _ _ p [] _ f e z r) h = omega arith
  few above l cs b (called _ _ p (d ∷ ds) _ f e z r) h = let ih = few l (words (l - 4)) (d ∷ ds) b r (omega arith) in omega arith

  call_one : (sub : SubPlaces) (pc : ℕ) (v w : View) → v.point ≡ w.point → ShowsCall places words sub pc v → ShowsCall places words sub pc w → v ≡ w
  call_one sub pc v w e a b =
      let cs = one 2052 (words 1) v.callers w.callers v.lost w.lost a.callers b.callers in
      λ i. record {
        point = e i;
        this = (a.this ∙ (ap (λ (p : Point). Rattle.jack_debug.specs.Walk.this_of words sub.form p.number) e ∙ sym b.this)) i;
        arguments = (a.arguments ∙ sym b.arguments) i;
        locals = (a.locals ∙ sym b.locals) i;
        statics = (a.statics ∙ sym b.statics) i;
        callers = cs.callers i;
        lost = cs.lost_too i;
      }

  nothing_one : (v w : View) → v.point ≡ w.point → ShowsStart places words v → ShowsStart places words w → v ≡ w
  nothing_one v w e a b =
      λ i. record {
        point = e i;
        this = (a.this ∙ sym b.this) i;
        arguments = (a.arguments ∙ sym b.arguments) i;
        locals = (a.locals ∙ sym b.locals) i;
        statics = (a.statics ∙ sym b.statics) i;
        callers = (a.callers ∙ sym b.callers) i;
        lost = (a.lost ∙ sym b.lost) i;
      }

  sub_one : (o : Option SubPlaces) (pc : ℕ) (v w : View) → v.point ≡ w.point → ShowsSub places words o pc v → ShowsSub places words o pc w → v ≡ w
  sub_one None pc v w e a b = nothing_one v w e a b
  sub_one (Some sub) pc v w e a b = call_one sub pc v w e a b

  view_one : (pc : ℕ) (v w : View) → Walk places words pc v → Walk places words pc w → v ≡ w
  view_one pc v w a b =
      let same : v.point ≡ w.point = some_is (sym a.point ∙ b.point) in
      sub_one (sub_at places v.point.sub) pc v w same a.shows (subst (λ (p : Point). ShowsSub places words (sub_at places p.sub) pc w) (sym same) b.shows)

  few_callers : (o : Option SubPlaces) (pc : ℕ) (v : View) → ShowsSub places words o pc v → length v.callers ≤ 358
  few_callers None pc v s = omega (arith, ap length s.callers)
  few_callers (Some sub) pc v s = by_length (length v.callers) (few 2052 (words 1) v.callers v.lost s.callers)
    where
      by_length : (n : ℕ) → (0 < n → 5 * n + 261 ≤ 2052) → n ≤ 358
      by_length zero h = omega arith
      by_length (suc n) h = let e = h (omega arith) in omega arith

-- words that are the same from 0 to 24575 show the same
module _ (places : Places) (words words' : ℕ → ℕ) (same : (a : ℕ) → a < 24576 → words a ≡ words' a) where
  word_same : (a : ℕ) → word_at words a ≡ word_at words' a
  word_same a = by_test (nat_lt a 24576) refl
    where
      by_test : (b : Bool) → nat_lt a 24576 ≡ b → (if b then words a else 0) ≡ (if b then words' a else 0)
      by_test true t = same a (ltb-true a 24576 t)
      by_test false t = refl

  shown_same : (value value' : ℕ → ℕ) (k : ℕ) (names : List (List ℕ)) → ((j : ℕ) → value j ≡ value' j) → variables_from value k names ≡ variables_from value' k names
  shown_same value value' k [] h = refl
  shown_same value value' k (n ∷ ns) h = λ i. record { name = n; word = h k i } ∷ shown_same value value' (k + 1) ns h i

  static_same : (o : Option ℕ) → static_word words o ≡ static_word words' o
  static_same None = refl
  static_same (Some a) = word_same a

  statics_same : (ss : List PlacedStatic) → map (static_variable words) ss ≡ map (static_variable words') ss
  statics_same [] = refl
  statics_same (s ∷ ss) = λ i. record { name = s.name; word = static_same s.address i } ∷ statics_same ss i

  this_same : (form : Form) (n : ℕ) → this_of words form n ≡ this_of words' form n
  this_same Method n = ap Some (word_same (words 2) ∙ ap (word_at words') (same 2 (omega arith)))
  this_same Constructor n = ap (λ w. Some (if nat_eq n 0 then 0 else w)) (same 3 (omega arith))
  this_same Function n = refl

  callers_told : (above l : ℕ) (cs : List Caller) (b : Bool) → Callers places words above l cs b → Callers places words' above l cs b
  callers_told above l cs b (no_frame _ _ n) = no_frame above l n
  callers_told above l cs b (no_point _ _ f e) = let h = f.to in no_point above l f (ap (point_in places.ranges) (sym (same (l - 5) (omega arith))) ∙ e)
  callers_told above l cs b (to_start _ _ p f e z) = let h = f.to in to_start above l p f (ap (point_in places.ranges) (sym (same (l - 5) (omega arith))) ∙ e) z
  callers_told above l cs b (called _ _ p ds _ f e z r) =
      let h = f.to in
      called above l p ds b f (ap (point_in places.ranges) (sym (same (l - 5) (omega arith))) ∙ e) z
      (subst (λ k. Callers places words' l k ds b) (same (l - 4) (omega arith)) (callers_told l (words (l - 4)) ds b r))

  sub_told : (o : Option SubPlaces) (pc : ℕ) (v : View) → ShowsSub places words o pc v → ShowsSub places words' o pc v
  sub_told None pc v s = record { this = s.this; arguments = s.arguments; locals = s.locals; statics = s.statics; callers = s.callers; lost = s.lost }
  sub_told (Some sub) pc v s = record {
    this = s.this ∙ this_same sub.form v.point.number;
    arguments = s.arguments ∙ shown_same _ _ (first_named sub.form) sub.arguments (λ j. word_same (words 2 + j) ∙ ap (λ w. word_at words' (w + j)) (same 2 (omega arith)));
    locals = s.locals
        ∙ shown_same _ _ 0 sub.locals (λ j. ap (λ w. if is_in sub.from sub.to pc then 0 else w) (word_same (words 1 + j) ∙ ap (λ w. word_at words' (w + j)) (same 1 (omega arith))));
    statics = s.statics ∙ statics_same (statics_of (slice_get places.classes sub.class));
    callers = subst (λ k. Callers places words' 2052 k v.callers v.lost) (same 1 (omega arith)) (callers_told 2052 (words 1) v.callers v.lost s.callers);
  }

  walk_told : (pc : ℕ) (v : View) → Walk places words pc v → Walk places words' pc v
  walk_told pc v w = record { point = w.point; shows = sub_told (sub_at places v.point.sub) pc v w.shows }

pub walk_law : WalkLaw
walk_law = record {
  one = view_one;
  few = λ places words pc v a. few_callers places words (sub_at places v.point.sub) pc v a.shows;
  told = λ places words words' pc v same w. walk_told places words words' same pc v w;
}
