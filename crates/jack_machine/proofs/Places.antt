-- The part that moves in a list of expressions, and the place where it lies.
use Rattle.std.proofs.Common.{◌≡◌, ℕ, zero, suc, ◌+◌, ◌-◌, ◌≤◌, ◌<◌, Bool, true, false, List, [], ◌∷◌, ◌++◌, Some, length, take, drop, map, reverse, refl, sym, ap, ◌∙◌, arith, ◌⊎◌, inl, inr}
use Rattle.std.proofs.lemmas.List.{length-append, length-map, length-reverse, length-take-le, take-map, drop-map}
use Rattle.jack_meaning.specs.Text.{Expression, Value, Open, Unary, Binary, Load, Call, More}
use Rattle.jack_meaning.specs.Expressions.{View, Move, Stands, Rewrites, Calls, Strays, within, rewrite, rewrite_first, loaded_word, value_of, values_of}
use Rattle.jack_meaning.specs.Words.{sign_of, operator_of}
use Rattle.word16.specs.Words.{word_add}
use Rattle.jack_core.specs.declared.tree.Part.{Part}
use Rattle.jack_core.specs.declared.tree.Part.TheVariants as part
use Rattle.jack_core.specs.Heights.{takes, height}
use Rattle.jack_core.specs.Reading.{the_sign, the_operator, arguments_of, make_expression, put, build_expressions}
use Rattle.jack_core.proofs.Postfix.{enough, behind, put_over, put_length}
use Rattle.jack_machine.proofs.Lists.{reverse_middle, map-reverse, take_through, drop_through}

abbrev pub is_move : {A : Type 0} → Move A → Bool
is_move Stands = false
is_move (Rewrites heard a) = true
is_move (Calls g xs a) = true
is_move (Strays a) = true

-- where the part that is put here moves, it moves the whole
pub record IsPlace (place : Expression → Expression) : Type 0 where
  pub moves : (v : View) (x : Expression) → is_move (rewrite v x) ≡ true → rewrite v (place x) ≡ within (rewrite v x) place Stands

pub within_twice : {A B C : Type 0} (m : Move A) (c : A → B) (d : B → C) (after : Move C) → is_move m ≡ true → within (within m c Stands) d after ≡ within m (λ x. d (c x)) Stands
within_twice Stands c d after h = cc
within_twice (Rewrites heard a) c d after h = refl
within_twice (Calls g xs a) c d after h = refl
within_twice (Strays a) c d after h = refl

within_itself : {A : Type 0} (m : Move A) → m ≡ within m (λ x. x) Stands
within_itself Stands = refl
within_itself (Rewrites heard a) = refl
within_itself (Calls g xs a) = refl
within_itself (Strays a) = refl

here : IsPlace (λ x. x)
here = record { moves = λ v x h. within_itself (rewrite v x) }

module _ (c : Expression → Expression) (place : IsPlace c) where
  -- a part whose operand it is
  inner : (whole : Expression → Expression) (after : View → Expression → Move Expression) → ((v : View) (x : Expression) → rewrite v (whole x) ≡ within (rewrite v x) whole (after v x)) → IsPlace (λ x. whole (c x))
  inner whole after same = record {
    moves = λ v x h. same v (c x) ∙ ap (λ m. within m whole (after v (c x))) (place.moves v x h) ∙ within_twice (rewrite v x) c whole (after v (c x)) h;
  }

  -- an argument of a call
  among : (ys : List ℕ) (fs : List Expression) (v : View) (x : Expression) → is_move (rewrite v x) ≡ true
      → rewrite_first v (arguments_of (map Value ys ++ c x ∷ fs)) ≡ within (rewrite v x) (λ z. arguments_of (map Value ys ++ c z ∷ fs)) Stands
  among [] fs v x h =
      ap (λ m. within m (λ e'. More e' (arguments_of fs)) (within (rewrite_first v (arguments_of fs)) (More (c x)) Stands)) (place.moves v x h)
      ∙ within_twice (rewrite v x) c (λ e'. More e' (arguments_of fs)) (within (rewrite_first v (arguments_of fs)) (More (c x)) Stands) h
  among (y ∷ ys) fs v x h =
      ap (λ m. within m (More (Value y)) Stands) (among ys fs v x h) ∙ within_twice (rewrite v x) (λ z. arguments_of (map Value ys ++ c z ∷ fs)) (More (Value y)) Stands h

  -- Values stand before it, and any expressions after it, and a part is made of them all.
  made_of : (p : Part) (ys : List ℕ) (fs : List Expression) → takes p ≡ length ys + suc (length fs) → IsPlace (λ x. make_expression p (map Value ys ++ c x ∷ fs))
  made_of (part.Literal n) ys fs e = absurd (omega (arith, e))
  made_of (part.Argument k) ys fs e = absurd (omega (arith, e))
  made_of (part.Local k) ys fs e = absurd (omega (arith, e))
  made_of (part.Static k) ys fs e = absurd (omega (arith, e))
  made_of part.This ys fs e = absurd (omega (arith, e))
  made_of (part.Field k) ys fs e = absurd (omega (arith, e))
  made_of (part.Unary o) [] [] e = inner (Unary (the_sign o)) (λ v x. Rewrites false (Value (sign_of (the_sign o) (value_of x)))) (λ v x. refl)
  made_of (part.Unary o) [] (f ∷ fs) e = absurd (omega (arith, e))
  made_of (part.Unary o) (y ∷ ys) fs e = absurd (omega (arith, e))
  made_of (part.Binary o) [] [] e = absurd (omega (arith, e))
  made_of (part.Binary o) [] (f ∷ []) e =
      inner (λ a. Binary (the_operator o) a f)
      (λ v x. within (rewrite v f) (Binary (the_operator o) x) (Rewrites false (Value (operator_of (the_operator o) (value_of x) (value_of f))))) (λ v x. refl)
  made_of (part.Binary o) [] (f ∷ g ∷ fs) e = absurd (omega (arith, e))
  made_of (part.Binary o) (y ∷ []) [] e = inner (Binary (the_operator o) (Value y)) (λ v x. Rewrites false (Value (operator_of (the_operator o) y (value_of x)))) (λ v x. refl)
  made_of (part.Binary o) (y ∷ []) (f ∷ fs) e = absurd (omega (arith, e))
  made_of (part.Binary o) (y ∷ z ∷ ys) fs e = absurd (omega (arith, e))
  made_of part.Load [] [] e = absurd (omega (arith, e))
  made_of part.Load [] (f ∷ []) e =
      inner (λ a. Load a f) (λ v x. within (rewrite v f) (Load x) (loaded_word v (word_add (value_of x) (value_of f)))) (λ v x. refl)
  made_of part.Load [] (f ∷ g ∷ fs) e = absurd (omega (arith, e))
  made_of part.Load (y ∷ []) [] e = inner (Load (Value y)) (λ v x. loaded_word v (word_add y (value_of x))) (λ v x. refl)
  made_of part.Load (y ∷ []) (f ∷ fs) e = absurd (omega (arith, e))
  made_of part.Load (y ∷ z ∷ ys) fs e = absurd (omega (arith, e))
  made_of (part.Call n g) ys fs e = record {
    moves = λ v x h.
        ap (λ m. within m (Call g) (Calls g (values_of (arguments_of (map Value ys ++ c x ∷ fs))) Open)) (among ys fs v x h)
        ∙ within_twice (rewrite v x) (λ z. arguments_of (map Value ys ++ c z ∷ fs)) (Call g) (Calls g (values_of (arguments_of (map Value ys ++ c x ∷ fs))) Open) h;
  }

-- In these expressions, the last of which comes first, a part lies in a place: below it are values.
pub record Lies (es : Expression → List Expression) : Type 0 where
  pub fresh : List Expression
  pub place : Expression → Expression
  pub low : List ℕ
  pub lies : (x : Expression) → es x ≡ fresh ++ place x ∷ map Value low
  pub is_place : IsPlace place

-- one part more, which takes it as an operand or not
lies_put : (p : Part) (fresh : List Expression) (c : Expression → Expression) (low : List ℕ) → IsPlace c → takes p ≤ length fresh + suc (length low)
    → (takes p ≤ length fresh) ⊎ (length fresh < takes p) → Lies (λ x. put p (fresh ++ c x ∷ map Value low))
lies_put p fresh c low place le (inl above) = record { fresh = put p fresh; place = c; low = low; lies = λ x. put_over p fresh (c x ∷ map Value low) above; is_place = place }
lies_put p fresh c low place le (inr below) =
    let j : ℕ = takes p - suc (length fresh) in
    let through : takes p ≡ length fresh + suc j = omega (arith, below) in
    let within_low : j ≤ length low = omega (arith, le, through) in
    let size : takes p ≡ length (reverse (take j low)) + suc (length (reverse fresh)) = omega (arith, through, length-reverse (take j low), length-take-le j low within_low, length-reverse fresh) in
    let taken : (x : Expression) → reverse (take (takes p) (fresh ++ c x ∷ map Value low)) ≡ map Value (reverse (take j low)) ++ c x ∷ reverse fresh = λ x.
    ap reverse (take_through fresh (c x) (map Value low) (takes p) j through) ∙ reverse_middle fresh (c x) (take j (map Value low))
    ∙ ap (λ l. reverse l ++ c x ∷ reverse fresh) (take-map Value j low) ∙ ap (λ l. l ++ c x ∷ reverse fresh) (sym (map-reverse Value (take j low))) in
    record {
      fresh = [];
      place = λ x. make_expression p (map Value (reverse (take j low)) ++ c x ∷ reverse fresh);
      low = drop j low;
      lies = λ x.
          ap (λ l. make_expression p l ∷ drop (takes p) (fresh ++ c x ∷ map Value low)) (taken x)
          ∙ ap (λ l. make_expression p (map Value (reverse (take j low)) ++ c x ∷ reverse fresh) ∷ l) (drop_through fresh (c x) (map Value low) (takes p) j through ∙ drop-map Value j low);
      is_place = made_of c place p (reverse (take j low)) (reverse fresh) size;
    }

either : (a b : ℕ) → (a ≤ b) ⊎ (b < a)
either zero b = inl (omega arith)
either (suc a) zero = inr (omega arith)
either (suc a) (suc b) = next (either a b)
  where
    next : (a ≤ b) ⊎ (b < a) → (suc a ≤ suc b) ⊎ (suc b < suc a)
    next (inl h) = inl (omega (arith, h))
    next (inr h) = inr (omega (arith, h))

same_lies : (es fs : Expression → List Expression) → ((x : Expression) → es x ≡ fs x) → Lies fs → Lies es
same_lies es fs same l = record { fresh = l.fresh; place = l.place; low = l.low; lies = λ x. same x ∙ l.lies x; is_place = l.is_place }

-- Parts that find their operands leave it in a place.
pub lies_built : (ps : List Part) (es : Expression → List Expression) → Lies es → (k : ℕ) → height (length (es Open)) ps ≡ Some k → Lies (λ x. build_expressions (es x) ps)
lies_built [] es l k h = l
lies_built (p ∷ ps) es l k h =
    let le : takes p ≤ length (es Open) = enough (length (es Open)) k p ps h in
    let size : length (es Open) ≡ length l.fresh + suc (length l.low) =
    ap length (l.lies Open) ∙ length-append l.fresh (l.place Open ∷ map Value l.low) ∙ ap (λ n. length l.fresh + suc n) (length-map l.low Value) in
    let le' : takes p ≤ length l.fresh + suc (length l.low) = omega (arith, le, size) in
    lies_built ps (λ x. put p (es x))
    (same_lies (λ x. put p (es x)) (λ x. put p (l.fresh ++ l.place x ∷ map Value l.low)) (λ x. ap (put p) (l.lies x)) (lies_put p l.fresh l.place l.low l.is_place le' (either (takes p) (length l.fresh))))
    k (ap (λ n. height n ps) (put_length p (es Open) le) ∙ behind (length (es Open)) k p ps h)

-- a part over values
pub lies_first : (low : List ℕ) → Lies (λ x. x ∷ map Value low)
lies_first low = record { fresh = []; place = λ x. x; low = low; lies = λ x. refl; is_place = here }
