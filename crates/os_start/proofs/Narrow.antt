-- A call as it goes on by itself: it keeps its subroutine and has as many arguments and locals as before, and no more values stand in its text
-- than the text has parts.
use Rattle.std.proofs.Common.{◌≡◌, ℕ, zero, suc, ◌+◌, ◌≤◌, max, Bool, true, false, nat_eq, nat_lt, List, [], ◌∷◌, length, Option, Some, None, option_and_then, refl, ◌∙◌, subst, arith}
use Rattle.std.specs.Prelude.{if◌then◌else◌, slice_set}
use Rattle.std.proofs.lemmas.List.{length-set}
use Rattle.word16.specs.Words.{word_add}
use Rattle.jack_meaning.specs.Text.{Variable, Argument, Local, Static, Expression, Literal, Value, Name, This, Field, Unary, Binary, Load, Call, Open, Expressions, NoMore, More, Statement, Let, LetField, LetThis, Store, Do, If, While, Return, Text, End, Next, joined_text, Subroutine}
use Rattle.jack_meaning.specs.Expressions.{Move, Stands, Rewrites, Calls, Strays, within, View, value_of, loaded_word, rewrite, rewrite_first, standing, standing_in}
use Rattle.jack_meaning.specs.Meaning.{Frame, State, Outcome, Acts, Stray, view_of, step_part, after_assignment, after_store, passed_over, step_first, text_chosen, turn_of}
use Rattle.jack_meaning.specs.StackWords.{standing_first}
use Rattle.os_laws.proofs.Basics.{none-some, some_is}
use Rattle.os_laws.proofs.Runs.{Call as Going, call_in, next, run}

-- ---- how many values can stand in an expression and in a text

abbrev mutual
  pub width : Expression → ℕ
  width (Unary o a) = width a
  width (Binary o a b) = width a + width b
  width (Load a i) = width a + width i
  width (Call g es) = suc (widths es)
  width e = 1

  pub widths : Expressions → ℕ
  widths NoMore = 0
  widths (More e es) = width e + widths es

abbrev mutual
  pub wide : Statement → ℕ
  wide (Let n x e) = width e
  wide (LetField n k e) = width e
  wide (LetThis n e) = width e
  wide (Store n a i e) = width a + width i + width e
  wide (Do n e) = width e
  wide (If n o c a b) = max (width c) (max (wide_text a) (wide_text b))
  wide (While n c s) = max (width c) (wide_text s)
  wide (Return n e) = width e

  pub wide_text : Text → ℕ
  wide_text End = 0
  wide_text (Next s rest) = max (wide s) (wide_text rest)

mutual
  stands_in : (e : Expression) → standing e ≤ width e
  stands_in (Value w) = omega arith
  stands_in (Unary o a) = stands_in a
  stands_in (Binary o a b) = omega (arith, stands_in a, stands_in b)
  stands_in (Load a b) = omega (arith, stands_in a, stands_in b)
  stands_in (Call g es) = omega (arith, stand_in es)
  stands_in (Literal w) = omega arith
  stands_in (Name x) = omega arith
  stands_in This = omega arith
  stands_in Open = omega arith
  stands_in (Field k) = omega arith

  stand_in : (es : Expressions) → standing_in es ≤ widths es
  stand_in NoMore = omega arith
  stand_in (More e es) = omega (arith, stands_in e, stand_in es)

some_width : (e : Expression) → 1 ≤ width e
some_width (Value w) = omega arith
some_width (Unary o a) = some_width a
some_width (Binary o a b) = omega (arith, some_width a)
some_width (Load a b) = omega (arith, some_width a)
some_width (Call g es) = omega arith
some_width (Literal w) = omega arith
some_width (Name x) = omega arith
some_width This = omega arith
some_width Open = omega arith
some_width (Field k) = omega arith

-- the values that stand in a text are no more than that
pub stands_first : (t : Text) → standing_first t ≤ wide_text t
stands_first End = omega arith
stands_first (Next (Let n x e) rest) = omega (arith, stands_in e)
stands_first (Next (LetField n k e) rest) = omega (arith, stands_in e)
stands_first (Next (LetThis n e) rest) = omega (arith, stands_in e)
stands_first (Next (Store n a i e) rest) = omega (arith, stands_in a, stands_in i, stands_in e)
stands_first (Next (Do n e) rest) = omega (arith, stands_in e)
stands_first (Next (If n o c a b) rest) = omega (arith, stands_in c)
stands_first (Next (While n c s) rest) = omega arith
stands_first (Next (Return n e) rest) = omega (arith, stands_in e)

joined_wide : (a b : Text) → wide_text (joined_text a b) ≡ max (wide_text a) (wide_text b)
joined_wide End b = omega arith
joined_wide (Next s a) b = omega (arith, joined_wide a b)

-- ---- a move makes no text wider

abbrev AllOf : {A : Type 0} → (A → Type 0) → Move A → Type 0
AllOf P Stands = Unit {0}
AllOf P (Rewrites heard a) = P a
AllOf P (Calls g xs a) = P a
AllOf P (Strays a) = Unit {0}

all_within : {A B : Type 0} (P : A → Type 0) (Q : B → Type 0) (m : Move A) (whole : A → B) (after : Move B) → ((a : A) → P a → Q (whole a)) → AllOf P m → AllOf Q after → AllOf Q (within m whole after)
all_within P Q Stands whole after f h k = k
all_within P Q (Rewrites heard a) whole after f h k = f a h
all_within P Q (Calls g xs a) whole after f h k = f a h
all_within P Q (Strays a) whole after f h k = tt

all_map : {A : Type 0} (P Q : A → Type 0) (m : Move A) → ((a : A) → P a → Q a) → AllOf P m → AllOf Q m
all_map P Q Stands f h = tt
all_map P Q (Rewrites heard a) f h = f a h
all_map P Q (Calls g xs a) f h = f a h
all_map P Q (Strays a) f h = tt

all_if : (P : Expression → Type 0) (b : Bool) (m m' : Move Expression) → AllOf P m → AllOf P m' → AllOf P (if b then m else m')
all_if P true m m' h h' = h
all_if P false m m' h h' = h'

abbrev Within : ℕ → Expression → Type 0
Within n e = width e ≤ n

abbrev AreWithin : ℕ → Expressions → Type 0
AreWithin n es = widths es ≤ n

loaded : (n : ℕ) (v : View) (a : ℕ) → 1 ≤ n → AllOf (Within n) (loaded_word v a)
loaded n v a h =
    all_if (Within n) (nat_lt a 2048) _ _ tt (all_if (Within n) (nat_lt a 24576) _ _ h (all_if (Within n) (nat_eq a 24576) _ _ h tt))

mutual
  narrow : (v : View) (e : Expression) → AllOf (Within (width e)) (rewrite v e)
  narrow v (Value w) = tt
  narrow v Open = tt
  narrow v (Literal n) = omega arith
  narrow v (Name x) = omega arith
  narrow v This = omega arith
  narrow v (Field k) = loaded 1 v (word_add v.this k) (omega arith)
  narrow v (Unary o a) = all_within (Within (width a)) (Within (width a)) (rewrite v a) (Unary o) _ (λ a' h. h) (narrow v a) (some_width a)
  narrow v (Binary o a b) =
      all_within (Within (width a)) (Within (width a + width b)) (rewrite v a) (λ a'. Binary o a' b) _ (λ a' h. omega (arith, h)) (narrow v a)
      (all_within (Within (width b)) (Within (width a + width b)) (rewrite v b) (Binary o a) _ (λ b' h. omega (arith, h)) (narrow v b) (omega (arith, some_width a)))
  narrow v (Load a i) =
      all_within (Within (width a)) (Within (width a + width i)) (rewrite v a) (λ a'. Load a' i) _ (λ a' h. omega (arith, h)) (narrow v a)
      (all_within (Within (width i)) (Within (width a + width i)) (rewrite v i) (Load a) _ (λ i' h. omega (arith, h)) (narrow v i) (loaded (width a + width i) v (word_add (value_of a) (value_of i)) (omega (arith, some_width a))))
  narrow v (Call g es) = all_within (AreWithin (widths es)) (Within (suc (widths es))) (rewrite_first v es) (Call g) _ (λ es' h. omega (arith, h)) (narrow_first v es) (omega arith)

  narrow_first : (v : View) (es : Expressions) → AllOf (AreWithin (widths es)) (rewrite_first v es)
  narrow_first v NoMore = tt
  narrow_first v (More e es) =
      all_within (Within (width e)) (AreWithin (width e + widths es)) (rewrite v e) (λ e'. More e' es) _ (λ e' h. omega (arith, h)) (narrow v e)
      (all_within (AreWithin (widths es)) (AreWithin (width e + widths es)) (rewrite_first v es) (More e) _ (λ es' h. omega (arith, h)) (narrow_first v es) tt)

-- ---- a step of a call by itself

-- what a frame keeps
pub record Keeps (f f' : Frame) : Type 0 where
  pub subroutine : f'.subroutine ≡ f.subroutine
  pub arguments : length f'.arguments ≡ length f.arguments
  pub locals : length f'.locals ≡ length f.locals
  pub narrow : wide_text f'.text ≤ wide_text f.text

pub keeps_itself : (f : Frame) → Keeps f f
keeps_itself f = record { subroutine = refl; arguments = refl; locals = refl; narrow = omega arith }

keeps_then : (f g h : Frame) → Keeps f g → Keeps g h → Keeps f h
keeps_then f g h a b = record {
  subroutine = b.subroutine ∙ a.subroutine;
  arguments = b.arguments ∙ a.arguments;
  locals = b.locals ∙ a.locals;
  narrow = omega (arith, a.narrow, b.narrow);
}

abbrev KeptBy : Frame → Outcome → Type 0
KeptBy f o = (c : Going) → call_in o ≡ Some c → Keeps f c.frame

acts_keeps : (f g : Frame) (heard : Bool) (ss ws : List ℕ) → Keeps f g → KeptBy f (Acts heard (record { frames = g ∷ []; statics = ss; words = ws }))
acts_keeps f g true ss ws k = λ c e. absurd (none-some c e)
acts_keeps f g false ss ws k = λ c e. subst (λ (z : Going). Keeps f z.frame) (some_is (record { frame = g; statics = ss; words = ws }) c e) k

module _ (subs : List Subroutine) (f : Frame) (ss ws : List ℕ) where
  abbrev alone : State
  alone = record { frames = f ∷ []; statics = ss; words = ws }

  -- the frame with another text, which is no wider
  abbrev Fits : Text → Type 0
  Fits t = wide_text t ≤ wide_text f.text

  with_text : (t : Text) → Fits t → Keeps f (record f { text = t })
  with_text t h = record { subroutine = refl; arguments = refl; locals = refl; narrow = h }

  part_keeps : {A : Type 0} (m : Move A) (whole : A → Text) (o : Outcome) → AllOf (λ a. Fits (whole a)) m → KeptBy f o → KeptBy f (step_part subs alone f [] m whole o)
  part_keeps Stands whole o h k = k
  part_keeps (Rewrites heard a) whole o h k = acts_keeps f (record f { text = whole a }) heard ss ws (with_text (whole a) h)
  part_keeps (Calls g xs a) whole o h k = λ c e. absurd (none-some c e)
  part_keeps (Strays a) whole o h k = λ c e. absurd (none-some c e)

  assigned_keeps : (rest : Text) (x : Variable) (w : ℕ) → Fits rest → KeptBy f (after_assignment alone f [] rest x w)
  assigned_keeps rest (Argument k) w h = acts_keeps f (record f { text = rest; arguments = slice_set f.arguments k w }) false ss ws (record { subroutine = refl; arguments = length-set f.arguments k w; locals = refl; narrow = h })
  assigned_keeps rest (Local k) w h = acts_keeps f (record f { text = rest; locals = slice_set f.locals k w }) false ss ws (record { subroutine = refl; arguments = refl; locals = length-set f.locals k w; narrow = h })
  assigned_keeps rest (Static k) w h = acts_keeps f (record f { text = rest }) false (slice_set ss k w) ws (with_text rest h)

  stored_with : (b b' : Bool) (rest : Text) (a w k : ℕ) → Fits rest → KeptBy f (if b then Stray a else (if b' then passed_over (record alone { words = slice_set ws k w }) f [] rest else Stray a))
  stored_with true b' rest a w k h = λ c e. absurd (none-some c e)
  stored_with false true rest a w k h = acts_keeps f (record f { text = rest }) false ss (slice_set ws k w) (with_text rest h)
  stored_with false false rest a w k h = λ c e. absurd (none-some c e)

  stored_keeps : (rest : Text) (a w : ℕ) → Fits rest → KeptBy f (after_store alone f [] rest a w)
  stored_keeps rest a w h = stored_with (nat_lt a 2048) (nat_lt a 24576) rest a w _ h

  chosen_fits : (w : ℕ) (a b rest : Text) → Fits (joined_text a rest) → Fits (joined_text b rest) → Fits (joined_text (text_chosen w a b) rest)
  chosen_fits zero a b rest ha hb = hb
  chosen_fits (suc w) a b rest ha hb = ha

  -- an expression of the first statement moves
  moves : (key : ℕ) (e : Expression) (whole : Expression → Text) → ((e' : Expression) → width e' ≤ width e → Fits (whole e')) → AllOf (λ e'. Fits (whole e')) (rewrite (view_of key alone f) e)
  moves key e whole h = all_map (Within (width e)) (λ e'. Fits (whole e')) (rewrite (view_of key alone f) e) h (narrow (view_of key alone f) e)

  first_keeps : (t : Text) → Fits t → KeptBy f (step_first subs 0 alone f [] t)
  first_keeps End h = λ c e. absurd (none-some c e)
  first_keeps (Next (Let n x e) rest) h =
      part_keeps (rewrite (view_of 0 alone f) e) _ _ (moves 0 e (λ e'. Next (Let n x e') rest) (λ e' k. omega (arith, h, k))) (assigned_keeps rest x (value_of e) (omega (arith, h)))
  first_keeps (Next (LetField n k e) rest) h =
      part_keeps (rewrite (view_of 0 alone f) e) _ _ (moves 0 e (λ e'. Next (LetField n k e') rest) (λ e' k'. omega (arith, h, k'))) (stored_keeps rest (word_add f.this k) (value_of e) (omega (arith, h)))
  first_keeps (Next (LetThis n e) rest) h =
      part_keeps (rewrite (view_of 0 alone f) e) _ _ (moves 0 e (λ e'. Next (LetThis n e') rest) (λ e' k. omega (arith, h, k)))
      (acts_keeps f (record f { this = value_of e; text = rest }) false ss ws (record { subroutine = refl; arguments = refl; locals = refl; narrow = omega (arith, h) }))
  first_keeps (Next (Store n a i e) rest) h =
      part_keeps (rewrite (view_of 0 alone f) a) _ _ (moves 0 a (λ a'. Next (Store n a' i e) rest) (λ a' k. omega (arith, h, k)))
      (part_keeps (rewrite (view_of 0 alone f) i) _ _ (moves 0 i (λ i'. Next (Store n a i' e) rest) (λ i' k. omega (arith, h, k)))
      (part_keeps (rewrite (view_of 0 alone f) e) _ _ (moves 0 e (λ e'. Next (Store n a i e') rest) (λ e' k. omega (arith, h, k))) (stored_keeps rest (word_add (value_of a) (value_of i)) (value_of e) (omega (arith, h)))))
  first_keeps (Next (Do n e) rest) h =
      part_keeps (rewrite (view_of 0 alone f) e) _ _ (moves 0 e (λ e'. Next (Do n e') rest) (λ e' k. omega (arith, h, k))) (acts_keeps f (record f { text = rest }) false ss ws (with_text rest (omega (arith, h))))
  first_keeps (Next (If n o c a b) rest) h =
      let t = joined_text (text_chosen (value_of c) a b) rest in
      part_keeps (rewrite (view_of 0 alone f) c) _ _ (moves 0 c (λ c'. Next (If n o c' a b) rest) (λ c' k. omega (arith, h, k)))
      (acts_keeps f (record f { text = t }) false ss ws (with_text t (chosen_fits (value_of c) a b rest (omega (arith, h, joined_wide a rest)) (omega (arith, h, joined_wide b rest)))))
  first_keeps (Next (While n c s) rest) h =
      let again = turn_of n c s in
      let t = joined_text (text_chosen (value_of c) again End) rest in
      let size = joined_wide s (Next (While n c s) End) in
      part_keeps (rewrite (view_of 0 alone f) c) _ _ (moves 0 c (λ c'. Next (If n false c' again End) rest) (λ c' k. omega (arith, h, k, size)))
      (acts_keeps f (record f { text = t }) false ss ws (with_text t (chosen_fits (value_of c) again End rest (omega (arith, h, size, joined_wide again rest)) (omega (arith, h, joined_wide End rest)))))
  first_keeps (Next (Return n e) rest) h =
      part_keeps (rewrite (view_of 0 alone f) e) _ _ (moves 0 e (λ e'. Next (Return n e') rest) (λ e' k. omega (arith, h, k))) (λ c k. absurd (none-some c k))

next_keeps : (subs : List Subroutine) (c d : Going) → next subs c ≡ Some d → Keeps c.frame d.frame
next_keeps subs c d e = first_keeps subs c.frame c.statics c.words c.frame.text (omega arith) d e

-- the first step of a run, and the rest
pub next_first : (subs : List Subroutine) (n : ℕ) (o : Option Going) (d : Going) → option_and_then (run subs n) o ≡ Some d → (m : Going) × (o ≡ Some m) × (run subs n m ≡ Some d)
next_first subs n None d e = absurd (none-some d e)
next_first subs n (Some m) d e = (m, refl, e)

pub first_keeps_it : (subs : List Subroutine) (c d : Going) → next subs c ≡ Some d → Keeps c.frame d.frame
first_keeps_it subs c d e = next_keeps subs c d e

pub run_keeps : (subs : List Subroutine) (n : ℕ) (c d : Going) → run subs n c ≡ Some d → Keeps c.frame d.frame
run_keeps subs zero c d e = subst (λ (z : Going). Keeps c.frame z.frame) (some_is c d e) (keeps_itself c.frame)
run_keeps subs (suc n) c d e =
    let (m, first, rest) = next_first subs n (next subs c) d e in
    keeps_then c.frame m.frame d.frame (next_keeps subs c m first) (run_keeps subs n m d rest)
