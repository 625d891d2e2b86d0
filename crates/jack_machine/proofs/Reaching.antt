-- A step of the meaning comes to no subroutine but those that the program can come to.
use Rattle.std.proofs.Common.{◌≡◌, ◌<◌, ℕ, zero, suc, Bool, true, false, List, [], ◌∷◌, ◌++◌, length, subst, sym, refl, arith, if◌then◌else◌}
use Rattle.std.specs.Prelude.{Result, Ok, Err, OnOk, OnErr, ◌-◌, nat_lt, nat_eq, slice_index, slice_set}
use Rattle.std.specs.List.{Contains}
use Rattle.std.proofs.lemmas.List.Elements.{Contains-append_left, Contains-append_right}
use Rattle.word16.specs.Memory.{heap, keyboard}
use Rattle.word16.specs.Words.{word_add}
use Rattle.jack_meaning.specs.Text.{Variable, Argument, Local, Static, Expression, Literal, Value, Name, This, Field, Unary, Binary, Load, Call, Open, Expressions, NoMore, More, Statement, Let, LetField, LetThis, Store, Do, If, While, Return, Text, End, Next, joined_text, Program}
use Rattle.jack_meaning.specs.Expressions.{View, Move, Stands, Rewrites, Calls as Calling, Strays, within, value_of, loaded_word, rewrite, rewrite_first, filled, filled_in}
use Rattle.jack_meaning.specs.Meaning.{Frame, State, Outcome, Acts, Stray, Done, view_of, subroutine_at, filled_text, step_part, after_assignment, after_store, passed_over, after_return, text_chosen, turn_of, step_first, step_frames, step, start}
use Rattle.jack_meaning.specs.Linked.{calls, calls_in, statement_calls, text_calls, IsLinked, init, called}
use Rattle.jack_machine.specs.Calls.{CallsAreThere}
use Rattle.jack_machine.specs.Inner.Reached.{Calls, CallsEach, CallsIn, CallsText, AreReached}

module _ (program : Program) where
  -- each of these subroutines is one that the program can come to
  abbrev All : List ℕ → Type 0
  All gs = (g : ℕ) → Contains gs g → IsLinked program g

  first_all : (xs ys : List ℕ) → All (xs ++ ys) → All xs
  first_all xs ys h g c = h g (Contains-append_left xs ys g c)

  second_all : (xs ys : List ℕ) → All (xs ++ ys) → All ys
  second_all xs ys h g c = h g (Contains-append_right xs ys g c)

  mutual
    expression_calls : (e : Expression) → All (calls e) → Calls program e
    expression_calls (Value w) h = tt
    expression_calls Open h = tt
    expression_calls (Literal w) h = tt
    expression_calls (Name x) h = tt
    expression_calls This h = tt
    expression_calls (Field k) h = tt
    expression_calls (Unary o a) h = expression_calls a h
    expression_calls (Binary o a b) h = (expression_calls a (first_all (calls a) (calls b) h), expression_calls b (second_all (calls a) (calls b) h))
    expression_calls (Load a i) h = (expression_calls a (first_all (calls a) (calls i) h), expression_calls i (second_all (calls a) (calls i) h))
    expression_calls (Call g es) h = (second_all (calls_in es) (g ∷ []) h g (zero, omega arith, refl), each_calls es (first_all (calls_in es) (g ∷ []) h))

    each_calls : (es : Expressions) → All (calls_in es) → CallsEach program es
    each_calls NoMore h = tt
    each_calls (More e es) h = (expression_calls e (first_all (calls e) (calls_in es) h), each_calls es (second_all (calls e) (calls_in es) h))

  mutual
    statement_reached : (s : Statement) → All (statement_calls s) → CallsIn program s
    statement_reached (Let n x e) h = expression_calls e h
    statement_reached (LetField n k e) h = expression_calls e h
    statement_reached (LetThis n e) h = expression_calls e h
    statement_reached (Store n a i e) h =
        let rest = second_all (calls a) (calls i ++ calls e) h in
        (expression_calls a (first_all (calls a) (calls i ++ calls e) h), expression_calls i (first_all (calls i) (calls e) rest), expression_calls e (second_all (calls i) (calls e) rest))
    statement_reached (Do n e) h = expression_calls e h
    statement_reached (If n o c a b) h =
        let rest = second_all (calls c) (text_calls a ++ text_calls b) h in
        (expression_calls c (first_all (calls c) (text_calls a ++ text_calls b) h), text_reached a (first_all (text_calls a) (text_calls b) rest), text_reached b (second_all (text_calls a) (text_calls b) rest))
    statement_reached (While n c s) h = (expression_calls c (first_all (calls c) (text_calls s) h), text_reached s (second_all (calls c) (text_calls s) h))
    statement_reached (Return n e) h = expression_calls e h

    text_reached : (t : Text) → All (text_calls t) → CallsText program t
    text_reached End h = tt
    text_reached (Next s rest) h = (statement_reached s (first_all (statement_calls s) (text_calls rest) h), text_reached rest (second_all (statement_calls s) (text_calls rest) h))

  -- the body of a subroutine that the program can come to
  body_reached : (g : ℕ) → IsLinked program g → CallsText program (subroutine_at program.subroutines g).body
  body_reached g l = text_reached (subroutine_at program.subroutines g).body (λ h c. called l c)

  -- a move of a part
  abbrev Moves : {A : Type 0} → (A → Type 0) → Move A → Type 0
  Moves P Stands = Unit {0}
  Moves P (Rewrites heard a) = P a
  Moves P (Calling g xs a) = IsLinked program g × P a
  Moves P (Strays a) = Unit {0}

  within_moves : {A B : Type 0} (P : A → Type 0) (Q : B → Type 0) (m : Move A) (whole_ : A → B) (after : Move B) → Moves P m → ((a : A) → P a → Q (whole_ a)) → Moves Q after → Moves Q (within m whole_ after)
  within_moves P Q Stands whole_ after h up next = next
  within_moves P Q (Rewrites heard a) whole_ after h up next = up a h
  within_moves P Q (Calling g xs a) whole_ after h up next = (h.0, up a h.1)
  within_moves P Q (Strays a) whole_ after h up next = tt

  loaded_moves : (v : View) (a : ℕ) → Moves (Calls program) (loaded_word v a)
  loaded_moves v a = by_tests (nat_lt a heap) (nat_lt a keyboard) (nat_eq a keyboard)
    where
      by_tests : (b c d : Bool) → Moves (Calls program) (if b then Strays a else (if c then Rewrites false (Value (slice_index v.words (a - heap))) else (if d then Rewrites true (Value v.key) else Strays a)))
      by_tests true c d = tt
      by_tests false true d = tt
      by_tests false false true = tt
      by_tests false false false = tt

  mutual
    rewrite_moves : (v : View) (e : Expression) → Calls program e → Moves (Calls program) (rewrite v e)
    rewrite_moves v (Value w) h = tt
    rewrite_moves v (Literal n) h = tt
    rewrite_moves v (Name x) h = tt
    rewrite_moves v This h = tt
    rewrite_moves v (Field k) h = loaded_moves v (word_add v.this k)
    rewrite_moves v (Unary o a) h = within_moves (Calls program) (Calls program) (rewrite v a) (Unary o) _ (rewrite_moves v a h) (λ x k. k) tt
    rewrite_moves v (Binary o a b) h =
        within_moves (Calls program) (Calls program) (rewrite v a) (λ x. Binary o x b) _ (rewrite_moves v a h.0) (λ x k. (k, h.1))
        (within_moves (Calls program) (Calls program) (rewrite v b) (Binary o a) _ (rewrite_moves v b h.1) (λ x k. (h.0, k)) tt)
    rewrite_moves v (Load a i) h =
        within_moves (Calls program) (Calls program) (rewrite v a) (λ x. Load x i) _ (rewrite_moves v a h.0) (λ x k. (k, h.1))
        (within_moves (Calls program) (Calls program) (rewrite v i) (Load a) _ (rewrite_moves v i h.1) (λ x k. (h.0, k)) (loaded_moves v (word_add (value_of a) (value_of i))))
    rewrite_moves v (Call g es) h = within_moves (CallsEach program) (Calls program) (rewrite_first v es) (Call g) _ (first_moves v es h.1) (λ x k. (h.0, k)) (h.0, tt)
    rewrite_moves v Open h = tt

    first_moves : (v : View) (es : Expressions) → CallsEach program es → Moves (CallsEach program) (rewrite_first v es)
    first_moves v NoMore h = tt
    first_moves v (More e es) h =
        within_moves (Calls program) (CallsEach program) (rewrite v e) (λ x. More x es) _ (rewrite_moves v e h.0) (λ x k. (k, h.1))
        (within_moves (CallsEach program) (CallsEach program) (rewrite_first v es) (More e) _ (first_moves v es h.1) (λ x k. (h.0, k)) tt)

  mutual
    filled_calls : (w : ℕ) (e : Expression) → Calls program e → Calls program (filled w e)
    filled_calls w (Value x) h = tt
    filled_calls w Open h = tt
    filled_calls w (Literal n) h = tt
    filled_calls w (Name x) h = tt
    filled_calls w This h = tt
    filled_calls w (Field k) h = tt
    filled_calls w (Unary o a) h = filled_calls w a h
    filled_calls w (Binary o a b) h = (filled_calls w a h.0, filled_calls w b h.1)
    filled_calls w (Load a i) h = (filled_calls w a h.0, filled_calls w i h.1)
    filled_calls w (Call g es) h = (h.0, filled_each w es h.1)

    filled_each : (w : ℕ) (es : Expressions) → CallsEach program es → CallsEach program (filled_in w es)
    filled_each w NoMore h = tt
    filled_each w (More e es) h = (filled_calls w e h.0, filled_each w es h.1)

  filled_reached : (w : ℕ) (t : Text) → CallsText program t → CallsText program (filled_text w t)
  filled_reached w End h = tt
  filled_reached w (Next (Let n x e) rest) h = (filled_calls w e h.0, h.1)
  filled_reached w (Next (LetField n k e) rest) h = (filled_calls w e h.0, h.1)
  filled_reached w (Next (LetThis n e) rest) h = (filled_calls w e h.0, h.1)
  filled_reached w (Next (Store n a i e) rest) h = ((filled_calls w a h.0.0, filled_calls w i h.0.1, filled_calls w e h.0.2), h.1)
  filled_reached w (Next (Do n e) rest) h = (filled_calls w e h.0, h.1)
  filled_reached w (Next (If n o c a b) rest) h = ((filled_calls w c h.0.0, h.0.1, h.0.2), h.1)
  filled_reached w (Next (While n c s) rest) h = h
  filled_reached w (Next (Return n e) rest) h = (filled_calls w e h.0, h.1)

  joined_reached : (t rest : Text) → CallsText program t → CallsText program rest → CallsText program (joined_text t rest)
  joined_reached End rest h k = k
  joined_reached (Next s t) rest h k = (h.0, joined_reached t rest h.1 k)

  chosen_reached : (w : ℕ) (a b : Text) → CallsText program a → CallsText program b → CallsText program (text_chosen w a b)
  chosen_reached zero a b h k = k
  chosen_reached (suc w) a b h k = h

  turn_reached : (n : ℕ) (c : Expression) (s : Text) → Calls program c → CallsText program s → CallsText program (turn_of n c s)
  turn_reached n c s h k = joined_reached s (Next (While n c s) End) k ((h, k), tt)

  -- the state after a step
  abbrev Comes : Outcome → Type 0
  Comes (Acts heard s) = AreReached program s.frames
  Comes (Stray a) = Unit {0}
  Comes Done = Unit {0}

  returned_comes : (s : State) (below : List Frame) (w : ℕ) → AreReached program below → Comes (after_return s below w)
  returned_comes s [] w h = tt
  returned_comes s (f ∷ below) w h = (h.0, filled_reached w f.text h.1, h.2)

  module _ (there : CallsAreThere program) (s : State) (f : Frame) (below : List Frame) (is_there : f.subroutine < length program.subroutines) (under : AreReached program below) where
    part_comes : (m : Move Expression) (whole_ : Expression → Text) (after : Outcome) → Moves (Calls program) m → ((e : Expression) → Calls program e → CallsText program (whole_ e)) → Comes after
        → Comes (step_part program.subroutines s f below m whole_ after)
    part_comes Stands whole_ after h up next = next
    part_comes (Rewrites heard e) whole_ after h up next = (is_there, up e h, under)
    part_comes (Calling g xs e) whole_ after h up next = (there g h.0, body_reached g h.0, (is_there, up e h.1, under))
    part_comes (Strays a) whole_ after h up next = tt

    assigned_comes : (rest : Text) (x : Variable) (w : ℕ) → CallsText program rest → Comes (after_assignment s f below rest x w)
    assigned_comes rest (Argument k) w h = (is_there, h, under)
    assigned_comes rest (Local k) w h = (is_there, h, under)
    assigned_comes rest (Static k) w h = (is_there, h, under)

    stored_comes : (rest : Text) (a w : ℕ) → CallsText program rest → Comes (after_store s f below rest a w)
    stored_comes rest a w h = by_tests (nat_lt a heap) (nat_lt a keyboard)
      where
        by_tests : (b c : Bool) → Comes (if b then Stray a else (if c then Acts false (record s { words = slice_set s.words (a - heap) w; frames = record f { text = rest } ∷ below }) else Stray a))
        by_tests true c = tt
        by_tests false true = (is_there, h, under)
        by_tests false false = tt

    passed_comes : (f' : Frame) (rest : Text) → f'.subroutine < length program.subroutines → CallsText program rest → Comes (passed_over s f' below rest)
    passed_comes f' rest b h = (b, h, under)

    first_comes : (key : ℕ) (t : Text) → CallsText program t → Comes (step_first program.subroutines key s f below t)
    first_comes key End h = tt
    first_comes key (Next (Let n x e) rest) h =
        part_comes (rewrite (view_of key s f) e) (λ a. Next (Let n x a) rest) (after_assignment s f below rest x (value_of e)) (rewrite_moves (view_of key s f) e h.0) (λ e' k. (k, h.1)) (assigned_comes rest x (value_of e) h.1)
    first_comes key (Next (LetField n k e) rest) h =
        part_comes (rewrite (view_of key s f) e) (λ a. Next (LetField n k a) rest) (after_store s f below rest (word_add f.this k) (value_of e)) (rewrite_moves (view_of key s f) e h.0) (λ e' k. (k, h.1))
        (stored_comes rest (word_add f.this k) (value_of e) h.1)
    first_comes key (Next (LetThis n e) rest) h =
        part_comes (rewrite (view_of key s f) e) (λ a. Next (LetThis n a) rest) (passed_over s (record f { this = value_of e }) below rest) (rewrite_moves (view_of key s f) e h.0) (λ e' k. (k, h.1))
        (passed_comes (record f { this = value_of e }) rest is_there h.1)
    first_comes key (Next (Store n a i e) rest) h =
        let view = view_of key s f in
        let last = after_store s f below rest (word_add (value_of a) (value_of i)) (value_of e) in
        let third = step_part program.subroutines s f below (rewrite view e) (λ x. Next (Store n a i x) rest) last in
        let second = step_part program.subroutines s f below (rewrite view i) (λ x. Next (Store n a x e) rest) third in
        part_comes (rewrite view a) (λ x. Next (Store n x i e) rest) second (rewrite_moves view a h.0.0) (λ e' k. ((k, h.0.1, h.0.2), h.1))
        (part_comes (rewrite view i) (λ x. Next (Store n a x e) rest) third (rewrite_moves view i h.0.1) (λ e' k. ((h.0.0, k, h.0.2), h.1))
        (part_comes (rewrite view e) (λ x. Next (Store n a i x) rest) last (rewrite_moves view e h.0.2) (λ e' k. ((h.0.0, h.0.1, k), h.1))
        (stored_comes rest (word_add (value_of a) (value_of i)) (value_of e) h.1)))
    first_comes key (Next (Do n e) rest) h =
        part_comes (rewrite (view_of key s f) e) (λ a. Next (Do n a) rest) (passed_over s f below rest) (rewrite_moves (view_of key s f) e h.0) (λ e' k. (k, h.1)) (passed_comes f rest is_there h.1)
    first_comes key (Next (If n o c a b) rest) h =
        let branch = joined_text (text_chosen (value_of c) a b) rest in
        part_comes (rewrite (view_of key s f) c) (λ x. Next (If n o x a b) rest) (passed_over s f below branch) (rewrite_moves (view_of key s f) c h.0.0) (λ e' k. ((k, h.0.1, h.0.2), h.1))
        (passed_comes f branch is_there (joined_reached (text_chosen (value_of c) a b) rest (chosen_reached (value_of c) a b h.0.1 h.0.2) h.1))
    first_comes key (Next (While n c a) rest) h =
        let turn = turn_reached n c a h.0.0 h.0.1 in
        let branch = joined_text (text_chosen (value_of c) (turn_of n c a) End) rest in
        part_comes (rewrite (view_of key s f) c) (λ x. Next (If n false x (turn_of n c a) End) rest) (passed_over s f below branch) (rewrite_moves (view_of key s f) c h.0.0) (λ e' k. ((k, turn, tt), h.1))
        (passed_comes f branch is_there (joined_reached (text_chosen (value_of c) (turn_of n c a) End) rest (chosen_reached (value_of c) (turn_of n c a) End turn tt) h.1))
    first_comes key (Next (Return n e) rest) h =
        part_comes (rewrite (view_of key s f) e) (λ a. Next (Return n a) rest) (after_return s below (value_of e)) (rewrite_moves (view_of key s f) e h.0) (λ e' k. (k, h.1)) (returned_comes s below (value_of e) under)

  frames_come : (there : CallsAreThere program) (key : ℕ) (s : State) (fs : List Frame) → AreReached program fs → Comes (step_frames program.subroutines key s fs)
  frames_come there key s [] h = tt
  frames_come there key s (f ∷ fs) h = first_comes there s f fs h.0 h.2 key f.text h.1

  -- a step from such a state leads to one
  pub step_reached : (there : CallsAreThere program) (key : ℕ) (s s' : State) (heard : Bool) → AreReached program s.frames → step program.subroutines key s ≡ Acts heard s' → AreReached program s'.frames
  step_reached there key s s' heard h e = subst Comes e (frames_come there key s s.frames h)

  pub start_reached : CallsAreThere program → AreReached program (start program).frames
  start_reached there = (let b = there program.init init in omega arith, ((init, tt), tt), tt)

-- frames that are the same
pub same_reached : (program : Program) (f g : Frame) (fs gs : List Frame) → AreReached program (f ∷ fs) → g ≡ f → gs ≡ fs → AreReached program (g ∷ gs)
same_reached program f g fs gs h e d = subst (λ z. AreReached program (z ∷ gs)) (sym e) (subst (λ z. AreReached program (f ∷ z)) (sym d) h)

pub on_either : {A E X Y Z : Type 0} (r : Result A E) → OnOk r X → OnErr r Y → (X → Z) → (Y → Z) → Z
on_either (Ok a) x y f g = f x
on_either (Err e) x y f g = g y
