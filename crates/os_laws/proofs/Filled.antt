-- The value in the place of an open call can be read off the text.
use Rattle.std.proofs.Common.{◌≡◌, ℕ, Bool, true, false, nat_lt, nat_eq, List, [], ◌∷◌, length, refl, sym, ap, ◌∙◌, arith}
use Rattle.std.specs.Prelude.{if◌then◌else◌, slice_set}
use Rattle.word16.specs.Words.{word_add}
use Rattle.jack_meaning.specs.Text.{Variable, Argument, Local, Static, Expression, Literal, Value, Name, This, Field, Unary, Binary, Load, Call, Open, Expressions, NoMore, More, Let, LetField, LetThis, Store, Do, If, While, Return, Text, End, Next, Subroutine}
use Rattle.jack_meaning.specs.Expressions.{Move, Stands, Rewrites, Calls, Strays, View, within, value_of, loaded_word, rewrite, rewrite_first, filled, filled_in}
use Rattle.jack_meaning.specs.Meaning.{Frame, State, Outcome, Acts, Stray, view_of, filled_text, step_part, after_assignment, after_store, passed_over, after_return, new_frame, turn_of, step_first, step_frames}
use Rattle.os_laws.specs.Calls.{NextCall, given_back}

-- where the part calls, the value that fills it can be read off
abbrev Told : {A : Type 0} → (ℕ → A → A) → Move A → Type 0
Told fill Stands = Unit {0}
Told fill (Rewrites b a) = Unit {0}
Told fill (Calls g xs a) = (u w : ℕ) → fill u a ≡ fill w a → u ≡ w
Told fill (Strays a) = Unit {0}

within_told : {A B : Type 0} (fill : ℕ → A → A) (fill' : ℕ → B → B) (m : Move A) (whole : A → B) (after : Move B) → Told fill m → Told fill' after
    → ((u w : ℕ) (a : A) → fill' u (whole a) ≡ fill' w (whole a) → fill u a ≡ fill w a) → Told fill' (within m whole after)
within_told fill fill' Stands whole after h k i = k
within_told fill fill' (Rewrites b a) whole after h k i = tt
within_told fill fill' (Calls g xs a) whole after h k i = λ u w e. h u w (i u w a e)
within_told fill fill' (Strays a) whole after h k i = tt

chosen_told : (b c d : Bool) (k a : ℕ) (e e' : Expression) → Told filled (if b then Strays k else (if c then Rewrites false e else (if d then Rewrites true e' else Strays a)))
chosen_told true c d k a e e' = tt
chosen_told false true d k a e e' = tt
chosen_told false false true k a e e' = tt
chosen_told false false false k a e e' = tt

loaded_told : (v : View) (a : ℕ) → Told filled (loaded_word v a)
loaded_told v a = chosen_told (nat_lt a 2048) (nat_lt a 24576) (nat_eq a 24576) a a _ _

mutual
  told : (v : View) (e : Expression) → Told filled (rewrite v e)
  told v (Value w) = tt
  told v (Literal n) = tt
  told v (Name x) = tt
  told v This = tt
  told v (Field k) = loaded_told v (word_add v.this k)
  told v (Unary o a) = within_told filled filled (rewrite v a) (Unary o) _ (told v a) tt (λ u w a' e. let f : Unary o (filled u a') ≡ Unary o (filled w a') = e in cc f)
  told v (Binary o a b) =
      within_told filled filled (rewrite v a) (λ a'. Binary o a' b) _ (told v a)
      (within_told filled filled (rewrite v b) (Binary o a) _ (told v b) tt (λ u w b' e. let f : Binary o (filled u a) (filled u b') ≡ Binary o (filled w a) (filled w b') = e in cc f))
      (λ u w a' e. let f : Binary o (filled u a') (filled u b) ≡ Binary o (filled w a') (filled w b) = e in cc f)
  told v (Load a i) =
      within_told filled filled (rewrite v a) (λ a'. Load a' i) _ (told v a)
      (within_told filled filled (rewrite v i) (Load a) _ (told v i) (loaded_told v (word_add (value_of a) (value_of i))) (λ u w i' e. let f : Load (filled u a) (filled u i') ≡ Load (filled w a) (filled w i') = e in cc f))
      (λ u w a' e. let f : Load (filled u a') (filled u i) ≡ Load (filled w a') (filled w i) = e in cc f)
  told v (Call g es) =
      within_told filled_in filled (rewrite_first v es) (Call g) _ (tolds v es) (λ u w e. let f : Value u ≡ Value w = e in cc f)
      (λ u w es' e. let f : Call g (filled_in u es') ≡ Call g (filled_in w es') = e in cc f)
  told v Open = tt

  tolds : (v : View) (es : Expressions) → Told filled_in (rewrite_first v es)
  tolds v NoMore = tt
  tolds v (More e es) =
      within_told filled filled_in (rewrite v e) (λ e'. More e' es) _ (told v e)
      (within_told filled_in filled_in (rewrite_first v es) (More e) _ (tolds v es) tt (λ u w es' q. let f : More (filled u e) (filled_in u es') ≡ More (filled w e) (filled_in w es') = q in cc f))
      (λ u w e' q. let f : More (filled u e') (filled_in u es) ≡ More (filled w e') (filled_in w es) = q in cc f)

-- where a step makes a frame more, the value that fills the text of the frame below it can be read
-- off
abbrev Deep : List Frame → Outcome → Type 0
Deep below o = (heard : Bool) (t : State) (top caller : Frame) → o ≡ Acts heard t → t.frames ≡ top ∷ caller ∷ below → (u w : ℕ) → filled_text u caller.text ≡ filled_text w caller.text → u ≡ w

module _ (subs : List Subroutine) (s : State) (f : Frame) (below : List Frame) where
  -- no frame more
  flat : (heard : Bool) (t : State) (g : Frame) → t.frames ≡ g ∷ below → Deep below (Acts heard t)
  flat heard t g e heard' t' top caller o d u w q =
      let same : t ≡ t' = cc o in
      let longer : length (g ∷ below) ≡ length (top ∷ caller ∷ below) = ap (λ l. length l) (sym e ∙ ap (λ (z : State). z.frames) same ∙ d) in
      absurd (omega (arith, longer))

  part_deep : {A : Type 0} (fill : ℕ → A → A) (m : Move A) (whole : A → Text) (after : Outcome) → Told fill m → Deep below after
      → ((u w : ℕ) (a : A) → filled_text u (whole a) ≡ filled_text w (whole a) → fill u a ≡ fill w a) → Deep below (step_part subs s f below m whole after)
  part_deep fill Stands whole after h k i = k
  part_deep fill (Rewrites b a) whole after h k i = flat b (record s { frames = record f { text = whole a } ∷ below }) (record f { text = whole a }) refl
  part_deep fill (Calls g xs a) whole after h k i = λ heard t top caller o d u w q.
      let st : State = record s { frames = new_frame subs g xs ∷ record f { text = whole a } ∷ below } in
      let made : Acts false st ≡ Acts heard t = o in
      let same : st ≡ t = cc made in
      let there : new_frame subs g xs ∷ record f { text = whole a } ∷ below ≡ top ∷ caller ∷ below = ap (λ (z : State). z.frames) same ∙ d in
      let mine : caller ≡ record f { text = whole a } = cc there in
      h u w (i u w a (ap (λ (z : Frame). filled_text u z.text) (sym mine) ∙ q ∙ ap (λ (z : Frame). filled_text w z.text) mine))
  part_deep fill (Strays a) whole after h k i = λ heard t top caller o d u w q. absurd (cc o)

  -- of a statement with one expression
  of_one : (e : Expression) (whole : Expression → Text) (after : Outcome) → Deep below after → ((u w : ℕ) (a : Expression) → filled_text u (whole a) ≡ filled_text w (whole a) → filled u a ≡ filled w a)
      → Deep below (step_part subs s f below (rewrite (view_of 0 s f) e) whole after)
  of_one e whole after k i = part_deep filled (rewrite (view_of 0 s f) e) whole after (told (view_of 0 s f) e) k i

  assigned_deep : (rest : Text) (x : Variable) (w : ℕ) → Deep below (after_assignment s f below rest x w)
  assigned_deep rest (Argument k) w = flat false _ _ refl
  assigned_deep rest (Local k) w = flat false _ _ refl
  assigned_deep rest (Static k) w = flat false _ _ refl

  stored_with : (b c : Bool) (rest : Text) (a k w : ℕ) → Deep below (if b then Stray a else (if c then passed_over (record s { words = slice_set s.words k w }) f below rest else Stray a))
  stored_with true c rest a k w = λ heard t top caller o d u v q. absurd (cc o)
  stored_with false true rest a k w = flat false _ _ refl
  stored_with false false rest a k w = λ heard t top caller o d u v q. absurd (cc o)

  stored_deep : (rest : Text) (a w : ℕ) → Deep below (after_store s f below rest a w)
  stored_deep rest a w = stored_with (nat_lt a 2048) (nat_lt a 24576) rest a _ w

  returned_deep : (w : ℕ) → Deep below (after_return s below w)
  returned_deep w = by_frames below
    where
      by_frames : (fs : List Frame) → Deep fs (after_return s fs w)
      by_frames [] = λ heard t top caller o d u v q. absurd (cc o)
      by_frames (g ∷ fs) = λ heard t top caller o d u v q.
          let st : State = record s { frames = record g { text = filled_text w g.text } ∷ fs } in
          let made : Acts false st ≡ Acts heard t = o in
          let same : st ≡ t = cc made in
          let longer : length st.frames ≡ length (top ∷ caller ∷ g ∷ fs) = ap (λ (z : State). length z.frames) same ∙ ap (λ l. length l) d in
          absurd (omega (arith, longer))

  first_deep : (t : Text) → Deep below (step_first subs 0 s f below t)
  first_deep End = λ heard t top caller o d u v q. absurd (cc o)
  first_deep (Next (Let n x e) rest) = of_one e (λ e'. Next (Let n x e') rest) _ (assigned_deep rest x (value_of e)) (λ u w a q. let r : Next (Let n x (filled u a)) rest ≡ Next (Let n x (filled w a)) rest = q in cc r)
  first_deep (Next (LetField n k e) rest) =
      of_one e (λ e'. Next (LetField n k e') rest) _ (stored_deep rest (word_add f.this k) (value_of e)) (λ u w a q. let r : Next (LetField n k (filled u a)) rest ≡ Next (LetField n k (filled w a)) rest = q in cc r)
  first_deep (Next (LetThis n e) rest) = of_one e (λ e'. Next (LetThis n e') rest) _ (flat false _ _ refl) (λ u w a q. let r : Next (LetThis n (filled u a)) rest ≡ Next (LetThis n (filled w a)) rest = q in cc r)
  first_deep (Next (Store n a i e) rest) =
      of_one a (λ a'. Next (Store n a' i e) rest) _
      (of_one i (λ i'. Next (Store n a i' e) rest) _
      (of_one e (λ e'. Next (Store n a i e') rest) _ (stored_deep rest (word_add (value_of a) (value_of i)) (value_of e))
      (λ u w z q. let r : Next (Store n (filled u a) (filled u i) (filled u z)) rest ≡ Next (Store n (filled w a) (filled w i) (filled w z)) rest = q in cc r))
      (λ u w z q. let r : Next (Store n (filled u a) (filled u z) (filled u e)) rest ≡ Next (Store n (filled w a) (filled w z) (filled w e)) rest = q in cc r))
      (λ u w z q. let r : Next (Store n (filled u z) (filled u i) (filled u e)) rest ≡ Next (Store n (filled w z) (filled w i) (filled w e)) rest = q in cc r)
  first_deep (Next (Do n e) rest) = of_one e (λ e'. Next (Do n e') rest) _ (flat false _ _ refl) (λ u w a q. let r : Next (Do n (filled u a)) rest ≡ Next (Do n (filled w a)) rest = q in cc r)
  first_deep (Next (If n o c a b) rest) =
      of_one c (λ c'. Next (If n o c' a b) rest) _ (flat false _ _ refl) (λ u w z q. let r : Next (If n o (filled u z) a b) rest ≡ Next (If n o (filled w z) a b) rest = q in cc r)
  first_deep (Next (While n c a) rest) =
      of_one c (λ c'. Next (If n false c' (turn_of n c a) End) rest) _ (flat false _ _ refl)
      (λ u w z q. let r : Next (If n false (filled u z) (turn_of n c a) End) rest ≡ Next (If n false (filled w z) (turn_of n c a) End) rest = q in cc r)
  first_deep (Next (Return n e) rest) = of_one e (λ e'. Next (Return n e') rest) _ (returned_deep (value_of e)) (λ u w a q. let r : Next (Return n (filled u a)) rest ≡ Next (Return n (filled w a)) rest = q in cc r)

-- The place of a call gives the value that it holds.
pub filled_once : (subs : List Subroutine) (s : State) (g : ℕ) (values : List ℕ) (c : NextCall subs s g values) (u w : ℕ) → (given_back s c.caller c.below u).frames ≡ (given_back s c.caller c.below w).frames → u ≡ w
filled_once subs s g values c u w e =
    let steps : step_frames subs 0 s s.frames ≡ step_frames subs 0 s (c.top ∷ c.below) = ap (step_frames subs 0 s) c.frames in
    let texts : filled_text u c.caller.text ≡ filled_text w c.caller.text = ap (λ l. top_text l) e in
    first_deep subs s c.top c.below c.top.text false _ _ c.caller (sym steps ∙ c.calls) refl u w texts
  where
    top_text : List Frame → Text
    top_text [] = End
    top_text (f ∷ fs) = f.text
