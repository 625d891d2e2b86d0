-- A step that hears nothing is the same under every key.
use Rattle.std.proofs.Common.{◌≡◌, ℕ, ◌-◌, Bool, true, false, List, [], ◌∷◌, refl, ap, ◌∙◌, sym}
use Rattle.std.specs.Prelude.{None, if◌then◌else◌, nat_lt, nat_eq, slice_index}
use Rattle.word16.specs.Words.{word_add}
use Rattle.jack_meaning.specs.Text.{Variable, Argument, Local, Static, Expression, Literal, Value, Name, This, Field, Unary, Binary, Load, Call, Open, Expressions, NoMore, More, Let, LetField, LetThis, Store, Do, If, While, Return, Text, End, Next, Subroutine}
use Rattle.jack_meaning.specs.Expressions.{Move, Stands, Rewrites, Calls, Strays, within, View, variable_of, value_of, loaded_word, rewrite, rewrite_first}
use Rattle.jack_meaning.specs.Meaning.{Frame, State, view_of, Outcome, Acts, Stray, Done, step_part, step_first, step_frames, step}
use Rattle.jack_meaning.specs.Level.{next_of, has_heard, is_done, point_in, meaning_of}
use Rattle.simulation.specs.System.{IsMeaning}
use Rattle.jack_meaning.specs.Laws.{MeaningLaw}
use Rattle.jack_meaning.proofs.Gaps.{gap_once}

abbrev hears_in : {A : Type 0} → Move A → Bool
hears_in (Rewrites b a) = b
hears_in _ = false

-- two moves are one where the first hears nothing
abbrev Alike : {A : Type 0} → Move A → Move A → Type 0
Alike m m' = hears_in m ≡ false → m' ≡ m

within_alike : {A B : Type 0} (m m' : Move A) (whole : A → B) (after after' : Move B) → Alike m m' → Alike after after' → Alike (within m whole after) (within m' whole after')
within_alike Stands m' whole after after' e f h = ap (λ z. within z whole after') (e refl) ∙ f h
within_alike (Rewrites b a) m' whole after after' e f h = ap (λ z. within z whole after') (e h)
within_alike (Calls g xs a) m' whole after after' e f h = ap (λ z. within z whole after') (e refl)
within_alike (Strays a) m' whole after after' e f h = ap (λ z. within z whole after') (e refl)

module _ (v : View) (k : ℕ) where
  abbrev other : View
  other = record v { key = k }

  loaded_with : (low data_ key : Bool) (a : ℕ) → Alike (if low then Strays a else (if data_ then Rewrites false (Value (slice_index v.words (a - 2048))) else (if key then Rewrites true (Value v.key) else Strays a))) (if low then Strays a else (if data_ then Rewrites false (Value (slice_index v.words (a - 2048))) else (if key then Rewrites true (Value k) else Strays a)))
  loaded_with true d key a h = refl
  loaded_with false true key a h = refl
  loaded_with false false true a h = absurd (cc h)
  loaded_with false false false a h = refl

  loaded_alike : (a : ℕ) → Alike (loaded_word v a) (loaded_word other a)
  loaded_alike a = loaded_with (nat_lt a 2048) (nat_lt a 24576) (nat_eq a 24576) a

  variable_alike : (x : Variable) → variable_of other x ≡ variable_of v x
  variable_alike (Argument n) = refl
  variable_alike (Local n) = refl
  variable_alike (Static n) = refl

  mutual
    pub rewrite_alike : (e : Expression) → Alike (rewrite v e) (rewrite other e)
    rewrite_alike (Literal n) h = refl
    rewrite_alike (Value w) h = refl
    rewrite_alike (Name x) h = ap (λ z. Rewrites false (Value z)) (variable_alike x)
    rewrite_alike This h = refl
    rewrite_alike (Field n) h = loaded_alike (word_add v.this n) h
    rewrite_alike (Unary o a) h = within_alike (rewrite v a) (rewrite other a) (Unary o) _ _ (rewrite_alike a) (λ _. refl) h
    rewrite_alike (Binary o a b) h =
        within_alike (rewrite v a) (rewrite other a) (λ a'. Binary o a' b) _ _ (rewrite_alike a)
        (within_alike (rewrite v b) (rewrite other b) (Binary o a) _ _ (rewrite_alike b) (λ _. refl)) h
    rewrite_alike (Load a i) h =
        within_alike (rewrite v a) (rewrite other a) (λ a'. Load a' i) _ _ (rewrite_alike a)
        (within_alike (rewrite v i) (rewrite other i) (Load a) _ _ (rewrite_alike i) (loaded_alike (word_add (value_of a) (value_of i)))) h
    rewrite_alike (Call g es) h = within_alike (rewrite_first v es) (rewrite_first other es) (Call g) _ _ (rewrite_first_alike es) (λ _. refl) h
    rewrite_alike Open h = refl

    pub rewrite_first_alike : (es : Expressions) → Alike (rewrite_first v es) (rewrite_first other es)
    rewrite_first_alike NoMore h = refl
    rewrite_first_alike (More e es) h =
        within_alike (rewrite v e) (rewrite other e) (λ e'. More e' es) _ _ (rewrite_alike e)
        (within_alike (rewrite_first v es) (rewrite_first other es) (More e) _ _ (rewrite_first_alike es) (λ _. refl)) h

abbrev Even : Outcome → Outcome → Type 0
Even o o' = has_heard o ≡ false → o' ≡ o

part_even : {A : Type 0} (subs : List Subroutine) (s : State) (f : Frame) (below : List Frame) (m m' : Move A) (whole : A → Text) (after after' : Outcome) → Alike m m' → Even after after' → Even (step_part subs s f below m whole after) (step_part subs s f below m' whole after')
part_even subs s f below Stands m' whole after after' e g h = ap (λ z. step_part subs s f below z whole after') (e refl) ∙ g h
part_even subs s f below (Rewrites b a) m' whole after after' e g h = ap (λ z. step_part subs s f below z whole after') (e h)
part_even subs s f below (Calls n xs a) m' whole after after' e g h = ap (λ z. step_part subs s f below z whole after') (e refl)
part_even subs s f below (Strays a) m' whole after after' e g h = ap (λ z. step_part subs s f below z whole after') (e refl)

module _ (subs : List Subroutine) (key k : ℕ) (s : State) (f : Frame) (below : List Frame) where
  of_part : (e : Expression) (whole : Expression → Text) (after after' : Outcome) → Even after after' → Even (step_part subs s f below (rewrite (view_of key s f) e) whole after) (step_part subs s f below (rewrite (view_of k s f) e) whole after')
  of_part e whole after after' g = part_even subs s f below (rewrite (view_of key s f) e) (rewrite (view_of k s f) e) whole after after' (rewrite_alike (view_of key s f) k e) g

  first_even : (t : Text) → Even (step_first subs key s f below t) (step_first subs k s f below t)
  first_even End h = refl
  first_even (Next (Let n x e) rest) h = of_part e _ _ _ (λ _. refl) h
  first_even (Next (LetField n i e) rest) h = of_part e _ _ _ (λ _. refl) h
  first_even (Next (LetThis n e) rest) h = of_part e _ _ _ (λ _. refl) h
  first_even (Next (Store n a i e) rest) h = of_part a _ _ _ (of_part i _ _ _ (of_part e _ _ _ (λ _. refl))) h
  first_even (Next (Do n e) rest) h = of_part e _ _ _ (λ _. refl) h
  first_even (Next (If n o c a b) rest) h = of_part c _ _ _ (λ _. refl) h
  first_even (Next (While n c a) rest) h = of_part c _ _ _ (λ _. refl) h
  first_even (Next (Return n e) rest) h = of_part e _ _ _ (λ _. refl) h

frames_even : (subs : List Subroutine) (key k : ℕ) (s : State) (frames : List Frame) → Even (step_frames subs key s frames) (step_frames subs k s frames)
frames_even subs key k s [] h = refl
frames_even subs key k s (f ∷ below) h = first_even subs key k s f below f.text h

step_even : (subs : List Subroutine) (key k : ℕ) (s : State) → Even (step subs key s) (step subs k s)
step_even subs key k s h = frames_even subs key k s s.frames h

-- whether the key is heard: were it heard under one alone, the other would hear nothing and so be the same
heard_alike : (x y : Bool) → (x ≡ false → y ≡ x) → (y ≡ false → x ≡ y) → y ≡ x
heard_alike true true f g = refl
heard_alike true false f g = sym (g refl)
heard_alike false y f g = f refl

quiet_done : (o : Outcome) → is_done o ≡ true → (has_heard o ≡ false) × (next_of o ≡ None)
quiet_done (Acts b s) h = absurd (cc h)
quiet_done (Stray a) h = absurd (cc h)
quiet_done Done h = (refl, refl)

is_level : (subs : List Subroutine) → IsMeaning (meaning_of subs)
is_level subs = record {
  commits = λ s. refl;
  pointed = λ s. (point_in s, refl);
  deaf = λ s key key' h. ap next_of (step_even subs 0 key s h ∙ sym (step_even subs 0 key' s h));
  stops = λ s key h. let q = quiet_done (step subs 0 s) h in ap next_of (step_even subs 0 key s q.0) ∙ q.1;
}

pub law : MeaningLaw
law = record {
  deaf = λ program s key key' h. step_even program.subroutines key key' s h;
  hears = λ program s key key'. heard_alike _ _ (λ h. ap has_heard (step_even program.subroutines key key' s h)) (λ h. ap has_heard (step_even program.subroutines key' key s h));
  strays = λ program s key key' a h. step_even program.subroutines key key' s (ap has_heard h) ∙ h;
  done = λ program s key key' h. step_even program.subroutines key key' s (ap has_heard h) ∙ h;
  begins = λ program. refl;
  one_gap = gap_once;
  level = λ program. is_level program.subroutines;
}
