-- The search for the subroutines that a program can come to: one more mark, several after one another, and what is known while some wait.
use Rattle.std.proofs.Common.{◌≡◌, ◌+◌, ◌<◌, ◌≤◌, ◌++◌, ℕ, zero, suc, Bool, true, false, List, [], ◌∷◌, Some, length, take, drop, reverse, get_or, slice_set, refl, sym, ap, subst, ◌∙◌, inl, inr, arith, append_assoc, map}
use Rattle.std.specs.List.{Contains}
use Rattle.std.proofs.lemmas.List.{append-nil, reverse-append, take-append-drop, take_more}
use Rattle.std.proofs.lemmas.List.Elements.{Contains-append_cases, Contains-append_left, Contains-append_right, Contains-push, Contains-push_cases}
use Rattle.std.proofs.lemmas.Bool.{cases_lt}
use Rattle.vm_link.specs.Inner.Marks.{is_marked, waits}
use Rattle.vm_link.proofs.Marking.{⊎_by, marks_one, marks_none, marks_then, marks_as, marked_now, marked_below, waits_last, waits_more, waits_from}
use Rattle.jack_meaning.specs.Text.{Expression as AnExpression, Text, Subroutine, Program}
use Rattle.jack_meaning.specs.Meaning.{subroutine_at}
use Rattle.jack_meaning.specs.Linked.{calls, calls_in, statement_calls, text_calls, IsLinked, init, called}
use Rattle.jack_core.specs.declared.tree.Part.{Part}
use Rattle.jack_core.specs.declared.tree.Part.TheVariants as part
use Rattle.jack_core.specs.declared.tree.Expression.{Expression}
use Rattle.jack_core.specs.declared.program.Statement.{Statement}
use Rattle.jack_core.specs.Heights.{takes, height}
use Rattle.jack_core.specs.Reading.{the_expression, arguments_of, put, build_expressions}
use Rattle.jack_core.specs.declared.program.Subroutine.{Subroutine as TheSubroutine}
use Rattle.jack_core.specs.Texts.{the_statement, the_block, the_subroutine}
use Rattle.jack_core.proofs.Postfix.{enough, behind, put_length, spells}
use Rattle.jack_compiler.specs.declared.reached.Search.{Search}
use Rattle.jack_compiler.specs.Inner.Searched.{part_calls, parts_calls, Visits, Looks, AreLinked}

-- The calls of an expression's parts are those of the expression.
-- the calls of expressions, the last of which comes first
abbrev stack_calls : List AnExpression → List ℕ
stack_calls [] = []
stack_calls (e ∷ es) = stack_calls es ++ calls e

stack_more : (xs ys : List AnExpression) → stack_calls (xs ++ ys) ≡ stack_calls ys ++ stack_calls xs
stack_more [] ys = sym (append-nil (stack_calls ys))
stack_more (x ∷ xs) ys = ap (λ z. z ++ calls x) (stack_more xs ys) ∙ append_assoc (stack_calls ys) (stack_calls xs) (calls x)

arguments_more : (xs ys : List AnExpression) → calls_in (arguments_of (xs ++ ys)) ≡ calls_in (arguments_of xs) ++ calls_in (arguments_of ys)
arguments_more [] ys = refl
arguments_more (x ∷ xs) ys =
    ap (λ z. calls x ++ z) (arguments_more xs ys) ∙ sym (append_assoc (calls x) (calls_in (arguments_of xs)) (calls_in (arguments_of ys)))

-- in order they are arguments
in_order : (es : List AnExpression) → calls_in (arguments_of (reverse es)) ≡ stack_calls es
in_order [] = refl
in_order (e ∷ es) =
    ap (λ z. calls_in (arguments_of z)) (reverse-append (e ∷ []) es)
    ∙ arguments_more (reverse es) (e ∷ [])
    ∙ ap (λ z. calls_in (arguments_of (reverse es)) ++ z) (append-nil (calls e))
    ∙ ap (λ z. z ++ calls e) (in_order es)

call_calls : (g k : ℕ) (es : List AnExpression) → stack_calls (put (part.Call k g) es) ≡ stack_calls es ++ g ∷ []
call_calls g k es =
    ap (λ z. stack_calls (drop k es) ++ (z ++ g ∷ [])) (in_order (take k es))
    ∙ sym (append_assoc (stack_calls (drop k es)) (stack_calls (take k es)) (g ∷ []))
    ∙ ap (λ z. z ++ g ∷ []) (sym (stack_more (take k es) (drop k es)) ∙ ap stack_calls (take-append-drop k es))

behind_two : (es : List AnExpression) (a b : AnExpression) → stack_calls es ++ (calls a ++ calls b) ≡ stack_calls (b ∷ a ∷ es)
behind_two es a b = sym (append_assoc (stack_calls es) (calls a) (calls b))

nothing_more : (xs ys : List ℕ) → xs ≡ ys → xs ≡ ys ++ []
nothing_more xs ys e = e ∙ sym (append-nil ys)

-- a part that finds its operands adds its calls after theirs
put_calls : (p : Part) (es : List AnExpression) → takes p ≤ length es → stack_calls (put p es) ≡ stack_calls es ++ part_calls p
put_calls (part.Literal w) es le = refl
put_calls (part.Argument k) es le = refl
put_calls (part.Local k) es le = refl
put_calls (part.Static k) es le = refl
put_calls part.This es le = refl
put_calls (part.Field k) es le = refl
put_calls (part.Unary o) [] le = absurd (omega arith)
put_calls (part.Unary o) (a ∷ es) le = sym (append-nil (stack_calls es ++ calls a))
put_calls (part.Binary o) [] le = absurd (omega arith)
put_calls (part.Binary o) (b ∷ []) le = absurd (omega arith)
put_calls (part.Binary o) (b ∷ a ∷ es) le = nothing_more (stack_calls es ++ (calls a ++ calls b)) (stack_calls (b ∷ a ∷ es)) (behind_two es a b)
put_calls part.Load [] le = absurd (omega arith)
put_calls part.Load (i ∷ []) le = absurd (omega arith)
put_calls part.Load (i ∷ a ∷ es) le = nothing_more (stack_calls es ++ (calls a ++ calls i)) (stack_calls (i ∷ a ∷ es)) (behind_two es a i)
put_calls (part.Call k g) es le = call_calls g k es

built_calls : (k : ℕ) (es : List AnExpression) (ps : List Part) → height (length es) ps ≡ Some k → stack_calls (build_expressions es ps) ≡ stack_calls es ++ parts_calls ps
built_calls k es [] e = sym (append-nil (stack_calls es))
built_calls k es (p ∷ ps) e =
    let le = enough (length es) k p ps e in
    built_calls k (put p es) ps (ap (λ h. height h ps) (put_length p es le) ∙ behind (length es) k p ps e)
    ∙ ap (λ z. z ++ parts_calls ps) (put_calls p es le)
    ∙ append_assoc (stack_calls es) (part_calls p) (parts_calls ps)

pub spelled_calls : (e : Expression) → parts_calls e.parts ≡ calls (the_expression e)
spelled_calls e = sym (built_calls 1 [] e.parts e.one) ∙ ap stack_calls (spells [] e)

-- a part that is no call
pub no_call : (p : Part) → ((n g : ℕ) → p ≡ part.Call n g → ⊥) → part_calls p ≡ []
no_call (part.Call n g) h = absurd (h n g refl)
no_call _ h = refl

parts_last : (ps : List Part) (p : Part) → parts_calls (ps ++ p ∷ []) ≡ parts_calls ps ++ part_calls p
parts_last [] p = append-nil (part_calls p)
parts_last (q ∷ ps) p = ap (λ z. part_calls q ++ z) (parts_last ps p) ∙ sym (append_assoc (part_calls q) (parts_calls ps) (part_calls p))

block_last : (ss : List Statement) (s : Statement) → text_calls (the_block (ss ++ s ∷ [])) ≡ text_calls (the_block ss) ++ statement_calls (the_statement s)
block_last [] s = append-nil (statement_calls (the_statement s))
block_last (t ∷ ss) s =
    ap (λ z. statement_calls (the_statement t) ++ z) (block_last ss s)
    ∙ sym (append_assoc (statement_calls (the_statement t)) (text_calls (the_block ss)) (statement_calls (the_statement s)))

-- Marks of what is called.
none_called : (g : ℕ) → Contains [] g → ⊥
none_called g c = let k = c.1 in omega arith

only_called : (n g : ℕ) → Contains (n ∷ []) g → g ≡ n
only_called n g c = ⊎_by (Contains-push_cases [] n g c) (λ h. absurd (none_called g h)) (λ e. sym e)

pub visits_none : (s : Search) → Visits [] s s
visits_none s = record {
  marks = marks_none (Contains []) s.marks.items s.waiting.items;
  all = λ g b c. absurd (none_called g c);
}

-- a subroutine that is not there, one that is marked already, and one more
pub visits_over : (n : ℕ) (s : Search) → length s.marks.items ≤ n → Visits (n ∷ []) s s
visits_over n s over = record {
  marks = marks_none (Contains (n ∷ [])) s.marks.items s.waiting.items;
  all = λ g b c. let e = only_called n g c in absurd (omega arith);
}

pub visits_again : (n : ℕ) (s : Search) → is_marked s.marks.items n ≡ true → Visits (n ∷ []) s s
visits_again n s h = record {
  marks = marks_none (Contains (n ∷ [])) s.marks.items s.waiting.items;
  all = λ g b c. ap (is_marked s.marks.items) (only_called n g c) ∙ h;
}

pub visits_one : (n : ℕ) (old new : Search) → n < length old.marks.items → is_marked old.marks.items n ≡ false → new.marks.items ≡ slice_set old.marks.items n true
    → new.waiting.items ≡ old.waiting.items ++ n ∷ [] → Visits (n ∷ []) old new
visits_one n old new b unmarked marks_are waiting_are = record {
  marks = rw (marks_are, waiting_are)
      (marks_as (λ g. g ≡ n) (Contains (n ∷ [])) old.marks.items (slice_set old.marks.items n true) old.waiting.items (old.waiting.items ++ n ∷ [])
      (λ g e. subst (Contains (n ∷ [])) (sym e) (Contains-push [] n)) (marks_one old.marks.items old.waiting.items n b unmarked));
  all = λ g h c. ap (λ z. is_marked z g) marks_are ∙ ap (is_marked (slice_set old.marks.items n true)) (only_called n g c) ∙ marked_now old.marks.items n b;
}

pub visits_then : (xs ys : List ℕ) (a b c : Search) → Visits xs a b → Visits ys b c → Visits (xs ++ ys) a c
visits_then xs ys a b c f g = record {
  marks = marks_then (Contains (xs ++ ys)) (Contains ys) a.marks.items b.marks.items c.marks.items a.waiting.items b.waiting.items c.waiting.items
      (λ i h. Contains-append_right xs ys i h)
      (marks_as (Contains xs) (Contains (xs ++ ys)) a.marks.items b.marks.items a.waiting.items b.waiting.items (λ i h. Contains-append_left xs ys i h) f.marks) g.marks;
  all = λ i h k. ⊎_by (Contains-append_cases xs ys i k)
      (λ x. g.marks.kept i (f.all i (let l = g.marks.same_length in omega arith) x))
      (λ y. g.all i h y);
}

pub visits_as : (xs ys : List ℕ) (a b : Search) → xs ≡ ys → Visits xs a b → Visits ys a b
visits_as xs ys a b e v = subst (λ z. Visits z a b) e v

-- one more part, one more statement
pub parts_next : (ps qs : List Part) (i : ℕ) (d : Part) (a b c : Search) → qs ≡ ps → i < length qs → Visits (parts_calls (take i ps)) a b → Visits (part_calls (get_or qs i d)) b c
    → Visits (parts_calls (take (i + 1) ps)) a c
parts_next ps qs i d a b c same h f g =
    let inside : i < length ps = (let l = ap length same in omega arith) in
    let more : take (i + 1) ps ≡ take i ps ++ get_or ps i d ∷ [] = take_more ps i d inside in
    visits_as (parts_calls (take i ps) ++ part_calls (get_or qs i d)) (parts_calls (take (i + 1) ps)) a c
    (ap (λ z. parts_calls (take i ps) ++ part_calls (get_or z i d)) same ∙ sym (ap parts_calls more ∙ parts_last (take i ps) (get_or ps i d)))
    (visits_then (parts_calls (take i ps)) (part_calls (get_or qs i d)) a b c f g)

pub block_next : (ss : List Statement) (i : ℕ) (s : Statement) (a b c : Search) → i < length ss → s ≡ get_or ss i s → Visits (text_calls (the_block (take i ss))) a b
    → Visits (statement_calls (the_statement s)) b c → Visits (text_calls (the_block (take (i + 1) ss))) a c
block_next ss i s a b c h e f g =
    let more : take (i + 1) ss ≡ take i ss ++ s ∷ [] = take_more ss i s h ∙ ap (λ x. take i ss ++ x ∷ []) (sym e) in
    visits_as (text_calls (the_block (take i ss)) ++ statement_calls (the_statement s)) (text_calls (the_block (take (i + 1) ss))) a c
    (sym (ap (λ z. text_calls (the_block z)) more ∙ block_last (take i ss) s))
    (visits_then (text_calls (the_block (take i ss))) (statement_calls (the_statement s)) a b c f g)

-- the statements of a subroutine
pub body_at : (xs : List TheSubroutine) (i : ℕ) (d s : TheSubroutine) (ss : List Statement) → i < length xs → s ≡ get_or xs i d → ss ≡ s.body.items
    → the_block ss ≡ (subroutine_at (map the_subroutine xs) i).body
body_at [] i d s ss h e f = absurd (omega arith)
body_at (x ∷ xs) zero d s ss h e f = ap the_block (f ∙ ap (λ z. z.body.items) e)
body_at (x ∷ xs) (suc i) d s ss h e f = body_at xs i d s ss (omega arith) e f

-- What is known while some wait.
false_true : {b : Bool} → b ≡ false → b ≡ true → ⊥
false_true e f = absurd cc

pub looks_first : (program : Program) (none search : Search) → length none.marks.items ≡ length program.subroutines → ((g : ℕ) → is_marked none.marks.items g ≡ false)
    → none.waiting.items ≡ [] → Visits (program.init ∷ []) none search → Looks program search.marks.items search.waiting.items
looks_first program none search l unset empty v = record {
  same_length = v.marks.same_length ∙ l;
  only = λ g h. ⊎_by (v.marks.added g h) (λ o. absurd (false_true (unset g) o)) (λ n. subst (IsLinked program) (sym (only_called program.init g n.0)) init);
  start = λ b. v.all program.init b (Contains-push [] program.init);
  waiting = λ g h. ⊎_by (v.marks.more g h) (λ o. absurd (false_true refl (ap (λ z. waits z g) (sym empty) ∙ o))) (λ n. n);
  closed = λ g h m c b. ⊎_by (v.marks.added g m) (λ o. absurd (false_true (unset g) o)) (λ n. inl n.1);
}

pub looks_below : (program : Program) (marks : List Bool) (waiting : List ℕ) (g : ℕ) → Looks program marks (waiting ++ g ∷ []) → g < length program.subroutines
looks_below program marks waiting g k =
    let h : g < length marks = marked_below marks g (k.waiting g (waits_last waiting g)) in
    let e = k.same_length in omega arith

pub looks_next : (program : Program) (g : ℕ) (old new : Search) (text : Text) → text ≡ (subroutine_at program.subroutines g).body → Looks program old.marks.items (old.waiting.items ++ g ∷ [])
    → Visits (text_calls text) old new → Looks program new.marks.items new.waiting.items
looks_next program g old new text body k v = record {
  same_length = v.marks.same_length ∙ k.same_length;
  only = λ i h. ⊎_by (v.marks.added i h) (λ o. k.only i o)
      (λ n. called (k.only g (k.waiting g (waits_last old.waiting.items g))) (subst (λ z. Contains (text_calls z) i) body n.0));
  start = λ b. v.marks.kept program.init (k.start (let l = v.marks.same_length in omega arith));
  waiting = λ i h. ⊎_by (v.marks.more i h) (λ o. v.marks.kept i (k.waiting i (waits_more old.waiting.items g i o))) (λ n. n);
  closed = λ i j m c b. ⊎_by (v.marks.added i m)
      (λ o. ⊎_by (k.closed i j o c (let l = v.marks.same_length in omega arith))
      (λ w. ⊎_by (waits_from old.waiting.items g i w) (λ w'. inl (v.marks.still i w'))
      (λ same. inr (v.all j b (subst (λ z. Contains (text_calls z) j) (sym body) (subst (λ z. Contains (text_calls (subroutine_at program.subroutines z).body) j) same c)))))
      (λ m'. inr (v.marks.kept j m')))
      (λ n. inl n.1);
}

-- a subroutine that is not there calls nothing
over_none : (program : Program) (g : ℕ) → length program.subroutines ≤ g → text_calls (subroutine_at program.subroutines g).body ≡ []
over_none program g h = by_list program.subroutines g h
  where
    by_list : (xs : List Subroutine) (g : ℕ) → length xs ≤ g → text_calls (subroutine_at xs g).body ≡ []
    by_list [] g h = refl
    by_list (x ∷ xs) zero h = absurd (omega arith)
    by_list (x ∷ xs) (suc g) h = by_list xs g (omega arith)

pub looks_last : (program : Program) (marks : List Bool) → Looks program marks [] → AreLinked program marks
looks_last program marks k = record { same_length = k.same_length; only = k.only; all = all }
  where
    all : (g : ℕ) → g < length program.subroutines → IsLinked program g → is_marked marks g ≡ true
    all g b init = k.start (let l = k.same_length in omega arith)
    all g b (called {g = f} linked c) = ⊎_by (cases_lt f (length program.subroutines))
        (λ there. ⊎_by (k.closed f g (all f there linked) c (let l = k.same_length in omega arith)) (λ w. absurd (false_true refl w)) (λ m. m))
        (λ over. absurd (none_called g (subst (λ z. Contains z g) (over_none program f over) c)))
