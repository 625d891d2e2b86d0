-- The programs of the tests call subroutines that are there.
use Rattle.std.proofs.Common.{◌≡◌, ◌<◌, ◌≤◌, ◌+◌, ℕ, zero, suc, List, [], ◌∷◌, ◌++◌, Some, inl, inr, length, take, drop, reverse, map, refl, sym, ap, subst, ◌∙◌, arith}
use Rattle.std.specs.List.{Contains}
use Rattle.std.proofs.lemmas.List.{reverse-append, take-append-drop, length-append, length-map}
use Rattle.std.proofs.lemmas.List.Elements.{Contains-append_cases, Contains-append_left, Contains-append_right, Contains-push_cases}
use Rattle.jack_meaning.specs.Text.{Expression}
use Rattle.jack_meaning.specs.Meaning.{subroutine_at}
use Rattle.jack_meaning.specs.Linked.{calls, calls_in, statement_calls, text_calls, IsLinked, init, called}
use Rattle.jack_core.specs.declared.tree.Part.{Part}
use Rattle.jack_core.specs.declared.tree.Part.TheVariants as part
use Rattle.jack_core.specs.declared.tree.Expression.{Expression as TheExpression}
use Rattle.jack_core.specs.declared.program.Statement.{Statement}
use Rattle.jack_core.specs.declared.program.Statement.TheVariants as statement
use Rattle.jack_core.specs.declared.program.Subroutine.{Subroutine}
use Rattle.jack_core.specs.declared.program.Core.{Core}
use Rattle.jack_core.specs.Heights.{takes, height}
use Rattle.jack_core.specs.Reading.{the_expression, arguments_of, put, build_expressions}
use Rattle.jack_core.specs.Texts.{the_statement, the_block, the_subroutine, the_program}
use Rattle.jack_core.proofs.Postfix.{enough, behind, put_length, spells}
use Rattle.jack_core.proofs.Blocks.{while_reads}
use Rattle.std.specs.declared.vec.Vec.{Vec}
use Rattle.std.specs.declared.alloc.Global.{Global}
use Rattle.jack_tests.specs.Inner.Called.{OfFour, IsOfFour, AreOfFour, CallFour, AreSo}

pub none_four : OfFour []
none_four g c = absurd (let k = c.1 in omega arith)

pub both_four : (xs ys : List ℕ) → OfFour xs → OfFour ys → OfFour (xs ++ ys)
both_four xs ys a b g c = elim (Contains-append_cases xs ys g c) [ inl h ↦ a g h | inr h ↦ b g h ]

first_four : (xs ys : List ℕ) → OfFour (xs ++ ys) → OfFour xs
first_four xs ys h g c = h g (Contains-append_left xs ys g c)

second_four : (xs ys : List ℕ) → OfFour (xs ++ ys) → OfFour ys
second_four xs ys h g c = h g (Contains-append_right xs ys g c)

one_more : (xs : List ℕ) (h : ℕ) → OfFour xs → h < 4 → OfFour (xs ++ h ∷ [])
one_more xs h a k g c = elim (Contains-push_cases xs h g c) [ inl i ↦ a g i | inr e ↦ subst (λ z. z < 4) e k ]

pub push_four : (ps : List Part) (p : Part) → AreOfFour ps → IsOfFour p → AreOfFour (ps ++ p ∷ [])
push_four [] p h k = (k, tt)
push_four (q ∷ ps) p h k = (h.0, push_four ps p h.1 k)

-- each of these expressions calls the four alone
abbrev All : List Expression → Type 0
All [] = Unit {0}
All (e ∷ es) = OfFour (calls e) × All es

all_front : (xs ys : List Expression) → All (xs ++ ys) → All xs
all_front [] ys h = tt
all_front (x ∷ xs) ys h = (h.0, all_front xs ys h.1)

all_back : (xs ys : List Expression) → All (xs ++ ys) → All ys
all_back [] ys h = h
all_back (x ∷ xs) ys h = all_back xs ys h.1

all_both : (xs ys : List Expression) → All xs → All ys → All (xs ++ ys)
all_both [] ys h k = k
all_both (x ∷ xs) ys h k = (h.0, all_both xs ys h.1 k)

all_reversed : (xs : List Expression) → All xs → All (reverse xs)
all_reversed [] h = tt
all_reversed (x ∷ xs) h = subst All (sym (reverse-append (x ∷ []) xs)) (all_both (reverse xs) (x ∷ []) (all_reversed xs h.1) (h.0, tt))

arguments_four : (es : List Expression) → All es → OfFour (calls_in (arguments_of es))
arguments_four [] h = none_four
arguments_four (e ∷ es) h = both_four (calls e) (calls_in (arguments_of es)) h.0 (arguments_four es h.1)

put_four : (p : Part) (es : List Expression) → takes p ≤ length es → IsOfFour p → All es → All (put p es)
put_four (part.Literal w) es le k h = (none_four, h)
put_four (part.Argument n) es le k h = (none_four, h)
put_four (part.Local n) es le k h = (none_four, h)
put_four (part.Static n) es le k h = (none_four, h)
put_four part.This es le k h = (none_four, h)
put_four (part.Field n) es le k h = (none_four, h)
put_four (part.Unary o) [] le k h = absurd (omega arith)
put_four (part.Unary o) (a ∷ es) le k h = h
put_four (part.Binary o) [] le k h = absurd (omega arith)
put_four (part.Binary o) (b ∷ []) le k h = absurd (omega arith)
put_four (part.Binary o) (b ∷ a ∷ es) le k h = (both_four (calls a) (calls b) h.1.0 h.0, h.1.1)
put_four part.Load [] le k h = absurd (omega arith)
put_four part.Load (i ∷ []) le k h = absurd (omega arith)
put_four part.Load (i ∷ a ∷ es) le k h = (both_four (calls a) (calls i) h.1.0 h.0, h.1.1)
put_four (part.Call n g) es le k h =
    let split = subst All (sym (take-append-drop n es)) h in (
      one_more (calls_in (arguments_of (reverse (take n es)))) g (arguments_four (reverse (take n es)) (all_reversed (take n es) (all_front (take n es) (drop n es) split))) k,
      all_back (take n es) (drop n es) split,
    )

built_four : (k : ℕ) (es : List Expression) (ps : List Part) → height (length es) ps ≡ Some k → AreOfFour ps → All es → All (build_expressions es ps)
built_four k es [] e c h = h
built_four k es (p ∷ ps) e c h =
    let le = enough (length es) k p ps e in
    built_four k (put p es) ps (ap (λ z. height z ps) (put_length p es le) ∙ behind (length es) k p ps e) c.1 (put_four p es le c.0 h)

pub expression_four : (e : TheExpression) → AreOfFour e.parts → OfFour (calls (the_expression e))
expression_four e c = (subst All (spells [] e) (built_four 1 [] e.parts e.one c tt)).0

-- a text and a statement after it
pub block_four : (ss : List Statement) (s : Statement) → OfFour (text_calls (the_block ss)) → OfFour (statement_calls (the_statement s)) → OfFour (text_calls (the_block (ss ++ s ∷ [])))
block_four [] s h k = both_four (statement_calls (the_statement s)) [] k none_four
block_four (t ∷ ss) s h k =
    let first = statement_calls (the_statement t) in
    let rest = text_calls (the_block ss) in
    both_four (statement_calls (the_statement t)) (text_calls (the_block (ss ++ s ∷ []))) (first_four (statement_calls (the_statement t)) (text_calls (the_block ss)) h)
    (block_four ss s (second_four (statement_calls (the_statement t)) (text_calls (the_block ss)) h) k)

pub while_four : (n : ℕ) (c : TheExpression) (s : Vec Statement Global) → OfFour (calls (the_expression c)) → OfFour (text_calls (the_block s.items)) → OfFour (statement_calls (the_statement (statement.While n c s)))
while_four n c s h k = subst (λ z. OfFour (statement_calls z)) (sym (while_reads n c s)) (both_four (calls (the_expression c)) (text_calls (the_block s.items)) h k)

-- a vector with one more statement, or with one more loop
pub pushed_four : (ss ss' : List Statement) (s : Statement) → ss' ≡ ss ++ s ∷ [] → OfFour (text_calls (the_block ss)) → OfFour (statement_calls (the_statement s)) → OfFour (text_calls (the_block ss'))
pushed_four ss ss' s e h k = subst (λ z. OfFour (text_calls (the_block z))) (sym e) (block_four ss s h k)

pub turned_four : (ss ss' : List Statement) (n : ℕ) (c : TheExpression) (s : Vec Statement Global) → ss' ≡ ss ++ statement.While n c s ∷ [] → OfFour (text_calls (the_block ss)) → OfFour (calls (the_expression c)) → OfFour (text_calls (the_block s.items))
    → OfFour (text_calls (the_block ss'))
turned_four ss ss' n c s e h k l = pushed_four ss ss' (statement.While n c s) e h (while_four n c s k l)

call_push : (ss : List Subroutine) (s : Subroutine) → CallFour ss → OfFour (text_calls (the_block s.body.items)) → CallFour (ss ++ s ∷ [])
call_push [] s h k = (k, tt)
call_push (t ∷ ss) s h k = (h.0, call_push ss s h.1 k)

pub so_more : (n : ℕ) (ss : List Subroutine) (s : Subroutine) → AreSo n ss → OfFour (text_calls (the_block s.body.items)) → AreSo (n + 1) (ss ++ s ∷ [])
so_more n ss s h k = record { count = length-append ss (s ∷ []) ∙ ap (λ z. z + 1) h.count; each = call_push ss s h.each k }

body_at : (ss : List Subroutine) (g : ℕ) → g < length ss → CallFour ss → OfFour (text_calls (subroutine_at (map the_subroutine ss) g).body)
body_at [] g b h = absurd (omega arith)
body_at (s ∷ ss) zero b h = h.0
body_at (s ∷ ss) (suc g) b h = body_at ss g (omega arith) h.1

linked_four : (core : Core) → AreSo 4 core.subroutines.items → core.init ≡ 1 → (g : ℕ) → IsLinked (the_program core) g → g < 4
linked_four core are first g init = omega (arith, first)
linked_four core are first g (called {g = f} l c) =
    let below = linked_four core are first f l in
    body_at core.subroutines.items f (let n = are.count in omega arith) are.each g c

pub are_there : (core : Core) → AreSo 4 core.subroutines.items → core.init ≡ 1 → (g : ℕ) → IsLinked (the_program core) g → g < length (the_program core).subroutines
are_there core are first g l =
    let below = linked_four core are first g l in
    let n = are.count in
    let m = length-map core.subroutines.items the_subroutine in
    omega arith
