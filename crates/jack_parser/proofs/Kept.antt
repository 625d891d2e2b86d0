-- Each class that is read keeps the limits.
use Rattle.std.proofs.Common.{◌≡◌, ℕ, ◌+◌, ◌≤◌, ◌<◌, Bool, true, false, List, [], ◌∷◌, length, Option, Some, None, Result, Ok, Err, refl, sym, ap, subst, arith, cond, ◌∙◌}
use Rattle.std.proofs.lemmas.Bool.{leb-false, ltb-false}
use Rattle.std.specs.Prelude.{nat_le, nat_lt}
use Rattle.scan_text.specs.declared.Place.{Place}
use Rattle.grammar.specs.declared.Fault.{Fault}
use Rattle.grammar.specs.declared.Fault.TheVariants.{Range}
use Rattle.grammar.specs.Rules as rules
use Rattle.grammar.specs.Rules.{Tree, Skip, Leaf, Node, Pair, Left, Right, Absent, Present, NoMore, tree_of_list, mark, word, seq, choice, option, repeat, name, within}
use Rattle.jack_tree.specs.declared.token.Keyword.{Keyword}
use Rattle.jack_tree.specs.declared.token.Keyword.TheVariants as keyword
use Rattle.jack_tree.specs.declared.token.Kind.{Kind}
use Rattle.jack_tree.specs.declared.token.Kind.TheVariants as kind
use Rattle.jack_tree.specs.Tokens.{Word}
use Rattle.jack_tree.specs.Syntax.{Name, Constant, Integer, String, True, False, Null, This, Expression, Terms, Operations, NoOperation, Then, Term, Value, Variable, Element, Called, Group, Unary, Call, Calls, Expressions, NoExpression, More, Statement, Let, If, IfElse, While, Do, Return, Statements, End, Next, ValueType, Names, Scope, Static, Field, ClassVariables, Locals, Parameter, Subroutine, Class}
use Rattle.jack_parser.specs.declared.counts.Counted.{Counted}
use Rattle.jack_parser.specs.declared.counts.Counted.TheVariants as counted
use Rattle.jack_parser.specs.declared.counts.Counts.{Counts}
use Rattle.jack_parser.specs.Grammar as grammar
use Rattle.jack_parser.specs.Grammar.{jack, Part, Said, Fixed, Placed, JackRule, expression, term, statement, rule_of, so_many, one_more, fresh, free, own, nested_rule, symbol_of, counted_name, next_name, names_rule, declaration, type_rule, class_variables, locals_rule, parameters, keyword_said, constant_by, string_size, without_quotes, check_constant}
use Rattle.jack_parser.specs.Limits.{IsShort, count_of, KeepsIn, OperationsKeepIn, TermKeepsIn, CallKeepsIn, ArgumentsKeepIn, ExpressionsKeepIn, IndexKeepsIn, ValueKeepsIn, PartsKeepIn, StatementsKeepIn, total, names_of, statics_by, fields_by, statics_in, fields_in, SubroutineKeeps, SubroutinesKeep, KeepsLimits}
use Rattle.jack_parser.proofs.PlainTrees.{constant_said, enclosed, expression_tree, operations_tree, term_tree, arguments_tree, further_tree, invoked_tree, index_tree, value_tree, statement_tree, statements_tree, next_name_tree, declared_tree, scoped, variables_tree, locals_tree, parameter_tree, next_parameter_tree, parameters_tree, subroutine_tree, whole_tree}
use Rattle.jack_parser.proofs.Reaching.{Reaches, Parts, IsCounted, parts}

-- This many more are counted, at most 16,384 where no more were before, and as deep.
pub record Gains (x : Counted) (s s' : Counts) (n : ℕ) : Type 0 where
  pub sum : so_many x s' ≡ so_many x s + n
  pub bound : so_many x s ≤ 16384 → so_many x s' ≤ 16384
  pub nesting : s'.nesting ≡ s.nesting

none : (x : Counted) (s s' : Counts) → s' ≡ s → Gains x s s' 0
none x s s' e =
    let same = ap (so_many x) e in
    record { sum = omega (arith, same); bound = λ h. omega (arith, same, h); nesting = ap (λ (t : Counts). t.nesting) e }

both_gain : (x : Counted) (s s1 s2 : Counts) (n m : ℕ) → Gains x s s1 n → Gains x s1 s2 m → Gains x s s2 (n + m)
both_gain x s s1 s2 n m p q = record { sum = omega (arith, p.sum, q.sum); bound = λ h. q.bound (p.bound h); nesting = q.nesting ∙ p.nesting }

as_many : (x : Counted) (s s' : Counts) (n m : ℕ) → n ≡ m → Gains x s s' n → Gains x s s' m
as_many x s s' n m e p = subst (λ (k : ℕ). Gains x s s' k) e p

same_nesting : (x : Counted) (s : Counts) → (one_more x s).nesting ≡ s.nesting
same_nesting counted.Static s = refl
same_nesting counted.Field s = refl
same_nesting counted.Parameter s = refl
same_nesting counted.Local s = refl
same_nesting counted.Argument s = refl

-- ---- one token

abbrev ok_or : Counts → Result Counts Fault → Counts
ok_or d (Ok s) = s
ok_or d (Err f) = d

ok_same : (s s' : Counts) → ◌≡◌ {A = Result Counts Fault} (Ok s) (Ok s') → s' ≡ s
ok_same s s' e = sym (ap (ok_or s) e)

counted_by : (x : Counted) (s s' : Counts) (at : Place) (t : Bool) → nat_le 16384 (so_many x s) ≡ t → cond t (Err (Range at 16385)) (Ok (one_more x s)) ≡ Ok s' → (so_many x s < 16384) × (s' ≡ one_more x s)
counted_by x s s' at true e h = absurd cc
counted_by x s s' at false e h = (leb-false 16384 (so_many x s) e, ok_same (one_more x s) s' h)

deeper_by : (s s' : Counts) (at : Place) (t : Bool) → nat_le 256 s.nesting ≡ t → cond t (Err (Range at 257)) (Ok (fresh (s.nesting + 1))) ≡ Ok s' → (s.nesting < 256) × (s' ≡ fresh (s.nesting + 1))
deeper_by s s' at true e h = absurd cc
deeper_by s s' at false e h = (leb-false 256 s.nesting e, ok_same (fresh (s.nesting + 1)) s' h)

checked_by : (s s' : Counts) (n : ℕ) (f : Fault) (t : Bool) → nat_lt 16384 n ≡ t → cond t (Err f) (Ok s) ≡ Ok s' → (n ≤ 16384) × (s' ≡ s)
checked_by s s' n f true e h = absurd cc
checked_by s s' n f false e h = (ltb-false 16384 n e, ok_same s s' h)

no_string : (k : Keyword) (at p : Place) (x : List ℕ) → keyword_said k at ≡ Placed kind.Text x p → ⊥
no_string keyword.This at p x e = absurd cc
no_string k at p x e = absurd cc

string_is : (k : Kind) (text x : List ℕ) (at p : Place) → constant_by k text at ≡ Placed kind.Text x p → string_size k text ≡ length x
string_is (kind.Keyword k) text x at p e = absurd (no_string k at p x e)
string_is (kind.Symbol b) text x at p e = absurd cc
string_is (kind.Integer n) text x at p e = absurd cc
string_is kind.Text text x at p e = let same : without_quotes text ≡ x = cc in ap length same
string_is kind.Identifier text x at p e = absurd cc

is_short : (c : Constant) (k : Kind) (text : List ℕ) (at : Place) → constant_by k text at ≡ constant_said c → string_size k text ≤ 16384 → IsShort c
is_short (Integer n) k text at e h = tt
is_short (String t) k text at e h = let same = string_is k text t.text at t.place e in omega (arith, same, h)
is_short True k text at e h = tt
is_short False k text at e h = tt
is_short Null k text at e h = tt
is_short (This p) k text at e h = tt

-- this many for each
abbrev times : {A : Type 0} → ℕ → List A → ℕ
times k [] = 0
times k (a ∷ xs) = k + times k xs

times_one : {A : Type 0} (xs : List A) → times 1 xs ≡ length xs
times_one [] = refl
times_one (a ∷ xs) = omega (arith, times_one xs)

times_none : {A : Type 0} (xs : List A) → times 0 xs ≡ 0
times_none [] = refl
times_none (a ∷ xs) = omega (arith, times_none xs)

module _ (at : Place) where
  abbrev pub Reach : Counts → JackRule → Tree Said → Counts → Type 0
  Reach s r x s' = Reaches Word Counts Part Said (jack at) s r x s'

  in_parts : (s : Counts) (r : JackRule) (x : Tree Said) (s' : Counts) → Reach s r x s' → Parts Word Counts Part Said (jack at) s r x s'
  in_parts s r x s' h = parts Word Counts Part Said (jack at) s r x s' h

  mark_same : (s s' : Counts) (v : Said) (is : Word → Bool) (x : Tree Said) → Reach s (mark v is) x s' → s' ≡ s
  mark_same s s' v is x h = in_parts s (mark v is) x s' h

  one_word : (s s' : Counts) (is : Word → Bool) (check : Counts → Word → Result Counts Fault) (value : Word → Said) (v : Said) → Reach s (word is check value) (Leaf v) s' → IsCounted Word Counts Part Said (jack at) s check value v s'
  one_word s s' is check value v h = in_parts s (word is check value) (Leaf v) s' h

  free_same : (s s' : Counts) (is : Word → Bool) (value : Word → Said) (v : Said) → Reach s (word is free value) (Leaf v) s' → s' ≡ s
  free_same s s' is value v h = ok_same s s' (one_word s s' is free value v h).counts

  pub two_parts : (s s' : Counts) (a b : JackRule) (x y : Tree Said) → Reach s (seq a b) (Pair x y) s' → (s1 : Counts) × Reach s a x s1 × Reach s1 b y s'
  two_parts s s' a b x y h = in_parts s (seq a b) (Pair x y) s' h

  -- nothing is counted before the part, or after it

  pub after_mark : (s s' : Counts) (v : Said) (is : Word → Bool) (b : JackRule) (x y : Tree Said) → Reach s (seq (mark v is) b) (Pair x y) s' → Reach s b y s'
  after_mark s s' v is b x y h =
      let p = two_parts s s' (mark v is) b x y h in
      subst (λ (t : Counts). Reach t b y s') (mark_same s p.0 v is x p.1) p.2

  pub after_free : (s s' : Counts) (is : Word → Bool) (value : Word → Said) (b : JackRule) (v : Said) (y : Tree Said) → Reach s (seq (word is free value) b) (Pair (Leaf v) y) s' → Reach s b y s'
  after_free s s' is value b v y h =
      let p = two_parts s s' (word is free value) b (Leaf v) y h in
      subst (λ (t : Counts). Reach t b y s') (free_same s p.0 is value v p.1) p.2

  before_mark : (s s' : Counts) (v : Said) (is : Word → Bool) (a : JackRule) (x y : Tree Said) → Reach s (seq a (mark v is)) (Pair x y) s' → Reach s a x s'
  before_mark s s' v is a x y h =
      let p = two_parts s s' a (mark v is) x y h in
      subst (λ (t : Counts). Reach s a x t) (sym (mark_same p.0 s' v is y p.2)) p.1

  before_free : (s s' : Counts) (v : Said) (is : Word → Bool) (value : Word → Said) (a : JackRule) (x : Tree Said) → Reach s (seq a (word is free value)) (Pair x (Leaf v)) s' → Reach s a x s'
  before_free s s' v is value a x h =
      let p = two_parts s s' a (word is free value) x (Leaf v) h in
      subst (λ (t : Counts). Reach s a x t) (sym (free_same p.0 s' is value v p.2)) p.1

  -- repetitions, options, choices, and a part with counts of its own

  no_more : (s s' : Counts) (a : JackRule) → Reach s (repeat a) NoMore s' → s' ≡ s
  no_more s s' a h = in_parts s (repeat a) NoMore s' h

  pub one_more_of : (s s' : Counts) (a : JackRule) (x y : Tree Said) → Reach s (repeat a) (rules.More x y) s' → (s1 : Counts) × Reach s a x s1 × Reach s1 (repeat a) y s'
  one_more_of s s' a x y h = in_parts s (repeat a) (rules.More x y) s' h

  is_absent : (s s' : Counts) (a : JackRule) → Reach s (option a) Absent s' → s' ≡ s
  is_absent s s' a h = in_parts s (option a) Absent s' h

  is_present : (s s' : Counts) (a : JackRule) (x : Tree Said) → Reach s (option a) (Present x) s' → Reach s a x s'
  is_present s s' a x h = in_parts s (option a) (Present x) s' h

  is_left : (s s' : Counts) (a b : JackRule) (x : Tree Said) → Reach s (choice a b) (Left x) s' → Reach s a x s'
  is_left s s' a b x h = in_parts s (choice a b) (Left x) s' h

  is_right : (s s' : Counts) (a b : JackRule) (x : Tree Said) → Reach s (choice a b) (Right x) s' → Reach s b x s'
  is_right s s' a b x h = in_parts s (choice a b) (Right x) s' h

  pub in_own : (s s' : Counts) (a : JackRule) (x : Tree Said) → Reach s (own a) (Node x) s' → (s1 : Counts) × Reach (fresh s.nesting) a x s1 × (s' ≡ s)
  in_own s s' a x h =
      let i = in_parts s (own a) (Node x) s' h in
      (i.outer, subst (λ (t : Counts). Reach t a x i.outer) (ok_same (fresh s.nesting) i.inner i.enters) i.reads, i.leaves)

  -- ---- levels

  in_name : (s s' : Counts) (n : Part) (x : Tree Said) → Reach s (name n) (Node x) s' → Reach s (rule_of n) x s'
  in_name s s' n x h = in_parts s (name n) (Node x) s' h

  in_nested : (s s' : Counts) (a : JackRule) (x : Tree Said) → Reach s (nested_rule a) (Node x) s' → (s.nesting < 256) × (s' ≡ s) × ((s1 : Counts) × Reach (fresh (s.nesting + 1)) a x s1)
  in_nested s s' a x h =
      let i = in_parts s (nested_rule a) (Node x) s' h in
      let d = deeper_by s i.inner i.at (nat_le 256 s.nesting) refl i.enters in
      (d.0, i.leaves, (i.outer, subst (λ (t : Counts). Reach t a x i.outer) d.1 i.reads))

  -- a part between two symbols
  in_signs : (s s' : Counts) (b c : ℕ) (a : JackRule) (x : Tree Said) → Reach s (seq (symbol_of b) (seq a (symbol_of c))) (enclosed x) s' → Reach s a x s'
  in_signs s s' b c a x h = before_mark s s' _ _ a x _ (after_mark s s' _ _ _ _ _ h)

  from : {r : JackRule} {x : Tree Said} {s' : Counts} (s1 s : Counts) → s1 ≡ s → Reach s1 r x s' → Reach s r x s'
  from {r} {x} {s'} s1 s e h = subst (λ (t : Counts). Reach t r x s') e h

  constant_kept : (c : Constant) (s s' : Counts) → Reach s grammar.constant (Leaf (constant_said c)) s' → IsShort c × (s' ≡ s)
  constant_kept c s s' h =
      let w = one_word s s' _ _ _ _ h in
      let k = checked_by s s' (string_size w.token.kind w.token.text) _ (nat_lt 16384 (string_size w.token.kind w.token.text)) refl w.counts in
      (is_short c w.token.kind w.token.text w.token.place (sym w.says) k.0, k.1)

  in_variable : (s s' : Counts) (x : Tree Said) → Reach s (name term) (Node (Right (Left x))) s' → Reach s grammar.variable x s'
  in_variable s s' x h = is_left s s' _ _ _ (is_right s s' _ _ _ (in_name s s' term _ h))

  abbrev KeepsAt : Expression → Type 0
  KeepsAt e = (s s' : Counts) → Reach s (name expression) (expression_tree e) s' → KeepsIn s.nesting e × (s' ≡ s)

  -- an expression in brackets
  level_by : (e : Expression) → KeepsAt e → (s s' : Counts) (b c : ℕ) → Reach s (seq (symbol_of b) (seq (nested_rule (name expression)) (symbol_of c))) (enclosed (Node (expression_tree e))) s' → ((s.nesting < 256) × KeepsIn (s.nesting + 1) e) × (s' ≡ s)
  level_by e k s s' b c h =
      let n = in_nested s s' _ _ (in_signs s s' b c _ _ h) in
      let a = k (fresh (s.nesting + 1)) n.2.0 n.2.1 in
      ((n.0, a.0), n.1)

  argument_by : (e : Expression) → KeepsAt e → (s s' : Counts) → Reach s grammar.argument (Node (expression_tree e)) s' → KeepsIn s.nesting e × Gains counted.Argument s s' 1
  argument_by e k s s' h =
      let i = in_parts s grammar.argument (Node (expression_tree e)) s' h in
      let c = counted_by counted.Argument s i.inner i.at (nat_le 16384 s.arguments) refl i.enters in
      let a = k i.inner i.outer i.reads in
      let same : s' ≡ one_more counted.Argument s = i.leaves ∙ a.1 ∙ c.1 in
      let sum : s'.arguments ≡ s.arguments + 1 = ap (λ (t : Counts). t.arguments) same in
      let deep : s'.nesting ≡ s.nesting = ap (λ (t : Counts). t.nesting) same in
      (subst (λ (t : Counts). KeepsIn t.nesting e) c.1 a.0, record { sum = sum; bound = λ b. omega (arith, sum, c.0); nesting = deep })

  mutual
    expression_kept : (e : Expression) (s s' : Counts) → Reach s (name expression) (expression_tree e) s' → KeepsIn s.nesting e × (s' ≡ s)
    expression_kept (Terms t os) s s' h =
        let p = two_parts s s' _ _ _ _ (in_name s s' expression _ h) in
        let a = term_kept t s p.0 p.1 in
        let b = operations_kept os s s' (from p.0 s a.1 p.2) in
        ((a.0, b.0), b.1)

    operations_kept : (os : Operations) (s s' : Counts) → Reach s (repeat grammar.operation) (operations_tree os) s' → OperationsKeepIn s.nesting os × (s' ≡ s)
    operations_kept NoOperation s s' h = (tt, no_more s s' _ h)
    operations_kept (Then o there t os) s s' h =
        let p = one_more_of s s' _ _ _ h in
        let a = term_kept t s p.0 (after_free s p.0 _ _ _ _ _ p.1) in
        let b = operations_kept os s s' (from p.0 s a.1 p.2) in
        ((a.0, b.0), b.1)

    term_kept : (t : Term) (s s' : Counts) → Reach s (name term) (term_tree t) s' → TermKeepsIn s.nesting t × (s' ≡ s)
    term_kept (Value c) s s' h = constant_kept c s s' (is_left s s' _ _ _ (in_name s s' term _ h))
    term_kept (Variable x) s s' h = (tt, is_absent s s' _ (after_free s s' _ _ _ _ _ (in_variable s s' _ h)))
    term_kept (Element x e) s s' h = level_by e (λ u u' k. expression_kept e u u' k) s s' 91 93 (is_left s s' _ _ _ (is_present s s' _ _ (after_free s s' _ _ _ _ _ (in_variable s s' _ h))))
    term_kept (Called (Calls None f es)) s s' h =
        arguments_kept es s s' (in_signs s s' 40 41 _ _ (is_left s s' _ _ _ (is_right s s' _ _ _ (is_present s s' _ _ (after_free s s' _ _ _ _ _ (in_variable s s' _ h))))))
    term_kept (Called (Calls (Some o) f es)) s s' h =
        arguments_kept es s s' (in_signs s s' 40 41 _ _ (after_free s s' _ _ _ _ _ (after_mark s s' _ _ _ _ _ (is_right s s' _ _ _ (is_right s s' _ _ _ (is_present s s' _ _ (after_free s s' _ _ _ _ _ (in_variable s s' _ h))))))))
    term_kept (Group e) s s' h = level_by e (λ u u' k. expression_kept e u u' k) s s' 40 41 (is_left s s' _ _ _ (is_right s s' _ _ _ (is_right s s' _ _ _ (in_name s s' term _ h))))
    term_kept (Unary o t) s s' h =
        let n = in_nested s s' _ _ (after_free s s' _ _ _ _ _ (is_right s s' _ _ _ (is_right s s' _ _ _ (is_right s s' _ _ _ (in_name s s' term _ h))))) in
        let a = term_kept t (fresh (s.nesting + 1)) n.2.0 n.2.1 in
        ((n.0, a.0), n.1)

    arguments_kept : (es : Expressions) (s s' : Counts) → Reach s grammar.arguments (arguments_tree es) s' → ArgumentsKeepIn s.nesting es × (s' ≡ s)
    arguments_kept NoExpression s s' h = (tt, is_absent s s' _ h)
    arguments_kept (More e es) s s' h =
        let n = in_nested s s' _ _ (is_present s s' _ _ h) in
        let p = two_parts (fresh (s.nesting + 1)) n.2.0 _ _ _ _ n.2.1 in
        let a = argument_by e (λ u u' k. expression_kept e u u' k) (fresh (s.nesting + 1)) p.0 p.1 in
        let b = further_kept es p.0 n.2.0 p.2 in
        let few : 1 + count_of es ≤ 16384 = omega (arith, a.1.sum, b.1.sum, b.1.bound (a.1.bound (omega arith))) in
        ((n.0, few, a.0, subst (λ (d : ℕ). ExpressionsKeepIn d es) a.1.nesting b.0), n.1)

    further_kept : (es : Expressions) (s s' : Counts) → Reach s (repeat grammar.next_argument) (further_tree es) s' → ExpressionsKeepIn s.nesting es × Gains counted.Argument s s' (count_of es)
    further_kept NoExpression s s' h = (tt, none counted.Argument s s' (no_more s s' _ h))
    further_kept (More e es) s s' h =
        let p = one_more_of s s' _ _ _ h in
        let a = argument_by e (λ u u' k. expression_kept e u u' k) s p.0 (after_mark s p.0 _ _ _ _ _ p.1) in
        let b = further_kept es p.0 s' p.2 in
        ((a.0, subst (λ (d : ℕ). ExpressionsKeepIn d es) a.1.nesting b.0), both_gain counted.Argument s p.0 s' 1 (count_of es) a.1 b.1)

  -- ---- statements

  index_kept : (i : Option Expression) (s s' : Counts) → Reach s (option grammar.subscript) (index_tree i) s' → IndexKeepsIn s.nesting i × (s' ≡ s)
  index_kept None s s' h = (tt, is_absent s s' _ h)
  index_kept (Some e) s s' h = level_by e (expression_kept e) s s' 91 93 (is_present s s' _ _ h)

  value_kept : (v : Option Expression) (s s' : Counts) → Reach s (option (name expression)) (value_tree v) s' → ValueKeepsIn s.nesting v
  value_kept None s s' h = tt
  value_kept (Some e) s s' h = (expression_kept e s s' (is_present s s' _ _ h)).0

  call_kept : (c : Call) (s s' : Counts) → Reach s grammar.invocation_rule (invoked_tree c) s' → CallKeepsIn s.nesting c
  call_kept (Calls None f es) s s' h = (arguments_kept es s s' (in_signs s s' 40 41 _ _ (is_left s s' _ _ _ h))).0
  call_kept (Calls (Some o) f es) s s' h = (arguments_kept es s s' (in_signs s s' 40 41 _ _ (after_free s s' _ _ _ _ _ (after_mark s s' _ _ _ _ _ (is_right s s' _ _ _ h))))).0

  mutual
    parts_kept : (t : Statement) (s s' : Counts) → Reach s grammar.any_statement (statement_tree t) s' → PartsKeepIn s.nesting t
    parts_kept (Let there x i e) s s' h =
        let p = two_parts s s' _ _ _ _ (after_free s s' _ _ _ _ _ (after_free s s' _ _ _ _ _ (is_left s s' _ _ _ h))) in
        let a = index_kept i s p.0 p.1 in
        (a.0, (expression_kept e s s' (in_signs s s' 61 59 _ _ (from p.0 s a.1 p.2))).0)
    parts_kept (If there e body) s s' h =
        let p = two_parts s s' _ _ _ _ (after_free s s' _ _ _ _ _ (is_left s s' _ _ _ (is_right s s' _ _ _ h))) in
        let a = level_by e (expression_kept e) s p.0 40 41 p.1 in
        let q = two_parts s s' _ _ _ _ (from p.0 s a.1 p.2) in
        (a.0.0, a.0.1, (statements_kept body s q.0 (in_signs s q.0 123 125 _ _ q.1)).0)
    parts_kept (IfElse there e body other) s s' h =
        let p = two_parts s s' _ _ _ _ (after_free s s' _ _ _ _ _ (is_left s s' _ _ _ (is_right s s' _ _ _ h))) in
        let a = level_by e (expression_kept e) s p.0 40 41 p.1 in
        let q = two_parts s s' _ _ _ _ (from p.0 s a.1 p.2) in
        let b = statements_kept body s q.0 (in_signs s q.0 123 125 _ _ q.1) in
        let c = statements_kept other s s' (in_signs s s' 123 125 _ _ (after_mark s s' _ _ _ _ _ (is_present s s' _ _ (from q.0 s b.1 q.2)))) in
        (a.0.0, a.0.1, b.0, c.0)
    parts_kept (While there e body) s s' h =
        let p = two_parts s s' _ _ _ _ (after_free s s' _ _ _ _ _ (is_left s s' _ _ _ (is_right s s' _ _ _ (is_right s s' _ _ _ h)))) in
        let a = level_by e (expression_kept e) s p.0 40 41 p.1 in
        (a.0.0, a.0.1, (statements_kept body s s' (in_signs s s' 123 125 _ _ (from p.0 s a.1 p.2))).0)
    parts_kept (Do there c) s s' h = call_kept c s s' (before_mark s s' _ _ _ _ _ (after_free s s' _ _ _ _ _ (after_free s s' _ _ _ _ _ (is_left s s' _ _ _ (is_right s s' _ _ _ (is_right s s' _ _ _ (is_right s s' _ _ _ h)))))))
    parts_kept (Return there v) s s' h = value_kept v s s' (before_mark s s' _ _ _ _ _ (after_free s s' _ _ _ _ _ (is_right s s' _ _ _ (is_right s s' _ _ _ (is_right s s' _ _ _ (is_right s s' _ _ _ h))))))

    statements_kept : (ts : Statements) (s s' : Counts) → Reach s (repeat (name statement)) (statements_tree ts) s' → StatementsKeepIn s.nesting ts × (s' ≡ s)
    statements_kept End s s' h = (tt, no_more s s' _ h)
    statements_kept (Next t ts) s s' h =
        let p = one_more_of s s' _ _ _ h in
        let n = in_nested s p.0 _ _ (in_name s p.0 statement _ p.1) in
        let a = parts_kept t (fresh (s.nesting + 1)) n.2.0 n.2.1 in
        let b = statements_kept ts s s' (from p.0 s n.1 p.2) in
        ((n.0, a, b.0), b.1)

  -- ---- declarations

  -- Names of the sort x, each of which makes k more of the sort y.
  module _ (x y : Counted) (k : ℕ) (one : (s : Counts) → so_many y (one_more x s) ≡ so_many y s + k) (fits : (s : Counts) → so_many x s < 16384 → so_many y s ≤ 16384 → so_many y (one_more x s) ≤ 16384) where
    counted_gain : (s s' : Counts) (v : Said) → Reach s (counted_name x) (Leaf v) s' → Gains y s s' k
    counted_gain s s' v h =
        let w = one_word s s' _ _ _ v h in
        let c = counted_by x s s' _ (nat_le 16384 (so_many x s)) refl w.counts in
        let same : so_many y s' ≡ so_many y (one_more x s) = ap (so_many y) c.1 in
        record { sum = same ∙ one s; bound = λ b. omega (arith, same, fits s c.0 b); nesting = ap (λ (t : Counts). t.nesting) c.1 ∙ same_nesting x s }

    more_gain : (ns : List Name) (s s' : Counts) → Reach s (repeat (next_name x)) (tree_of_list next_name_tree ns NoMore) s' → Gains y s s' (times k ns)
    more_gain [] s s' h = none y s s' (no_more s s' _ h)
    more_gain (n ∷ ns) s s' h =
        let p = one_more_of s s' _ _ _ h in
        both_gain y s p.0 s' k (times k ns) (counted_gain s p.0 _ (after_mark s p.0 _ _ _ _ _ p.1)) (more_gain ns p.0 s' p.2)

    declared_gain : (key : Keyword) (t : ValueType) (ns : Names) (s s' : Counts) → Reach s (declaration key x) (declared_tree t ns) s' → Gains y s s' (k + times k ns.more)
    declared_gain key t ns s s' h =
        let p = two_parts s s' _ _ _ _ (before_mark s s' _ _ _ _ _ (after_free s s' _ _ _ _ _ (after_mark s s' _ _ _ _ _ h))) in
        both_gain y s p.0 s' k (times k ns.more) (counted_gain s p.0 _ p.1) (more_gain ns.more p.0 s' p.2)

    abbrev a_parameter : JackRule
    a_parameter = seq type_rule (counted_name x)

    one_parameter : (p : Parameter) (s s' : Counts) → Reach s a_parameter (parameter_tree p) s' → Gains y s s' k
    one_parameter p s s' h = counted_gain s s' _ (after_free s s' _ _ _ _ _ h)

    more_parameters : (ps : List Parameter) (s s' : Counts) → Reach s (repeat (seq (symbol_of 44) a_parameter)) (tree_of_list next_parameter_tree ps NoMore) s' → Gains y s s' (times k ps)
    more_parameters [] s s' h = none y s s' (no_more s s' _ h)
    more_parameters (p ∷ ps) s s' h =
        let q = one_more_of s s' _ _ _ h in
        both_gain y s q.0 s' k (times k ps) (one_parameter p s q.0 (after_mark s q.0 _ _ _ _ _ q.1)) (more_parameters ps q.0 s' q.2)

    parameters_gain : (ps : List Parameter) (s s' : Counts) → Reach s (option (seq a_parameter (repeat (seq (symbol_of 44) a_parameter)))) (parameters_tree ps) s' → Gains y s s' (times k ps)
    parameters_gain [] s s' h = none y s s' (is_absent s s' _ h)
    parameters_gain (p ∷ ps) s s' h =
        let q = two_parts s s' _ _ _ _ (is_present s s' _ _ h) in
        both_gain y s q.0 s' k (times k ps) (one_parameter p s q.0 q.1) (more_parameters ps q.0 s' q.2)

  stays : (n m : ℕ) → n < 16384 → m ≤ 16384 → m ≤ 16384
  stays n m h b = b

  grows : (n : ℕ) → n < 16384 → n ≤ 16384 → n + 1 ≤ 16384
  grows n h b = omega (arith, h)

  all_of : (ns : Names) → 1 + times 1 ns.more ≡ names_of ns
  all_of ns = ap (λ (n : ℕ). 1 + n) (times_one ns.more)

  none_of : (ns : Names) → 0 + times 0 ns.more ≡ 0
  none_of ns = ap (λ (n : ℕ). 0 + n) (times_none ns.more)

  fields_gain : (sc : Scope) (t : ValueType) (ns : Names) (s s' : Counts) → Reach s class_variables (scoped sc (declared_tree t ns)) s' → Gains counted.Field s s' (fields_by sc (names_of ns))
  fields_gain Static t ns s s' h =
      as_many counted.Field s s' _ _ (none_of ns)
      (declared_gain counted.Static counted.Field 0 (λ u. omega arith) (λ u. stays u.statics u.fields) _ t ns s s' (is_left s s' _ _ _ h))
  fields_gain Field t ns s s' h =
      as_many counted.Field s s' _ _ (all_of ns)
      (declared_gain counted.Field counted.Field 1 (λ u. refl) (λ u. grows u.fields) _ t ns s s' (is_right s s' _ _ _ h))

  all_fields : (vs : List ClassVariables) (s s' : Counts) → Reach s (repeat class_variables) (tree_of_list variables_tree vs NoMore) s' → Gains counted.Field s s' (total fields_in vs)
  all_fields [] s s' h = none counted.Field s s' (no_more s s' _ h)
  all_fields (v ∷ vs) s s' h =
      let q = one_more_of s s' _ _ _ h in
      both_gain counted.Field s q.0 s' (fields_in v) (total fields_in vs) (fields_gain v.scope v.type v.names s q.0 q.1) (all_fields vs q.0 s' q.2)

  statics_gain : (sc : Scope) (t : ValueType) (ns : Names) (s s' : Counts) → Reach s class_variables (scoped sc (declared_tree t ns)) s' → Gains counted.Static s s' (statics_by sc (names_of ns))
  statics_gain Static t ns s s' h =
      as_many counted.Static s s' _ _ (all_of ns)
      (declared_gain counted.Static counted.Static 1 (λ u. refl) (λ u. grows u.statics) _ t ns s s' (is_left s s' _ _ _ h))
  statics_gain Field t ns s s' h =
      as_many counted.Static s s' _ _ (none_of ns)
      (declared_gain counted.Field counted.Static 0 (λ u. omega arith) (λ u. stays u.fields u.statics) _ t ns s s' (is_right s s' _ _ _ h))

  all_statics : (vs : List ClassVariables) (s s' : Counts) → Reach s (repeat class_variables) (tree_of_list variables_tree vs NoMore) s' → Gains counted.Static s s' (total statics_in vs)
  all_statics [] s s' h = none counted.Static s s' (no_more s s' _ h)
  all_statics (v ∷ vs) s s' h =
      let q = one_more_of s s' _ _ _ h in
      both_gain counted.Static s q.0 s' (statics_in v) (total statics_in vs) (statics_gain v.scope v.type v.names s q.0 q.1) (all_statics vs q.0 s' q.2)

  one_locals : (v : Locals) (s s' : Counts) → Reach s locals_rule (locals_tree v) s' → Gains counted.Local s s' (names_of v.names)
  one_locals v s s' h =
      as_many counted.Local s s' _ _ (all_of v.names)
      (declared_gain counted.Local counted.Local 1 (λ u. refl) (λ u. grows u.locals) _ v.type v.names s s' h)

  all_locals : (vs : List Locals) (s s' : Counts) → Reach s (repeat locals_rule) (tree_of_list locals_tree vs NoMore) s' → Gains counted.Local s s' (total (λ v. names_of v.names) vs)
  all_locals [] s s' h = none counted.Local s s' (no_more s s' _ h)
  all_locals (v ∷ vs) s s' h =
      let q = one_more_of s s' _ _ _ h in
      both_gain counted.Local s q.0 s' (names_of v.names) (total (λ w. names_of w.names) vs) (one_locals v s q.0 q.1) (all_locals vs q.0 s' q.2)

  all_parameters : (ps : List Parameter) (s s' : Counts) → Reach s parameters (parameters_tree ps) s' → Gains counted.Parameter s s' (length ps)
  all_parameters ps s s' h =
      as_many counted.Parameter s s' _ _ (times_one ps) (parameters_gain counted.Parameter counted.Parameter 1 (λ u. refl) (λ u. grows u.parameters) ps s s' h)

  -- no parameter is a local
  no_locals : (ps : List Parameter) (s s' : Counts) → Reach s parameters (parameters_tree ps) s' → Gains counted.Local s s' 0
  no_locals ps s s' h =
      as_many counted.Local s s' _ _ (times_none ps) (parameters_gain counted.Parameter counted.Local 0 (λ u. omega arith) (λ u. stays u.parameters u.locals) ps s s' h)

  subroutine_kept : (t : Subroutine) (s s' : Counts) → s.nesting ≡ 0 → Reach s grammar.subroutine (subroutine_tree t) s' → SubroutineKeeps t × (s' ≡ s)
  subroutine_kept t s s' level h =
      let begun = fresh s.nesting in
      let inside = in_own s s' _ _ h in
      let declared = after_mark begun inside.0 _ _ _ _ _ (after_free begun inside.0 _ _ _ _ _ (after_free begun inside.0 _ _ _ _ _ (after_free begun inside.0 _ _ _ _ _ inside.1))) in
      let p = two_parts begun inside.0 _ _ _ _ declared in
      let q = two_parts p.0 inside.0 _ _ _ _ (after_mark p.0 inside.0 _ _ _ _ _ (after_mark p.0 inside.0 _ _ _ _ _ p.2)) in
      let ps = all_parameters t.parameters begun p.0 p.1 in
      let free = no_locals t.parameters begun p.0 p.1 in
      let ls = all_locals t.locals p.0 q.0 q.1 in
      let ss = statements_kept t.statements q.0 inside.0 (before_free q.0 inside.0 _ _ _ _ _ q.2) in
      let parameters : length t.parameters ≤ 16384 = omega (arith, ps.sum, ps.bound (omega arith)) in
      let locals : total (λ v. names_of v.names) t.locals ≤ 16384 = omega (arith, ls.sum, ls.bound (free.bound (omega arith))) in
      (record { parameters = parameters; locals = locals; statements = subst (λ (n : ℕ). StatementsKeepIn n t.statements) (ls.nesting ∙ ps.nesting ∙ level) ss.0 }, inside.2)

  subroutines_kept : (ts : List Subroutine) (s s' : Counts) → s.nesting ≡ 0 → Reach s (repeat grammar.subroutine) (tree_of_list subroutine_tree ts NoMore) s' → SubroutinesKeep ts
  subroutines_kept [] s s' level h = tt
  subroutines_kept (t ∷ ts) s s' level h =
      let q = one_more_of s s' _ _ _ h in
      let a = subroutine_kept t s q.0 level q.1 in
      (a.0, subroutines_kept ts s s' level (from q.0 s a.1 q.2))

  pub class_kept : (c : Class) (s' : Counts) → Reach (fresh 0) grammar.whole (whole_tree c) s' → KeepsLimits c
  class_kept c s' h =
      let w = two_parts (fresh 0) s' _ _ _ _ h in
      let declared = after_mark (fresh 0) w.0 _ _ _ _ _ (after_free (fresh 0) w.0 _ _ _ _ _ (after_mark (fresh 0) w.0 _ _ _ _ _ w.1)) in
      let p = two_parts (fresh 0) w.0 _ _ _ _ declared in
      let fs = all_fields c.variables (fresh 0) p.0 p.1 in
      let ss = all_statics c.variables (fresh 0) p.0 p.1 in
      let fields : total fields_in c.variables ≤ 16384 = omega (arith, fs.sum, fs.bound (omega arith)) in
      let statics : total statics_in c.variables ≤ 16384 = omega (arith, ss.sum, ss.bound (omega arith)) in
      record { statics = statics; fields = fields; subroutines = subroutines_kept c.subroutines p.0 w.0 fs.nesting (before_mark p.0 w.0 _ _ _ _ _ p.2) }
