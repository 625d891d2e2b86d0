-- Tokens that say what an expression is spelled by are read as the expression.
use Rattle.std.proofs.Common.{◌≡◌, ℕ, ◌+◌, ◌<◌, ◌≤◌, Bool, true, false, List, [], ◌∷◌, ◌++◌, length, Some, None, Ok, Err, refl, sym, ap, subst, ◌∙◌, cond, arith}
use Rattle.std.proofs.lemmas.Bool.{le-ltb}
use Rattle.std.specs.Prelude.{min}
use Rattle.scan_text.specs.declared.Place.{Place}
use Rattle.grammar.specs.declared.Fault.TheVariants.{Range}
use Rattle.grammar.specs.Rules as rules
use Rattle.grammar.specs.Rules.{seq, option, repeat, name, Tree, Skip, Leaf, Node, Pair, Left, Right, Absent, Present, NoMore, begins, next, enters, here, both, left, right, passed, taken, ended, again, named, inside}
use Rattle.jack_tree.specs.declared.token.Keyword.TheVariants as keyword
use Rattle.jack_tree.specs.declared.token.Kind.{Kind}
use Rattle.jack_tree.specs.declared.token.Kind.TheVariants as kind
use Rattle.jack_tree.specs.Tokens.{Word}
use Rattle.jack_tree.specs.Syntax.{Name, Operator, Plus, Minus, Times, Divide, And, Or, Less, Greater, Equal, Sign, Negate, Not, ShiftLeft, ShiftRight, Constant, Integer, String, True, False, Null, This, Expression, Terms, Operations, NoOperation, Then, Term, Value, Variable, Element, Called, Group, Unary, Calls, Expressions, NoExpression, More}
use Rattle.jack_parser.specs.declared.counts.Counted.TheVariants as counted
use Rattle.jack_parser.specs.declared.counts.Counts.{Counts}
use Rattle.jack_parser.specs.declared.words.Start.TheVariants as starts
use Rattle.jack_parser.specs.Grammar as grammar
use Rattle.jack_parser.specs.Grammar.{jack, Said, Fixed, Placed, JackRule, expression, term, opens, placed_word, fixed_word, operates, negates, is_identifier, is_symbol, symbol_of, is_constant, constant_by, constant_said, check_constant, string_size, without_quotes, one_more, fresh, nested_rule, term_opens, free}
use Rattle.jack_parser.specs.Inner.Starts.{start_by, start_of}
use Rattle.jack_parser.specs.Spelling.{Tokens, Says, text_by, operator_tokens, sign_tokens, constant_tokens, expression_tokens, operations_tokens, term_tokens, arguments_tokens, further_tokens}
use Rattle.jack_parser.specs.Limits.{IsShort, count_of, KeepsIn, OperationsKeepIn, TermKeepsIn, ArgumentsKeepIn, ExpressionsKeepIn}
use Rattle.jack_parser.proofs.Terms.{constant_term, variable_term, group_term, negation_term}
use Rattle.jack_parser.proofs.PlainTrees as trees
use Rattle.jack_parser.proofs.PlainTrees.{name_said, operator_said, sign_said, enclosed, expression_tree, operations_tree, term_tree, arguments_tree, further_tree, front_said, invoked_tree}
use Rattle.jack_parser.proofs.Building.{Front, said_kind, kind_said, front_split, next_by, next_same, count_is, R, rest_is, front_is, word_as, symbol_then, symbol_last, word_then, nested_reads, name_value, placed_value, fixed_value}

abbrev pub sign_of : ℕ → Said
sign_of b = Fixed (kind.Symbol b)

abbrev pub in_signs : ℕ → ℕ → Tokens → Tokens
in_signs b c l = sign_of b ∷ (l ++ sign_of c ∷ [])

-- what makes a name more than a variable
abbrev pub goes_on : Word → Bool
goes_on t = begins opens (rules.choice grammar.subscript grammar.invocation_rule) t

-- neither an operator follows nor what goes on after a name
abbrev pub Stop : List Word → Type 0
Stop us = (next operates us ≡ false) × (next goes_on us ≡ false)

pub stop_by : (v : Said) (vs : Tokens) (ts us : List Word) → Front (v ∷ vs) ts us → ((t : Word) → (operates (record t { kind = said_kind v }) ≡ false) × (goes_on (record t { kind = said_kind v }) ≡ false)) → Stop ts
stop_by v vs ts us h e = (next_by operates false v vs ts us h (λ t. (e t).0), next_by goes_on false v vs ts us h (λ t. (e t).1))

operator_front : (o : Operator) (at : Place) (vs : Tokens) (ts us : List Word) → Front (operator_tokens o at ++ vs) ts us → Front (operator_said o at ∷ vs) ts us
operator_front Plus at vs ts us h = h
operator_front Minus at vs ts us h = h
operator_front Times at vs ts us h = h
operator_front Divide at vs ts us h = h
operator_front And at vs ts us h = h
operator_front Or at vs ts us h = h
operator_front Less at vs ts us h = h
operator_front Greater at vs ts us h = h
operator_front Equal at vs ts us h = h

operator_operates : (o : Operator) (at : Place) (t : Word) → operates (record t { kind = said_kind (operator_said o at) }) ≡ true
operator_operates Plus at t = refl
operator_operates Minus at t = refl
operator_operates Times at t = refl
operator_operates Divide at t = refl
operator_operates And at t = refl
operator_operates Or at t = refl
operator_operates Less at t = refl
operator_operates Greater at t = refl
operator_operates Equal at t = refl

operator_ends : (o : Operator) (at : Place) (t : Word) → goes_on (record t { kind = said_kind (operator_said o at) }) ≡ false
operator_ends Plus at t = refl
operator_ends Minus at t = refl
operator_ends Times at t = refl
operator_ends Divide at t = refl
operator_ends And at t = refl
operator_ends Or at t = refl
operator_ends Less at t = refl
operator_ends Greater at t = refl
operator_ends Equal at t = refl

sign_front : (s : Sign) (vs : Tokens) (ts us : List Word) → Front (sign_tokens s ++ vs) ts us → Front (sign_said s ∷ vs) ts us
sign_front Negate vs ts us h = h
sign_front Not vs ts us h = h
sign_front ShiftLeft vs ts us h = h
sign_front ShiftRight vs ts us h = h

sign_negates : (s : Sign) (t : Word) → negates (record t { kind = said_kind (sign_said s) }) ≡ true
sign_negates Negate t = refl
sign_negates Not t = refl
sign_negates ShiftLeft t = refl
sign_negates ShiftRight t = refl

sign_starts : (s : Sign) → start_by (said_kind (sign_said s)) ≡ starts.Negation
sign_starts Negate = refl
sign_starts Not = refl
sign_starts ShiftLeft = refl
sign_starts ShiftRight = refl

constant_front : (c : Constant) (ts us : List Word) → Front (constant_tokens c) ts us → Front (trees.constant_said c ∷ []) ts us
constant_front (Integer n) ts us h = h
constant_front (String x) ts us h = h
constant_front True ts us h = h
constant_front False ts us h = h
constant_front Null ts us h = h
constant_front (This at) ts us h = h

constant_starts : (c : Constant) → start_by (said_kind (trees.constant_said c)) ≡ starts.Constant
constant_starts (Integer n) = refl
constant_starts (String x) = refl
constant_starts True = refl
constant_starts False = refl
constant_starts Null = refl
constant_starts (This at) = refl

constant_stands : (c : Constant) (t : Word) → is_constant (record t { kind = said_kind (trees.constant_said c) }) ≡ true
constant_stands (Integer n) t = refl
constant_stands (String x) t = refl
constant_stands True t = refl
constant_stands False t = refl
constant_stands Null t = refl
constant_stands (This at) t = refl

-- the value of a constant's token
by_kind : (t : Word) (k : Kind) → t.kind ≡ k → constant_by t.kind t.text t.place ≡ constant_by k t.text t.place
by_kind t k h = ap (λ (j : Kind). constant_by j t.text t.place) h

constant_value : (c : Constant) (t : Word) → Says t (trees.constant_said c) → constant_said t ≡ trees.constant_said c
constant_value (Integer n) t h = by_kind t (kind.Integer n) h
constant_value (String x) t h =
    let same : without_quotes t.text ≡ x.text = sym (ap (λ (k : Kind). text_by k t.text) h.0) ∙ h.1 in
    by_kind t kind.Text h.0 ∙ (λ i. Placed kind.Text (same i) (h.2 i))
constant_value True t h = by_kind t (kind.Keyword keyword.True) h
constant_value False t h = by_kind t (kind.Keyword keyword.False) h
constant_value Null t h = by_kind t (kind.Keyword keyword.Null) h
constant_value (This at) t h = by_kind t (kind.Keyword keyword.This) h.0 ∙ ap (λ (p : Place). Placed (kind.Keyword keyword.This) [] p) h.2

size_by : (t : Word) (k : Kind) → t.kind ≡ k → string_size t.kind t.text ≡ string_size k t.text
size_by t k h = ap (λ (j : Kind). string_size j t.text) h

constant_size : (c : Constant) (t : Word) → IsShort c → Says t (trees.constant_said c) → string_size t.kind t.text ≤ 16384
constant_size (Integer n) t k h = let e = size_by t (kind.Integer n) h in omega (arith, e)
constant_size (String x) t k h =
    let same : without_quotes t.text ≡ x.text = sym (ap (λ (j : Kind). text_by j t.text) h.0) ∙ h.1 in
    let e : string_size t.kind t.text ≡ length x.text = size_by t kind.Text h.0 ∙ ap length same in
    omega (arith, e, k)
constant_size True t k h = let e = size_by t (kind.Keyword keyword.True) h in omega (arith, e)
constant_size False t k h = let e = size_by t (kind.Keyword keyword.False) h in omega (arith, e)
constant_size Null t k h = let e = size_by t (kind.Keyword keyword.Null) h in omega (arith, e)
constant_size (This at) t k h = let e = size_by t (kind.Keyword keyword.This) h.0 in omega (arith, e)

constant_checked : (s : Counts) (t : Word) → string_size t.kind t.text ≤ 16384 → check_constant s t ≡ Ok s
constant_checked s t h = ap (λ (b : Bool). cond b (Err (Range t.place (min (string_size t.kind t.text) 1000000000))) (Ok s)) (le-ltb 16384 (string_size t.kind t.text) h)

start_said : (v : Said) (t : Word) (ts : List Word) → Says t v → start_of (t ∷ ts) ≡ start_by (said_kind v)
start_said v t ts h = ap start_by (kind_said t v h)

-- ---- the first token of a term and of an expression

pub term_first : (t : Term) (ts us : List Word) → Front (term_tokens t) ts us → next term_opens ts ≡ true
term_first (Value (Integer n)) ts us h = next_by term_opens true _ _ ts us h (λ t. refl)
term_first (Value (String x)) ts us h = next_by term_opens true _ _ ts us h (λ t. refl)
term_first (Value True) ts us h = next_by term_opens true _ _ ts us h (λ t. refl)
term_first (Value False) ts us h = next_by term_opens true _ _ ts us h (λ t. refl)
term_first (Value Null) ts us h = next_by term_opens true _ _ ts us h (λ t. refl)
term_first (Value (This at)) ts us h = next_by term_opens true _ _ ts us h (λ t. refl)
term_first (Variable x) ts us h = next_by term_opens true _ _ ts us h (λ t. refl)
term_first (Element x e) ts us h = next_by term_opens true _ _ ts us h (λ t. refl)
term_first (Called (Calls None f es)) ts us h = next_by term_opens true _ _ ts us h (λ t. refl)
term_first (Called (Calls (Some o) f es)) ts us h = next_by term_opens true _ _ ts us h (λ t. refl)
term_first (Group e) ts us h = next_by term_opens true _ _ ts us h (λ t. refl)
term_first (Unary Negate t) ts us h = next_by term_opens true _ _ ts us h (λ t. refl)
term_first (Unary Not t) ts us h = next_by term_opens true _ _ ts us h (λ t. refl)
term_first (Unary ShiftLeft t) ts us h = next_by term_opens true _ _ ts us h (λ t. refl)
term_first (Unary ShiftRight t) ts us h = next_by term_opens true _ _ ts us h (λ t. refl)

pub expression_first : (e : Expression) (ts us : List Word) → Front (expression_tokens e) ts us → next term_opens ts ≡ true
expression_first (Terms t os) ts us h = let p = front_split (term_tokens t) (operations_tokens os) ts us h in term_first t ts p.0 p.1

operations_end : (os : Operations) (ts us : List Word) → Front (operations_tokens os) ts us → next goes_on us ≡ false → next goes_on ts ≡ false
operations_end NoOperation ts us h e = next_same goes_on false ts us h.told e
operations_end (Then o at t os) ts us h e = next_by goes_on false _ _ ts us (operator_front o at _ ts us h) (operator_ends o at)

-- after the arguments: no term begins, and no comma follows
abbrev pub Shut : List Word → Type 0
Shut us = (next term_opens us ≡ false) × (next (is_symbol 44) us ≡ false) × Stop us

further_stop : (es : Expressions) (ts us : List Word) → Front (further_tokens es) ts us → Stop us → Stop ts
further_stop NoExpression ts us h e = subst Stop (sym h.told) e
further_stop (More a es) ts us h e = stop_by _ _ ts us h (λ t. (refl, refl))

-- the text ends at this place
module _ (end : Place) where
  abbrev pub ReadsAt : Expression → Type 0
  ReadsAt e = (s : Counts) (ts us : List Word) → KeepsIn s.nesting e → Stop us → Front (expression_tokens e) ts us → R end s (name expression) ts (expression_tree e) s us

  -- an expression in brackets
  pub level_reads : (e : Expression) → ReadsAt e → (b c : ℕ) (s : Counts) (ts us : List Word) → (s.nesting < 256) × KeepsIn (s.nesting + 1) e → ((t : Word) → (operates (record t { kind = kind.Symbol c }) ≡ false) × (goes_on (record t { kind = kind.Symbol c }) ≡ false))
      → Front (in_signs b c (expression_tokens e)) ts us → R end s (seq (symbol_of b) (seq (nested_rule (name expression)) (symbol_of c))) ts (enclosed (Node (expression_tree e))) s us
  level_reads e reads b c s ts us k q h = symbol_then end b _ _ s s ts us _ h (λ l f.
      let p = front_split (expression_tokens e) (sign_of c ∷ []) l us f in
      both (nested_reads end (name expression) s (fresh (s.nesting + 1)) l p.0 _ k.0 (expression_first e l p.0 p.1) (reads (fresh (s.nesting + 1)) l p.0 k.1 (stop_by _ _ p.0 us p.2 q) p.1)) (symbol_last end c s p.0 us p.2))

  argument_reads : (e : Expression) → ReadsAt e → (s : Counts) (ts us : List Word) → KeepsIn s.nesting e → s.arguments < 16384 → Stop us → Front (expression_tokens e) ts us → R end s grammar.argument ts (Node (expression_tree e)) (one_more counted.Argument s) us
  argument_reads e reads s ts us k n q h = inside (expression_first e ts us h) (count_is counted.Argument s (here (jack end) ts) n) (reads (one_more counted.Argument s) ts us k q h)

  -- a name, and then another part
  pub name_then : (x : Name) (s s' : Counts) (w : Word) (ts us : List Word) (y : Tree Said) {r : JackRule} {vs : Tokens} → Front (name_said x ∷ vs) (w ∷ ts) us → ((l : List Word) → Front vs l us → R end s r l y s' us) → R end s (seq grammar.identifier r) (w ∷ ts) (Pair (Leaf (name_said x)) y) s' us
  name_then x s s' w ts us y {r} {vs} h k = word_then end is_identifier grammar.named_word (name_said x) r vs s s' (w ∷ ts) us y (λ t. refl) (λ t d. name_value t x d) h k

  -- a call's parentheses
  pub call_by : (es : Expressions) (s : Counts) → ((ts us : List Word) → ArgumentsKeepIn s.nesting es → Shut us → Front (arguments_tokens es) ts us → R end s grammar.arguments ts (arguments_tree es) s us)
      → (ts us : List Word) → ArgumentsKeepIn s.nesting es → Front (in_signs 40 41 (arguments_tokens es)) ts us → R end s grammar.call ts (enclosed (arguments_tree es)) s us
  call_by es s read ts us k h = symbol_then end 40 _ _ s s ts us _ h (λ l g.
      let p = front_split (arguments_tokens es) (sign_of 41 ∷ []) l us g in
      let shut : Shut p.0 = (next_by term_opens false _ _ p.0 us p.2 (λ t. refl), next_by (is_symbol 44) false _ _ p.0 us p.2 (λ t. refl), stop_by _ _ p.0 us p.2 (λ t. (refl, refl))) in
      both (read l p.0 k shut p.1) (symbol_last end 41 s p.0 us p.2))

  pub through_by : (f : Name) (es : Expressions) (s : Counts) → ((ts us : List Word) → ArgumentsKeepIn s.nesting es → Shut us → Front (arguments_tokens es) ts us → R end s grammar.arguments ts (arguments_tree es) s us)
      → (ts us : List Word) → ArgumentsKeepIn s.nesting es → Front (sign_of 46 ∷ name_said f ∷ in_signs 40 41 (arguments_tokens es)) ts us → R end s grammar.through ts (Pair Skip (Pair (Leaf (name_said f)) (enclosed (arguments_tree es)))) s us
  through_by f es s read ts us k h = symbol_then end 46 _ _ s s ts us _ h (λ l g.
      word_then end is_identifier grammar.named_word (name_said f) _ _ s s l us _ (λ t. refl) (λ t d. name_value t f d) g (λ m d. call_by es s read m us k d))

  mutual
    pub expression_reads : (e : Expression) (s : Counts) (ts us : List Word) → KeepsIn s.nesting e → Stop us → Front (expression_tokens e) ts us → R end s (name expression) ts (expression_tree e) s us
    expression_reads (Terms t os) s ts us k q h =
        let p = front_split (term_tokens t) (operations_tokens os) ts us h in
        named (both (term_reads t s ts p.0 k.0 (operations_end os p.0 us p.2 q.1) p.1) (operations_reads os s p.0 us k.1 q p.2))

    operations_reads : (os : Operations) (s : Counts) (ts us : List Word) → OperationsKeepIn s.nesting os → Stop us → Front (operations_tokens os) ts us → R end s (repeat grammar.operation) ts (operations_tree os) s us
    operations_reads NoOperation s ts us k q h = front_is end s s _ ts us us _ h.told (ended q.0)
    operations_reads (Then o at t os) s ts us k q h =
        let f = operator_front o at _ ts us h in
        let p = front_split (operator_said o at ∷ term_tokens t) (operations_tokens os) ts us f in
        again (next_by operates true _ _ ts us f (operator_operates o at))
        (word_then end operates placed_word (operator_said o at) _ _ s s ts p.0 _ (operator_operates o at) (λ w d. placed_value w _ at d) p.1 (λ l g. term_reads t s l p.0 k.0 (operations_end os p.0 us p.2 q.1) g))
        (operations_reads os s p.0 us k.1 q p.2)

    term_reads : (t : Term) (s : Counts) (ts us : List Word) → TermKeepsIn s.nesting t → next goes_on us ≡ false → Front (term_tokens t) ts us → R end s (name term) ts (term_tree t) s us
    term_reads (Value c) s [] us k q h = absurd (constant_front c [] us h).told
    term_reads (Value c) s (w ∷ ts) us k q h =
        let f = constant_front c (w ∷ ts) us h in
        constant_term (start_said _ w ts f.told.0 ∙ constant_starts c)
        (rest_is end s s _ (w ∷ ts) ts us _ f.told.1 (word_as end is_constant check_constant constant_said s s w ts _ (ap (λ (j : Kind). is_constant (record w { kind = j })) (kind_said w _ f.told.0) ∙ constant_stands c w) (constant_checked s w (constant_size c w k f.told.0)) (constant_value c w f.told.0)))
    term_reads (Variable x) s [] us k q h = absurd h.told
    term_reads (Variable x) s (w ∷ ts) us k q h = variable_term (start_said (name_said x) w ts h.told.0) (name_then x s s w ts us _ h (λ l g. front_is end s s _ l us us _ g.told (passed q)))
    term_reads (Element x e) s [] us k q h = absurd h.told
    term_reads (Element x e) s (w ∷ ts) us k q h = variable_term (start_said (name_said x) w ts h.told.0) (name_then x s s w ts us _ h (λ l g.
        taken (next_by goes_on true _ _ l us g (λ t. refl)) (left (next_by (begins opens grammar.subscript) true _ _ l us g (λ t. refl))
        (level_reads e (λ u l' m a b c. expression_reads e u l' m a b c) 91 93 s l us k (λ t. (refl, refl)) g))))
    term_reads (Called (Calls None f es)) s [] us k q h = absurd h.told
    term_reads (Called (Calls None f es)) s (w ∷ ts) us k q h = variable_term (start_said (name_said f) w ts h.told.0) (name_then f s s w ts us _ h (λ l g.
        taken (next_by goes_on true _ _ l us g (λ t. refl)) (right (next_by (begins opens grammar.subscript) false _ _ l us g (λ t. refl)) (next_by (begins opens grammar.invocation_rule) true _ _ l us g (λ t. refl))
        (left (next_by (begins opens grammar.call) true _ _ l us g (λ t. refl)) (call_by es s (λ l' m a b c. arguments_read es s l' m a b c) l us k g)))))
    term_reads (Called (Calls (Some o) f es)) s [] us k q h = absurd h.told
    term_reads (Called (Calls (Some o) f es)) s (w ∷ ts) us k q h = variable_term (start_said (name_said o) w ts h.told.0) (name_then o s s w ts us _ h (λ l g.
        taken (next_by goes_on true _ _ l us g (λ t. refl)) (right (next_by (begins opens grammar.subscript) false _ _ l us g (λ t. refl)) (next_by (begins opens grammar.invocation_rule) true _ _ l us g (λ t. refl))
        (right (next_by (begins opens grammar.call) false _ _ l us g (λ t. refl)) (next_by (begins opens grammar.through) true _ _ l us g (λ t. refl)) (through_by f es s (λ l' m a b c. arguments_read es s l' m a b c) l us k g)))))
    term_reads (Group e) s [] us k q h = absurd h.told
    term_reads (Group e) s (w ∷ ts) us k q h = group_term (start_said (sign_of 40) w ts h.told.0) (level_reads e (λ u l' m a b c. expression_reads e u l' m a b c) 40 41 s (w ∷ ts) us k (λ t. (refl, refl)) h)
    term_reads (Unary o t) s [] us k q h = absurd (sign_front o _ [] us h).told
    term_reads (Unary o t) s (w ∷ ts) us k q h =
        let f = sign_front o _ (w ∷ ts) us h in
        negation_term (start_said (sign_said o) w ts f.told.0 ∙ sign_starts o) (word_then end negates fixed_word (sign_said o) _ _ s s (w ∷ ts) us _ (sign_negates o) (λ v d. fixed_value v _ d) f (λ l g.
        nested_reads end (name term) s (fresh (s.nesting + 1)) l us _ k.0 (term_first t l us g) (term_reads t (fresh (s.nesting + 1)) l us k.1 q g)))

    pub arguments_read : (es : Expressions) (s : Counts) (ts us : List Word) → ArgumentsKeepIn s.nesting es → Shut us → Front (arguments_tokens es) ts us → R end s grammar.arguments ts (arguments_tree es) s us
    arguments_read NoExpression s ts us k q h = front_is end s s _ ts us us _ h.told (passed q.0)
    arguments_read (More e es) s ts us k q h =
        let p = front_split (expression_tokens e) (further_tokens es) ts us h in
        let deep = fresh (s.nesting + 1) in
        let opened = expression_first e ts p.0 p.1 in
        let few : 1 + count_of es ≤ 16384 = k.1 in
        let first = argument_reads e (λ u l' m a b c. expression_reads e u l' m a b c) deep ts p.0 k.2 (omega arith) (further_stop es p.0 us p.2 q.2) p.1 in
        let more = further_read es (one_more counted.Argument deep) p.0 us k.3 few q p.2 in
        taken opened (nested_reads end grammar.argument_list s more.0 ts us _ k.0 opened (both first more.1))

    further_read : (es : Expressions) (s : Counts) (ts us : List Word) → ExpressionsKeepIn s.nesting es → s.arguments + count_of es ≤ 16384 → Shut us → Front (further_tokens es) ts us → (s' : Counts) × R end s (repeat grammar.next_argument) ts (further_tree es) s' us
    further_read NoExpression s ts us k n q h = (s, front_is end s s _ ts us us _ h.told (ended q.1))
    further_read (More e es) s ts us k n q h =
        let p = front_split (sign_of 44 ∷ expression_tokens e) (further_tokens es) ts us h in
        let few : s.arguments < 16384 = omega (arith, n) in
        let left : (s.arguments + 1) + count_of es ≤ 16384 = omega (arith, n) in
        let more = further_read es (one_more counted.Argument s) p.0 us k.1 left q p.2 in (
          more.0,
          again (next_by (is_symbol 44) true _ _ ts us h (λ t. refl))
              (symbol_then end 44 _ _ s (one_more counted.Argument s) ts p.0 _ p.1 (λ l g. argument_reads e (λ u l' m a b c. expression_reads e u l' m a b c) s l p.0 k.0 few (further_stop es p.0 us p.2 q.2) g))
              more.1,
        )
