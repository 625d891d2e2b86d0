-- Tokens that say what statements are spelled by are read as the statements.
use Rattle.std.proofs.Common.{◌≡◌, ◌+◌, Bool, true, false, List, [], ◌∷◌, ◌++◌, Option, Some, None, refl}
use Rattle.scan_text.specs.declared.Place.{Place}
use Rattle.grammar.specs.Rules as rules
use Rattle.grammar.specs.Rules.{seq, option, repeat, name, Tree, Skip, Leaf, Node, Pair, Left, Right, Absent, Present, NoMore, begins, next, both, left, right, passed, taken, ended, again, named}
use Rattle.jack_tree.specs.declared.token.Keyword.{Keyword}
use Rattle.jack_tree.specs.declared.token.Keyword.TheVariants as keyword
use Rattle.jack_tree.specs.declared.token.Kind.TheVariants as kind
use Rattle.jack_tree.specs.Tokens.{Word}
use Rattle.jack_tree.specs.Syntax.{Name, Expression, Call, Calls, Statement, Let, If, IfElse, While, Do, Return, Statements, End, Next}
use Rattle.jack_parser.specs.declared.counts.Counts.{Counts}
use Rattle.jack_parser.specs.Grammar as grammar
use Rattle.jack_parser.specs.Grammar.{jack, Said, Fixed, Placed, JackRule, expression, statement, rule_of, opens, placed_word, is_keyword, is_symbol, fresh, statement_opens, term_opens}
use Rattle.jack_parser.specs.Spelling.{Tokens, expression_tokens, arguments_tokens, call_tokens, index_tokens, value_tokens, condition_tokens, in_braces, statement_tokens, statements_tokens}
use Rattle.jack_parser.specs.Limits.{CallKeepsIn, IndexKeepsIn, ValueKeepsIn, PartsKeepIn, StatementsKeepIn}
use Rattle.jack_parser.proofs.PlainTrees.{name_said, enclosed, front_said, invoked_tree, index_tree, value_tree, statement_tree, statements_tree}
use Rattle.jack_parser.proofs.Building.{Front, front_split, next_by, next_same, R, front_is, symbol_then, symbol_last, mark_then, word_then, nested_reads, name_value, placed_value}
use Rattle.jack_parser.proofs.BuiltExpressions.{sign_of, in_signs, stop_by, expression_first, level_reads, expression_reads, arguments_read, call_by, through_by}

-- a test that says the same of each keyword that begins a statement says it of a statement's first token
abbrev pub Tells : (Word → Bool) → Bool → Keyword → Type 0
Tells is b k = (t : Word) → is (record t { kind = kind.Keyword k }) ≡ b

statement_first : (is : Word → Bool) (b : Bool) → Tells is b keyword.Let → Tells is b keyword.If → Tells is b keyword.While → Tells is b keyword.Do → Tells is b keyword.Return → (t : Statement) (ts us : List Word) → Front (statement_tokens t) ts us → next is ts ≡ b
statement_first is b p q r d e (Let at x i v) ts us h = next_by is b _ _ ts us h p
statement_first is b p q r d e (If at v body) ts us h = next_by is b _ _ ts us h q
statement_first is b p q r d e (IfElse at v body other) ts us h = next_by is b _ _ ts us h q
statement_first is b p q r d e (While at v body) ts us h = next_by is b _ _ ts us h r
statement_first is b p q r d e (Do at (Calls None f es)) ts us h = next_by is b _ _ ts us h d
statement_first is b p q r d e (Do at (Calls (Some o) f es)) ts us h = next_by is b _ _ ts us h d
statement_first is b p q r d e (Return at v) ts us h = next_by is b _ _ ts us h e

-- after statements: no statement begins, and no `else`
abbrev pub Done : List Word → Type 0
Done us = (next statement_opens us ≡ false) × (next (is_keyword keyword.Else) us ≡ false)

pub first_of_all : (is : Word → Bool) (b : Bool) → Tells is b keyword.Let → Tells is b keyword.If → Tells is b keyword.While → Tells is b keyword.Do → Tells is b keyword.Return → (ss : Statements) (ts us : List Word) → Front (statements_tokens ss) ts us → next is us ≡ b → next is ts ≡ b
first_of_all is b p q r d e End ts us h n = next_same is b ts us h.told n
first_of_all is b p q r d e (Next t ss) ts us h n = let f = front_split (statement_tokens t) (statements_tokens ss) ts us h in statement_first is b p q r d e t ts f.0 f.1

no_else : (ss : Statements) (ts us : List Word) → Front (statements_tokens ss) ts us → Done us → next (is_keyword keyword.Else) ts ≡ false
no_else ss ts us h d = first_of_all (is_keyword keyword.Else) false (λ w. refl) (λ w. refl) (λ w. refl) (λ w. refl) (λ w. refl) ss ts us h d.1

opens_statement : (t : Statement) (ts us : List Word) → Front (statement_tokens t) ts us → next statement_opens ts ≡ true
opens_statement t ts us h = statement_first statement_opens true (λ w. refl) (λ w. refl) (λ w. refl) (λ w. refl) (λ w. refl) t ts us h

abbrev after_if : JackRule
after_if = rules.choice grammar.while_rule (rules.choice grammar.do_rule grammar.return_rule)

abbrev after_while : JackRule
after_while = rules.choice grammar.do_rule grammar.return_rule

abbrev after_let : JackRule
after_let = rules.choice grammar.if_rule after_if

-- the text ends at this place
module _ (end : Place) where
  key_then : (k : Keyword) (at : Place) (s s' : Counts) (ts us : List Word) (y : Tree Said) {r : JackRule} {vs : Tokens} → ((t : Word) → is_keyword k (record t { kind = kind.Keyword k }) ≡ true) → Front (Placed (kind.Keyword k) [] at ∷ vs) ts us → ((l : List Word) → Front vs l us → R end s r l y s' us)
      → R end s (seq (grammar.key k) r) ts (Pair (Leaf (Placed (kind.Keyword k) [] at)) y) s' us
  key_then k at s s' ts us y {r} {vs} e h f = word_then end (is_keyword k) placed_word (Placed (kind.Keyword k) [] at) r vs s s' ts us y e (λ t d. placed_value t (kind.Keyword k) at d) h f

  identifier_then : (x : Name) (s s' : Counts) (ts us : List Word) (y : Tree Said) {r : JackRule} {vs : Tokens} → Front (name_said x ∷ vs) ts us → ((l : List Word) → Front vs l us → R end s r l y s' us) → R end s (seq grammar.identifier r) ts (Pair (Leaf (name_said x)) y) s' us
  identifier_then x s s' ts us y {r} {vs} h f = word_then end grammar.is_identifier grammar.named_word (name_said x) r vs s s' ts us y (λ t. refl) (λ t d. name_value t x d) h f

  index_reads : (i : Option Expression) (s : Counts) (ts us : List Word) → IndexKeepsIn s.nesting i → next (is_symbol 91) us ≡ false → Front (index_tokens i) ts us → R end s (option grammar.subscript) ts (index_tree i) s us
  index_reads None s ts us k q h = front_is end s s _ ts us us _ h.told (passed q)
  index_reads (Some e) s ts us k q h = taken (next_by (is_symbol 91) true _ _ ts us h (λ t. refl)) (level_reads end e (expression_reads end e) 91 93 s ts us k (λ t. (refl, refl)) h)

  value_reads : (v : Option Expression) (s : Counts) (ts us : List Word) → ValueKeepsIn s.nesting v → Front (value_tokens v ++ sign_of 59 ∷ []) ts us → R end s (seq (option (name expression)) (grammar.symbol_of 59)) ts (Pair (value_tree v) Skip) s us
  value_reads None s ts us k h = both (passed (next_by term_opens false _ _ ts us h (λ t. refl))) (symbol_last end 59 s ts us h)
  value_reads (Some e) s ts us k h =
      let p = front_split (expression_tokens e) (sign_of 59 ∷ []) ts us h in
      both (taken (expression_first e ts p.0 p.1) (expression_reads end e s ts p.0 k (stop_by _ _ p.0 us p.2 (λ t. (refl, refl))) p.1)) (symbol_last end 59 s p.0 us p.2)

  -- the name of a call and what follows it
  call_reads : (c : Call) (s : Counts) (ts us : List Word) → CallKeepsIn s.nesting c → Front (call_tokens c ++ sign_of 59 ∷ []) ts us → R end s (seq grammar.identifier (seq grammar.invocation_rule (grammar.symbol_of 59))) ts (Pair (Leaf (front_said c)) (Pair (invoked_tree c) Skip)) s us
  call_reads (Calls None f es) s ts us k h = identifier_then f s s ts us _ h (λ l g.
      let p = front_split (in_signs 40 41 (arguments_tokens es)) (sign_of 59 ∷ []) l us g in
      both (left (next_by (begins opens grammar.call) true _ _ l us g (λ t. refl)) (call_by end es s (arguments_read end es s) l p.0 k p.1)) (symbol_last end 59 s p.0 us p.2))
  call_reads (Calls (Some o) f es) s ts us k h = identifier_then o s s ts us _ h (λ l g.
      let p = front_split (sign_of 46 ∷ name_said f ∷ in_signs 40 41 (arguments_tokens es)) (sign_of 59 ∷ []) l us g in
      both (right (next_by (begins opens grammar.call) false _ _ l us g (λ t. refl)) (next_by (begins opens grammar.through) true _ _ l us g (λ t. refl)) (through_by end f es s (arguments_read end es s) l p.0 k p.1)) (symbol_last end 59 s p.0 us p.2))

  abbrev BlockReads : Statements → Type 0
  BlockReads ss = (s : Counts) (ts us : List Word) → StatementsKeepIn s.nesting ss → Done us → Front (statements_tokens ss) ts us → R end s (repeat (name statement)) ts (statements_tree ss) s us

  -- statements in braces
  block_reads : (ss : Statements) → BlockReads ss → (s : Counts) (ts us : List Word) → StatementsKeepIn s.nesting ss → Front (in_braces (statements_tokens ss)) ts us → R end s grammar.block ts (enclosed (statements_tree ss)) s us
  block_reads ss reads s ts us k h = symbol_then end 123 _ _ s s ts us _ h (λ l g.
      let p = front_split (statements_tokens ss) (sign_of 125 ∷ []) l us g in
      both (reads s l p.0 k (next_by statement_opens false _ _ p.0 us p.2 (λ t. refl), next_by (is_keyword keyword.Else) false _ _ p.0 us p.2 (λ t. refl)) p.1) (symbol_last end 125 s p.0 us p.2))

  mutual
    parts_read : (t : Statement) (s : Counts) (ts us : List Word) → PartsKeepIn s.nesting t → next (is_keyword keyword.Else) us ≡ false → Front (statement_tokens t) ts us → R end s grammar.any_statement ts (statement_tree t) s us
    parts_read (Let at x i e) s ts us k q h = left (next_by (begins opens grammar.let_rule) true _ _ ts us h (λ t. refl))
        (key_then keyword.Let at s s ts us _ (λ t. refl) h (λ l g. identifier_then x s s l us _ g (λ m f.
        let p = front_split (index_tokens i) (in_signs 61 59 (expression_tokens e)) m us f in
        both (index_reads i s m p.0 k.0 (next_by (is_symbol 91) false _ _ p.0 us p.2 (λ t. refl)) p.1)
        (symbol_then end 61 _ _ s s p.0 us _ p.2 (λ n d.
        let c = front_split (expression_tokens e) (sign_of 59 ∷ []) n us d in
        both (expression_reads end e s n c.0 k.1 (stop_by _ _ c.0 us c.2 (λ t. (refl, refl))) c.1) (symbol_last end 59 s c.0 us c.2))))))
    parts_read (If at e body) s ts us k q h = right (next_by (begins opens grammar.let_rule) false _ _ ts us h (λ t. refl)) (next_by (begins opens after_let) true _ _ ts us h (λ t. refl))
        (left (next_by (begins opens grammar.if_rule) true _ _ ts us h (λ t. refl)) (key_then keyword.If at s s ts us _ (λ t. refl) h (λ l g.
        let p = front_split (condition_tokens e) (in_braces (statements_tokens body)) l us g in
        both (level_reads end e (expression_reads end e) 40 41 s l p.0 (k.0, k.1) (λ t. (refl, refl)) p.1)
        (both (block_reads body (λ u m n a b c. statements_read body u m n a b c) s p.0 us k.2 p.2) (passed q)))))
    parts_read (IfElse at e body other) s ts us k q h = right (next_by (begins opens grammar.let_rule) false _ _ ts us h (λ t. refl)) (next_by (begins opens after_let) true _ _ ts us h (λ t. refl))
        (left (next_by (begins opens grammar.if_rule) true _ _ ts us h (λ t. refl)) (key_then keyword.If at s s ts us _ (λ t. refl) h (λ l g.
        let p = front_split (condition_tokens e) (in_braces (statements_tokens body) ++ (Fixed (kind.Keyword keyword.Else) ∷ in_braces (statements_tokens other))) l us g in
        let d = front_split (in_braces (statements_tokens body)) (Fixed (kind.Keyword keyword.Else) ∷ in_braces (statements_tokens other)) p.0 us p.2 in
        both (level_reads end e (expression_reads end e) 40 41 s l p.0 (k.0, k.1) (λ t. (refl, refl)) p.1)
        (both (block_reads body (λ u m n a b c. statements_read body u m n a b c) s p.0 d.0 k.2 d.1)
        (taken (next_by (is_keyword keyword.Else) true _ _ d.0 us d.2 (λ t. refl)) (mark_then end (is_keyword keyword.Else) (Fixed (kind.Keyword keyword.Else)) _ _ s s d.0 us _ (λ t. refl) d.2 (λ m f.
        block_reads other (λ u v n a b c. statements_read other u v n a b c) s m us k.3 f)))))))
    parts_read (While at e body) s ts us k q h = right (next_by (begins opens grammar.let_rule) false _ _ ts us h (λ t. refl)) (next_by (begins opens after_let) true _ _ ts us h (λ t. refl))
        (right (next_by (begins opens grammar.if_rule) false _ _ ts us h (λ t. refl)) (next_by (begins opens after_if) true _ _ ts us h (λ t. refl))
        (left (next_by (begins opens grammar.while_rule) true _ _ ts us h (λ t. refl)) (key_then keyword.While at s s ts us _ (λ t. refl) h (λ l g.
        let p = front_split (condition_tokens e) (in_braces (statements_tokens body)) l us g in
        both (level_reads end e (expression_reads end e) 40 41 s l p.0 (k.0, k.1) (λ t. (refl, refl)) p.1)
        (block_reads body (λ u m n a b c. statements_read body u m n a b c) s p.0 us k.2 p.2)))))
    parts_read (Do at c) s ts us k q h = right (next_by (begins opens grammar.let_rule) false _ _ ts us h (λ t. refl)) (next_by (begins opens after_let) true _ _ ts us h (λ t. refl))
        (right (next_by (begins opens grammar.if_rule) false _ _ ts us h (λ t. refl)) (next_by (begins opens after_if) true _ _ ts us h (λ t. refl))
        (right (next_by (begins opens grammar.while_rule) false _ _ ts us h (λ t. refl)) (next_by (begins opens after_while) true _ _ ts us h (λ t. refl))
        (left (next_by (begins opens grammar.do_rule) true _ _ ts us h (λ t. refl)) (key_then keyword.Do at s s ts us _ (λ t. refl) h (λ l g. call_reads c s l us k g)))))
    parts_read (Return at v) s ts us k q h = right (next_by (begins opens grammar.let_rule) false _ _ ts us h (λ t. refl)) (next_by (begins opens after_let) true _ _ ts us h (λ t. refl))
        (right (next_by (begins opens grammar.if_rule) false _ _ ts us h (λ t. refl)) (next_by (begins opens after_if) true _ _ ts us h (λ t. refl))
        (right (next_by (begins opens grammar.while_rule) false _ _ ts us h (λ t. refl)) (next_by (begins opens after_while) true _ _ ts us h (λ t. refl))
        (right (next_by (begins opens grammar.do_rule) false _ _ ts us h (λ t. refl)) (next_by (begins opens grammar.return_rule) true _ _ ts us h (λ t. refl)) (key_then keyword.Return at s s ts us _ (λ t. refl) h (λ l g. value_reads v s l us k g)))))

    pub statements_read : (ss : Statements) (s : Counts) (ts us : List Word) → StatementsKeepIn s.nesting ss → Done us → Front (statements_tokens ss) ts us → R end s (repeat (name statement)) ts (statements_tree ss) s us
    statements_read End s ts us k q h = front_is end s s _ ts us us _ h.told (ended q.0)
    statements_read (Next t ss) s ts us k q h =
        let p = front_split (statement_tokens t) (statements_tokens ss) ts us h in
        let opened = opens_statement t ts p.0 p.1 in
        again opened (named (nested_reads end grammar.any_statement s (fresh (s.nesting + 1)) ts p.0 _ k.0 opened (parts_read t (fresh (s.nesting + 1)) ts p.0 k.1 (no_else ss p.0 us p.2 q) p.1))) (statements_read ss s p.0 us k.2 q p.2)
