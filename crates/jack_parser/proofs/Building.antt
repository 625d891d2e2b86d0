-- How a front of tokens that say something is read, part by part.
use Rattle.std.proofs.Common.{◌≡◌, ℕ, ◌+◌, ◌<◌, Bool, true, List, [], ◌∷◌, ◌++◌, Result, Ok, Err, refl, sym, ap, subst, ◌∙◌, cond, eq-eqb}
use Rattle.std.proofs.lemmas.Bool.{lt-leb}
use Rattle.scan_text.specs.declared.Place.{Place}
use Rattle.grammar.specs.declared.Fault.{Fault}
use Rattle.grammar.specs.declared.Fault.TheVariants.{Range}
use Rattle.grammar.specs.Rules.{mark, word, seq, Tree, Skip, Leaf, Node, Pair, next, enters, here, Reads, marked, worded, both, inside}
use Rattle.jack_tree.specs.declared.token.Kind.{Kind}
use Rattle.jack_tree.specs.declared.token.Kind.TheVariants as kind
use Rattle.jack_tree.specs.Tokens.{Word}
use Rattle.jack_tree.specs.Syntax.{Name}
use Rattle.jack_parser.specs.declared.counts.Counted.{Counted}
use Rattle.jack_parser.specs.declared.counts.Counts.{Counts}
use Rattle.jack_parser.specs.Grammar.{jack, Part, Said, Fixed, Placed, JackRule, free, named_word, sign_is, is_symbol, symbol_of, so_many, one_more, count, deeper, fresh, nested_rule}
use Rattle.jack_parser.specs.Spelling.{Tokens, Says, text_by}
use Rattle.jack_parser.proofs.Saying.{SayFront}
use Rattle.jack_parser.proofs.PlainTrees.{name_said}

-- ---- fronts

-- A front of some tokens says this, and these are left.
pub record Front (vs : Tokens) (ts us : List Word) : Type 0 where
  pub told : SayFront vs ts us

abbrev pub said_kind : Said → Kind
said_kind (Fixed k) = k
said_kind (Placed k x at) = k

pub kind_said : (t : Word) (v : Said) → Says t v → t.kind ≡ said_kind v
kind_said t (Fixed k) h = h
kind_said t (Placed k x at) h = h.0

split : (a b : Tokens) (ts vs : List Word) → SayFront (a ++ b) ts vs → (us : List Word) × SayFront a ts us × SayFront b us vs
split [] b ts vs h = (ts, refl, h)
split (v ∷ a) b [] vs h = absurd h
split (v ∷ a) b (t ∷ ts) vs h = let p = split a b ts vs h.1 in (p.0, (h.0, p.1), p.2)

pub front_split : (a b : Tokens) (ts vs : List Word) → Front (a ++ b) ts vs → (us : List Word) × Front a ts us × Front b us vs
front_split a b ts vs h = let p = split a b ts vs h.told in (p.0, record { told = p.1 }, record { told = p.2 })

-- what a test says of the next token
pub next_by : (is : Word → Bool) (b : Bool) (v : Said) (vs : Tokens) (ts us : List Word) → Front (v ∷ vs) ts us → ((t : Word) → is (record t { kind = said_kind v }) ≡ b) → next is ts ≡ b
next_by is b v vs [] us h e = absurd h.told
next_by is b v vs (t ∷ ts) us h e = ap (λ (k : Kind). is (record t { kind = k })) (kind_said t v h.told.0) ∙ e t

pub next_same : (is : Word → Bool) (b : Bool) (ts us : List Word) → ts ≡ us → next is us ≡ b → next is ts ≡ b
next_same is b ts us e h = ap (next is) e ∙ h

-- what is after the first token
abbrev pub behind : (v : Said) (vs : Tokens) (ts us : List Word) → Front (v ∷ vs) ts us → List Word
behind v vs [] us h = []
behind v vs (t ∷ ts) us h = ts

pub behind_says : (v : Said) (vs : Tokens) (ts us : List Word) (h : Front (v ∷ vs) ts us) → Front vs (behind v vs ts us h) us
behind_says v vs [] us h = absurd h.told
behind_says v vs (t ∷ ts) us h = record { told = h.told.1 }

-- ---- what is counted

pub deeper_is : (s : Counts) (at : Place) → s.nesting < 256 → deeper s at ≡ Ok (fresh (s.nesting + 1))
deeper_is s at h = ap (λ (t : Bool). cond t (Err (Range at 257)) (Ok (fresh (s.nesting + 1)))) (lt-leb 256 s.nesting h)

pub count_is : (x : Counted) (s : Counts) (at : Place) → so_many x s < 16384 → count x s at ≡ Ok (one_more x s)
count_is x s at h = ap (λ (t : Bool). cond t (Err (Range at 16385)) (Ok (one_more x s))) (lt-leb 16384 (so_many x s) h)

-- ---- rules

module _ (end : Place) where
  abbrev pub R : Counts → JackRule → List Word → Tree Said → Counts → List Word → Type 0
  R s r ts x s' us = Reads Word Counts Part Said (jack end) s r ts x s' us

  pub rest_is : (s s' : Counts) (r : JackRule) (ts us vs : List Word) (x : Tree Said) → us ≡ vs → R s r ts x s' us → R s r ts x s' vs
  rest_is s s' r ts us vs x e h = subst (λ (l : List Word). R s r ts x s' l) e h

  pub front_is : (s s' : Counts) (r : JackRule) (ts us vs : List Word) (x : Tree Said) → ts ≡ us → R s r us x s' vs → R s r ts x s' vs
  front_is s s' r ts us vs x e h = subst (λ (l : List Word). R s r l x s' vs) (sym e) h

  -- one token
  pub word_as : (is : Word → Bool) (check : Counts → Word → Result Counts Fault) (value : Word → Said) (s s' : Counts) (t : Word) (ts : List Word) (v : Said) → is t ≡ true → check s t ≡ Ok s' → value t ≡ v → R s (word is check value) (t ∷ ts) (Leaf v) s' ts
  word_as is check value s s' t ts v e c d = subst (λ (w : Said). R s (word is check value) (t ∷ ts) (Leaf w) s' ts) d (worded e c)

  is_sign : (b : ℕ) (t : Word) → t.kind ≡ kind.Symbol b → is_symbol b t ≡ true
  is_sign b t h = ap (sign_is b) h ∙ eq-eqb b b refl

  pub symbol_then : (b : ℕ) (r : JackRule) (vs : Tokens) (s s' : Counts) (ts us : List Word) (y : Tree Said) → Front (Fixed (kind.Symbol b) ∷ vs) ts us → ((l : List Word) → Front vs l us → R s r l y s' us) → R s (seq (symbol_of b) r) ts (Pair Skip y) s' us
  symbol_then b r vs s s' [] us y h k = absurd h.told
  symbol_then b r vs s s' (t ∷ ts) us y h k = both (marked (is_sign b t h.told.0)) (k ts (record { told = h.told.1 }))

  pub symbol_last : (b : ℕ) (s : Counts) (ts us : List Word) → Front (Fixed (kind.Symbol b) ∷ []) ts us → R s (symbol_of b) ts Skip s us
  symbol_last b s [] us h = absurd h.told
  symbol_last b s (t ∷ ts) us h = rest_is s s (symbol_of b) (t ∷ ts) ts us Skip h.told.1 (marked (is_sign b t h.told.0))

  -- a mark that is known by its kind
  pub mark_then : (is : Word → Bool) (v : Said) (r : JackRule) (vs : Tokens) (s s' : Counts) (ts us : List Word) (y : Tree Said) → ((t : Word) → is (record t { kind = said_kind v }) ≡ true) → Front (v ∷ vs) ts us → ((l : List Word) → Front vs l us → R s r l y s' us) → R s (seq (mark v is) r) ts (Pair Skip y) s' us
  mark_then is v r vs s s' [] us y e h k = absurd h.told
  mark_then is v r vs s s' (t ∷ ts) us y e h k = both (marked (ap (λ (j : Kind). is (record t { kind = j })) (kind_said t v h.told.0) ∙ e t)) (k ts (record { told = h.told.1 }))

  -- a token that is not counted, and then another part
  pub word_then : (is : Word → Bool) (value : Word → Said) (v : Said) (r : JackRule) (vs : Tokens) (s s' : Counts) (ts us : List Word) (y : Tree Said) → ((t : Word) → is (record t { kind = said_kind v }) ≡ true) → ((t : Word) → Says t v → value t ≡ v)
      → Front (v ∷ vs) ts us → ((l : List Word) → Front vs l us → R s r l y s' us) → R s (seq (word is free value) r) ts (Pair (Leaf v) y) s' us
  word_then is value v r vs s s' [] us y e d h k = absurd h.told
  word_then is value v r vs s s' (t ∷ ts) us y e d h k = both (word_as is free value s s t ts v (ap (λ (j : Kind). is (record t { kind = j })) (kind_said t v h.told.0) ∙ e t) refl (d t h.told.0)) (k ts (record { told = h.told.1 }))

  -- the same, where what comes after is read already
  pub mark_next : (is : Word → Bool) (v : Said) (r : JackRule) (vs : Tokens) (s s' : Counts) (ts us : List Word) (y : Tree Said) → ((t : Word) → is (record t { kind = said_kind v }) ≡ true) → (h : Front (v ∷ vs) ts us) → R s r (behind v vs ts us h) y s' us → R s (seq (mark v is) r) ts (Pair Skip y) s' us
  mark_next is v r vs s s' [] us y e h k = absurd h.told
  mark_next is v r vs s s' (t ∷ ts) us y e h k = both (marked (ap (λ (j : Kind). is (record t { kind = j })) (kind_said t v h.told.0) ∙ e t)) k

  pub word_next : (is : Word → Bool) (value : Word → Said) (v : Said) (r : JackRule) (vs : Tokens) (s s' : Counts) (ts us : List Word) (y : Tree Said) → ((t : Word) → is (record t { kind = said_kind v }) ≡ true) → ((t : Word) → Says t v → value t ≡ v)
      → (h : Front (v ∷ vs) ts us) → R s r (behind v vs ts us h) y s' us → R s (seq (word is free value) r) ts (Pair (Leaf v) y) s' us
  word_next is value v r vs s s' [] us y e d h k = absurd h.told
  word_next is value v r vs s s' (t ∷ ts) us y e d h k = both (word_as is free value s s t ts v (ap (λ (j : Kind). is (record t { kind = j })) (kind_said t v h.told.0) ∙ e t) refl (d t h.told.0)) k

  -- the last token, which is not counted
  pub word_last : (is : Word → Bool) (value : Word → Said) (v : Said) (s : Counts) (ts us : List Word) → ((t : Word) → is (record t { kind = said_kind v }) ≡ true) → ((t : Word) → Says t v → value t ≡ v)
      → Front (v ∷ []) ts us → R s (word is free value) ts (Leaf v) s us
  word_last is value v s [] us e d h = absurd h.told
  word_last is value v s (t ∷ ts) us e d h =
      let one = word_as is free value s s t ts v (ap (λ (j : Kind). is (record t { kind = j })) (kind_said t v h.told.0) ∙ e t) refl (d t h.told.0) in
      rest_is s s (word is free value) (t ∷ ts) ts us (Leaf v) h.told.1 one

  -- a part one level deeper
  pub nested_reads : (r : JackRule) (s s' : Counts) (ts us : List Word) (x : Tree Said) → s.nesting < 256 → enters (jack end) r ts ≡ true → R (fresh (s.nesting + 1)) r ts x s' us → R s (nested_rule r) ts (Node x) s us
  nested_reads r s s' ts us x n e h = inside e (deeper_is s (here (jack end) ts) n) h

-- ---- values of tokens

pub name_value : (t : Word) (n : Name) → Says t (name_said n) → named_word t ≡ name_said n
name_value t n h =
    let same : t.text ≡ n.text = sym (ap (λ (k : Kind). text_by k t.text) h.0) ∙ h.1 in
    λ i. Placed kind.Identifier (same i) (h.2 i)

pub placed_value : (t : Word) (k : Kind) (at : Place) → Says t (Placed k [] at) → Placed t.kind [] t.place ≡ Placed k [] at
placed_value t k at h = λ i. Placed (h.0 i) [] (h.2 i)

pub fixed_value : (t : Word) (k : Kind) → Says t (Fixed k) → Fixed t.kind ≡ Fixed k
fixed_value t k h = ap Fixed h
