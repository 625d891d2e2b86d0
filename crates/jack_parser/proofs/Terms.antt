-- The kind of a term, by its first token, says which rule is entered.
use Rattle.std.proofs.Common.{◌≡◌, ℕ, Bool, true, false, cond, List, [], ◌∷◌, refl, subst}
use Rattle.std.specs.Prelude.{◌==◌}
use Rattle.scan_text.specs.declared.Place.{Place}
use Rattle.grammar.specs.declared.Fault.{Fault}
use Rattle.grammar.specs.declared.Fault.TheVariants.{Grammar}
use Rattle.grammar.specs.Rules.{name, Tree, Node, Left, Right, next, here, Reads, left, named, Stops, in_left, neither, in_name}
use Rattle.grammar.proofs.Entered.{skip, skip_stops}
use Rattle.jack_tree.specs.declared.token.Keyword as keywords
use Rattle.jack_tree.specs.declared.token.Kind.{Kind}
use Rattle.jack_tree.specs.declared.token.Kind.TheVariants.{Keyword, Symbol, Integer, Text, Identifier}
use Rattle.jack_tree.specs.Tokens.{Word}
use Rattle.jack_parser.specs.declared.counts.Counts.{Counts}
use Rattle.jack_parser.specs.declared.words.Start.{Start}
use Rattle.jack_parser.specs.declared.words.Start.TheVariants as starts
use Rattle.jack_parser.specs.Grammar.{jack, Part, Said, term, constant, variable, group, negation, stands_for, is_value, names, sign_is, any_sign, is_unary, is_constant, is_identifier, is_symbol, negates, JackRule}
use Rattle.jack_parser.specs.Inner.Starts.{start_by, start_of}

-- what a start says of the tests
abbrev Says : Start → Kind → Type 0
Says starts.Constant k = stands_for k ≡ true
Says starts.Name k = (stands_for k ≡ false) × (names k ≡ true)
Says starts.Group k = (stands_for k ≡ false) × (names k ≡ false) × (sign_is 40 k ≡ true)
Says starts.Negation k = (stands_for k ≡ false) × (names k ≡ false) × (sign_is 40 k ≡ false) × (any_sign is_unary k ≡ true)
Says starts.Other k = (stands_for k ≡ false) × (names k ≡ false) × (sign_is 40 k ≡ false) × (any_sign is_unary k ≡ false)

symbol_says : (b : ℕ) (p q : Bool) → (b == 40) ≡ p → is_unary b ≡ q → Says (cond p starts.Group (cond q starts.Negation starts.Other)) (Symbol b)
symbol_says b true q e f = (refl, refl, e)
symbol_says b false true e f = (refl, refl, e, f)
symbol_says b false false e f = (refl, refl, e, f)

keyword_says : (v : Bool) (k : keywords.Keyword) → is_value k ≡ v → Says (cond v starts.Constant starts.Other) (Keyword k)
keyword_says true k e = e
keyword_says false k e = (e, refl, refl, refl)

kind_says : (k : Kind) → Says (start_by k) k
kind_says (Keyword k) = keyword_says (is_value k) k refl
kind_says (Symbol b) = symbol_says b (b == 40) (is_unary b) refl refl
kind_says (Integer n) = refl
kind_says Text = refl
kind_says Identifier = (refl, refl)

abbrev Told : Start → List Word → Type 0
Told starts.Constant ts = next is_constant ts ≡ true
Told starts.Name ts = (next is_constant ts ≡ false) × (next is_identifier ts ≡ true)
Told starts.Group ts = (next is_constant ts ≡ false) × (next is_identifier ts ≡ false) × (next (is_symbol 40) ts ≡ true)
Told starts.Negation ts = (next is_constant ts ≡ false) × (next is_identifier ts ≡ false) × (next (is_symbol 40) ts ≡ false) × (next negates ts ≡ true)
Told starts.Other ts = (next is_constant ts ≡ false) × (next is_identifier ts ≡ false) × (next (is_symbol 40) ts ≡ false) × (next negates ts ≡ false)

told_by : (s : Start) (t : Word) (ts : List Word) → Says s t.kind → Told s (t ∷ ts)
told_by starts.Constant t ts h = h
told_by starts.Name t ts h = h
told_by starts.Group t ts h = h
told_by starts.Negation t ts h = h
told_by starts.Other t ts h = h

told : (ts : List Word) → Told (start_of ts) ts
told [] = (refl, refl, refl, refl)
told (t ∷ ts) = told_by (start_by t.kind) t ts (kind_says t.kind)

told_as : (s : Start) (ts : List Word) → start_of ts ≡ s → Told s ts
told_as s ts e = subst (λ (x : Start). Told x ts) e (told ts)

abbrev R : Place → Counts → JackRule → List Word → Tree Said → Counts → List Word → Type 0
R end s r ts x s' us = Reads Word Counts Part Said (jack end) s r ts x s' us

abbrev F : Place → Counts → JackRule → List Word → Fault → Type 0
F end s r ts f = Stops Word Counts Part Said (jack end) s r ts f

-- the rules of a term, as the start names them
module _ {end : Place} {s : Counts} {ts : List Word} where
  pub constant_term : {s' : Counts} {us : List Word} {x : Tree Said} → start_of ts ≡ starts.Constant → R end s constant ts x s' us → R end s (name term) ts (Node (Left x)) s' us
  constant_term e p = named (left (told_as starts.Constant ts e) p)

  pub constant_stops : {f : Fault} → start_of ts ≡ starts.Constant → F end s constant ts f → F end s (name term) ts f
  constant_stops e p = in_name (in_left (told_as starts.Constant ts e) p)

  pub variable_term : {s' : Counts} {us : List Word} {x : Tree Said} → start_of ts ≡ starts.Name → R end s variable ts x s' us → R end s (name term) ts (Node (Right (Left x))) s' us
  variable_term e p = let h = told_as starts.Name ts e in named (skip h.0 refl (left h.1 p))

  pub variable_stops : {f : Fault} → start_of ts ≡ starts.Name → F end s variable ts f → F end s (name term) ts f
  variable_stops e p = let h = told_as starts.Name ts e in in_name (skip_stops h.0 refl (in_left h.1 p))

  pub group_term : {s' : Counts} {us : List Word} {x : Tree Said} → start_of ts ≡ starts.Group → R end s group ts x s' us → R end s (name term) ts (Node (Right (Right (Left x)))) s' us
  group_term e p = let h = told_as starts.Group ts e in named (skip h.0 refl (skip h.1 refl (left h.2 p)))

  pub group_stops : {f : Fault} → start_of ts ≡ starts.Group → F end s group ts f → F end s (name term) ts f
  group_stops e p = let h = told_as starts.Group ts e in in_name (skip_stops h.0 refl (skip_stops h.1 refl (in_left h.2 p)))

  pub negation_term : {s' : Counts} {us : List Word} {x : Tree Said} → start_of ts ≡ starts.Negation → R end s negation ts x s' us → R end s (name term) ts (Node (Right (Right (Right x)))) s' us
  negation_term e p = let h = told_as starts.Negation ts e in named (skip h.0 refl (skip h.1 refl (skip h.2 refl p)))

  pub negation_stops : {f : Fault} → start_of ts ≡ starts.Negation → F end s negation ts f → F end s (name term) ts f
  negation_stops e p = let h = told_as starts.Negation ts e in in_name (skip_stops h.0 refl (skip_stops h.1 refl (skip_stops h.2 refl p)))

  pub no_term : start_of ts ≡ starts.Other → F end s (name term) ts (Grammar (here (jack end) ts))
  no_term e = let h = told_as starts.Other ts e in in_name (skip_stops h.0 refl (skip_stops h.1 refl (neither h.2 h.3)))
