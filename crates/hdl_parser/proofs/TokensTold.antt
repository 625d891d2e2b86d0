-- The tokens of a chip are those of the text that spells it.
use Rattle.std.proofs.Common.{◌≡◌, ℕ, true, List, [], ◌∷◌, map, Ok, refl, ap, ◌∙◌, eqb-true}
use Rattle.std.proofs.lemmas.List.{append-nil}
use denote.Enum.Bare.{same_true}
use Rattle.scan_text.specs.declared.Place.{Place}
use Rattle.grammar.specs.Rules.{Reads}
use Rattle.grammar.specs.Leaves.{leaves}
use Rattle.grammar.proofs.LeavesRead as read
use Rattle.hdl_tree.specs.declared.tree.Chip.{Chip}
use Rattle.hdl_parser.specs.contracts.token.Keyword.{the_type}
use Rattle.hdl_parser.specs.declared.token.Keyword.{Keyword}
use Rattle.hdl_parser.specs.declared.token.Keyword.TheVariants as keyword
use Rattle.hdl_parser.specs.declared.token.Kind.{Kind}
use Rattle.hdl_parser.specs.declared.token.Kind.TheVariants as kind
use Rattle.hdl_parser.specs.Tokens.{Word, keyword_text, tokens_of, finish}
use Rattle.hdl_parser.specs.Grammar.{hdl, Said, HdlRule, sign_is, keyword_is, is_dotted, names, counts, stands_for, symbol_of, keyword_of, dots, name, width, index, last_index, constant, row, width_rule, pin, last, range, subscript, selection, source, connection, part, parts, listing, builtin, body, pins, chip, whole}
use Rattle.hdl_parser.specs.Spells.{whole_tree, Spells}
use Rattle.hdl_parser.specs.Printed.{kind_text, shown_word, said_text, chip_tokens}

-- what a token says is what it is written as
symbol_told : (b : ℕ) (k : Kind) (x : List ℕ) → sign_is b k ≡ true → kind_text k x ≡ kind_text (kind.Symbol b) []
symbol_told b (kind.Keyword j) x e = absurd cc
symbol_told b (kind.Symbol c) x e = ap (λ (n : ℕ). n ∷ []) (eqb-true c b e)
symbol_told b kind.Dots x e = absurd cc
symbol_told b (kind.Number n) x e = absurd cc
symbol_told b kind.Name x e = absurd cc

keyword_told : (k : Keyword) (j : Kind) (x : List ℕ) → keyword_is k j ≡ true → kind_text j x ≡ kind_text (kind.Keyword k) []
keyword_told k (kind.Keyword j) x e = ap keyword_text (same_true the_type tt j k e)
keyword_told k (kind.Symbol c) x e = absurd cc
keyword_told k kind.Dots x e = absurd cc
keyword_told k (kind.Number n) x e = absurd cc
keyword_told k kind.Name x e = absurd cc

dots_told : (k : Kind) (x : List ℕ) → is_dotted k ≡ true → kind_text k x ≡ kind_text kind.Dots []
dots_told (kind.Keyword j) x e = absurd cc
dots_told (kind.Symbol c) x e = absurd cc
dots_told kind.Dots x e = refl
dots_told (kind.Number n) x e = absurd cc
dots_told kind.Name x e = absurd cc

name_message : (k : Kind) (x : List ℕ) → names k ≡ true → kind_text k x ≡ x
name_message (kind.Keyword j) x e = absurd cc
name_message (kind.Symbol c) x e = absurd cc
name_message kind.Dots x e = absurd cc
name_message (kind.Number n) x e = absurd cc
name_message kind.Name x e = refl

number_told : (k : Kind) (x : List ℕ) → counts k ≡ true → kind_text k x ≡ kind_text k []
number_told (kind.Keyword j) x e = absurd cc
number_told (kind.Symbol c) x e = absurd cc
number_told kind.Dots x e = absurd cc
number_told (kind.Number n) x e = refl
number_told kind.Name x e = absurd cc

constant_told : (k : Kind) (x : List ℕ) → stands_for k ≡ true → kind_text k x ≡ kind_text k []
constant_told (kind.Keyword j) x e = refl
constant_told (kind.Symbol c) x e = absurd cc
constant_told kind.Dots x e = absurd cc
constant_told (kind.Number n) x e = absurd cc
constant_told kind.Name x e = absurd cc

abbrev Tells : Place → HdlRule → Type 0
Tells at r = read.Tells Word ℕ (Unit {0}) Said (List ℕ) (hdl at) shown_word said_text r

-- each rule says its tokens
module _ (at : Place) where
  symbol_tells : (b : ℕ) → Tells at (symbol_of b)
  symbol_tells b t e = symbol_told b t.kind t.text e

  keyword_tells : (k : Keyword) → Tells at (keyword_of k)
  keyword_tells k t e = keyword_told k t.kind t.text e

  dots_tells : Tells at dots
  dots_tells t e = dots_told t.kind t.text e

  name_tells : Tells at name
  name_tells t e = name_message t.kind t.text e

  width_tells : Tells at width
  width_tells t e = number_told t.kind t.text e

  index_tells : Tells at index
  index_tells t e = number_told t.kind t.text e

  last_index_tells : Tells at last_index
  last_index_tells t e = number_told t.kind t.text e

  constant_tells : Tells at constant
  constant_tells t e = constant_told t.kind t.text e

  row_tells : (a : HdlRule) → Tells at a → Tells at (row a)
  row_tells a h = (h, (symbol_tells 44, h))

  width_rule_tells : Tells at width_rule
  width_rule_tells = (symbol_tells 91, (width_tells, symbol_tells 93))

  pin_tells : Tells at pin
  pin_tells = (name_tells, width_rule_tells)

  last_tells : Tells at last
  last_tells = (dots_tells, last_index_tells)

  range_tells : Tells at range
  range_tells = (index_tells, last_tells)

  subscript_tells : Tells at subscript
  subscript_tells = (symbol_tells 91, (range_tells, symbol_tells 93))

  selection_tells : Tells at selection
  selection_tells = (name_tells, subscript_tells)

  source_tells : Tells at source
  source_tells = (selection_tells, constant_tells)

  connection_tells : Tells at connection
  connection_tells = (selection_tells, (symbol_tells 61, source_tells))

  part_tells : Tells at part
  part_tells = (name_tells, (symbol_tells 40, (row_tells connection connection_tells, (symbol_tells 41, symbol_tells 59))))

  parts_tells : Tells at parts
  parts_tells = (keyword_tells keyword.Parts, (symbol_tells 58, part_tells))

  listing_tells : (k : Keyword) (a : HdlRule) → Tells at a → Tells at (listing k a)
  listing_tells k a h = (keyword_tells k, (row_tells a h, symbol_tells 59))

  builtin_tells : Tells at builtin
  builtin_tells = (keyword_tells keyword.Builtin, (name_tells, (symbol_tells 59, listing_tells keyword.Clocked name name_tells)))

  body_tells : Tells at body
  body_tells = (parts_tells, builtin_tells)

  pins_tells : (k : Keyword) → Tells at (pins k)
  pins_tells k = listing_tells k pin pin_tells

  chip_tells : Tells at chip
  chip_tells = (keyword_tells keyword.Chip, (name_tells, (symbol_tells 123, (pins_tells keyword.In, (pins_tells keyword.Out, (body_tells, symbol_tells 125))))))

  whole_tells : Tells at whole
  whole_tells = (chip_tells, tt)

same_tokens : (text : List ℕ) (ts us : List Word) → tokens_of text ≡ Ok ts → tokens_of text ≡ Ok us → ts ≡ us
same_tokens text ts us a b = cc

-- tokens that are read as a chip
pub tokens_read : (at : Place) (c : Chip) (ts : List Word) (s' : ℕ) → Reads Word ℕ (Unit {0}) Said (hdl at) 0 whole ts (whole_tree c) s' [] → map shown_word ts ≡ chip_tokens c
tokens_read at c ts s' h =
    read.tokens_are Word ℕ (Unit {0}) Said (List ℕ) (hdl at) shown_word said_text (λ n. symbol_tells at 59) (whole_tells at) h
    ∙ append-nil (map said_text (leaves (hdl at) (whole_tree c) whole))

pub tokens_told : (text : List ℕ) (c : Chip) (ts : List Word) → tokens_of text ≡ Ok ts → Spells text c → map shown_word ts ≡ chip_tokens c
tokens_told text c ts cut s = ap (map shown_word) (same_tokens text ts s.0 cut s.2) ∙ tokens_read (finish text) c s.0 s.1 s.3
