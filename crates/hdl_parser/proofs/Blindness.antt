-- The rules of HDL look at no more of a token than what it says, but for its place.
use Rattle.std.proofs.Common.{◌≡◌, ℕ, Bool, true, false, cond, List, [], ◌∷◌, map, length, Ok, Err, Result, refl, sym, ap, subst, ◌∙◌}
use Rattle.std.specs.Prelude.{nat_lt, ◌≤◌}
use Rattle.std.specs.List.{flat_map}
use Rattle.scan_text.specs.declared.Place.{Place}
use Rattle.scan_text.specs.Text.{start}
use Rattle.grammar.specs.declared.Fault.{Fault}
use Rattle.grammar.specs.declared.Fault.TheVariants.{Grammar}
use Rattle.grammar.specs.Rules.{Tree, Reads}
use Rattle.hdl_tree.specs.declared.tree.Chip.{Chip}
use Rattle.hdl_tree.specs.Writable.{chip_can}
use Rattle.hdl_parser.specs.declared.token.Keyword.{Keyword}
use Rattle.hdl_parser.specs.declared.token.Keyword.TheVariants as keyword
use Rattle.hdl_parser.specs.declared.token.Kind.{Kind}
use Rattle.hdl_parser.specs.declared.token.Kind.TheVariants as kind
use Rattle.hdl_parser.specs.Tokens.{Word, tokens_of, finish}
use Rattle.hdl_parser.specs.Grammar.{hdl, Said, HdlRule, Fixed, Text, sign_is, keyword_is, is_dotted, names, counts, stands_for, value_of, too_large, symbol_of, keyword_of, dots, name, width, index, last_index, constant, row, width_rule, pin, last, range, indices, subscript, selection, source, connection, part, parts, listing, builtin, body, pins, chip, whole, check_width, check_index, check_last}
use Rattle.hdl_parser.specs.Spells.{whole_tree, Spells}
use Rattle.grammar.specs.Printed.{set_off}
use Rattle.hdl_parser.specs.Printed.{chip_text, shown_word}
use Rattle.grammar.proofs.Alike as alike
use Rattle.grammar.proofs.Alike.{seen_whole}
use Rattle.grammar.proofs.Endings.{ends_anywhere}
use Rattle.hdl_parser.proofs.Spaced.{told, told_by, AllGood, printed_good}
use Rattle.hdl_parser.proofs.Derived.{chip_words, chip_read, chip_fine}
use Rattle.hdl_parser.proofs.TokensTold.{tokens_read}

abbrev W : Type 0
W = Kind × List ℕ

abbrev Blind : Place → HdlRule → Type 0
Blind at r = alike.Blind Word ℕ (Unit {0}) Said W Said (hdl at) told (λ v. v) r

by_kind : {X : Type 0} (f : Kind → X) (t u : Word) → told t ≡ told u → f t.kind ≡ f u.kind
by_kind f t u e = ap (λ (x : W). f x.0) e

-- what a name says
name_text : (k j : Kind) (x y : List ℕ) → k ≡ j → told_by k x ≡ told_by j y → names k ≡ true → x ≡ y
name_text (kind.Keyword k) j x y p e n = absurd cc
name_text (kind.Symbol b) j x y p e n = absurd cc
name_text kind.Dots j x y p e n = absurd cc
name_text (kind.Number m) j x y p e n = absurd cc
name_text kind.Name (kind.Keyword j) x y p e n = absurd cc
name_text kind.Name (kind.Symbol b) x y p e n = absurd cc
name_text kind.Name kind.Dots x y p e n = absurd cc
name_text kind.Name (kind.Number m) x y p e n = absurd cc
name_text kind.Name kind.Name x y p e n = e

-- a check that passes doesn't look at the place
check_by : {S : Type 0} (x : Bool) (f g : Fault) (r s : Result S Fault) (s' : S) → cond x (Err f) r ≡ Ok s' → (r ≡ Ok s' → s ≡ Ok s') → cond x (Err g) s ≡ Ok s'
check_by true f g r s s' e h = absurd cc
check_by false f g r s s' e h = h e

width_same : (s s' : ℕ) (t u : Word) → told t ≡ told u → check_width s t ≡ Ok s' → check_width s u ≡ Ok s'
width_same s s' t u o e =
    let same : value_of t.kind ≡ value_of u.kind = by_kind value_of t u o in
    ap (λ (n : ℕ). cond (nat_lt 16 n) (Err (too_large u.place n)) (Ok s)) (sym same)
    ∙ check_by (nat_lt 16 (value_of t.kind)) (too_large t.place (value_of t.kind)) (too_large u.place (value_of t.kind)) (Ok s) (Ok s) s' e (λ h. h)

index_same : (s s' : ℕ) (t u : Word) → told t ≡ told u → check_index s t ≡ Ok s' → check_index s u ≡ Ok s'
index_same s s' t u o e =
    let same : value_of t.kind ≡ value_of u.kind = by_kind value_of t u o in
    ap (λ (n : ℕ). cond (nat_lt 15 n) (Err (too_large u.place n)) (Ok n)) (sym same)
    ∙ check_by (nat_lt 15 (value_of t.kind)) (too_large t.place (value_of t.kind)) (too_large u.place (value_of t.kind)) (Ok (value_of t.kind)) (Ok (value_of t.kind)) s' e (λ h. h)

last_same : (s s' : ℕ) (t u : Word) → told t ≡ told u → check_last s t ≡ Ok s' → check_last s u ≡ Ok s'
last_same s s' t u o e =
    let n = value_of t.kind in
    let same : n ≡ value_of u.kind = by_kind value_of t u o in
    ap (λ (n : ℕ). cond (nat_lt 15 n) (Err (too_large u.place n)) (cond (nat_lt n s) (Err (Grammar u.place)) (Ok s))) (sym same)
    ∙ check_by (nat_lt 15 n) (too_large t.place n) (too_large u.place n) (cond (nat_lt n s) (Err (Grammar t.place)) (Ok s)) (cond (nat_lt n s) (Err (Grammar u.place)) (Ok s)) s' e
    (λ h. check_by (nat_lt n s) (Grammar t.place) (Grammar u.place) (Ok s) (Ok s) s' h (λ k. k))

module _ (at : Place) where
  symbol_blind : (b : ℕ) → Blind at (symbol_of b)
  symbol_blind b t u e = by_kind (sign_is b) t u e

  keyword_blind : (k : Keyword) → Blind at (keyword_of k)
  keyword_blind k t u e = by_kind (keyword_is k) t u e

  dots_blind : Blind at dots
  dots_blind t u e = by_kind is_dotted t u e

  name_blind : Blind at name
  name_blind = (λ t u e. by_kind names t u e, λ s s' t u e i c. c, λ t u e i. ap Text (name_text t.kind u.kind t.text u.text (by_kind (λ z. z) t u e) (ap (λ (z : W). z.1) e) i))

  width_blind : Blind at width
  width_blind = (λ t u e. by_kind counts t u e, λ s s' t u e i c. width_same s s' t u e c, λ t u e i. by_kind Fixed t u e)

  index_blind : Blind at index
  index_blind = (λ t u e. by_kind counts t u e, λ s s' t u e i c. index_same s s' t u e c, λ t u e i. by_kind Fixed t u e)

  last_index_blind : Blind at last_index
  last_index_blind = (λ t u e. by_kind counts t u e, λ s s' t u e i c. last_same s s' t u e c, λ t u e i. by_kind Fixed t u e)

  constant_blind : Blind at constant
  constant_blind = (λ t u e. by_kind stands_for t u e, λ s s' t u e i c. c, λ t u e i. by_kind Fixed t u e)

  row_blind : (a : HdlRule) → Blind at a → Blind at (row a)
  row_blind a h = (h, (symbol_blind 44, h))

  width_rule_blind : Blind at width_rule
  width_rule_blind = (symbol_blind 91, (width_blind, symbol_blind 93))

  pin_blind : Blind at pin
  pin_blind = (name_blind, width_rule_blind)

  last_blind : Blind at last
  last_blind = (dots_blind, last_index_blind)

  range_blind : Blind at range
  range_blind = (index_blind, last_blind)

  indices_blind : Blind at indices
  indices_blind = (λ s s' p q e. e, range_blind)

  subscript_blind : Blind at subscript
  subscript_blind = (symbol_blind 91, (indices_blind, symbol_blind 93))

  selection_blind : Blind at selection
  selection_blind = (name_blind, subscript_blind)

  source_blind : Blind at source
  source_blind = (selection_blind, constant_blind)

  connection_blind : Blind at connection
  connection_blind = (selection_blind, (symbol_blind 61, source_blind))

  part_blind : Blind at part
  part_blind = (name_blind, (symbol_blind 40, (row_blind connection connection_blind, (symbol_blind 41, symbol_blind 59))))

  parts_blind : Blind at parts
  parts_blind = (keyword_blind keyword.Parts, (symbol_blind 58, part_blind))

  listing_blind : (k : Keyword) (a : HdlRule) → Blind at a → Blind at (listing k a)
  listing_blind k a h = (keyword_blind k, (row_blind a h, symbol_blind 59))

  builtin_blind : Blind at builtin
  builtin_blind = (keyword_blind keyword.Builtin, (name_blind, (symbol_blind 59, listing_blind keyword.Clocked name name_blind)))

  body_blind : Blind at body
  body_blind = (parts_blind, builtin_blind)

  pins_blind : (k : Keyword) → Blind at (pins k)
  pins_blind k = listing_blind k pin pin_blind

  chip_blind : Blind at chip
  chip_blind = (keyword_blind keyword.Chip, (name_blind, (symbol_blind 123, (pins_blind keyword.In, (pins_blind keyword.Out, (body_blind, symbol_blind 125))))))

  whole_blind : Blind at whole
  whole_blind = (chip_blind, tt)

none_left : (us : List Word) → map told [] ≡ map told us → us ≡ []
none_left [] e = refl
none_left (u ∷ us) e = absurd cc

-- tokens that are read as a chip, and the tokens of its printed form
read_again : (at : Place) (c : Chip) (ts : List Word) (s' : ℕ) → Reads Word ℕ (Unit {0}) Said (hdl at) 0 whole ts (whole_tree c) s' [] → AllGood ts → length (chip_text c) ≤ 1048576 → Spells (chip_text c) c
read_again at c ts s' h good small =
    let same : flat_map set_off (map shown_word ts) ≡ chip_text c = ap (flat_map set_off) (tokens_read at c ts s' h) in
    let printed = printed_good ts good (subst (λ (l : List ℕ). length l ≤ 1048576) (sym same) small) in
    let us = printed.0 in
    let m = alike.read_alike Word ℕ (Unit {0}) Said W Said (hdl at) told (λ v. v) (λ n t u e. by_kind (sign_is 59) t u e) (λ n. symbol_blind at 59) (whole_blind at) h us (sym printed.2) in
    let all = subst (λ (l : List Word). Reads Word ℕ (Unit {0}) Said (hdl at) 0 whole us m.tree s' l) (none_left m.rest m.same_rest) m.reads in
    let whole_again : whole_tree c ≡ m.tree = sym (seen_whole (whole_tree c)) ∙ m.same_tree ∙ seen_whole m.tree in
    let chip = subst (λ (x : Tree Said). Reads Word ℕ (Unit {0}) Said (hdl at) 0 whole us x s' []) (sym whole_again) all in
    (us, s', ap tokens_of (sym same) ∙ printed.1, ends_anywhere (hdl at) (finish (chip_text c)) chip)

pub printed_spells : (c : Chip) → chip_can c ≡ true → length (chip_text c) ≤ 1048576 → Spells (chip_text c) c
printed_spells c h small = read_again start c (chip_words c) 0 (chip_read c h) (chip_fine c h) small
