-- The rules of Jack look at no more of a token than what it says, but for its place.
use Rattle.std.proofs.Common.{◌≡◌, ℕ, ◌+◌, Bool, true, false, cond, List, [], ◌∷◌, map, length, Ok, Err, refl, sym, ap, subst, ◌∙◌}
use Rattle.std.specs.Prelude.{nat_lt, nat_le, min, ◌||◌, ◌≤◌}
use Rattle.scan_text.specs.declared.Place.{Place}
use Rattle.scan_text.specs.Text.{start}
use Rattle.grammar.specs.declared.Fault.{Fault}
use Rattle.grammar.specs.declared.Fault.TheVariants.{Range}
use Rattle.grammar.specs.Rules.{name, Tree, Reads}
use Rattle.grammar.specs.Leaves.{seen_by}
use Rattle.jack_parser.specs.declared.counts.Counts.{Counts}
use Rattle.grammar.proofs.Alike as alike
use Rattle.grammar.proofs.Endings.{ends_anywhere}
use Rattle.jack_tree.specs.declared.token.Keyword.{Keyword}
use Rattle.jack_tree.specs.declared.token.Keyword.TheVariants as keyword
use Rattle.jack_tree.specs.declared.token.Kind.{Kind}
use Rattle.jack_tree.specs.declared.token.Kind.TheVariants as kind
use Rattle.jack_tree.specs.declared.tree.Class.{Class}
use Rattle.jack_tree.specs.Tokens.{Word}
use Rattle.jack_parser.specs.declared.counts.Counted.{Counted}
use Rattle.jack_parser.specs.declared.counts.Counted.TheVariants as counted
use Rattle.jack_lexer.specs.Tokens.{tokens_of, finish}
use Rattle.jack_parser.specs.Grammar as grammar
use Rattle.jack_parser.specs.Grammar.{jack, Part, Said, JackRule, Fixed, Placed, expression, term, statement, rule_of, opens, whole, sign_is, keyword_is, names, stands_for, any_sign, any_keyword, is_value, keyword_said, constant_by, type_by, is_symbol, is_keyword, symbol_of, symbol_at, keyword_of, key, identifier, constant, operator, unary, type_rule, result_rule, form_rule, counted_name, declaration, subscript, group, argument_list, invocation_rule, variable, negation, block, let_rule, else_rule, if_rule, while_rule, do_rule, return_rule, any_statement, names_rule, class_variables, locals_rule, parameter, parameter_list, subroutine, class_rule, is_operator, is_unary, types, returns, forms, string_size, deeper, count, so_many, one_more, fresh, check_constant, without_quotes}
use Rattle.jack_parser.specs.Spells.{whole_tree, Spells}
use Rattle.grammar.specs.Printed.{set_off}
use Rattle.jack_parser.specs.Printed.{class_text, without_place}
use Rattle.jack_parser.proofs.Spaced.{told, told_by, good_tokens, printed_good}
use Rattle.jack_parser.proofs.TokensTold.{tokens_told}
use Rattle.std.specs.List.{flat_map}

abbrev W : Type 0
W = Kind × List ℕ

abbrev Blind : Place → JackRule → Type 0
Blind at r = alike.Blind Word Counts Part Said W Said (jack at) told without_place r

by_kind : {X : Type 0} (f : Kind → X) (t u : Word) → told t ≡ told u → f t.kind ≡ f u.kind
by_kind f t u e = ap (λ (x : W). f x.0) e

-- what a name says
name_text : (k j : Kind) (x y : List ℕ) → k ≡ j → told_by k x ≡ told_by j y → names k ≡ true → x ≡ y
name_text (kind.Keyword k) j x y p e n = absurd cc
name_text (kind.Symbol b) j x y p e n = absurd cc
name_text (kind.Integer m) j x y p e n = absurd cc
name_text kind.Text j x y p e n = absurd cc
name_text kind.Identifier (kind.Keyword j) x y p e n = absurd cc
name_text kind.Identifier (kind.Symbol b) x y p e n = absurd cc
name_text kind.Identifier (kind.Integer m) x y p e n = absurd cc
name_text kind.Identifier kind.Text x y p e n = absurd cc
name_text kind.Identifier kind.Identifier x y p e n = e

-- what a constant, a type says, and how long a string is
abbrev said_of : Kind → List ℕ → Said
said_of (kind.Keyword k) x = keyword_said k start
said_of (kind.Symbol b) x = Fixed (kind.Symbol b)
said_of (kind.Integer n) x = Fixed (kind.Integer n)
said_of kind.Text x = Placed kind.Text x start
said_of kind.Identifier x = Placed kind.Identifier x start

keyword_unplaced : (k : Keyword) (at : Place) → without_place (keyword_said k at) ≡ keyword_said k start
keyword_unplaced keyword.Class at = refl
keyword_unplaced keyword.Constructor at = refl
keyword_unplaced keyword.Function at = refl
keyword_unplaced keyword.Method at = refl
keyword_unplaced keyword.Field at = refl
keyword_unplaced keyword.Static at = refl
keyword_unplaced keyword.Var at = refl
keyword_unplaced keyword.Int at = refl
keyword_unplaced keyword.Char at = refl
keyword_unplaced keyword.Boolean at = refl
keyword_unplaced keyword.Void at = refl
keyword_unplaced keyword.True at = refl
keyword_unplaced keyword.False at = refl
keyword_unplaced keyword.Null at = refl
keyword_unplaced keyword.This at = refl
keyword_unplaced keyword.Let at = refl
keyword_unplaced keyword.Do at = refl
keyword_unplaced keyword.If at = refl
keyword_unplaced keyword.Else at = refl
keyword_unplaced keyword.While at = refl
keyword_unplaced keyword.Return at = refl

constant_unplaced : (k : Kind) (x : List ℕ) (at : Place) → without_place (constant_by k x at) ≡ said_of k (told_by k x)
constant_unplaced (kind.Keyword k) x at = keyword_unplaced k at
constant_unplaced (kind.Symbol b) x at = refl
constant_unplaced (kind.Integer n) x at = refl
constant_unplaced kind.Text x at = refl
constant_unplaced kind.Identifier x at = refl

abbrev type_of : Kind → List ℕ → Said
type_of kind.Identifier x = Placed kind.Identifier x start
type_of k x = Fixed k

type_unplaced : (k : Kind) (x : List ℕ) (at : Place) → without_place (type_by k x at) ≡ type_of k (told_by k x)
type_unplaced (kind.Keyword k) x at = refl
type_unplaced (kind.Symbol b) x at = refl
type_unplaced (kind.Integer n) x at = refl
type_unplaced kind.Text x at = refl
type_unplaced kind.Identifier x at = refl

abbrev size_of : Kind → List ℕ → ℕ
size_of kind.Text x = length x
size_of k x = 0

size_told : (k : Kind) (x : List ℕ) → string_size k x ≡ size_of k (told_by k x)
size_told (kind.Keyword k) x = refl
size_told (kind.Symbol b) x = refl
size_told (kind.Integer n) x = refl
size_told kind.Text x = refl
size_told kind.Identifier x = refl

same_size : (t u : Word) → told t ≡ told u → string_size t.kind t.text ≡ string_size u.kind u.text
same_size t u e = size_told t.kind t.text ∙ ap (λ (z : W). size_of z.0 z.1) e ∙ sym (size_told u.kind u.text)

check_by : {S : Type 0} (x : Bool) (f g : Fault) (s s' : S) → cond x (Err f) (Ok s) ≡ Ok s' → cond x (Err g) (Ok s) ≡ Ok s'
check_by true f g s s' e = absurd cc
check_by false f g s s' e = e

check_same : (s s' : Counts) (t u : Word) → told t ≡ told u → check_constant s t ≡ Ok s' → check_constant s u ≡ Ok s'
check_same s s' t u o e =
    let n = string_size u.kind u.text in
    ap (λ (x : Bool). cond x (Err (Range u.place (min n 1000000000))) (Ok s)) (ap (nat_lt 16384) (sym (same_size t u o)))
    ∙ check_by (nat_lt 16384 (string_size t.kind t.text)) (Range t.place (min (string_size t.kind t.text) 1000000000)) (Range u.place (min n 1000000000)) s s' e

deeper_same : (s s' : Counts) (p q : Place) → deeper s p ≡ Ok s' → deeper s q ≡ Ok s'
deeper_same s s' p q e = check_by (nat_le 256 s.nesting) (Range p 257) (Range q 257) (fresh (s.nesting + 1)) s' e

count_same : (x : Counted) (s s' : Counts) (p q : Place) → count x s p ≡ Ok s' → count x s q ≡ Ok s'
count_same x s s' p q e = check_by (nat_le 16384 (so_many x s)) (Range p 16385) (Range q 16385) (one_more x s) s' e

module _ (at : Place) where
  symbol_blind : (b : ℕ) → Blind at (symbol_of b)
  symbol_blind b t u e = by_kind (sign_is b) t u e

  keyword_blind : (k : Keyword) → Blind at (keyword_of k)
  keyword_blind k t u e = by_kind (keyword_is k) t u e

  symbol_at_blind : (b : ℕ) → Blind at (symbol_at b)
  symbol_at_blind b = (λ t u e. by_kind (sign_is b) t u e, λ s s' t u e i c. c, λ t u e i. by_kind (λ (z : Kind). Placed z [] start) t u e)

  key_blind : (k : Keyword) → Blind at (key k)
  key_blind k = (λ t u e. by_kind (keyword_is k) t u e, λ s s' t u e i c. c, λ t u e i. by_kind (λ (z : Kind). Placed z [] start) t u e)

  name_blind : Blind at identifier
  name_blind = (λ t u e. by_kind names t u e, λ s s' t u e i c. c, λ t u e i. ap (λ (x : List ℕ). Placed kind.Identifier x start) (name_text t.kind u.kind t.text u.text (by_kind (λ z. z) t u e) (ap (λ (z : W). z.1) e) i))

  counted_blind : (x : Counted) → Blind at (counted_name x)
  counted_blind x = (λ t u e. by_kind names t u e, λ s s' t u e i c. count_same x s s' t.place u.place c, λ t u e i. ap (λ (x : List ℕ). Placed kind.Identifier x start) (name_text t.kind u.kind t.text u.text (by_kind (λ z. z) t u e) (ap (λ (z : W). z.1) e) i))

  constant_blind : Blind at constant
  constant_blind = (λ t u e. by_kind stands_for t u e, λ s s' t u e i c. check_same s s' t u e c, λ t u e i. constant_unplaced t.kind t.text t.place ∙ ap (λ (z : W). said_of z.0 z.1) e ∙ sym (constant_unplaced u.kind u.text u.place))

  operator_blind : Blind at operator
  operator_blind = (λ t u e. by_kind (any_sign is_operator) t u e, λ s s' t u e i c. c, λ t u e i. by_kind (λ (z : Kind). Placed z [] start) t u e)

  unary_blind : Blind at unary
  unary_blind = (λ t u e. by_kind (any_sign is_unary) t u e, λ s s' t u e i c. c, λ t u e i. by_kind Fixed t u e)

  type_blind : Blind at type_rule
  type_blind = (λ t u e. by_kind (any_keyword types true) t u e, λ s s' t u e i c. c, λ t u e i. type_unplaced t.kind t.text t.place ∙ ap (λ (z : W). type_of z.0 z.1) e ∙ sym (type_unplaced u.kind u.text u.place))

  result_blind : Blind at result_rule
  result_blind = (λ t u e. by_kind (any_keyword returns true) t u e, λ s s' t u e i c. c, λ t u e i. type_unplaced t.kind t.text t.place ∙ ap (λ (z : W). type_of z.0 z.1) e ∙ sym (type_unplaced u.kind u.text u.place))

  form_blind : Blind at form_rule
  form_blind = (λ t u e. by_kind (any_keyword forms false) t u e, λ s s' t u e i c. c, λ t u e i. by_kind Fixed t u e)

  nested_blind : (n : Part) → Blind at (grammar.nested_rule (name n))
  nested_blind n = (deeper_same, tt)

  subscript_blind : Blind at subscript
  subscript_blind = (symbol_blind 91, (nested_blind expression, symbol_blind 93))

  group_blind : Blind at group
  group_blind = (symbol_blind 40, (nested_blind expression, symbol_blind 41))

  argument_list_blind : Blind at argument_list
  argument_list_blind = ((count_same counted.Argument, tt), (symbol_blind 44, (count_same counted.Argument, tt)))

  call_blind : Blind at grammar.call
  call_blind = (symbol_blind 40, ((deeper_same, argument_list_blind), symbol_blind 41))

  invoked_blind : Blind at invocation_rule
  invoked_blind = (call_blind, (symbol_blind 46, (name_blind, call_blind)))

  variable_blind : Blind at variable
  variable_blind = (name_blind, (subscript_blind, invoked_blind))

  negation_blind : Blind at negation
  negation_blind = (unary_blind, nested_blind term)

  block_blind : Blind at block
  block_blind = (symbol_blind 123, (tt, symbol_blind 125))

  let_blind : Blind at let_rule
  let_blind = (key_blind keyword.Let, (name_blind, (subscript_blind, (symbol_blind 61, (tt, symbol_blind 59)))))

  else_blind : Blind at else_rule
  else_blind = (keyword_blind keyword.Else, block_blind)

  if_blind : Blind at if_rule
  if_blind = (key_blind keyword.If, (group_blind, (block_blind, else_blind)))

  while_blind : Blind at while_rule
  while_blind = (key_blind keyword.While, (group_blind, block_blind))

  do_blind : Blind at do_rule
  do_blind = (key_blind keyword.Do, (name_blind, (invoked_blind, symbol_blind 59)))

  return_blind : Blind at return_rule
  return_blind = (key_blind keyword.Return, (tt, symbol_blind 59))

  any_statement_blind : Blind at any_statement
  any_statement_blind = (let_blind, (if_blind, (while_blind, (do_blind, return_blind))))

  names_rule_blind : (x : Counted) → Blind at (names_rule x)
  names_rule_blind x = (counted_blind x, (symbol_blind 44, counted_blind x))

  declaration_blind : (k : Keyword) (x : Counted) → Blind at (declaration k x)
  declaration_blind k x = (keyword_blind k, (type_blind, (names_rule_blind x, symbol_blind 59)))

  class_variables_blind : Blind at class_variables
  class_variables_blind = (declaration_blind keyword.Static counted.Static, declaration_blind keyword.Field counted.Field)

  locals_rule_blind : Blind at locals_rule
  locals_rule_blind = declaration_blind keyword.Var counted.Local

  parameter_blind : Blind at parameter
  parameter_blind = (type_blind, counted_blind counted.Parameter)

  parameter_list_blind : Blind at parameter_list
  parameter_list_blind = (parameter_blind, (symbol_blind 44, parameter_blind))

  subroutine_blind : Blind at subroutine
  subroutine_blind = (λ s s' p q e. e, (form_blind, (result_blind, (name_blind, (symbol_blind 40, (parameter_list_blind, (symbol_blind 41, (symbol_blind 123, (locals_rule_blind, (tt, symbol_at_blind 125))))))))))

  class_rule_blind : Blind at class_rule
  class_rule_blind = (keyword_blind keyword.Class, (name_blind, (symbol_blind 123, (class_variables_blind, (subroutine_blind, symbol_blind 125)))))

  whole_blind : Blind at whole
  whole_blind = (class_rule_blind, tt)

  part_blind : (n : Part) → Blind at (rule_of n)
  part_blind expression = (tt, (operator_blind, tt))
  part_blind term = (constant_blind, (variable_blind, (group_blind, negation_blind)))
  part_blind statement = (deeper_same, any_statement_blind)

abbrev statement_kind : Kind → Bool
statement_kind k = keyword_is keyword.Let k || (keyword_is keyword.If k || (keyword_is keyword.While k || (keyword_is keyword.Do k || keyword_is keyword.Return k)))

abbrev term_kind : Kind → Bool
term_kind k = stands_for k || (names k || (sign_is 40 k || any_sign is_unary k))

opens_same : (n : Part) (t u : Word) → told t ≡ told u → opens n t ≡ opens n u
opens_same expression t u e = by_kind term_kind t u e
opens_same term t u e = by_kind term_kind t u e
opens_same statement t u e = by_kind statement_kind t u e

none_left : (us : List Word) → map told [] ≡ map told us → us ≡ []
none_left [] e = refl
none_left (u ∷ us) e = absurd cc

abbrev pub SpellsAlike : List ℕ → Tree Said → Type 0
SpellsAlike text x = (y : Tree Said) × Spells text y × (seen_by without_place x ≡ seen_by without_place y)

pub read_again : (at : Place) (out : List ℕ) (x : Tree Said) (ts us : List Word) (s' : Counts) → Reads Word Counts Part Said (jack at) (fresh 0) whole ts x s' [] → map told us ≡ map told ts → tokens_of out ≡ Ok us → SpellsAlike out x
read_again at out x ts us s' h same cut =
    let m = alike.read_alike Word Counts Part Said W Said (jack at) told without_place opens_same (part_blind at) (whole_blind at) h us (sym same) in
    let all = subst (λ (l : List Word). Reads Word Counts Part Said (jack at) (fresh 0) whole us m.tree s' l) (none_left m.rest m.same_rest) m.reads in
    (m.tree, (us, s', cut, ends_anywhere (jack at) (finish out) all), m.same_tree)

pub printed_spells : (text : List ℕ) (c : Class) → Spells text (whole_tree c) → length (class_text c) ≤ 1048576 → SpellsAlike (class_text c) (whole_tree c)
printed_spells text c s small =
    let ts = s.0 in
    let told_tokens = tokens_told text c ts s.2 s in
    let same = ap (flat_map set_off) told_tokens in
    let printed = printed_good ts (good_tokens text ts s.2) (subst (λ (l : List ℕ). length l ≤ 1048576) (sym same) small) in
    read_again (finish text) (class_text c) (whole_tree c) ts printed.0 s.1 s.3 printed.2 (ap tokens_of (sym same) ∙ printed.1)
