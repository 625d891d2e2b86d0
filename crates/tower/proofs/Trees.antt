-- What is read of words that are read: a tree each of whose leaves is a name, an integer of at most 32,767, a string, or neither of them.
use Rattle.std.proofs.Common.{◌≡◌, ℕ, ◌≤◌, ◌<◌, Bool, true, false, List, [], length, Ok, Err, refl, arith, cond}
use Rattle.std.proofs.lemmas.Bool.{ltb-false}
use Rattle.std.proofs.lemmas.List.Elements.{All-nil, All-take, All-drop}
use Rattle.std.specs.Prelude.{nat_lt, ◌-◌, drop}
use Rattle.scan_text.specs.declared.Place.{Place}
use Rattle.grammar.specs.declared.Fault.{Fault}
use Rattle.grammar.specs.Rules.{mark, word, end, seq, choice, option, repeat, name, within, Tree, Skip, Node, Leaf, Pair, Left, Right, Absent, Present, NoMore, More, Reads, marked, worded, at_end, both, left, right, passed, taken, ended, again, named, inside}
use Rattle.jack_tree.specs.declared.token.Keyword.{Keyword}
use Rattle.jack_tree.specs.declared.token.Keyword.TheVariants as keyword
use Rattle.jack_tree.specs.declared.token.Kind.{Kind}
use Rattle.jack_tree.specs.declared.token.Kind.TheVariants as kind
use Rattle.jack_tree.specs.Tokens.{Word}
use Rattle.grammar.specs.Words.{is_name_byte}
use Rattle.jack_parser.specs.declared.counts.Counted.{Counted}
use Rattle.jack_parser.specs.declared.counts.Counted.TheVariants as counted
use Rattle.jack_parser.specs.declared.counts.Counts.{Counts}
use Rattle.jack_parser.specs.Grammar.{jack, Part, Said, Fixed, Placed, JackRule, expression, term, statement, rule_of, whole, names, keyword_said, constant_by, type_by, string_size, key, symbol_at, identifier, constant, operator, unary, type_rule, result_rule, form_rule, counted_name, declaration, group, argument_list, invocation_rule, variable, negation, block, let_rule, if_rule, while_rule, do_rule, return_rule, any_statement, names_rule, class_variables, locals_rule, parameter, parameter_list, subroutine, class_rule}
use Rattle.tower.specs.Read.{IsName, IsString}
use Rattle.tower.proofs.Words.{IsReadText, IsReadWord, AreReadWords}

abbrev IsReadFixed : Kind → Type 0
IsReadFixed (kind.Keyword k) = Unit {0}
IsReadFixed (kind.Symbol b) = Unit {0}
IsReadFixed (kind.Integer n) = n ≤ 32767
IsReadFixed kind.Text = Unit {0}
IsReadFixed kind.Identifier = Unit {0}

abbrev IsReadPlaced : Kind → List ℕ → Type 0
IsReadPlaced (kind.Keyword k) text = Unit {0}
IsReadPlaced (kind.Symbol b) text = Unit {0}
IsReadPlaced (kind.Integer n) text = Unit {0}
IsReadPlaced kind.Text text = IsString text
IsReadPlaced kind.Identifier text = IsName text

abbrev pub IsReadSaid : Said → Type 0
IsReadSaid (Fixed k) = IsReadFixed k
IsReadSaid (Placed k text at) = IsReadPlaced k text

abbrev pub IsReadTree : Tree Said → Type 0
IsReadTree Skip = Unit {0}
IsReadTree (Node x) = IsReadTree x
IsReadTree (Leaf v) = IsReadSaid v
IsReadTree (Pair x y) = IsReadTree x × IsReadTree y
IsReadTree (Left x) = IsReadTree x
IsReadTree (Right x) = IsReadTree x
IsReadTree Absent = Unit {0}
IsReadTree (Present x) = IsReadTree x
IsReadTree NoMore = Unit {0}
IsReadTree (More x y) = IsReadTree x × IsReadTree y

-- ---- what the rules say of one word

-- the rule says of words that are read only such leaves
abbrev Says : JackRule → Type 0
Says (mark v is) = Unit {0}
Says (word is check value) = (s s' : Counts) (t : Word) → IsReadWord t → is t ≡ true → check s t ≡ Ok s' → IsReadSaid (value t)
Says end = Unit {0}
Says (seq a b) = Says a × Says b
Says (choice a b) = Says a × Says b
Says (option a) = Says a
Says (repeat a) = Says a
Says (name n) = Unit {0}
Says (within enter leave a) = Says a

placed_read : (k : Kind) → IsReadPlaced k []
placed_read (kind.Keyword k) = tt
placed_read (kind.Symbol b) = tt
placed_read (kind.Integer n) = tt
placed_read kind.Text = record { short = omega arith; ascii = All-nil (λ (b : ℕ). b < 128) }
placed_read kind.Identifier = All-nil (λ (b : ℕ). is_name_byte b ≡ true)

fixed_read : (k : Kind) (text : List ℕ) → IsReadText k text → IsReadFixed k
fixed_read (kind.Keyword k) text h = tt
fixed_read (kind.Symbol b) text h = tt
fixed_read (kind.Integer n) text h = h
fixed_read kind.Text text h = tt
fixed_read kind.Identifier text h = tt

name_read : (k : Kind) (text : List ℕ) → IsReadText k text → names k ≡ true → IsName text
name_read (kind.Keyword k) text h e = absurd cc
name_read (kind.Symbol b) text h e = absurd cc
name_read (kind.Integer n) text h e = absurd cc
name_read kind.Text text h e = absurd cc
name_read kind.Identifier text h e = h

type_read : (k : Kind) (text : List ℕ) (at : Place) → IsReadText k text → IsReadSaid (type_by k text at)
type_read (kind.Keyword k) text at h = tt
type_read (kind.Symbol b) text at h = tt
type_read (kind.Integer n) text at h = h
type_read kind.Text text at h = tt
type_read kind.Identifier text at h = h

keyword_read : (k : Keyword) (at : Place) → IsReadSaid (keyword_said k at)
keyword_read keyword.This at = tt
keyword_read k at = tt

constant_read : (k : Kind) (text : List ℕ) (at : Place) → IsReadText k text → string_size k text ≤ 16384 → IsReadSaid (constant_by k text at)
constant_read (kind.Keyword k) text at h n = keyword_read k at
constant_read (kind.Symbol b) text at h n = tt
constant_read (kind.Integer m) text at h n = h
constant_read kind.Text text at h n =
    record { short = n; ascii = All-take (λ (b : ℕ). b < 128) (length text - 2) (drop 1 text) (All-drop (λ (b : ℕ). b < 128) 1 text h) }
constant_read kind.Identifier text at h n = h

short_by : (b : Bool) (n : ℕ) (f : Fault) (s s' : Counts) → nat_lt 16384 n ≡ b → cond b (Err f) (Ok s) ≡ Ok s' → n ≤ 16384
short_by true n f s s' e h = absurd cc
short_by false n f s s' e h = ltb-false 16384 n e

-- ---- each rule

key_says : (k : Keyword) → Says (key k)
key_says k s s' t h e c = placed_read t.kind

close_says : Says (symbol_at 125)
close_says s s' t h e c = placed_read t.kind

name_says : Says identifier
name_says s s' t h e c = name_read t.kind t.text h e

counted_says : (x : Counted) → Says (counted_name x)
counted_says x s s' t h e c = name_read t.kind t.text h e

constant_says : Says constant
constant_says s s' t h e c = constant_read t.kind t.text t.place h (short_by _ (string_size t.kind t.text) _ s s' refl c)

operator_says : Says operator
operator_says s s' t h e c = placed_read t.kind

unary_says : Says unary
unary_says s s' t h e c = fixed_read t.kind t.text h

type_says : Says type_rule
type_says s s' t h e c = type_read t.kind t.text t.place h

result_says : Says result_rule
result_says s s' t h e c = type_read t.kind t.text t.place h

form_says : Says form_rule
form_says s s' t h e c = fixed_read t.kind t.text h

three_says : Says group
three_says = (tt, (tt, tt))

arguments_say : Says argument_list
arguments_say = (tt, (tt, tt))

invoked_says : Says invocation_rule
invoked_says = ((tt, (arguments_say, tt)), (tt, (name_says, (tt, (arguments_say, tt)))))

variable_says : Says variable
variable_says = (name_says, ((tt, (tt, tt)), invoked_says))

negation_says : Says negation
negation_says = (unary_says, tt)

block_says : Says block
block_says = (tt, (tt, tt))

let_says : Says let_rule
let_says = (key_says keyword.Let, (name_says, ((tt, (tt, tt)), (tt, (tt, tt)))))

if_says : Says if_rule
if_says = (key_says keyword.If, (three_says, (block_says, (tt, block_says))))

while_says : Says while_rule
while_says = (key_says keyword.While, (three_says, block_says))

do_says : Says do_rule
do_says = (key_says keyword.Do, (name_says, (invoked_says, tt)))

return_says : Says return_rule
return_says = (key_says keyword.Return, (tt, tt))

statement_says : Says any_statement
statement_says = (let_says, (if_says, (while_says, (do_says, return_says))))

names_say : (x : Counted) → Says (names_rule x)
names_say x = (counted_says x, (tt, counted_says x))

declaration_says : (k : Keyword) (x : Counted) → Says (declaration k x)
declaration_says k x = (tt, (type_says, (names_say x, tt)))

variables_say : Says class_variables
variables_say = (declaration_says keyword.Static counted.Static, declaration_says keyword.Field counted.Field)

locals_say : Says locals_rule
locals_say = declaration_says keyword.Var counted.Local

parameter_says : Says parameter
parameter_says = (type_says, counted_says counted.Parameter)

parameters_say : Says parameter_list
parameters_say = (parameter_says, (tt, parameter_says))

subroutine_says : Says subroutine
subroutine_says = (form_says, (result_says, (name_says, (tt, (parameters_say, (tt, (tt, (locals_say, (tt, close_says)))))))))

class_says : Says class_rule
class_says = (tt, (name_says, (tt, (variables_say, (subroutine_says, tt)))))

whole_says : Says whole
whole_says = (class_says, tt)

part_says : (n : Part) → Says (rule_of n)
part_says expression = (tt, (operator_says, tt))
part_says term = (constant_says, (variable_says, (three_says, negation_says)))
part_says statement = statement_says

-- ---- what is read

module _ (at : Place) where
  reads_tree : {s s' : Counts} {r : JackRule} {ts us : List Word} {x : Tree Said} → Says r → AreReadWords ts → Reads Word Counts Part Said (jack at) s r ts x s' us → IsReadTree x × AreReadWords us
  reads_tree h k (marked e) = (tt, k.1)
  reads_tree h k (worded {s = s} {s' = s'} {t = t} e c) = (h s s' t k.0 e c, k.1)
  reads_tree h k at_end = (tt, k)
  reads_tree h k (both p q) = let a = reads_tree h.0 k p in let b = reads_tree h.1 a.1 q in ((a.0, b.0), b.1)
  reads_tree h k (left e p) = reads_tree h.0 k p
  reads_tree h k (right e f p) = reads_tree h.1 k p
  reads_tree h k (passed e) = (tt, k)
  reads_tree h k (taken e p) = reads_tree h k p
  reads_tree h k (ended e) = (tt, k)
  reads_tree h k (again e p q) = let a = reads_tree h k p in let b = reads_tree h a.1 q in ((a.0, b.0), b.1)
  reads_tree h k (named {n = n} p) = reads_tree (part_says n) k p
  reads_tree h k (inside e c p) = reads_tree h k p

  pub whole_read : {s s' : Counts} {ts us : List Word} {x : Tree Said} → AreReadWords ts → Reads Word Counts Part Said (jack at) s whole ts x s' us → IsReadTree x
  whole_read k p = (reads_tree whole_says k p).0
