-- The parts that make the expressions which the abstract syntax means, and how many they are at most.
use Rattle.std.proofs.Common.{◌≡◌, ℕ, ◌+◌, ◌-◌, ◌≤◌, ◌*◌, List, [], ◌∷◌, ◌++◌, Option, Some, None, length, take, drop, reverse, codes, refl, sym, ap, ◌∙◌, append_assoc, arith}
use Rattle.std.proofs.lemmas.List.{reverse-append, reverse-reverse, length-reverse, length-append}
use Rattle.std.proofs.Math.Seq.{take-append_seam, drop-append_seam}
use Rattle.jack_meaning.specs.Text as meaning
use Rattle.jack_core.specs.declared.tree.Part.{Part}
use Rattle.jack_core.specs.declared.tree.Part.TheVariants as part
use Rattle.jack_core.specs.declared.tree.Sign.{Sign}
use Rattle.jack_core.specs.declared.tree.Operator.{Operator}
use Rattle.jack_core.specs.Heights.{takes, height}
use Rattle.jack_core.specs.Reading.{make_expression, put, build_expressions, arguments_of}
use Rattle.jack_core.proofs.Postfix.{built_more, height_more, height_first}
use Rattle.jack_tree.specs.Syntax as tree
use Rattle.jack_names.specs.Lengths.{constant_length, expression_length, operations_length, term_length, call_length, arguments_length, value_length}
use Rattle.jack_names.specs.Made.{slot_meant, declared_meant, with_variable, filled_characters, one, two, length_word}
use Rattle.jack_names.specs.Meaning as plain
use Rattle.jack_names.specs.Numbers.{Standing}
use Rattle.jack_names.specs.declared.scope.Slot.{Slot}
use Rattle.jack_names.specs.declared.scope.Slot.TheVariants as slot
use Rattle.jack_names.specs.declared.scope.Declared.{Declared}

-- At most n parts add these expressions to others.
pub record Made (xs : List meaning.Expression) (n : ℕ) : Type 0 where
  pub parts : List Part
  pub few : length parts ≤ n
  pub built : (es : List meaning.Expression) → build_expressions es parts ≡ reverse xs ++ es
  pub high : (h : ℕ) → height h parts ≡ Some (h + length xs)

abbrev pub Single : meaning.Expression → ℕ → Type 0
Single x n = Made (x ∷ []) n

pub nothing : Made [] 0
nothing = record { parts = []; few = omega arith; built = λ es. refl; high = λ h. ap Some (omega arith) }

in_order : (xs ys es : List meaning.Expression) → reverse ys ++ (reverse xs ++ es) ≡ reverse (xs ++ ys) ++ es
in_order xs ys es = sym (append_assoc (reverse ys) (reverse xs) es) ∙ ap (λ (l : List meaning.Expression). l ++ es) (sym (reverse-append xs ys))

pub both : (xs ys : List meaning.Expression) (m n : ℕ) → Made xs m → Made ys n → Made (xs ++ ys) (m + n)
both xs ys m n a b = record {
  parts = a.parts ++ b.parts;
  few = omega (arith, a.few, b.few, length-append a.parts b.parts);
  built = λ es.
      built_more es a.parts b.parts ∙ ap (λ (l : List meaning.Expression). build_expressions l b.parts) (a.built es)
      ∙ b.built (reverse xs ++ es) ∙ in_order xs ys es;
  high = λ h.
      let same : h + length xs + length ys ≡ h + length (xs ++ ys) = omega (arith, length-append xs ys) in
      height_more h (h + length xs) a.parts b.parts (a.high h) ∙ b.high (h + length xs) ∙ ap Some same;
}

-- a part takes all of them
put_all : (p : Part) (xs es : List meaning.Expression) → takes p ≡ length xs → put p (reverse xs ++ es) ≡ make_expression p xs ∷ es
put_all p xs es is =
    ap (λ (k : ℕ). make_expression p (reverse (take k (reverse xs ++ es))) ∷ drop k (reverse xs ++ es)) (is ∙ sym (length-reverse xs))
    ∙ ap (λ (ys : List meaning.Expression). make_expression p (reverse ys) ∷ drop (length (reverse xs)) (reverse xs ++ es)) (take-append_seam (reverse xs) es)
    ∙ ap (λ (ys : List meaning.Expression). make_expression p (reverse (reverse xs)) ∷ ys) (drop-append_seam (reverse xs) es)
    ∙ ap (λ (ys : List meaning.Expression). make_expression p ys ∷ es) (reverse-reverse xs)

pub close : (p : Part) (xs : List meaning.Expression) (n : ℕ) (x : meaning.Expression) → takes p ≡ length xs → make_expression p xs ≡ x → Made xs n → Single x (n + 1)
close p xs n x is same a = record {
  parts = a.parts ++ p ∷ [];
  few = omega (arith, a.few, length-append a.parts (p ∷ []));
  built = λ es.
      built_more es a.parts (p ∷ []) ∙ ap (put p) (a.built es) ∙ put_all p xs es is ∙ ap (λ (y : meaning.Expression). y ∷ es) same;
  high = λ h.
      let le : takes p ≤ h + length xs = omega (arith, is) in
      let left : h + length xs - takes p + 1 ≡ h + 1 = omega (arith, is) in
      height_more h (h + length xs) a.parts (p ∷ []) (a.high h) ∙ height_first (h + length xs) p [] le ∙ ap Some left;
}

pub wider : (xs : List meaning.Expression) (m n : ℕ) → m ≤ n → Made xs m → Made xs n
wider xs m n le a = record { parts = a.parts; few = omega (arith, le, a.few); built = a.built; high = a.high }

-- a part without operands
pub leaf : (p : Part) (x : meaning.Expression) → takes p ≡ 0 → make_expression p [] ≡ x → Single x 1
leaf p x is same = close p [] 0 x is same nothing

pub literal : (n : ℕ) → Single (meaning.Literal n) 1
literal n = leaf (part.Literal n) (meaning.Literal n) refl refl

slot_made : (k : Slot) → Single (slot_meant k) 1
slot_made (slot.Argument k) = leaf (part.Argument k) _ refl refl
slot_made (slot.Local k) = leaf (part.Local k) _ refl refl
slot_made (slot.Field k) = leaf (part.Field k) _ refl refl
slot_made (slot.Static k) = leaf (part.Static k) _ refl refl

pub variable_made : (o : Option Declared) → Single (declared_meant o) 1
variable_made None = literal 0
variable_made (Some v) = slot_made v.slot

-- ---- calls

-- At most n parts make these arguments.
pub record Arguments (args : meaning.Expressions) (n : ℕ) : Type 0 where
  pub all : List meaning.Expression
  pub is : arguments_of all ≡ args
  pub made : Made all n

no_more : Arguments meaning.NoMore 0
no_more = record { all = []; is = refl; made = nothing }

one_more : (x : meaning.Expression) (args : meaning.Expressions) (m n : ℕ) → Single x m → Arguments args n → Arguments (meaning.More x args) (m + n)
one_more x args m n a b = record { all = x ∷ b.all; is = ap (meaning.More x) b.is; made = both (x ∷ []) b.all m n a b.made }

pub call_made : (g : ℕ) (args : meaning.Expressions) (n : ℕ) → Arguments args n → Single (meaning.Call g args) (n + 1)
call_made g args n a = close (part.Call (length a.all) g) a.all n (meaning.Call g args) refl (ap (meaning.Call g) a.is) a.made

pub one_made : (x : meaning.Expression) (n : ℕ) → Single x n → Arguments (one x) n
one_made x n a = record { all = x ∷ []; is = refl; made = a }

two_made : (x y : meaning.Expression) (m n : ℕ) → Single x m → Single y n → Arguments (two x y) (m + n)
two_made x y m n a b = record { all = x ∷ y ∷ []; is = refl; made = both (x ∷ []) (y ∷ []) m n a b }

-- a string, byte by byte
filled_made : (append : ℕ) (x : meaning.Expression) (n : ℕ) (bs : List ℕ) → Single x n → Single (filled_characters append x bs) (n + 2 * length bs)
filled_made append x n [] a = wider (x ∷ []) n (n + 2 * 0) (omega arith) a
filled_made append x n (b ∷ bs) a =
    wider _ (n + 1 + 1 + 2 * length bs) (n + 2 * length (b ∷ bs)) (omega arith)
    (filled_made append (meaning.Call append (two x (meaning.Literal b))) (n + 1 + 1) bs (call_made append _ (n + 1) (two_made x (meaning.Literal b) n 1 a (literal b))))

string_made : (s : Standing) (text : List ℕ) → Single (plain.string_meaning s text) (2 + 2 * length text)
string_made s text = filled_made (plain.made_word s (codes "String") (codes "appendChar")) _ 2 text (call_made (plain.made_word s (codes "String") (codes "new")) _ 1 (one_made _ 1 (literal (length_word text))))

constant_made : (s : Standing) (c : tree.Constant) → Single (plain.constant_meaning s c) (constant_length c)
constant_made s (tree.Integer n) = literal n
constant_made s (tree.String t) = string_made s t.text
constant_made s tree.True = literal 65535
constant_made s tree.False = literal 0
constant_made s tree.Null = literal 0
constant_made s (tree.This at) = leaf part.This meaning.This refl refl

by_variable : (o : Option Declared) (args : meaning.Expressions) (n : ℕ) → Arguments args n → Arguments (with_variable o args) (1 + n)
by_variable None args n a = record { all = a.all; is = a.is; made = wider a.all n (1 + n) (omega arith) a.made }
by_variable (Some v) args n a = one_more (slot_meant v.slot) args 1 n (slot_made v.slot) a

by_object : (s : Standing) (o : Option tree.Name) (args : meaning.Expressions) (n : ℕ) → Arguments args n → Arguments (plain.with_object s o args) (1 + n)
by_object s None args n a = one_more meaning.This args 1 n (leaf part.This meaning.This refl refl) a
by_object s (Some x) args n a = by_variable (s.variable x.text) args n a

signed : (o : tree.Sign) (x : meaning.Expression) (n : ℕ) → Single x n → Single (meaning.Unary (plain.sign_meaning o) x) (1 + n)
signed tree.Negate x n a = wider _ (n + 1) (1 + n) (omega arith) (close (part.Unary Sign.Minus) (x ∷ []) n _ refl refl a)
signed tree.Not x n a = wider _ (n + 1) (1 + n) (omega arith) (close (part.Unary Sign.Complement) (x ∷ []) n _ refl refl a)
signed tree.ShiftLeft x n a = wider _ (n + 1) (1 + n) (omega arith) (close (part.Unary Sign.ShiftLeft) (x ∷ []) n _ refl refl a)
signed tree.ShiftRight x n a = wider _ (n + 1) (1 + n) (omega arith) (close (part.Unary Sign.ShiftRight) (x ∷ []) n _ refl refl a)

-- an operator between two
module _ (s : Standing) (x y : meaning.Expression) (m n : ℕ) (a : Single x m) (b : Single y n) where
  pair : Made (x ∷ y ∷ []) (m + n)
  pair = both (x ∷ []) (y ∷ []) m n a b

  by_part : (o : Operator) → Single (make_expression (part.Binary o) (x ∷ y ∷ [])) (m + n + 1)
  by_part o = close (part.Binary o) (x ∷ y ∷ []) (m + n) _ refl refl pair

  by_call : (g : ℕ) → Single (meaning.Call g (two x y)) (m + n + 1)
  by_call g = call_made g _ (m + n) (two_made x y m n a b)

  binary_made : (o : tree.Operator) → Single (plain.binary_meaning s o x y) (m + n + 1)
  binary_made tree.Plus = by_part Operator.Plus
  binary_made tree.Minus = by_part Operator.Subtract
  binary_made tree.Times = by_call _
  binary_made tree.Divide = by_call _
  binary_made tree.And = by_part Operator.And
  binary_made tree.Or = by_part Operator.Or
  binary_made tree.Less = by_part Operator.Less
  binary_made tree.Greater = by_part Operator.Greater
  binary_made tree.Equal = by_part Operator.Equal

  load_made : Single (meaning.Load x y) (m + n + 1)
  load_made = close part.Load (x ∷ y ∷ []) (m + n) _ refl refl pair

-- ---- expressions

mutual
  term_made : (s : Standing) (t : tree.Term) → Single (plain.term_meaning s t) (term_length t)
  term_made s (tree.Value c) = constant_made s c
  term_made s (tree.Variable x) = variable_made (s.variable x.text)
  term_made s (tree.Element x e) =
      wider _ (1 + expression_length e + 1) (2 + expression_length e) (omega arith) (load_made s _ _ 1 (expression_length e) (variable_made (s.variable x.text)) (expression_made s e))
  term_made s (tree.Called c) = callee_made s c
  term_made s (tree.Group e) = expression_made s e
  term_made s (tree.Unary o t) = signed o _ (term_length t) (term_made s t)

  pub callee_made : (s : Standing) (c : tree.Call) → Single (plain.call_meaning s c) (call_length c)
  callee_made s (tree.Calls o f es) =
      wider _ (1 + arguments_length es + 1) (2 + arguments_length es) (omega arith)
      (call_made _ _ (1 + arguments_length es) (by_object s o _ (arguments_length es) (arguments_made s es)))

  pub expression_made : (s : Standing) (e : tree.Expression) → Single (plain.expression_meaning s e) (expression_length e)
  expression_made s (tree.Terms t os) = operations_made s (plain.term_meaning s t) (term_length t) os (term_made s t)

  operations_made : (s : Standing) (x : meaning.Expression) (n : ℕ) (os : tree.Operations) → Single x n → Single (plain.operations_meaning s x os) (n + operations_length os)
  operations_made s x n tree.NoOperation a = wider _ n (n + 0) (omega arith) a
  operations_made s x n (tree.Then o at t os) a =
      wider _ (n + term_length t + 1 + operations_length os) (n + (1 + term_length t + operations_length os)) (omega arith)
      (operations_made s _ (n + term_length t + 1) os (binary_made s x _ n (term_length t) a (term_made s t) o))

  arguments_made : (s : Standing) (es : tree.Expressions) → Arguments (plain.arguments_meaning s es) (arguments_length es)
  arguments_made s tree.NoExpression = no_more
  arguments_made s (tree.More e es) =
      let a = one_more _ _ (expression_length e) (arguments_length es) (expression_made s e) (arguments_made s es) in
      record { all = a.all; is = a.is; made = wider a.all (expression_length e + arguments_length es) (1 + expression_length e + arguments_length es) (omega arith) a.made }

pub value_made : (s : Standing) (v : Option tree.Expression) → Single (plain.value_meaning s v) (value_length v)
value_made s None = literal 0
value_made s (Some e) = expression_made s e
