-- Abstract syntax with the same tree is the same.
use Rattle.std.proofs.Common.{◌≡◌, ℕ, List, [], ◌∷◌, Option, Some, None, refl, sym, ap, ◌∙◌}
use Rattle.std.specs.Prelude.{◌==◌, if◌then◌else◌}
use Rattle.scan_text.specs.declared.Place.{Place}
use Rattle.grammar.specs.Rules.{Tree, NoMore, tree_of_list}
use Rattle.jack_tree.specs.declared.token.Keyword.TheVariants as keyword
use Rattle.jack_tree.specs.declared.token.Kind.TheVariants as kind
use Rattle.jack_tree.specs.Syntax.{Name, Operator, Plus, Minus, Times, Divide, And, Or, Less, Greater, Equal, Sign, Negate, Not, ShiftLeft, ShiftRight, Constant, Integer, String, True, False, Null, This, Expression, Terms, Operations, NoOperation, Then, Term, Value, Variable, Element, Called, Group, Unary, Call, Calls, Expressions, NoExpression, More, Statement, Let, If, IfElse, While, Do, Return, Statements, End, Next, ValueType, Int, Char, Boolean, Object, Names, Scope, Static, Field, ClassVariables, Locals, Parameter, Form, Constructor, Function, Method, Subroutine, Class}
use Rattle.jack_parser.specs.Grammar.{Said, Fixed, Placed}
use Rattle.jack_parser.proofs.PlainTrees.{name_said, operator_byte, operator_said, sign_byte, sign_said, constant_said, expression_tree, operations_tree, term_tree, front_said, invoked_tree, arguments_tree, further_tree, index_tree, value_tree, statement_tree, statements_tree, type_said, result_said, form_said, next_name_tree, names_tree, declared_tree, scoped, variables_tree, locals_tree, parameter_tree, next_parameter_tree, parameters_tree, subroutine_tree, whole_tree}

-- ---- what a token says decides it

name_same : (x y : Name) → name_said x ≡ name_said y → x ≡ y
name_same x y e =
    let p : x.text ≡ y.text = cc in
    let q : x.place ≡ y.place = cc in
    λ i. record { text = p i; place = q i }

abbrev constant_back : Said → Constant
constant_back (Fixed (kind.Integer n)) = Integer n
constant_back (Fixed (kind.Keyword keyword.True)) = True
constant_back (Fixed (kind.Keyword keyword.False)) = False
constant_back (Fixed k) = Null
constant_back (Placed kind.Text text at) = String (record { text = text; place = at })
constant_back (Placed k text at) = This at

constant_there : (c : Constant) → constant_back (constant_said c) ≡ c
constant_there (Integer n) = refl
constant_there (String t) = refl
constant_there True = refl
constant_there False = refl
constant_there Null = refl
constant_there (This at) = refl

constant_same : (c d : Constant) → constant_said c ≡ constant_said d → c ≡ d
constant_same c d e = sym (constant_there c) ∙ ap constant_back e ∙ constant_there d

abbrev operator_back : ℕ → Operator
operator_back b =
    if b == 43 then Plus
    else if b == 45 then Minus
    else if b == 42 then Times
    else if b == 47 then Divide
    else if b == 38 then And
    else if b == 124 then Or
    else if b == 60 then Less
    else if b == 62 then Greater
    else Equal

operator_there : (o : Operator) → operator_back (operator_byte o) ≡ o
operator_there Plus = refl
operator_there Minus = refl
operator_there Times = refl
operator_there Divide = refl
operator_there And = refl
operator_there Or = refl
operator_there Less = refl
operator_there Greater = refl
operator_there Equal = refl

operator_same : (o p : Operator) (at there : Place) → operator_said o at ≡ operator_said p there → (o ≡ p) × (at ≡ there)
operator_same o p at there e =
    let b : operator_byte o ≡ operator_byte p = cc in
    let q : at ≡ there = cc in
    (sym (operator_there o) ∙ ap operator_back b ∙ operator_there p, q)

abbrev sign_back : ℕ → Sign
sign_back b = if b == 45 then Negate else (if b == 126 then Not else (if b == 94 then ShiftLeft else ShiftRight))

sign_there : (s : Sign) → sign_back (sign_byte s) ≡ s
sign_there Negate = refl
sign_there Not = refl
sign_there ShiftLeft = refl
sign_there ShiftRight = refl

sign_same : (s t : Sign) → sign_said s ≡ sign_said t → s ≡ t
sign_same s t e = let b : sign_byte s ≡ sign_byte t = cc in sym (sign_there s) ∙ ap sign_back b ∙ sign_there t

abbrev type_back : Said → ValueType
type_back (Fixed (kind.Keyword keyword.Int)) = Int
type_back (Fixed (kind.Keyword keyword.Char)) = Char
type_back (Fixed k) = Boolean
type_back (Placed k text at) = Object (record { text = text; place = at })

type_there : (t : ValueType) → type_back (type_said t) ≡ t
type_there Int = refl
type_there Char = refl
type_there Boolean = refl
type_there (Object n) = refl

type_same : (t u : ValueType) → type_said t ≡ type_said u → t ≡ u
type_same t u e = sym (type_there t) ∙ ap type_back e ∙ type_there u

abbrev result_back : Said → Option ValueType
result_back (Fixed (kind.Keyword keyword.Void)) = None
result_back v = Some (type_back v)

result_there : (t : Option ValueType) → result_back (result_said t) ≡ t
result_there None = refl
result_there (Some Int) = refl
result_there (Some Char) = refl
result_there (Some Boolean) = refl
result_there (Some (Object n)) = refl

result_same : (t u : Option ValueType) → result_said t ≡ result_said u → t ≡ u
result_same t u e = sym (result_there t) ∙ ap result_back e ∙ result_there u

abbrev form_back : Said → Form
form_back (Fixed (kind.Keyword keyword.Constructor)) = Constructor
form_back (Fixed (kind.Keyword keyword.Function)) = Function
form_back v = Method

form_there : (f : Form) → form_back (form_said f) ≡ f
form_there Constructor = refl
form_there Function = refl
form_there Method = refl

form_same : (f g : Form) → form_said f ≡ form_said g → f ≡ g
form_same f g e = sym (form_there f) ∙ ap form_back e ∙ form_there g

-- ---- expressions

mutual
  term_same : (t u : Term) → term_tree t ≡ term_tree u → t ≡ u
  term_same (Value c) (Value d) e = let p : constant_said c ≡ constant_said d = cc in ap Value (constant_same c d p)
  term_same (Value c) u e = absurd cc
  term_same (Variable x) (Variable y) e = let p : name_said x ≡ name_said y = cc in ap Variable (name_same x y p)
  term_same (Variable x) u e = absurd cc
  term_same (Element x a) (Element y b) e =
      let p : name_said x ≡ name_said y = cc in
      let h : expression_tree a ≡ expression_tree b = cc in
      let q = name_same x y p in
      let r = expression_same a b h in
      λ i. Element (q i) (r i)
  term_same (Element x a) u e = absurd cc
  term_same (Called c) (Called d) e =
      let p : front_said c ≡ front_said d = cc in
      let q : invoked_tree c ≡ invoked_tree d = cc in
      ap Called (call_same c d p q)
  term_same (Called c) u e = absurd cc
  term_same (Group a) (Group b) e = let h : expression_tree a ≡ expression_tree b = cc in ap Group (expression_same a b h)
  term_same (Group a) u e = absurd cc
  term_same (Unary s t) (Unary r u) e =
      let h : sign_said s ≡ sign_said r = cc in
      let k : term_tree t ≡ term_tree u = cc in
      let p = sign_same s r h in
      let q = term_same t u k in
      λ i. Unary (p i) (q i)
  term_same (Unary s t) u e = absurd cc

  call_same : (c d : Call) → front_said c ≡ front_said d → invoked_tree c ≡ invoked_tree d → c ≡ d
  call_same (Calls None f es) (Calls None g fs) e h =
      let q = name_same f g e in
      let k : arguments_tree es ≡ arguments_tree fs = cc in
      let r = arguments_same es fs k in
      λ i. Calls None (q i) (r i)
  call_same (Calls (Some o) f es) (Calls (Some p) g fs) e h =
      let a = name_same o p e in
      let d : name_said f ≡ name_said g = cc in
      let q = name_same f g d in
      let k : arguments_tree es ≡ arguments_tree fs = cc in
      let r = arguments_same es fs k in
      λ i. Calls (Some (a i)) (q i) (r i)
  call_same (Calls None f es) (Calls (Some p) g fs) e h = absurd cc
  call_same (Calls (Some o) f es) (Calls None g fs) e h = absurd cc

  expression_same : (a b : Expression) → expression_tree a ≡ expression_tree b → a ≡ b
  expression_same (Terms t os) (Terms u ps) e =
      let h : term_tree t ≡ term_tree u = cc in
      let k : operations_tree os ≡ operations_tree ps = cc in
      let x = term_same t u h in
      let y = operations_same os ps k in
      λ i. Terms (x i) (y i)

  operations_same : (os ps : Operations) → operations_tree os ≡ operations_tree ps → os ≡ ps
  operations_same NoOperation NoOperation e = refl
  operations_same NoOperation (Then p there u ps) e = absurd cc
  operations_same (Then o at t os) NoOperation e = absurd cc
  operations_same (Then o at t os) (Then p there u ps) e =
      let g : operator_said o at ≡ operator_said p there = cc in
      let q = operator_same o p at there g in
      let h : term_tree t ≡ term_tree u = cc in
      let k : operations_tree os ≡ operations_tree ps = cc in
      let x = term_same t u h in
      let y = operations_same os ps k in
      λ i. Then (q.0 i) (q.1 i) (x i) (y i)

  arguments_same : (es fs : Expressions) → arguments_tree es ≡ arguments_tree fs → es ≡ fs
  arguments_same NoExpression NoExpression e = refl
  arguments_same NoExpression (More b fs) e = absurd cc
  arguments_same (More a es) NoExpression e = absurd cc
  arguments_same (More a es) (More b fs) e =
      let h : expression_tree a ≡ expression_tree b = cc in
      let k : further_tree es ≡ further_tree fs = cc in
      let x = expression_same a b h in
      let y = further_same es fs k in
      λ i. More (x i) (y i)

  further_same : (es fs : Expressions) → further_tree es ≡ further_tree fs → es ≡ fs
  further_same NoExpression NoExpression e = refl
  further_same NoExpression (More b fs) e = absurd cc
  further_same (More a es) NoExpression e = absurd cc
  further_same (More a es) (More b fs) e =
      let h : expression_tree a ≡ expression_tree b = cc in
      let k : further_tree es ≡ further_tree fs = cc in
      let x = expression_same a b h in
      let y = further_same es fs k in
      λ i. More (x i) (y i)

-- ---- statements

index_same : (v w : Option Expression) → index_tree v ≡ index_tree w → v ≡ w
index_same None None e = refl
index_same None (Some b) e = absurd cc
index_same (Some a) None e = absurd cc
index_same (Some a) (Some b) e = let h : expression_tree a ≡ expression_tree b = cc in ap Some (expression_same a b h)

value_same : (v w : Option Expression) → value_tree v ≡ value_tree w → v ≡ w
value_same None None e = refl
value_same None (Some b) e = absurd cc
value_same (Some a) None e = absurd cc
value_same (Some a) (Some b) e = let h : expression_tree a ≡ expression_tree b = cc in ap Some (expression_same a b h)

mutual
  statement_same : (t u : Statement) → statement_tree t ≡ statement_tree u → t ≡ u
  statement_same (Let at x v a) (Let there y w b) e =
      let l : at ≡ there = cc in
      let p : name_said x ≡ name_said y = cc in
      let h : index_tree v ≡ index_tree w = cc in
      let k : expression_tree a ≡ expression_tree b = cc in
      let q = name_same x y p in
      let r = index_same v w h in
      let z = expression_same a b k in
      λ i. Let (l i) (q i) (r i) (z i)
  statement_same (Let at x v a) u e = absurd cc
  statement_same (If at a c) (If there b d) e =
      let l : at ≡ there = cc in
      let h : expression_tree a ≡ expression_tree b = cc in
      let k : statements_tree c ≡ statements_tree d = cc in
      let x = expression_same a b h in
      let y = statements_same c d k in
      λ i. If (l i) (x i) (y i)
  statement_same (If at a c) u e = absurd cc
  statement_same (IfElse at a c m) (IfElse there b d n) e =
      let l : at ≡ there = cc in
      let h : expression_tree a ≡ expression_tree b = cc in
      let k : statements_tree c ≡ statements_tree d = cc in
      let j : statements_tree m ≡ statements_tree n = cc in
      let x = expression_same a b h in
      let y = statements_same c d k in
      let z = statements_same m n j in
      λ i. IfElse (l i) (x i) (y i) (z i)
  statement_same (IfElse at a c m) u e = absurd cc
  statement_same (While at a c) (While there b d) e =
      let l : at ≡ there = cc in
      let h : expression_tree a ≡ expression_tree b = cc in
      let k : statements_tree c ≡ statements_tree d = cc in
      let x = expression_same a b h in
      let y = statements_same c d k in
      λ i. While (l i) (x i) (y i)
  statement_same (While at a c) u e = absurd cc
  statement_same (Do at c) (Do there d) e =
      let l : at ≡ there = cc in
      let p : front_said c ≡ front_said d = cc in
      let q : invoked_tree c ≡ invoked_tree d = cc in
      let r = call_same c d p q in
      λ i. Do (l i) (r i)
  statement_same (Do at c) u e = absurd cc
  statement_same (Return at v) (Return there w) e =
      let l : at ≡ there = cc in
      let p : value_tree v ≡ value_tree w = cc in
      let r = value_same v w p in
      λ i. Return (l i) (r i)
  statement_same (Return at v) u e = absurd cc

  statements_same : (ss ts : Statements) → statements_tree ss ≡ statements_tree ts → ss ≡ ts
  statements_same End End e = refl
  statements_same End (Next u ts) e = absurd cc
  statements_same (Next t ss) End e = absurd cc
  statements_same (Next t ss) (Next u ts) e =
      let h : statement_tree t ≡ statement_tree u = cc in
      let k : statements_tree ss ≡ statements_tree ts = cc in
      let x = statement_same t u h in
      let y = statements_same ss ts k in
      λ i. Next (x i) (y i)

-- ---- declarations

module _ {X : Type 0} (tree : X → Tree Said) (same : (x y : X) → tree x ≡ tree y → x ≡ y) where
  listed_same : (xs ys : List X) → tree_of_list tree xs NoMore ≡ tree_of_list tree ys NoMore → xs ≡ ys
  listed_same [] [] e = refl
  listed_same [] (y ∷ ys) e = absurd cc
  listed_same (x ∷ xs) [] e = absurd cc
  listed_same (x ∷ xs) (y ∷ ys) e =
      let h : tree x ≡ tree y = cc in
      let k : tree_of_list tree xs NoMore ≡ tree_of_list tree ys NoMore = cc in
      let p = same x y h in
      let q = listed_same xs ys k in
      λ i. p i ∷ q i

next_name_same : (x y : Name) → next_name_tree x ≡ next_name_tree y → x ≡ y
next_name_same x y e = let p : name_said x ≡ name_said y = cc in name_same x y p

names_same : (x y : Names) → names_tree x ≡ names_tree y → x ≡ y
names_same x y e =
    let p : name_said x.first ≡ name_said y.first = cc in
    let h : tree_of_list next_name_tree x.more NoMore ≡ tree_of_list next_name_tree y.more NoMore = cc in
    let q = name_same x.first y.first p in
    let r = listed_same next_name_tree next_name_same x.more y.more h in
    λ i. record { first = q i; more = r i }

declared_same : (t u : ValueType) (x y : Names) → declared_tree t x ≡ declared_tree u y → (t ≡ u) × (x ≡ y)
declared_same t u x y e =
    let p : type_said t ≡ type_said u = cc in
    let h : names_tree x ≡ names_tree y = cc in
    (type_same t u p, names_same x y h)

scoped_same : (s r : Scope) (t u : ValueType) (x y : Names) → scoped s (declared_tree t x) ≡ scoped r (declared_tree u y) → (s ≡ r) × (t ≡ u) × (x ≡ y)
scoped_same Static Static t u x y e = let h : declared_tree t x ≡ declared_tree u y = cc in let p = declared_same t u x y h in (refl, p.0, p.1)
scoped_same Static Field t u x y e = absurd cc
scoped_same Field Static t u x y e = absurd cc
scoped_same Field Field t u x y e = let h : declared_tree t x ≡ declared_tree u y = cc in let p = declared_same t u x y h in (refl, p.0, p.1)

variables_same : (v w : ClassVariables) → variables_tree v ≡ variables_tree w → v ≡ w
variables_same v w e =
    let p = scoped_same v.scope w.scope v.type w.type v.names w.names e in
    λ i. record { scope = p.0 i; type = p.1 i; names = p.2 i }

locals_same : (v w : Locals) → locals_tree v ≡ locals_tree w → v ≡ w
locals_same v w e =
    let p = declared_same v.type w.type v.names w.names e in
    λ i. record { type = p.0 i; names = p.1 i }

parameter_same : (p q : Parameter) → parameter_tree p ≡ parameter_tree q → p ≡ q
parameter_same p q e =
    let h : type_said p.type ≡ type_said q.type = cc in
    let k : name_said p.name ≡ name_said q.name = cc in
    let t = type_same p.type q.type h in
    let n = name_same p.name q.name k in
    λ i. record { type = t i; name = n i }

next_parameter_same : (p q : Parameter) → next_parameter_tree p ≡ next_parameter_tree q → p ≡ q
next_parameter_same p q e = let h : parameter_tree p ≡ parameter_tree q = cc in parameter_same p q h

parameters_same : (ps qs : List Parameter) → parameters_tree ps ≡ parameters_tree qs → ps ≡ qs
parameters_same [] [] e = refl
parameters_same [] (q ∷ qs) e = absurd cc
parameters_same (p ∷ ps) [] e = absurd cc
parameters_same (p ∷ ps) (q ∷ qs) e =
    let h : parameter_tree p ≡ parameter_tree q = cc in
    let k : tree_of_list next_parameter_tree ps NoMore ≡ tree_of_list next_parameter_tree qs NoMore = cc in
    let x = parameter_same p q h in
    let y = listed_same next_parameter_tree next_parameter_same ps qs k in
    λ i. x i ∷ y i

pub subroutine_same : (s t : Subroutine) → subroutine_tree s ≡ subroutine_tree t → s ≡ t
subroutine_same s t e =
    let a : form_said s.form ≡ form_said t.form = cc in
    let b : result_said s.result ≡ result_said t.result = cc in
    let c : name_said s.name ≡ name_said t.name = cc in
    let d : parameters_tree s.parameters ≡ parameters_tree t.parameters = cc in
    let f : tree_of_list locals_tree s.locals NoMore ≡ tree_of_list locals_tree t.locals NoMore = cc in
    let g : statements_tree s.statements ≡ statements_tree t.statements = cc in
    let form = form_same s.form t.form a in
    let result = result_same s.result t.result b in
    let name = name_same s.name t.name c in
    let parameters = parameters_same s.parameters t.parameters d in
    let locals = listed_same locals_tree locals_same s.locals t.locals f in
    let statements = statements_same s.statements t.statements g in
    let close : s.close ≡ t.close = cc in
    λ i. record { form = form i; result = result i; name = name i; parameters = parameters i; locals = locals i; statements = statements i; close = close i }

pub class_same : (c d : Class) → whole_tree c ≡ whole_tree d → c ≡ d
class_same c d e =
    let a : name_said c.name ≡ name_said d.name = cc in
    let b : tree_of_list variables_tree c.variables NoMore ≡ tree_of_list variables_tree d.variables NoMore = cc in
    let f : tree_of_list subroutine_tree c.subroutines NoMore ≡ tree_of_list subroutine_tree d.subroutines NoMore = cc in
    let name = name_same c.name d.name a in
    let variables = listed_same variables_tree variables_same c.variables d.variables b in
    let subroutines = listed_same subroutine_tree subroutine_same c.subroutines d.subroutines f in
    λ i. record { name = name i; variables = variables i; subroutines = subroutines i }
