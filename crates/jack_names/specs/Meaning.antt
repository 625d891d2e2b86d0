-- The program that classes mean, over the abstract syntax (book, chapters 9 to 12). Names become numbers, true is -1, false and null are 0, and the
-- operators * and / are calls of Math. A string is made by String.new and filled by appendChar, and a method call has its object as first argument.
-- Each statement gets its number in the order of the text, and a body whose last statement is no `return` gets one. A constructor first takes the
-- memory of its object.
use Rattle.std.specs.Prelude.{ℕ, ◌+◌, max, Bool, true, false, List, [], ◌∷◌, ◌++◌, map, Option, Some, None, length, codes}
use Rattle.jack_meaning.specs.Text as meaning
use Rattle.jack_tree.specs.Syntax as tree
use Rattle.jack_names.specs.Made.{declared_meant, with_variable, one, two, filled_characters, length_word, let_by}
use Rattle.jack_names.specs.Numbers.{Standing, standing, in_class, class_number, subroutine_number, field_count, static_count, local_count, object_count}
use Rattle.jack_names.specs.declared.scope.Declared.{Declared}

abbrev pub variable_meaning : Standing → tree.Name → meaning.Expression
variable_meaning s x = declared_meant (s.variable x.text)

-- a subroutine that a call names which the text does not write
abbrev pub made_word : Standing → List ℕ → List ℕ → ℕ
made_word s c f = in_class s.subroutine (s.class c) f

-- the class that a call goes to: that of the variable, or the class of this name; with nothing before the name, that in which it stands
abbrev pub front_class : Option Declared → Option ℕ → Option ℕ
front_class None class = class
front_class (Some v) class = v.class

abbrev pub called_class : Standing → Option tree.Name → Option ℕ
called_class s None = Some s.own
called_class s (Some x) = front_class (s.variable x.text) (s.class x.text)

-- A call's object comes first: a variable, or `this` where nothing stands before the name; a class is no object.
abbrev pub with_object : Standing → Option tree.Name → meaning.Expressions → meaning.Expressions
with_object s None es = meaning.More meaning.This es
with_object s (Some x) es = with_variable (s.variable x.text) es

abbrev pub invocation : Standing → Option tree.Name → tree.Name → meaning.Expressions → meaning.Expression
invocation s o f es = meaning.Call (in_class s.subroutine (called_class s o) f.text) (with_object s o es)

abbrev pub string_meaning : Standing → List ℕ → meaning.Expression
string_meaning s text = filled_characters (made_word s (codes "String") (codes "appendChar")) (meaning.Call (made_word s (codes "String") (codes "new")) (one (meaning.Literal (length_word text)))) text

abbrev pub constant_meaning : Standing → tree.Constant → meaning.Expression
constant_meaning s (tree.Integer n) = meaning.Literal n
constant_meaning s (tree.String t) = string_meaning s t.text
constant_meaning s tree.True = meaning.Literal 65535
constant_meaning s tree.False = meaning.Literal 0
constant_meaning s tree.Null = meaning.Literal 0
constant_meaning s (tree.This at) = meaning.This

abbrev pub sign_meaning : tree.Sign → meaning.Sign
sign_meaning tree.Negate = meaning.Minus
sign_meaning tree.Not = meaning.Complement
sign_meaning tree.ShiftLeft = meaning.ShiftLeft
sign_meaning tree.ShiftRight = meaning.ShiftRight

abbrev pub binary_meaning : Standing → tree.Operator → meaning.Expression → meaning.Expression → meaning.Expression
binary_meaning s tree.Plus a b = meaning.Binary meaning.Plus a b
binary_meaning s tree.Minus a b = meaning.Binary meaning.Subtract a b
binary_meaning s tree.Times a b = meaning.Call (made_word s (codes "Math") (codes "multiply")) (two a b)
binary_meaning s tree.Divide a b = meaning.Call (made_word s (codes "Math") (codes "divide")) (two a b)
binary_meaning s tree.And a b = meaning.Binary meaning.And a b
binary_meaning s tree.Or a b = meaning.Binary meaning.Or a b
binary_meaning s tree.Less a b = meaning.Binary meaning.Less a b
binary_meaning s tree.Greater a b = meaning.Binary meaning.Greater a b
binary_meaning s tree.Equal a b = meaning.Binary meaning.Equal a b

abbrev mutual
  pub term_meaning : Standing → tree.Term → meaning.Expression
  term_meaning s (tree.Value c) = constant_meaning s c
  term_meaning s (tree.Variable x) = variable_meaning s x
  term_meaning s (tree.Element x e) = meaning.Load (variable_meaning s x) (expression_meaning s e)
  term_meaning s (tree.Called c) = call_meaning s c
  term_meaning s (tree.Group e) = expression_meaning s e
  term_meaning s (tree.Unary o t) = meaning.Unary (sign_meaning o) (term_meaning s t)

  pub call_meaning : Standing → tree.Call → meaning.Expression
  call_meaning s (tree.Calls o f es) = invocation s o f (arguments_meaning s es)

  pub expression_meaning : Standing → tree.Expression → meaning.Expression
  expression_meaning s (tree.Terms t os) = operations_meaning s (term_meaning s t) os

  -- operators bind from left to right
  pub operations_meaning : Standing → meaning.Expression → tree.Operations → meaning.Expression
  operations_meaning s e tree.NoOperation = e
  operations_meaning s e (tree.Then o at t os) = operations_meaning s (binary_meaning s o e (term_meaning s t)) os

  pub arguments_meaning : Standing → tree.Expressions → meaning.Expressions
  arguments_meaning s tree.NoExpression = meaning.NoMore
  arguments_meaning s (tree.More e es) = meaning.More (expression_meaning s e) (arguments_meaning s es)

abbrev pub let_meaning : Standing → ℕ → tree.Name → Option tree.Expression → tree.Expression → meaning.Statement
let_meaning s n x None e = let_by (s.variable x.text) n (expression_meaning s e)
let_meaning s n x (Some i) e = meaning.Store n (variable_meaning s x) (expression_meaning s i) (expression_meaning s e)

-- `return;` is `return 0;`
abbrev pub value_meaning : Standing → Option tree.Expression → meaning.Expression
value_meaning s None = meaning.Literal 0
value_meaning s (Some e) = expression_meaning s e

-- how many statements there are, nested ones included
abbrev mutual
  pub size : tree.Statement → ℕ
  size (tree.Let at x i e) = 1
  size (tree.If at e a) = 1 + sizes a
  size (tree.IfElse at e a b) = 1 + sizes a + sizes b
  size (tree.While at e a) = 1 + sizes a
  size (tree.Do at c) = 1
  size (tree.Return at v) = 1

  pub sizes : tree.Statements → ℕ
  sizes tree.End = 0
  sizes (tree.Next s ss) = size s + sizes ss

-- a statement whose number is n; those in it follow
abbrev mutual
  pub statement_meaning : Standing → ℕ → tree.Statement → meaning.Statement
  statement_meaning s n (tree.Let at x i e) = let_meaning s n x i e
  statement_meaning s n (tree.If at e a) = meaning.If n false (expression_meaning s e) (block_meaning s (n + 1) a) meaning.End
  statement_meaning s n (tree.IfElse at e a b) = meaning.If n true (expression_meaning s e) (block_meaning s (n + 1) a) (block_meaning s (n + 1 + sizes a) b)
  statement_meaning s n (tree.While at e a) = meaning.While n (expression_meaning s e) (block_meaning s (n + 1) a)
  statement_meaning s n (tree.Do at c) = meaning.Do n (call_meaning s c)
  statement_meaning s n (tree.Return at v) = meaning.Return n (value_meaning s v)

  -- statements, the first of which has this number
  pub block_meaning : Standing → ℕ → tree.Statements → meaning.Text
  block_meaning s n tree.End = meaning.End
  block_meaning s n (tree.Next t ts) = meaning.Next (statement_meaning s n t) (block_meaning s (n + size t) ts)

-- the last statement is a `return`
abbrev pub is_return : tree.Statement → Bool
is_return (tree.Return at v) = true
is_return _ = false

abbrev pub last_returns : tree.Statement → tree.Statements → Bool
last_returns t tree.End = is_return t
last_returns t (tree.Next u us) = last_returns u us

abbrev pub returns : tree.Statements → Bool
returns tree.End = false
returns (tree.Next t ts) = last_returns t ts

-- after the statements of a body the `return` that it lacks, with this number
abbrev pub return_added : Bool → ℕ → meaning.Text
return_added true n = meaning.End
return_added false n = meaning.Next (meaning.Return n (meaning.Literal 0)) meaning.End

-- a constructor first takes a block of as many words as its class has fields, one at least
abbrev pub begin_text : Standing → tree.Form → ℕ → meaning.Text → meaning.Text
begin_text s tree.Constructor fields rest = meaning.Next (meaning.LetThis 0 (meaning.Call (made_word s (codes "Memory") (codes "alloc")) (one (meaning.Literal (max 1 fields))))) rest
begin_text s _ fields rest = rest

abbrev pub body_meaning : Standing → ℕ → tree.Subroutine → meaning.Text
body_meaning s fields t = begin_text s t.form fields (meaning.joined_text (block_meaning s 1 t.statements) (return_added (returns t.statements) (1 + sizes t.statements)))

abbrev pub kind_meaning : tree.Form → meaning.Kind
kind_meaning tree.Constructor = meaning.Constructor
kind_meaning tree.Function = meaning.Function
kind_meaning tree.Method = meaning.Method

abbrev pub subroutine_meaning : Standing → ℕ → tree.Subroutine → meaning.Subroutine
subroutine_meaning s fields t = record {
  kind = kind_meaning t.form;
  class = s.own;
  arguments = object_count t.form + length t.parameters;
  locals = local_count t.locals;
  body = body_meaning s fields t;
}

-- the subroutines of these classes among all; the number of the first class and the number of statics before its own are given
abbrev pub subroutines_meaning : List tree.ClassFile → ℕ → ℕ → List tree.ClassFile → List meaning.Subroutine
subroutines_meaning all own statics [] = []
subroutines_meaning all own statics (c ∷ cs) =
    map (λ t. subroutine_meaning (standing all own statics c.class t) (field_count c.class.variables) t) c.class.subroutines
    ++ subroutines_meaning all (own + 1) (statics + static_count c.class.variables) cs

-- subroutine 0, which no call names
abbrev pub no_subroutine : meaning.Subroutine
no_subroutine = record { kind = meaning.Function; class = 0; arguments = 0; locals = 0; body = meaning.End }

abbrev pub class_meaning : tree.ClassFile → meaning.Class
class_meaning c = record { fields = field_count c.class.variables; statics = static_count c.class.variables }

-- What classes mean: the program begins at Sys.init.
abbrev pub meaning_of : List tree.ClassFile → meaning.Program
meaning_of all = record {
  classes = map class_meaning all;
  subroutines = no_subroutine ∷ subroutines_meaning all 0 0 all;
  init = in_class (subroutine_number all) (class_number all (codes "Sys")) (codes "init");
}

-- the classes of a folder, and after them those of the operating system
abbrev pub program_meaning : List tree.ClassFile → List tree.ClassFile → meaning.Program
program_meaning own os = meaning_of (own ++ os)

-- the names of the subroutines, in order of their numbers
abbrev pub full_name : List ℕ → tree.Subroutine → List ℕ
full_name class t = class ++ (codes "." ++ t.name.text)

abbrev pub full_names : List tree.ClassFile → List (List ℕ)
full_names [] = []
full_names (c ∷ cs) = map (full_name c.class.name.text) c.class.subroutines ++ full_names cs

abbrev pub program_names : List tree.ClassFile → List tree.ClassFile → List (List ℕ)
program_names own os = codes "start" ∷ full_names (own ++ os)
