-- The code of a text has no more words than the text's budget: template by template.
use Rattle.std.proofs.Common.{◌≡◌, ◌≤◌, ◌+◌, ℕ, Bool, true, false, List, [], ◌∷◌, ◌++◌, length, arith}
use Rattle.std.specs.Prelude.{if◌then◌else◌, nat_eq}
use Rattle.vm_tree.specs.declared.command.Operation.TheVariants as operation
use Rattle.vm_tree.specs.declared.command.Segment.TheVariants as segment
use Rattle.vm_link.specs.declared.linked.Step.TheVariants as command
use Rattle.vm_link.specs.declared.linked.Code.{Code}
use Rattle.vm_translator.specs.Places.{words_of}
use Rattle.vm_translator.specs.Shapes.{step_size}
use Rattle.vm_translator.proofs.Sums.{size_few}
use Rattle.jack_meaning.specs.Text.{Variable, Argument, Local, Static, Sign, Minus, Complement, ShiftLeft, ShiftRight, Operator, Plus, Subtract, And, Or, Less, Greater, Equal, Expression, Literal, Value, Name, This, Field, Unary, Binary, Load, Call, Open, Expressions, NoMore, More, Statement, Let, LetField, LetThis, Store, Do, If, While, Return, Text, End, Next, Kind, Constructor, Function, Method, Subroutine}
use Rattle.jack_compiler.specs.Templates.{Numbers, arguments_code, commit, count, expression_code, first_number, load_code, no_else, object_code, operator_step, pop_variable, push_variable, quiet, sign_step, statement_code, store_code, subroutine_code, text_code}
use Rattle.tower.specs.Budget.{arguments_words, expression_words, operator_words, statement_words, subroutine_words, text_words}

-- ---- pieces of code

words_append : (xs ys : List Code) → words_of (xs ++ ys) ≡ words_of xs + words_of ys
words_append [] ys = omega arith
words_append (c ∷ xs) ys = let e = words_append xs ys in omega (arith, e)

push_within : (numbers : Numbers) (x : Variable) → step_size (push_variable numbers x) ≤ 9
push_within numbers (Argument k) = size_few 0 (command.Push segment.Argument k)
push_within numbers (Local k) = size_few 0 (command.Push segment.Local k)
push_within numbers (Static k) = size_few 0 (command.Push segment.Static (numbers.static k))

pop_within : (numbers : Numbers) (x : Variable) → step_size (pop_variable numbers x) ≤ 12
pop_within numbers (Argument k) = size_few 0 (command.Pop segment.Argument k)
pop_within numbers (Local k) = size_few 0 (command.Pop segment.Local k)
pop_within numbers (Static k) = size_few 0 (command.Pop segment.Static (numbers.static k))

sign_within : (o : Sign) → step_size (sign_step o) ≤ 3
sign_within Minus = omega arith
sign_within Complement = omega arith
sign_within ShiftLeft = omega arith
sign_within ShiftRight = omega arith

operator_within : (o : Operator) → step_size (operator_step o) ≤ operator_words o
operator_within Plus = omega arith
operator_within Subtract = omega arith
operator_within And = omega arith
operator_within Or = omega arith
operator_within Less = omega arith
operator_within Greater = omega arith
operator_within Equal = omega arith

literal_within : (b : Bool) (n w : ℕ)
    → words_of (if b then quiet n (command.Push segment.Constant 0) ∷ commit n (command.Operate operation.Not) ∷ [] else commit n (command.Push segment.Constant w) ∷ []) ≤ 9
literal_within true n w = omega arith
literal_within false n w = omega arith

load_within : (n : ℕ) → words_of (load_code n) ≤ 18
load_within n = omega arith

store_within : (n : ℕ) → words_of (store_code n) ≤ 23
store_within n = omega arith

-- an `if` without an `else` has no second part
else_within : (b : Bool) (n p : ℕ) (second : List Code) → words_of (if b then [] else quiet n (command.Goto p) ∷ second) ≤ 2 + words_of second
else_within true n p second = omega arith
else_within false n p second = omega arith

object_within : (kind : Kind) (n : ℕ) → words_of (object_code kind n) ≤ 12
object_within Method n = omega arith
object_within Function n = omega arith
object_within Constructor n = omega arith

-- ---- texts

module _ (numbers : Numbers) where
  mutual
    expression_within : (n : ℕ) (e : Expression) → words_of (expression_code numbers n e) ≤ expression_words e
    expression_within n (Value w) = omega arith
    expression_within n (Literal w) = literal_within (nat_eq w 65535) n w
    expression_within n (Name x) = let s = push_within numbers x in omega (arith, s)
    expression_within n This = omega arith
    expression_within n (Field k) = let s = size_few 0 (command.Push segment.This k) in omega (arith, s)
    expression_within n (Unary o a) =
        omega (arith, words_append (expression_code numbers n a) (commit n (sign_step o) ∷ []), expression_within n a, sign_within o)
    expression_within n (Binary o a b) =
        let last : List Code = commit n (operator_step o) ∷ [] in
        omega (arith, words_append (expression_code numbers n a) (expression_code numbers n b ++ last), words_append (expression_code numbers n b) last, expression_within n a, expression_within n b, operator_within o)
    expression_within n (Load a i) =
        omega (arith, words_append (expression_code numbers n a) (expression_code numbers n i ++ load_code n), words_append (expression_code numbers n i) (load_code n), expression_within n a, expression_within n i, load_within n)
    expression_within n (Call g es) =
        let call = command.Call (numbers.function g) (count es) in
        omega (arith, words_append (arguments_code numbers n es) (commit n call ∷ []), arguments_within n es, size_few 0 call)
    expression_within n Open = omega arith

    arguments_within : (n : ℕ) (es : Expressions) → words_of (arguments_code numbers n es) ≤ arguments_words es
    arguments_within n NoMore = omega arith
    arguments_within n (More e es) =
        omega (arith, words_append (expression_code numbers n e) (arguments_code numbers n es), expression_within n e, arguments_within n es)

  mutual
    statement_within : (next p : ℕ) (s : Statement) → words_of (statement_code numbers next p s) ≤ statement_words s
    statement_within next p (Let n x e) =
        omega (arith, words_append (expression_code numbers n e) (commit n (pop_variable numbers x) ∷ []), expression_within n e, pop_within numbers x)
    statement_within next p (LetField n k e) =
        let pop = command.Pop segment.This k in
        omega (arith, words_append (expression_code numbers n e) (commit n pop ∷ []), expression_within n e, size_few 0 pop)
    statement_within next p (LetThis n e) =
        omega (arith, words_append (expression_code numbers n e) (commit n (command.Pop segment.Pointer 0) ∷ []), expression_within n e)
    statement_within next p (Store n a i e) =
        let stored : List Code = expression_code numbers n e ++ store_code n in
        let added : List Code = quiet n (command.Operate operation.Add) ∷ stored in
        omega (
          arith,
          words_append (expression_code numbers n a) (expression_code numbers n i ++ added),
          words_append (expression_code numbers n i) added,
          words_append (expression_code numbers n e) (store_code n),
          expression_within n a,
          expression_within n i,
          expression_within n e,
          store_within n,
        )
    statement_within next p (Do n e) =
        omega (arith, words_append (expression_code numbers n e) (commit n (command.Pop segment.Temp 0) ∷ []), expression_within n e)
    statement_within next p (Return n e) =
        omega (arith, words_append (expression_code numbers n e) (commit n command.Return ∷ []), expression_within n e)
    statement_within next p (If n o c a b) =
        let q = p + length (expression_code numbers n c) in
        let first = text_code numbers next (q + 2) a in
        let other = q + 2 + length first in
        let second = text_code numbers next (other + 1) b in
        let way : List Code = if no_else o b then [] else quiet next (command.Goto (other + 1 + length second)) ∷ second in
        let chosen : List Code = commit n (command.IfGoto (q + 2)) ∷ quiet (first_number next b) (command.Goto (if no_else o b then other else other + 1)) ∷ (first ++ way) in
        omega (
          arith,
          words_append (expression_code numbers n c) chosen,
          words_append first way,
          else_within (no_else o b) next (other + 1 + length second) second,
          expression_within n c,
          text_within next (q + 2) a,
          text_within next (other + 1) b,
        )
    statement_within next p (While n c s) =
        let q = p + length (expression_code numbers n c) in
        let turn = text_code numbers n (q + 2) s in
        let back : List Code = quiet n (command.Goto p) ∷ [] in
        let turns : List Code = commit n (command.IfGoto (q + 2)) ∷ quiet next (command.Goto (q + 2 + length turn + 1)) ∷ (turn ++ back) in
        omega (arith, words_append (expression_code numbers n c) turns, words_append turn back, expression_within n c, text_within n (q + 2) s)

    text_within : (next p : ℕ) (t : Text) → words_of (text_code numbers next p t) ≤ text_words t
    text_within next p End = omega arith
    text_within next p (Next s rest) =
        let first = statement_code numbers (first_number next rest) p s in
        omega (arith, words_append first (text_code numbers next (p + length first) rest), statement_within (first_number next rest) p s, text_within next (p + length first) rest)

  pub subroutine_within : (sub : Subroutine) → words_of (subroutine_code numbers sub) ≤ subroutine_words sub
  subroutine_within sub =
      let n = first_number 0 sub.body in
      let object = object_code sub.kind n in
      omega (arith, words_append object (text_code numbers 0 (1 + length object) sub.body), object_within sub.kind n, text_within 0 (1 + length object) sub.body)
