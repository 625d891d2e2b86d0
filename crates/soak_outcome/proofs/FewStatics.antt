-- A file of a program has at most as many static words as its class has statics.
use Rattle.std.proofs.Common.{◌≡◌, ◌≤◌, ◌<◌, ◌+◌, ◌-◌, ◌++◌, ℕ, zero, suc, Bool, true, false, max, List, [], ◌∷◌, length, drop, refl, subst, arith}
use Rattle.std.specs.Prelude.{nat_eq, if◌then◌else◌}
use Rattle.std.proofs.lemmas.Bool.{eqb-true}
use Rattle.vm_tree.specs.declared.command.Line.{Line}
use Rattle.vm_tree.specs.declared.command.Command.TheVariants as command
use Rattle.vm_tree.specs.declared.command.Segment.TheVariants as segment
use Rattle.vm_tree.specs.declared.command.Operation.TheVariants as operation
use Rattle.vm_link.specs.Faults.{file_words, words_before, words_of_lines}
use Rattle.vm_link.specs.Reached.{Keeps, dropped, kept, none}
use Rattle.vm_link.specs.Sections.{Section}
use Rattle.jack_meaning.specs.Text.{Variable, Argument, Local, Static, Sign, Minus, Complement, ShiftLeft, ShiftRight, Operator, Plus, Subtract, And, Or, Less, Greater, Equal, Expression, Literal, Value, Name, This, Field, Unary, Binary, Load, Call, Open, Expressions, NoMore, More, Statement, Let, LetField, LetThis, Store, Do, If, While, Return, Text, End, Next, Kind, Constructor, Function, Method, Subroutine, Class, Program}
use Rattle.jack_meaning.specs.Meaning.{subroutine_at}
use Rattle.jack_compiler.specs.Templates.{Numbers, count, first_number, no_else}
use Rattle.jack_compiler.specs.Fits.{Scope, without_object, IsThere, IsWhole, AreWhole, IsFresh, IsFreshText, IsBody, scope_of}
use Rattle.jack_compiler.specs.Lines.{Around, quiet, commit, if_false, if_end, into_if, into_else, into_while, out_of_while, push_variable, pop_variable, sign_command, operator_command, load_lines, store_lines, expression_lines, arguments_lines, statement_lines, text_lines, object_lines, ifs_of, ifs_in, whiles_of, whiles_in}
use Rattle.jack_compiler.specs.Lines as lines
use Rattle.jack_compiler.specs.Files.{around_class, statics_before}
use Rattle.jack_compiler.specs.Resolved.{IsResolvedSubroutine, named_in}
use Rattle.jack_compiler.proofs.Numbering.{own_lower, own_upper}
use Rattle.jack_compiler.proofs.Sectioned.{section_of, sections_of}

-- ---- the lines of a subroutine

module _ (n : ℕ) where
  both : (xs ys : List Line) → words_of_lines xs ≤ n → words_of_lines ys ≤ n → words_of_lines (xs ++ ys) ≤ n
  both [] ys h k = k
  both (x ∷ xs) ys h k = let more = both xs ys (omega (arith, h)) k in omega (arith, h, more)

  literal_by : (m w : ℕ) (b : Bool) → words_of_lines (if b then quiet m (command.Push segment.Constant 0) ∷ commit m (command.Operate operation.Not) ∷ [] else commit m (command.Push segment.Constant w) ∷ []) ≤ n
  literal_by m w true = omega arith
  literal_by m w false = omega arith

  sign_few : (m : ℕ) (o : Sign) → words_of_lines (commit m (sign_command o) ∷ []) ≤ n
  sign_few m Minus = omega arith
  sign_few m Complement = omega arith
  sign_few m ShiftLeft = omega arith
  sign_few m ShiftRight = omega arith

  operator_few : (m : ℕ) (o : Operator) → words_of_lines (commit m (operator_command o) ∷ []) ≤ n
  operator_few m Plus = omega arith
  operator_few m Subtract = omega arith
  operator_few m And = omega arith
  operator_few m Or = omega arith
  operator_few m Less = omega arith
  operator_few m Greater = omega arith
  operator_few m Equal = omega arith

  else_by : (m next i : ℕ) (b : Bool) (ys : List Line) → words_of_lines ys ≤ n
      → words_of_lines (if b then quiet m (command.Label (if_false i)) ∷ [] else into_else m next i ++ (ys ++ quiet m (command.Label (if_end i)) ∷ [])) ≤ n
  else_by m next i true ys h = omega arith
  else_by m next i false ys h = both (into_else m next i) (ys ++ quiet m (command.Label (if_end i)) ∷ []) (omega arith) (both ys (quiet m (command.Label (if_end i)) ∷ []) h (omega arith))

  object_few : (k : Kind) (m : ℕ) → words_of_lines (object_lines k m) ≤ n
  object_few Method m = omega arith
  object_few Function m = omega arith
  object_few Constructor m = omega arith

  module _ (subs : List Subroutine) (numbers : Numbers) (around : Around) (within : (k : ℕ) → numbers.holds k ≡ true → k - around.before + 1 ≤ n) where
    module _ (scope : Scope) where
      push_few : (m : ℕ) (x : Variable) → IsThere subs numbers scope x → words_of_lines (commit m (push_variable around x) ∷ []) ≤ n
      push_few m (Argument k) h = omega arith
      push_few m (Local k) h = omega arith
      push_few m (Static k) h = let few = within k h in omega (arith, few)

      pop_few : (m : ℕ) (x : Variable) → IsThere subs numbers scope x → words_of_lines (commit m (pop_variable around x) ∷ []) ≤ n
      pop_few m (Argument k) h = omega arith
      pop_few m (Local k) h = omega arith
      pop_few m (Static k) h = let few = within k h in omega (arith, few)

      mutual
        whole_few : (m : ℕ) (e : Expression) → IsWhole subs numbers scope e → words_of_lines (expression_lines around m e) ≤ n
        whole_few m (Value w) h = absurd h
        whole_few m Open h = absurd h
        whole_few m (Literal w) h = literal_by m w (nat_eq w 65535)
        whole_few m (Name x) h = push_few m x h
        whole_few m This h = omega arith
        whole_few m (Field k) h = omega arith
        whole_few m (Unary o a) h = both (expression_lines around m a) (commit m (sign_command o) ∷ []) (whole_few m a h) (sign_few m o)
        whole_few m (Binary o a b) h =
            both (expression_lines around m a) (expression_lines around m b ++ commit m (operator_command o) ∷ []) (whole_few m a h.0)
            (both (expression_lines around m b) (commit m (operator_command o) ∷ []) (whole_few m b h.1) (operator_few m o))
        whole_few m (Load a j) h =
            both (expression_lines around m a) (expression_lines around m j ++ load_lines m) (whole_few m a h.0)
            (both (expression_lines around m j) (load_lines m) (whole_few m j h.1) (omega arith))
        whole_few m (Call g es) h = both (arguments_lines around m es) (commit m (command.Call (around.name g) (count es)) ∷ []) (arguments_few m es h.1) (omega arith)

        arguments_few : (m : ℕ) (es : Expressions) → AreWhole subs numbers scope es → words_of_lines (arguments_lines around m es) ≤ n
        arguments_few m NoMore h = omega arith
        arguments_few m (More e es) h = both (expression_lines around m e) (arguments_lines around m es) (whole_few m e h.0) (arguments_few m es h.1)

      mutual
        statement_few : (next i w : ℕ) (t : Statement) → IsFresh subs numbers scope t → words_of_lines (statement_lines around next i w t) ≤ n
        statement_few next i w (Let m x e) h = both (expression_lines around m e) (commit m (pop_variable around x) ∷ []) (whole_few m e h.1) (pop_few m x h.0)
        statement_few next i w (LetField m k e) h = both (expression_lines around m e) (commit m (command.Pop segment.This k) ∷ []) (whole_few m e h.1) (omega arith)
        statement_few next i w (LetThis m e) h = absurd h
        statement_few next i w (Store m a j e) h =
            both (expression_lines around m a) (expression_lines around m j ++ (quiet m (command.Operate operation.Add) ∷ (expression_lines around m e ++ store_lines m))) (whole_few m a h.0)
            (both (expression_lines around m j) (quiet m (command.Operate operation.Add) ∷ (expression_lines around m e ++ store_lines m)) (whole_few m j h.1)
            (let last = both (expression_lines around m e) (store_lines m) (whole_few m e h.2) (omega arith) in omega (arith, last)))
        statement_few next i w (Do m e) h = both (expression_lines around m e) (commit m (command.Pop segment.Temp 0) ∷ []) (whole_few m e h) (omega arith)
        statement_few next i w (Return m e) h = both (expression_lines around m e) (commit m command.Return ∷ []) (whole_few m e h) (omega arith)
        statement_few next i w (If m o c a b) h =
            let B = text_lines around next (suc i + ifs_in a) (w + whiles_in a) b in
            let A = text_lines around next (suc i) w a in
            let R = if no_else o b then quiet m (command.Label (if_false i)) ∷ [] else into_else m next i ++ (B ++ quiet m (command.Label (if_end i)) ∷ []) in
            both (expression_lines around m c) (into_if m (first_number next b) i ++ (A ++ R)) (whole_few m c h.0)
            (both (into_if m (first_number next b) i) (A ++ R) (omega arith)
            (both A R (text_few next (suc i) w a h.1) (else_by m next i (no_else o b) B (text_few next (suc i + ifs_in a) (w + whiles_in a) b h.2))))
        statement_few next i w (While m c t) h =
            let S = text_lines around m i (suc w) t in
            let rest = both (expression_lines around m c) (into_while m next w ++ (S ++ out_of_while m w)) (whole_few m c h.0)
            (both (into_while m next w) (S ++ out_of_while m w) (omega arith) (both S (out_of_while m w) (text_few m i (suc w) t h.1) (omega arith))) in
            omega (arith, rest)

        text_few : (next i w : ℕ) (t : Text) → IsFreshText subs numbers scope t → words_of_lines (text_lines around next i w t) ≤ n
        text_few next i w End h = omega arith
        text_few next i w (Next t rest) h =
            both (statement_lines around (first_number next rest) i w t) (text_lines around next (i + ifs_of t) (w + whiles_of t) rest) (statement_few (first_number next rest) i w t h.0)
            (text_few next (i + ifs_of t) (w + whiles_of t) rest h.1)

    body_few : (scope : Scope) (k : Kind) (t : Text) → IsBody subs numbers scope k t → words_of_lines (text_lines around 0 0 0 t) ≤ n
    body_few scope Function t h = text_few scope 0 0 0 t h
    body_few scope Method t h = text_few scope 0 0 0 t h
    body_few scope Constructor End h = absurd h
    body_few scope Constructor (Next (LetThis m e) rest) h =
        both (expression_lines around m e ++ commit m (command.Pop segment.Pointer 0) ∷ []) (text_lines around 0 0 0 rest)
        (both (expression_lines around m e) (commit m (command.Pop segment.Pointer 0) ∷ []) (whole_few (without_object scope) m e h.0) (omega arith)) (text_few scope 0 0 0 rest h.1)
    body_few scope Constructor (Next (Let m x e) rest) h = absurd h
    body_few scope Constructor (Next (LetField m k e) rest) h = absurd h
    body_few scope Constructor (Next (Store m a j e) rest) h = absurd h
    body_few scope Constructor (Next (Do m e) rest) h = absurd h
    body_few scope Constructor (Next (If m o c a b) rest) h = absurd h
    body_few scope Constructor (Next (While m c s) rest) h = absurd h
    body_few scope Constructor (Next (Return m e) rest) h = absurd h

-- ---- the sections

-- how many statics a class has
abbrev pub own_count : List Class → ℕ → ℕ
own_count cs k = statics_before cs (suc k) - statics_before cs k

pub before_rise : (cs : List Class) (k : ℕ) → statics_before cs k ≤ statics_before cs (suc k)
before_rise [] k = omega arith
before_rise (c ∷ cs) zero = omega arith
before_rise (c ∷ cs) (suc k) = let more = before_rise cs k in omega (arith, more)

abbrev Each : (Subroutine → Type 0) → List Subroutine → Type 0
Each P [] = Unit {0}
Each P (sub ∷ subs) = P sub × Each P subs

each_from : (P : Subroutine → Type 0) (subs : List Subroutine) → ((i : ℕ) → i < length subs → P (subroutine_at subs i)) → Each P subs
each_from P [] h = tt
each_from P (sub ∷ subs) h = (h 0 (omega arith), each_from P subs (λ i below. h (suc i) (omega (arith, below))))

pub each_of : (P : Subroutine → Type 0) (subs : List Subroutine) → ((i : ℕ) → 0 < i → i < length subs → P (subroutine_at subs i)) → Each P (drop 1 subs)
each_of P [] h = tt
each_of P (sub ∷ subs) h = each_from P subs (λ i below. h (suc i) (omega arith) (omega (arith, below)))

module _ (program : Program) (names : List (List ℕ)) where
  abbrev cs : List Class
  cs = program.classes

  -- each of these sections has at most as many as its class has statics
  abbrev pub AreFew : List Section → Type 0
  AreFew [] = Unit {0}
  AreFew (s ∷ ss) = (words_of_lines s.lines ≤ own_count program.classes s.file) × AreFew ss

  section_few : (g : ℕ) (sub : Subroutine) → IsResolvedSubroutine program sub → words_of_lines (section_of program names g sub).lines ≤ own_count program.classes sub.class
  section_few g sub h =
      let around = around_class program.classes names sub.class in
      let most = own_count program.classes sub.class in
      both most (object_lines sub.kind (first_number 0 sub.body)) (text_lines around 0 0 0 sub.body) (object_few most sub.kind (first_number 0 sub.body))
      (body_few most program.subroutines (named_in program sub.class) around
      (λ k own. let low = own_lower program.classes sub.class k own in let up = own_upper program.classes sub.class k own in omega (arith, low, up))
      (scope_of sub) sub.kind sub.body h.body)

  pub sections_few : (g : ℕ) (subs : List Subroutine) → Each (IsResolvedSubroutine program) subs → AreFew (sections_of program names g subs)
  sections_few g [] h = tt
  sections_few g (sub ∷ subs) h = (section_few g sub h.0, sections_few (g + 1) subs h.1)

  pub kept_few : (P : ℕ → Type 0) {i : ℕ} {ss ks : List Section} → Keeps P i ss ks → AreFew ss → AreFew ks
  kept_few P none h = tt
  kept_few P (kept p r) h = (h.0, kept_few P r h.1)
  kept_few P (dropped p r) h = kept_few P r h.1

  file_by : (s : Section) (k rest : ℕ) (b : Bool) → nat_eq s.file k ≡ b → words_of_lines s.lines ≤ own_count program.classes s.file → rest ≤ own_count program.classes k
      → (if b then max (words_of_lines s.lines) rest else rest) ≤ own_count program.classes k
  file_by s k rest false e h more = more
  file_by s k rest true e h more =
      let same : s.file ≡ k = eqb-true s.file k e in
      let few : words_of_lines s.lines ≤ own_count program.classes k = subst (λ (j : ℕ). words_of_lines s.lines ≤ own_count program.classes j) same h in
      omega (arith, few, more)

  file_few : (ks : List Section) (k : ℕ) → AreFew ks → file_words ks k ≤ own_count program.classes k
  file_few [] k h = omega arith
  file_few (s ∷ ks) k h = file_by s k (file_words ks k) (nat_eq s.file k) refl h.0 (file_few ks k h.1)

  pub words_few : (ks : List Section) (n : ℕ) → AreFew ks → words_before ks n ≤ statics_before program.classes n
  words_few ks zero h = omega arith
  words_few ks (suc n) h =
      let before = words_few ks n h in
      let here = file_few ks n h in
      let up = before_rise program.classes n in
      omega (arith, before, here, up)
