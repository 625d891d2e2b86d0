-- The labels of a subroutine's lines: no two are the same, and each that a command goes to is there.
use Rattle.std.proofs.Common.{◌≡◌, ◌+◌, ◌^◌, ◌<◌, ◌≤◌, ◌++◌, ◌⊎◌, inl, inr, ℕ, suc, Bool, true, false, cond, nat_eq, nat_lt, List, [], ◌∷◌, Option, Some, None, get_or, drop, refl, sym, ap, subst, ◌∙◌, arith, if◌then◌else◌}
use Rattle.std.specs.Str.{bytes_eq}
use Rattle.std.specs.Str.Parse.{digits_value}
use Rattle.std.proofs.lemmas.Fmt.{decimal_is_IsNumeral}
use Rattle.std.proofs.lemmas.Slice.Eq.{bytes_eq-Decides}
use Rattle.std.proofs.lemmas.Bool.{cases_lt}
use Rattle.std.proofs.lemmas.Bool.Decides.{nat_tests}
use Rattle.vm_tree.specs.declared.command.Line.{Line}
use Rattle.vm_tree.specs.declared.command.Command.{Command}
use Rattle.vm_tree.specs.declared.command.Command.TheVariants as command
use Rattle.vm_link.specs.Sections.{label, target}
use Rattle.jack_meaning.specs.Text.{Variable, Argument, Local, Static, Sign, Minus, Complement, ShiftLeft, ShiftRight, Operator, Plus, Subtract, And, Or, Less, Greater, Equal, Expression, Literal, Value, Name, This, Field, Unary, Binary, Load, Call, Open, Expressions, NoMore, More, Statement, Let, LetField, LetThis, Store, Do, If, While, Return, Text, End, Next}
use Rattle.jack_compiler.specs.Templates.{first_number, no_else}
use Rattle.jack_compiler.specs.Lines.{Around, quiet, commit, if_true, if_false, if_end, while_exp, while_do, while_end, into_if, into_else, into_while, out_of_while, literal_lines, sign_command, operator_command, push_variable, pop_variable, load_lines, store_lines, expression_lines, arguments_lines, statement_lines, text_lines, ifs_of, ifs_in, whiles_of, whiles_in}

-- how often a label stands among lines
abbrev pub here : List ℕ → Option (List ℕ) → ℕ
here l None = 0
here l (Some n) = if bytes_eq l n then 1 else 0

abbrev pub marks : List ℕ → List Line → ℕ
marks l [] = 0
marks l (x ∷ xs) = here l (label x.command) + marks l xs

pub marks_both : (l : List ℕ) (xs ys : List Line) → marks l (xs ++ ys) ≡ marks l xs + marks l ys
marks_both l [] ys = omega arith
marks_both l (x ∷ xs) ys = let ih = marks_both l xs ys in omega arith

pub same_name : (l : List ℕ) → bytes_eq l l ≡ true
same_name l = (bytes_eq-Decides l l).1 refl

pub here_self : (l : List ℕ) → here l (Some l) ≡ 1
here_self l = ap (λ (b : Bool). if b then 1 else 0) (same_name l)

pub hit : (l n : List ℕ) → (here l (Some n) ≡ 0) ⊎ (l ≡ n)
hit l n = by_test (bytes_eq l n) refl
  where
    by_test : (b : Bool) → bytes_eq l n ≡ b → (here l (Some n) ≡ 0) ⊎ (l ≡ n)
    by_test true e = inr ((bytes_eq-Decides l n).0 e)
    by_test false e = inl (ap (λ (b : Bool). if b then 1 else 0) e)

miss : (l n : List ℕ) → (l ≡ n → ⊥) → here l (Some n) ≡ 0
miss l n f = elim (hit l n) [ inl e ↦ e | inr e ↦ absurd (f e) ]

at_most_one : (l n : List ℕ) → here l (Some n) ≤ 1
at_most_one l n = by_test (bytes_eq l n)
  where
    by_test : (b : Bool) → (if b then 1 else 0) ≤ 1
    by_test true = omega arith
    by_test false = omega arith

-- the number of a label
abbrev pub is_if : List ℕ → Bool
is_if l = nat_eq (get_or l 0 0) 73

abbrev pub skip : List ℕ → ℕ
skip l = cond (is_if l) (cond (nat_eq (get_or l 3 0) 84) 7 (cond (nat_eq (get_or l 3 0) 70) 8 6)) (cond (nat_eq (get_or l 7 0) 79) 8 9)

abbrev pub number_of_label : List ℕ → ℕ
number_of_label l = digits_value 10 (drop (skip l) l)

pub below : ℕ → ℕ → ℕ
below v n = cond (nat_lt v n) 1 0

below_one : (v n : ℕ) → v < n → below v n ≡ 1
unfolding below
below_one v n h = let e : nat_lt v n ≡ true = grind (arith, nat_tests) in ap (λ (b : Bool). cond b 1 0) e

below_none : (v n : ℕ) → n ≤ v → below v n ≡ 0
unfolding below
below_none v n h = let e : nat_lt v n ≡ false = grind (arith, nat_tests) in ap (λ (b : Bool). cond b 1 0) e

below_most : (v n : ℕ) → below v n ≤ 1
below_most v n = elim (cases_lt v n) [ inl h ↦ (let e = below_one v n h in omega arith) | inr h ↦ (let e = below_none v n h in omega arith) ]

below_rise : (v n m : ℕ) → n ≤ m → below v n ≤ below v m
below_rise v n m h =
    elim (cases_lt v n) [ inl a ↦ (let e = below_one v n a in let f = below_one v m (omega arith) in omega arith) | inr a ↦ (let e = below_none v n a in omega arith) ]

-- whether a label is one of the first choices or the first loops
pub done : List ℕ → ℕ → ℕ → ℕ
done l i w = cond (is_if l) (below (number_of_label l) i) (below (number_of_label l) w)

pub done_most : (l : List ℕ) (i w : ℕ) → done l i w ≤ 1
unfolding done
done_most l i w = by_test (is_if l)
  where
    by_test : (b : Bool) → cond b (below (number_of_label l) i) (below (number_of_label l) w) ≤ 1
    by_test true = below_most (number_of_label l) i
    by_test false = below_most (number_of_label l) w

done_rise : (l : List ℕ) (i w i' w' : ℕ) → i ≤ i' → w ≤ w' → done l i w ≤ done l i' w'
unfolding done
done_rise l i w i' w' a b = by_test (is_if l)
  where
    by_test : (z : Bool) → cond z (below (number_of_label l) i) (below (number_of_label l) w) ≤ cond z (below (number_of_label l) i') (below (number_of_label l) w')
    by_test true = below_rise (number_of_label l) i i' a
    by_test false = below_rise (number_of_label l) w w' b

if_done : (l n : List ℕ) (i w : ℕ) → l ≡ n → is_if n ≡ true → number_of_label n ≡ i → (done l i w ≡ 0) × (done l (suc i) w ≡ 1)
unfolding done
if_done l n i w e f g = (
  ap (λ z. done z i w) e ∙ (ap (λ (b : Bool). cond b (below (number_of_label n) i) (below (number_of_label n) w)) f ∙ (ap (λ v. below v i) g ∙ below_none i i (omega arith))),
  ap (λ z. done z (suc i) w) e ∙ (ap (λ (b : Bool). cond b (below (number_of_label n) (suc i)) (below (number_of_label n) w)) f ∙ (ap (λ v. below v (suc i)) g ∙ below_one i (suc i) (omega arith))),
)

while_done : (l n : List ℕ) (i w : ℕ) → l ≡ n → is_if n ≡ false → number_of_label n ≡ w → (done l i w ≡ 0) × (done l i (suc w) ≡ 1)
unfolding done
while_done l n i w e f g = (
  ap (λ z. done z i w) e ∙ (ap (λ (b : Bool). cond b (below (number_of_label n) i) (below (number_of_label n) w)) f ∙ (ap (λ v. below v w) g ∙ below_none w w (omega arith))),
  ap (λ z. done z i (suc w)) e ∙ (ap (λ (b : Bool). cond b (below (number_of_label n) i) (below (number_of_label n) (suc w))) f ∙ (ap (λ v. below v (suc w)) g ∙ below_one w (suc w) (omega arith))),
)

three : (l a b c : List ℕ) (lo hi : ℕ) → (a ≡ b → ⊥) → (a ≡ c → ⊥) → (b ≡ c → ⊥) → (l ≡ a → (lo ≡ 0) × (hi ≡ 1)) → (l ≡ b → (lo ≡ 0) × (hi ≡ 1)) → (l ≡ c → (lo ≡ 0) × (hi ≡ 1)) → lo ≤ hi
    → here l (Some a) + here l (Some b) + here l (Some c) + lo ≤ hi
three l a b c lo hi ab ac bc fa fb fc h =
    elim (hit l a) [
      | inr e ↦ (let x = miss l b (λ f. ab (sym e ∙ f)) in let y = miss l c (λ f. ac (sym e ∙ f)) in let z = fa e in let m = at_most_one l a in omega arith)
      | inl p ↦ elim (hit l b) [
        | inr e ↦ (let y = miss l c (λ f. bc (sym e ∙ f)) in let z = fb e in let m = at_most_one l b in omega arith)
        | inl q ↦ elim (hit l c) [ inr e ↦ (let z = fc e in let m = at_most_one l c in omega arith) | inl r ↦ omega arith ]
      ]
    ]

if_labels : (l : List ℕ) (i w : ℕ) → i < 2 ^ 64 → here l (Some (if_true i)) + here l (Some (if_false i)) + here l (Some (if_end i)) + done l i w ≤ done l (suc i) w
if_labels l i w h =
    let value = (decimal_is_IsNumeral i h).1 in
    three l (if_true i) (if_false i) (if_end i) (done l i w) (done l (suc i) w)
    (λ e. let x : 84 ≡ 70 = ap (λ z. get_or z 3 0) e in absurd (omega arith))
    (λ e. let x : 84 ≡ 69 = ap (λ z. get_or z 3 0) e in absurd (omega arith))
    (λ e. let x : 70 ≡ 69 = ap (λ z. get_or z 3 0) e in absurd (omega arith))
    (λ e. if_done l (if_true i) i w e refl value) (λ e. if_done l (if_false i) i w e refl value) (λ e. if_done l (if_end i) i w e refl value)
    (done_rise l i w (suc i) w (omega arith) (omega arith))

while_labels : (l : List ℕ) (i w : ℕ) → w < 2 ^ 64 → here l (Some (while_exp w)) + here l (Some (while_do w)) + here l (Some (while_end w)) + done l i w ≤ done l i (suc w)
while_labels l i w h =
    let value = (decimal_is_IsNumeral w h).1 in
    three l (while_exp w) (while_do w) (while_end w) (done l i w) (done l i (suc w))
    (λ e. let x : 69 ≡ 68 = ap (λ z. get_or z 6 0) e in absurd (omega arith))
    (λ e. let x : 88 ≡ 78 = ap (λ z. get_or z 7 0) e in absurd (omega arith))
    (λ e. let x : 68 ≡ 69 = ap (λ z. get_or z 6 0) e in absurd (omega arith))
    (λ e. while_done l (while_exp w) i w e refl value) (λ e. while_done l (while_do w) i w e refl value) (λ e. while_done l (while_end w) i w e refl value)
    (done_rise l i w i (suc w) (omega arith) (omega arith))

-- commands that are no label and go to none
pub record IsPlain (c : Command) : Type 0 where
  pub no_label : label c ≡ None
  pub no_target : target c ≡ None

push_plain : (around : Around) (x : Variable) → IsPlain (push_variable around x)
push_plain around (Argument k) = record { no_label = refl; no_target = refl }
push_plain around (Local k) = record { no_label = refl; no_target = refl }
push_plain around (Static k) = record { no_label = refl; no_target = refl }

pop_plain : (around : Around) (x : Variable) → IsPlain (pop_variable around x)
pop_plain around (Argument k) = record { no_label = refl; no_target = refl }
pop_plain around (Local k) = record { no_label = refl; no_target = refl }
pop_plain around (Static k) = record { no_label = refl; no_target = refl }

sign_plain : (o : Sign) → IsPlain (sign_command o)
sign_plain Minus = record { no_label = refl; no_target = refl }
sign_plain Complement = record { no_label = refl; no_target = refl }
sign_plain ShiftLeft = record { no_label = refl; no_target = refl }
sign_plain ShiftRight = record { no_label = refl; no_target = refl }

operator_plain : (o : Operator) → IsPlain (operator_command o)
operator_plain Plus = record { no_label = refl; no_target = refl }
operator_plain Subtract = record { no_label = refl; no_target = refl }
operator_plain And = record { no_label = refl; no_target = refl }
operator_plain Or = record { no_label = refl; no_target = refl }
operator_plain Less = record { no_label = refl; no_target = refl }
operator_plain Greater = record { no_label = refl; no_target = refl }
operator_plain Equal = record { no_label = refl; no_target = refl }

pub data ArePlain : List Line → Type 0 where
  none_plain : ArePlain []
  more_plain : {x : Line} {xs : List Line} → IsPlain x.command → ArePlain xs → ArePlain (x ∷ xs)

plain_both : {xs ys : List Line} → ArePlain xs → ArePlain ys → ArePlain (xs ++ ys)
plain_both none_plain b = b
plain_both (more_plain h a) b = more_plain h (plain_both a b)

pub plain : (c : Command) → label c ≡ None → target c ≡ None → IsPlain c
plain c e f = record { no_label = e; no_target = f }

literal_plain : (n w : ℕ) → ArePlain (literal_lines n w)
literal_plain n w = by_test (nat_eq w 65535)
  where
    by_test : (b : Bool) → ArePlain (if b then quiet n (command.Push Rattle.vm_tree.specs.declared.command.Segment.TheVariants.Constant 0) ∷ commit n (command.Operate Rattle.vm_tree.specs.declared.command.Operation.TheVariants.Not) ∷ []
        else commit n (command.Push Rattle.vm_tree.specs.declared.command.Segment.TheVariants.Constant w) ∷ [])
    by_test true = more_plain (plain _ refl refl) (more_plain (plain _ refl refl) none_plain)
    by_test false = more_plain (plain _ refl refl) none_plain

load_plain : (n : ℕ) → ArePlain (load_lines n)
load_plain n = more_plain (plain _ refl refl) (more_plain (plain _ refl refl) (more_plain (plain _ refl refl) none_plain))

store_plain : (n : ℕ) → ArePlain (store_lines n)
store_plain n = more_plain (plain _ refl refl) (more_plain (plain _ refl refl) (more_plain (plain _ refl refl) (more_plain (plain _ refl refl) none_plain)))

module _ (around : Around) where
  mutual
    pub expression_plain : (n : ℕ) (e : Expression) → ArePlain (expression_lines around n e)
    expression_plain n (Value w) = none_plain
    expression_plain n Open = none_plain
    expression_plain n (Literal w) = literal_plain n w
    expression_plain n (Name x) = more_plain (push_plain around x) none_plain
    expression_plain n This = more_plain (plain _ refl refl) none_plain
    expression_plain n (Field k) = more_plain (plain _ refl refl) none_plain
    expression_plain n (Unary o a) = plain_both (expression_plain n a) (more_plain (sign_plain o) none_plain)
    expression_plain n (Binary o a b) = plain_both (expression_plain n a) (plain_both (expression_plain n b) (more_plain (operator_plain o) none_plain))
    expression_plain n (Load a j) = plain_both (expression_plain n a) (plain_both (expression_plain n j) (load_plain n))
    expression_plain n (Call g es) = plain_both (arguments_plain n es) (more_plain (plain _ refl refl) none_plain)

    pub arguments_plain : (n : ℕ) (es : Expressions) → ArePlain (arguments_lines around n es)
    arguments_plain n NoMore = none_plain
    arguments_plain n (More e es) = plain_both (expression_plain n e) (arguments_plain n es)

pub plain_marks : (l : List ℕ) (xs : List Line) → ArePlain xs → marks l xs ≡ 0
plain_marks l [] h = refl
plain_marks l (x ∷ xs) (more_plain h r) = let ih = plain_marks l xs r in let e : here l (label x.command) ≡ 0 = ap (here l) h.no_label in omega arith

-- what commands go to stands among these lines
abbrev pub Aimed : List Line → Option (List ℕ) → Type 0
Aimed whole None = Unit {0}
Aimed whole (Some l) = 0 < marks l whole

pub data Aims (whole : List Line) : List Line → Type 0 where
  no_aims : Aims whole []
  more_aims : {x : Line} {xs : List Line} → Aimed whole (target x.command) → Aims whole xs → Aims whole (x ∷ xs)

pub aims_both : {whole xs ys : List Line} → Aims whole xs → Aims whole ys → Aims whole (xs ++ ys)
aims_both no_aims b = b
aims_both (more_aims h a) b = more_aims h (aims_both a b)

pub plain_aims : {whole xs : List Line} → ArePlain xs → Aims whole xs
plain_aims none_plain = no_aims
plain_aims {whole} (more_plain h r) = more_aims (subst (Aimed whole) (sym h.no_target) tt) (plain_aims r)

abbrev pub IsSimple : Statement → Type 0
IsSimple (If n o c a b) = ⊥
IsSimple (While n c s) = ⊥
IsSimple _ = Unit {0}

module _ (around : Around) where
  abbrev E : ℕ → Expression → List Line
  E n e = expression_lines around n e

  pub simple_plain : (next i w : ℕ) (t : Statement) → IsSimple t → ArePlain (statement_lines around next i w t)
  simple_plain next i w (Let n x e) h = plain_both (expression_plain around n e) (more_plain (pop_plain around x) none_plain)
  simple_plain next i w (LetField n k e) h = plain_both (expression_plain around n e) (more_plain (plain _ refl refl) none_plain)
  simple_plain next i w (LetThis n e) h = plain_both (expression_plain around n e) (more_plain (plain _ refl refl) none_plain)
  simple_plain next i w (Store n a j e) h =
      plain_both (expression_plain around n a) (plain_both (expression_plain around n j) (more_plain (plain _ refl refl) (plain_both (expression_plain around n e) (store_plain n))))
  simple_plain next i w (Do n e) h = plain_both (expression_plain around n e) (more_plain (plain _ refl refl) none_plain)
  simple_plain next i w (Return n e) h = plain_both (expression_plain around n e) (more_plain (plain _ refl refl) none_plain)
  simple_plain next i w (If n o c a b) h = absurd h
  simple_plain next i w (While n c s) h = absurd h

  -- the labels of an `if`, and what its commands go to
  if_marks : (l : List ℕ) (n m next i w : ℕ) (c : Expression) (A B : List Line) (z : Bool) (ia ib wa wb : ℕ) → i < 2 ^ 64
      → marks l A + done l (suc i) w ≤ done l (suc i + ia) (w + wa) → marks l B + done l (suc i + ia) (w + wa) ≤ done l (suc i + ia + ib) (w + wa + wb)
      → marks l (E n c ++ (into_if n m i ++ (A ++ (if z then quiet n (command.Label (if_false i)) ∷ [] else into_else n next i ++ (B ++ quiet n (command.Label (if_end i)) ∷ []))))) + done l i w
      ≤ done l (i + suc (ia + ib)) (w + (wa + wb))
  if_marks l n m next i w c A B true ia ib wa wb h a b =
      let f = quiet n (command.Label (if_false i)) in
      let x = marks_both l (E n c) (into_if n m i ++ (A ++ f ∷ [])) in
      let y = plain_marks l (E n c) (expression_plain around n c) in
      let z = marks_both l A (f ∷ []) in
      let own = if_labels l i w h in
      let rise = done_rise l (suc i + ia) (w + wa) (i + suc (ia + ib)) (w + (wa + wb)) (omega arith) (omega arith) in
      omega arith
  if_marks l n m next i w c A B false ia ib wa wb h a b =
      let f = quiet n (command.Label (if_false i)) in
      let e = quiet n (command.Label (if_end i)) in
      let x = marks_both l (E n c) (into_if n m i ++ (A ++ (into_else n next i ++ (B ++ e ∷ [])))) in
      let y = plain_marks l (E n c) (expression_plain around n c) in
      let z = marks_both l A (into_else n next i ++ (B ++ e ∷ [])) in
      let v = marks_both l B (e ∷ []) in
      let own = if_labels l i w h in
      let rise = done_rise l (suc i + ia + ib) (w + wa + wb) (i + suc (ia + ib)) (w + (wa + wb)) (omega arith) (omega arith) in
      omega arith

  simple_marks : (l : List ℕ) (next i w : ℕ) (t : Statement) → IsSimple t → ifs_of t ≡ 0 → whiles_of t ≡ 0
      → marks l (statement_lines around next i w t) + done l i w ≤ done l (i + ifs_of t) (w + whiles_of t)
  simple_marks l next i w t h e f =
      let x = plain_marks l (statement_lines around next i w t) (simple_plain next i w t h) in
      let rise = done_rise l i w (i + ifs_of t) (w + whiles_of t) (omega arith) (omega arith) in
      omega arith

  mutual
    pub statement_marks : (l : List ℕ) (next i w : ℕ) (t : Statement) → i + ifs_of t ≤ 2 ^ 64 → w + whiles_of t ≤ 2 ^ 64
        → marks l (statement_lines around next i w t) + done l i w ≤ done l (i + ifs_of t) (w + whiles_of t)
    statement_marks l next i w (If n o c a b) hi hw =
        if_marks l n (first_number next b) next i w c (text_lines around next (suc i) w a) (text_lines around next (suc i + ifs_in a) (w + whiles_in a) b) (no_else o b)
        (ifs_in a) (ifs_in b) (whiles_in a) (whiles_in b) (omega arith)
        (text_marks l next (suc i) w a (omega arith) (omega arith)) (text_marks l next (suc i + ifs_in a) (w + whiles_in a) b (omega arith) (omega arith))
    statement_marks l next i w (While n c s) hi hw =
        let S = text_lines around n i (suc w) s in
        let x = marks_both l (E n c) (into_while n next w ++ (text_lines around n i (suc w) s ++ out_of_while n w)) in
        let y = plain_marks l (E n c) (expression_plain around n c) in
        let z = marks_both l (text_lines around n i (suc w) s) (out_of_while n w) in
        let own = while_labels l i w (omega arith) in
        let ih = text_marks l n i (suc w) s (omega arith) (omega arith) in
        let rise = done_rise l (i + ifs_in s) (suc w + whiles_in s) (i + ifs_in s) (w + suc (whiles_in s)) (omega arith) (omega arith) in
        omega arith
    statement_marks l next i w (Let n x e) hi hw = simple_marks l next i w (Let n x e) tt refl refl
    statement_marks l next i w (LetField n k e) hi hw = simple_marks l next i w (LetField n k e) tt refl refl
    statement_marks l next i w (LetThis n e) hi hw = simple_marks l next i w (LetThis n e) tt refl refl
    statement_marks l next i w (Store n a j e) hi hw = simple_marks l next i w (Store n a j e) tt refl refl
    statement_marks l next i w (Do n e) hi hw = simple_marks l next i w (Do n e) tt refl refl
    statement_marks l next i w (Return n e) hi hw = simple_marks l next i w (Return n e) tt refl refl

    pub text_marks : (l : List ℕ) (next i w : ℕ) (t : Text) → i + ifs_in t ≤ 2 ^ 64 → w + whiles_in t ≤ 2 ^ 64
        → marks l (text_lines around next i w t) + done l i w ≤ done l (i + ifs_in t) (w + whiles_in t)
    text_marks l next i w End hi hw = let rise = done_rise l i w (i + 0) (w + 0) (omega arith) (omega arith) in omega arith
    text_marks l next i w (Next t rest) hi hw =
        let x = marks_both l (statement_lines around (first_number next rest) i w t) (text_lines around next (i + ifs_of t) (w + whiles_of t) rest) in
        let a = statement_marks l (first_number next rest) i w t (omega arith) (omega arith) in
        let b = text_marks l next (i + ifs_of t) (w + whiles_of t) rest (omega arith) (omega arith) in
        let rise = done_rise l (i + ifs_of t + ifs_in rest) (w + whiles_of t + whiles_in rest) (i + (ifs_of t + ifs_in rest)) (w + (whiles_of t + whiles_in rest)) (omega arith) (omega arith) in
        omega arith
