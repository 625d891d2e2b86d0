-- Each name that a subroutine's lines call is that of a subroutine, and some of its lines is a commit.
use Rattle.std.proofs.Common.{◌≡◌, ◌+◌, ◌++◌, ◌||◌, ℕ, suc, Bool, true, false, nat_eq, List, [], ◌∷◌, Option, Some, None, refl, sym, ap, subst, ◌∙◌, if◌then◌else◌}
use Rattle.std.specs.List.{list_any, cons_option, Contains}
use Rattle.std.proofs.lemmas.List.Elements.{Contains-append_left, Contains-append_right, Contains-push}
use Rattle.std.specs.Str.{bytes_eq}
use Rattle.std.proofs.lemmas.Slice.Eq.{bytes_eq-Decides}
use Rattle.std.specs.Option.{option_or}
use Rattle.std.proofs.lemmas.Bool.{or_right}
use Rattle.vm_tree.specs.declared.command.Line.{Line}
use Rattle.vm_tree.specs.declared.command.Command.{Command}
use Rattle.vm_tree.specs.declared.command.Command.TheVariants as command
use Rattle.vm_tree.specs.declared.command.Segment.TheVariants as segment
use Rattle.vm_tree.specs.declared.command.Operation.TheVariants as operation
use Rattle.vm_link.specs.Sections.{Section, called_name, calls, stands_in, is_named}
use Rattle.vm_link.specs.Faults.{first_of, lacking}
use Rattle.jack_meaning.specs.Text.{Variable, Argument, Local, Static, Sign, Minus, Complement, ShiftLeft, ShiftRight, Operator, Plus, Subtract, And, Or, Less, Greater, Equal, Expression, Literal, Value, Name, This, Field, Unary, Binary, Load, Call, Open, Expressions, NoMore, More, Statement, Let, LetField, LetThis, Store, Do, If, While, Return, Text, End, Next, Kind, Constructor, Function, Method, Subroutine}
use Rattle.jack_compiler.specs.Templates.{Numbers, first_number, no_else}
use Rattle.jack_meaning.specs.Linked as called_in
use Rattle.jack_compiler.specs.Fits.{Scope, IsBody, IsClosed}
use Rattle.jack_compiler.proofs.Members.{body_keeps}
use Rattle.jack_compiler.specs.Lines.{Around, quiet, commit, if_false, if_end, into_if, into_else, push_variable, pop_variable, sign_command, operator_command, literal_lines, load_lines, store_lines, expression_lines, arguments_lines, statement_lines, text_lines, object_lines, subroutine_lines, ifs_of, ifs_in, whiles_of, whiles_in}

module _ (K : List ℕ → Type 0) where
  abbrev pub Of : Option (List ℕ) → Type 0
  Of None = Unit {0}
  Of (Some f) = K f

pub data Calls (K : List ℕ → Type 0) : List Line → Type 0 where
  no_calls : Calls K []
  more_calls : {x : Line} {xs : List Line} → Of K (called_name x.command) → Calls K xs → Calls K (x ∷ xs)

calls_both : {K : List ℕ → Type 0} {xs ys : List Line} → Calls K xs → Calls K ys → Calls K (xs ++ ys)
calls_both no_calls b = b
calls_both (more_calls h a) b = more_calls h (calls_both a b)

-- the names of called subroutines
abbrev pub Named : Around → (List ℕ → Type 0) → List ℕ → Type 0
Named around K gs = (g : ℕ) → Contains gs g → K (around.name g)

module _ (around : Around) (K : List ℕ → Type 0) where
  first_named : (xs ys : List ℕ) → Named around K (xs ++ ys) → Named around K xs
  first_named xs ys h g c = h g (Contains-append_left xs ys g c)

  second_named : (xs ys : List ℕ) → Named around K (xs ++ ys) → Named around K ys
  second_named xs ys h g c = h g (Contains-append_right xs ys g c)

  literal_calls : (n w : ℕ) → Calls K (literal_lines n w)
  literal_calls n w = by_test (nat_eq w 65535)
    where
      by_test : (b : Bool) → Calls K (if b then quiet n (command.Push segment.Constant 0) ∷ commit n (command.Operate operation.Not) ∷ [] else commit n (command.Push segment.Constant w) ∷ [])
      by_test true = more_calls tt (more_calls tt no_calls)
      by_test false = more_calls tt no_calls

  push_calls : (x : Variable) → Of K (called_name (push_variable around x))
  push_calls (Argument k) = tt
  push_calls (Local k) = tt
  push_calls (Static k) = tt

  pop_calls : (x : Variable) → Of K (called_name (pop_variable around x))
  pop_calls (Argument k) = tt
  pop_calls (Local k) = tt
  pop_calls (Static k) = tt

  sign_calls : (o : Sign) → Of K (called_name (sign_command o))
  sign_calls Minus = tt
  sign_calls Complement = tt
  sign_calls ShiftLeft = tt
  sign_calls ShiftRight = tt

  operator_calls : (o : Operator) → Of K (called_name (operator_command o))
  operator_calls Plus = tt
  operator_calls Subtract = tt
  operator_calls And = tt
  operator_calls Or = tt
  operator_calls Less = tt
  operator_calls Greater = tt
  operator_calls Equal = tt

  load_calls : (n : ℕ) → Calls K (load_lines n)
  load_calls n = more_calls tt (more_calls tt (more_calls tt no_calls))

  store_calls : (n : ℕ) → Calls K (store_lines n)
  store_calls n = more_calls tt (more_calls tt (more_calls tt (more_calls tt no_calls)))

  mutual
    expression_calls : (n : ℕ) (e : Expression) → Named around K (called_in.calls e) → Calls K (expression_lines around n e)
    expression_calls n (Value w) h = no_calls
    expression_calls n Open h = no_calls
    expression_calls n (Literal w) h = literal_calls n w
    expression_calls n (Name x) h = more_calls (push_calls x) no_calls
    expression_calls n This h = more_calls tt no_calls
    expression_calls n (Field k) h = more_calls tt no_calls
    expression_calls n (Unary o a) h = calls_both (expression_calls n a h) (more_calls (sign_calls o) no_calls)
    expression_calls n (Binary o a b) h =
        calls_both (expression_calls n a (first_named (called_in.calls a) (called_in.calls b) h))
        (calls_both (expression_calls n b (second_named (called_in.calls a) (called_in.calls b) h)) (more_calls (operator_calls o) no_calls))
    expression_calls n (Load a j) h =
        calls_both (expression_calls n a (first_named (called_in.calls a) (called_in.calls j) h))
        (calls_both (expression_calls n j (second_named (called_in.calls a) (called_in.calls j) h)) (load_calls n))
    expression_calls n (Call g es) h =
        calls_both (arguments_calls n es (first_named (called_in.calls_in es) (g ∷ []) h)) (more_calls (h g (Contains-push (called_in.calls_in es) g)) no_calls)

    arguments_calls : (n : ℕ) (es : Expressions) → Named around K (called_in.calls_in es) → Calls K (arguments_lines around n es)
    arguments_calls n NoMore h = no_calls
    arguments_calls n (More e es) h =
        calls_both (expression_calls n e (first_named (called_in.calls e) (called_in.calls_in es) h)) (arguments_calls n es (second_named (called_in.calls e) (called_in.calls_in es) h))

  if_calls : (n m next i : ℕ) (C A B : List Line) (z : Bool) → Calls K C → Calls K A → Calls K B
      → Calls K (C ++ (into_if n m i ++ (A ++ (if z then quiet n (command.Label (if_false i)) ∷ [] else into_else n next i ++ (B ++ quiet n (command.Label (if_end i)) ∷ [])))))
  if_calls n m next i C A B true c a b = calls_both c (more_calls tt (more_calls tt (more_calls tt (calls_both a (more_calls tt no_calls)))))
  if_calls n m next i C A B false c a b =
      calls_both c (more_calls tt (more_calls tt (more_calls tt (calls_both a (more_calls tt (more_calls tt (calls_both b (more_calls tt no_calls))))))))

  mutual
    statement_calls : (next i w : ℕ) (t : Statement) → Named around K (called_in.statement_calls t) → Calls K (statement_lines around next i w t)
    statement_calls next i w (Let n x e) h = calls_both (expression_calls n e h) (more_calls (pop_calls x) no_calls)
    statement_calls next i w (LetField n k e) h = calls_both (expression_calls n e h) (more_calls tt no_calls)
    statement_calls next i w (LetThis n e) h = calls_both (expression_calls n e h) (more_calls tt no_calls)
    statement_calls next i w (Store n a j e) h =
        let ca = called_in.calls a in
        let cj = called_in.calls j in
        let ce = called_in.calls e in
        let h' = second_named ca (cj ++ ce) h in
        calls_both (expression_calls n a (first_named ca (cj ++ ce) h))
        (calls_both (expression_calls n j (first_named cj ce h')) (more_calls tt (calls_both (expression_calls n e (second_named cj ce h')) (store_calls n))))
    statement_calls next i w (Do n e) h = calls_both (expression_calls n e h) (more_calls tt no_calls)
    statement_calls next i w (Return n e) h = calls_both (expression_calls n e h) (more_calls tt no_calls)
    statement_calls next i w (If n o c a b) h =
        let cn = called_in.calls c in
        let ca = called_in.text_calls a in
        let cb = called_in.text_calls b in
        let h' = second_named cn (ca ++ cb) h in
        if_calls n (first_number next b) next i (expression_lines around n c) (text_lines around next (suc i) w a) (text_lines around next (suc i + ifs_in a) (w + whiles_in a) b) (no_else o b)
        (expression_calls n c (first_named cn (ca ++ cb) h)) (text_calls next (suc i) w a (first_named ca cb h')) (text_calls next (suc i + ifs_in a) (w + whiles_in a) b (second_named ca cb h'))
    statement_calls next i w (While n c t) h =
        more_calls tt (calls_both (expression_calls n c (first_named (called_in.calls c) (called_in.text_calls t) h))
        (more_calls tt (more_calls tt (more_calls tt (calls_both (text_calls n i (suc w) t (second_named (called_in.calls c) (called_in.text_calls t) h)) (more_calls tt (more_calls tt no_calls)))))))

    text_calls : (next i w : ℕ) (t : Text) → Named around K (called_in.text_calls t) → Calls K (text_lines around next i w t)
    text_calls next i w End h = no_calls
    text_calls next i w (Next t rest) h =
        calls_both (statement_calls (first_number next rest) i w t (first_named (called_in.statement_calls t) (called_in.text_calls rest) h))
        (text_calls next (i + ifs_of t) (w + whiles_of t) rest (second_named (called_in.statement_calls t) (called_in.text_calls rest) h))

  -- The lines of a subroutine call what its text calls.
  pub lines_call : (sub : Subroutine) → Named around K (called_in.text_calls sub.body) → Calls K (subroutine_lines around sub)
  lines_call sub h = calls_both (object_calls sub.kind (first_number 0 sub.body)) (text_calls 0 0 0 sub.body h)
    where
      object_calls : (k : Kind) (n : ℕ) → Calls K (object_lines k n)
      object_calls Method n = more_calls tt (more_calls tt no_calls)
      object_calls Function n = no_calls
      object_calls Constructor n = no_calls

-- the same, where the text is whole and what it can call is there
pub subroutine_calls : (subs : List Subroutine) (first : Numbers) (around : Around) (K : List ℕ → Type 0) → ((g : ℕ) → first.keeps g ≡ true → K (around.name g))
    → (scope : Scope) (sub : Subroutine) → IsBody subs first scope sub.kind sub.body → Calls K (subroutine_lines around sub)
subroutine_calls subs first around K there scope sub h = lines_call around K sub (λ g c. there g (body_keeps subs first scope sub.kind sub.body h g c))

-- what lines call
pub calls_at : (K : List ℕ → Type 0) (f : List ℕ) (xs : List Line) → Calls K xs → stands_in (calls xs) f ≡ true → K f
calls_at K f [] h e = absurd cc
calls_at K f (x ∷ xs) (more_calls h r) e = by_call (λ k. calls_at K f xs r k) (called_name x.command) h e
  where
    by_name : (stands_in (calls xs) f ≡ true → K f) → (g : List ℕ) → K g → (b : Bool) → (b ≡ true → f ≡ g) → (b || stands_in (calls xs) f) ≡ true → K f
    by_name ih g k true same e = subst K (sym (same refl)) k
    by_name ih g k false same e = ih e

    by_call : (stands_in (calls xs) f ≡ true → K f) → (o : Option (List ℕ)) → Of K o → stands_in (cons_option o (calls xs)) f ≡ true → K f
    by_call ih None h e = ih e
    by_call ih (Some g) h e = by_name ih g h (bytes_eq f g) (bytes_eq-Decides f g).0 e

-- a section that calls what is there
pub functions_there : (ss : List Section) (xs : List Line) → Calls (λ f. list_any (is_named f) ss ≡ true) xs → first_of (λ x. lacking (λ f. list_any (is_named f) ss) (called_name x.command)) xs ≡ None
functions_there ss [] h = refl
functions_there ss (x ∷ xs) (more_calls h r) =
    ap (λ o. option_or o (first_of (λ x. lacking (λ f. list_any (is_named f) ss) (called_name x.command)) xs)) (by_call (called_name x.command) h) ∙ functions_there ss xs r
  where
    by_call : (o : Option (List ℕ)) → Of (λ f. list_any (is_named f) ss ≡ true) o → lacking (λ f. list_any (is_named f) ss) o ≡ None
    by_call None h = refl
    by_call (Some f) h = ap (λ (b : Bool). if b then None else Some f) h

-- a `return` is a commit
has_commit : List Line → Bool
has_commit xs = list_any (λ x. x.commit) xs

commit_last : (xs : List Line) (n : ℕ) (c : Command) → has_commit (xs ++ commit n c ∷ []) ≡ true
unfolding has_commit
commit_last [] n c = refl
commit_last (x ∷ xs) n c = or_right x.commit (has_commit (xs ++ commit n c ∷ [])) (commit_last xs n c)

commit_back : (xs ys : List Line) → has_commit ys ≡ true → has_commit (xs ++ ys) ≡ true
unfolding has_commit
commit_back [] ys h = h
commit_back (x ∷ xs) ys h = or_right x.commit (has_commit (xs ++ ys)) (commit_back xs ys h)

commit_front : (xs ys : List Line) → has_commit xs ≡ true → has_commit (xs ++ ys) ≡ true
unfolding has_commit
commit_front [] ys h = absurd cc
commit_front (x ∷ xs) ys h = by_test (λ k. commit_front xs ys k) x.commit h
  where
    by_test : (has_commit xs ≡ true → has_commit (xs ++ ys) ≡ true) → (b : Bool) → (b || has_commit xs) ≡ true → (b || has_commit (xs ++ ys)) ≡ true
    by_test ih true h = refl
    by_test ih false h = ih h

text_commits : (around : Around) (next i w : ℕ) (t : Text) → IsClosed t → has_commit (text_lines around next i w t) ≡ true
text_commits around next i w End h = absurd h
text_commits around next i w (Next (Return n e) End) h = commit_front _ [] (commit_last (expression_lines around n e) n command.Return)
text_commits around next i w (Next (Let n x e) End) h = absurd h
text_commits around next i w (Next (LetField n k e) End) h = absurd h
text_commits around next i w (Next (LetThis n e) End) h = absurd h
text_commits around next i w (Next (Store n a j e) End) h = absurd h
text_commits around next i w (Next (Do n e) End) h = absurd h
text_commits around next i w (Next (If n o c a b) End) h = absurd h
text_commits around next i w (Next (While n c s) End) h = absurd h
text_commits around next i w (Next t (Next t' rest)) h =
    commit_back (statement_lines around (first_number next (Next t' rest)) i w t) _ (text_commits around next (i + ifs_of t) (w + whiles_of t) (Next t' rest) h)

pub subroutine_commits : (around : Around) (sub : Subroutine) → IsClosed sub.body → list_any (λ x. x.commit) (subroutine_lines around sub) ≡ true
unfolding has_commit
subroutine_commits around sub h = commit_back (object_lines sub.kind (first_number 0 sub.body)) (text_lines around 0 0 0 sub.body) (text_commits around 0 0 0 sub.body h)
