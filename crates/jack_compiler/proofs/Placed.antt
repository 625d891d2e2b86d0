-- Where the labels of a subroutine are, what its lines go to, and which statement comes first.
use Rattle.std.proofs.Common.{◌≡◌, ◌+◌, ◌^◌, ◌<◌, ◌≤◌, ◌++◌, ◌||◌, ℕ, suc, Bool, true, false, nat_eq, List, [], ◌∷◌, Option, Some, None, unwrap_or, is_some, option_map, length, refl, sym, ap, ◌∙◌, arith, append_assoc, if◌then◌else◌}
use Rattle.std.specs.List.{filter_map, cons_option}
use Rattle.std.specs.Option.{option_or}
use Rattle.std.specs.Str.{bytes_eq}
use Rattle.vm_tree.specs.declared.command.Line.{Line}
use Rattle.vm_tree.specs.declared.command.Command.{Command}
use Rattle.vm_tree.specs.declared.command.Command.TheVariants as command
use Rattle.vm_link.specs.declared.linked.Step.{Step}
use Rattle.vm_link.specs.declared.linked.Code.{Code}
use Rattle.vm_link.specs.Sections.{Section, label, labels, target, stands_in, has_name}
use Rattle.vm_link.specs.Faults.{first_repeat, repeat_after, first_of, lacking, label_twice, no_label}
use Rattle.vm_link.specs.Resolved.{code_of, step_of, steps, label_place, first_statement}
use Rattle.jack_meaning.specs.Text.{Expression, Literal, Value, Name, This, Field, Unary, Binary, Load, Call, Open, Expressions, NoMore, More, Statement, Let, LetField, LetThis, Store, Do, If, While, Return, Text, End, Next, number_of, Kind, Constructor, Function, Method, Subroutine}
use Rattle.jack_compiler.specs.Templates.{first_number, no_else}
use Rattle.jack_compiler.specs.Lines.{Around, quiet, commit, if_true, if_false, if_end, while_exp, while_do, while_end, into_if, into_else, into_while, out_of_while, literal_lines, expression_lines, arguments_lines, statement_lines, text_lines, object_lines, subroutine_lines, ifs_of, ifs_in, whiles_of, whiles_in}
use Rattle.jack_compiler.proofs.Coded.{Places}
use Rattle.jack_compiler.proofs.Marked.{here, marks, marks_both, here_self, same_name, text_marks, done_most, Aimed, Aims, no_aims, more_aims, aims_both, plain_aims, simple_plain, expression_plain}

-- each label stands once at most
pub subroutine_marks : (around : Around) (sub : Subroutine) (l : List ℕ) → ifs_in sub.body ≤ 2 ^ 64 → whiles_in sub.body ≤ 2 ^ 64 → marks l (subroutine_lines around sub) ≤ 1
subroutine_marks around sub l i w =
    let x = marks_both l (object_lines sub.kind (first_number 0 sub.body)) (text_lines around 0 0 0 sub.body) in
    let y = object_marks sub.kind (first_number 0 sub.body) in
    let z = text_marks around l 0 0 0 sub.body (omega arith) (omega arith) in
    let m = done_most l (0 + ifs_in sub.body) (0 + whiles_in sub.body) in
    omega arith
  where
    object_marks : (k : Kind) (n : ℕ) → marks l (object_lines k n) ≡ 0
    object_marks Method n = refl
    object_marks Function n = refl
    object_marks Constructor n = refl

-- the labels of lines
stands_if : (l : List ℕ) (xs : List Line) → 0 < marks l xs → stands_in (labels xs) l ≡ true
stands_if l [] h = absurd (omega arith)
stands_if l (x ∷ xs) h = by_label (λ k. stands_if l xs k) (label x.command) h
  where
    by_name : (0 < marks l xs → stands_in (labels xs) l ≡ true) → (b : Bool) → 0 < (if b then 1 else 0) + marks l xs → (b || stands_in (labels xs) l) ≡ true
    by_name ih true h = refl
    by_name ih false h = ih (omega arith)

    by_label : (0 < marks l xs → stands_in (labels xs) l ≡ true) → (o : Option (List ℕ)) → 0 < here l o + marks l xs → stands_in (cons_option o (labels xs)) l ≡ true
    by_label ih None h = ih (omega arith)
    by_label ih (Some n) h = by_name ih (bytes_eq l n) h

abbrev pub occurs : List ℕ → List (List ℕ) → ℕ
occurs l [] = 0
occurs l (n ∷ ns) = here l (Some n) + occurs l ns

occurs_labels : (l : List ℕ) (xs : List Line) → occurs l (labels xs) ≡ marks l xs
occurs_labels l [] = refl
occurs_labels l (x ∷ xs) = by_label (label x.command) (occurs_labels l xs)
  where
    by_label : (o : Option (List ℕ)) → occurs l (labels xs) ≡ marks l xs → occurs l (cons_option o (labels xs)) ≡ here l o + marks l xs
    by_label None e = omega arith
    by_label (Some n) e = omega arith

occurs_both : (l : List ℕ) (xs ys : List (List ℕ)) → occurs l (xs ++ ys) ≡ occurs l xs + occurs l ys
occurs_both l [] ys = omega arith
occurs_both l (x ∷ xs) ys = let ih = occurs_both l xs ys in omega arith

occurs_if : (l : List ℕ) (ns : List (List ℕ)) → stands_in ns l ≡ true → 0 < occurs l ns
occurs_if l [] h = absurd cc
occurs_if l (n ∷ ns) h = by_test (λ k. occurs_if l ns k) (bytes_eq l n) h
  where
    by_test : (stands_in ns l ≡ true → 0 < occurs l ns) → (b : Bool) → (b || stands_in ns l) ≡ true → 0 < (if b then 1 else 0) + occurs l ns
    by_test ih true h = omega arith
    by_test ih false h = let k = ih h in omega arith

repeats_none : (before ns : List (List ℕ)) → ((l : List ℕ) → occurs l before + occurs l ns ≤ 1) → repeat_after before ns ≡ None
repeats_none before [] h = refl
repeats_none before (n ∷ ns) h =
    by_test (stands_in before n) refl
    (repeats_none (before ++ n ∷ []) ns (λ l. let x = h l in let y = occurs_both l before (n ∷ []) in omega arith))
  where
    by_test : (b : Bool) → stands_in before n ≡ b → repeat_after (before ++ n ∷ []) ns ≡ None → (if b then Some n else repeat_after (before ++ n ∷ []) ns) ≡ None
    by_test true e r = let x = occurs_if n before e in let y = h n in let z = here_self n in absurd (omega arith)
    by_test false e r = r

pub distinct_none : (ns : List (List ℕ)) → ((l : List ℕ) → occurs l ns ≤ 1) → first_repeat ns ≡ None
distinct_none ns h = repeats_none [] ns (λ l. let x = h l in omega arith)

pub labels_once : (s : Section) → ((l : List ℕ) → marks l s.lines ≤ 1) → label_twice s ≡ None
labels_once s h = distinct_none (labels s.lines) (λ l. let x = h l in let y = occurs_labels l s.lines in omega arith)

-- what lines go to is there
lacking_none : (whole : List Line) (o : Option (List ℕ)) → Aimed whole o → lacking (stands_in (labels whole)) o ≡ None
lacking_none whole None h = refl
lacking_none whole (Some l) h = ap (λ (b : Bool). if b then None else Some l) (stands_if l whole h)

aims_none : (whole xs : List Line) → Aims whole xs → first_of (λ x. lacking (stands_in (labels whole)) (target x.command)) xs ≡ None
aims_none whole [] h = refl
aims_none whole (x ∷ xs) (more_aims a r) = ap (λ o. option_or o (first_of (λ x. lacking (stands_in (labels whole)) (target x.command)) xs)) (lacking_none whole (target x.command) a) ∙ aims_none whole xs r

pub targets_there : (s : Section) → Aims s.lines s.lines → no_label s ≡ None
targets_there s h = aims_none s.lines s.lines h

-- The labels of these lines are among those of the whole.
abbrev Within : List Line → List Line → Type 0
Within whole xs = (l : List ℕ) → marks l xs ≤ marks l whole

module _ (around : Around) (whole : List Line) where
  abbrev E : ℕ → Expression → List Line
  E n e = expression_lines around n e

  expression_aims : (n : ℕ) (e : Expression) → Aims whole (E n e)
  expression_aims n e = plain_aims (expression_plain around n e)

  if_aims : (n m next i : ℕ) (c : Expression) (A B : List Line) (z : Bool)
      → Within whole (E n c ++ (into_if n m i ++ (A ++ (if z then quiet n (command.Label (if_false i)) ∷ [] else into_else n next i ++ (B ++ quiet n (command.Label (if_end i)) ∷ [])))))
      → (Within whole A → Aims whole A) → (Within whole B → Aims whole B)
      → Aims whole (E n c ++ (into_if n m i ++ (A ++ (if z then quiet n (command.Label (if_false i)) ∷ [] else into_else n next i ++ (B ++ quiet n (command.Label (if_end i)) ∷ [])))))
  if_aims n m next i c A B true h a b =
      let f = quiet n (command.Label (if_false i)) in
      let sums : (l : List ℕ) → marks l A + here l (Some (if_true i)) + here l (Some (if_false i)) ≤ marks l whole =
      λ l. let x = marks_both l (E n c) (into_if n m i ++ (A ++ f ∷ [])) in let y = marks_both l A (f ∷ []) in let w = h l in omega arith in
      aims_both (expression_aims n c)
      (more_aims (let x = sums (if_true i) in let y = here_self (if_true i) in omega arith)
      (more_aims (let x = sums (if_false i) in let y = here_self (if_false i) in omega arith)
      (more_aims tt (aims_both (a (λ l. let x = sums l in omega arith)) (more_aims tt no_aims)))))
  if_aims n m next i c A B false h a b =
      let e = quiet n (command.Label (if_end i)) in
      let sums : (l : List ℕ) → marks l A + marks l B + here l (Some (if_true i)) + here l (Some (if_false i)) + here l (Some (if_end i)) ≤ marks l whole =
      λ l. let x = marks_both l (E n c) (into_if n m i ++ (A ++ (into_else n next i ++ (B ++ e ∷ [])))) in let y = marks_both l A (into_else n next i ++ (B ++ e ∷ [])) in
      let v = marks_both l B (e ∷ []) in let w = h l in omega arith in
      aims_both (expression_aims n c)
      (more_aims (let x = sums (if_true i) in let y = here_self (if_true i) in omega arith)
      (more_aims (let x = sums (if_false i) in let y = here_self (if_false i) in omega arith)
      (more_aims tt (aims_both (a (λ l. let x = sums l in omega arith))
      (more_aims (let x = sums (if_end i) in let y = here_self (if_end i) in omega arith)
      (more_aims tt (aims_both (b (λ l. let x = sums l in omega arith)) (more_aims tt no_aims))))))))

  mutual
    statement_aims : (next i w : ℕ) (t : Statement) → Within whole (statement_lines around next i w t) → Aims whole (statement_lines around next i w t)
    statement_aims next i w (If n o c a b) h =
        if_aims n (first_number next b) next i c (text_lines around next (suc i) w a) (text_lines around next (suc i + ifs_in a) (w + whiles_in a) b) (no_else o b) h
        (λ k. text_aims next (suc i) w a k) (λ k. text_aims next (suc i + ifs_in a) (w + whiles_in a) b k)
    statement_aims next i w (While n c s) h =
        let sums : (l : List ℕ) → marks l (text_lines around n i (suc w) s) + here l (Some (while_exp w)) + here l (Some (while_do w)) + here l (Some (while_end w)) ≤ marks l whole =
        λ l. let x = marks_both l (E n c) (into_while n next w ++ (text_lines around n i (suc w) s ++ out_of_while n w)) in let y = marks_both l (text_lines around n i (suc w) s) (out_of_while n w) in let v = h l in omega arith in
        more_aims tt (aims_both (expression_aims n c)
        (more_aims (let x = sums (while_do w) in let y = here_self (while_do w) in omega arith)
        (more_aims (let x = sums (while_end w) in let y = here_self (while_end w) in omega arith)
        (more_aims tt (aims_both (text_aims n i (suc w) s (λ l. let x = sums l in omega arith))
        (more_aims (let x = sums (while_exp w) in let y = here_self (while_exp w) in omega arith) (more_aims tt no_aims)))))))
    statement_aims next i w (Let n x e) h = plain_aims (simple_plain around next i w (Let n x e) tt)
    statement_aims next i w (LetField n k e) h = plain_aims (simple_plain around next i w (LetField n k e) tt)
    statement_aims next i w (LetThis n e) h = plain_aims (simple_plain around next i w (LetThis n e) tt)
    statement_aims next i w (Store n a j e) h = plain_aims (simple_plain around next i w (Store n a j e) tt)
    statement_aims next i w (Do n e) h = plain_aims (simple_plain around next i w (Do n e) tt)
    statement_aims next i w (Return n e) h = plain_aims (simple_plain around next i w (Return n e) tt)

    text_aims : (next i w : ℕ) (t : Text) → Within whole (text_lines around next i w t) → Aims whole (text_lines around next i w t)
    text_aims next i w End h = no_aims
    text_aims next i w (Next t rest) h =
        let sums : (l : List ℕ) → marks l (statement_lines around (first_number next rest) i w t) + marks l (text_lines around next (i + ifs_of t) (w + whiles_of t) rest) ≤ marks l whole =
        λ l. let x = marks_both l (statement_lines around (first_number next rest) i w t) (text_lines around next (i + ifs_of t) (w + whiles_of t) rest) in let v = h l in omega arith in
        aims_both (statement_aims (first_number next rest) i w t (λ l. let x = sums l in omega arith))
        (text_aims next (i + ifs_of t) (w + whiles_of t) rest (λ l. let x = sums l in omega arith))

pub subroutine_aims : (around : Around) (sub : Subroutine) → Aims (subroutine_lines around sub) (subroutine_lines around sub)
subroutine_aims around sub =
    let n = first_number 0 sub.body in
    let whole = subroutine_lines around sub in
    aims_both (object_aims sub.kind n)
    (text_aims around whole 0 0 0 sub.body (λ l. let x = marks_both l (object_lines sub.kind n) (text_lines around 0 0 0 sub.body) in omega arith))
  where
    object_aims : (k : Kind) (n : ℕ) → Aims (subroutine_lines around sub) (object_lines k n)
    object_aims Method n = more_aims tt (more_aims tt no_aims)
    object_aims Function n = no_aims
    object_aims Constructor n = no_aims

-- the place of a label
has_none : (l : List ℕ) (o : Option (List ℕ)) → here l o ≡ 0 → has_name l o ≡ false
has_none l None h = refl
has_none l (Some n) h = by_test (bytes_eq l n) h
  where
    by_test : (b : Bool) → ◌≡◌ {A = ℕ} (if b then 1 else 0) 0 → b ≡ false
    by_test true h = absurd (omega arith)
    by_test false h = refl

step_count : (ks : List Section) (s : Section) (c : Command) (f : Step → Code) (r : List Code) → length (cons_option (option_map f (step_of ks s c)) r) ≡ steps c + length r
step_count ks s (command.Operate o) f r = omega arith
step_count ks s (command.Push g i) f r = omega arith
step_count ks s (command.Pop g i) f r = omega arith
step_count ks s (command.Label l) f r = omega arith
step_count ks s (command.Goto l) f r = omega arith
step_count ks s (command.IfGoto l) f r = omega arith
step_count ks s (command.Call n a) f r = omega arith
step_count ks s command.Return f r = omega arith

place_found : (ks : List Section) (s : Section) (l : List ℕ) (at : ℕ) (before : List Line) (x : Line) (zs : List Line) → marks l before ≡ 0 → label x.command ≡ Some l
    → label_place l at (before ++ x ∷ zs) ≡ Some (at + length (filter_map (code_of ks s) before))
place_found ks s l at [] x zs h e =
    ap (λ o. if has_name l o then Some at else label_place l (at + steps x.command) zs) e
    ∙ (ap (λ (b : Bool). if b then Some at else label_place l (at + steps x.command) zs) (same_name l) ∙ ap Some (let z : at ≡ at + 0 = omega arith in z))
place_found ks s l at (b ∷ bs) x zs h e =
    let n = step_count ks s b.command (λ c. record { step = c; statement = b.statement; commit = b.commit }) (filter_map (code_of ks s) bs) in
    let none : here l (label b.command) ≡ 0 = omega arith in
    ap (λ (z : Bool). if z then Some at else label_place l (at + steps b.command) (bs ++ x ∷ zs)) (has_none l (label b.command) none)
    ∙ (place_found ks s l (at + steps b.command) bs x zs (omega arith) e ∙ ap Some (let z : at + steps b.command + length (filter_map (code_of ks s) bs) ≡ at + length (filter_map (code_of ks s) (b ∷ bs)) = omega arith in z))

pub places_are : (ks : List Section) (s : Section) → is_some s.name ≡ true → ((l : List ℕ) → marks l s.lines ≤ 1) → Places ks s
places_are ks s named h = λ p x ys l st e.
    let once = h l in
    let whole = ap (marks l) st.whole in
    let split = marks_both l st.before (x ∷ (ys ++ st.after)) in
    let one : here l (label x.command) ≡ 1 = ap (here l) e ∙ here_self l in
    let none : marks l st.before ≡ 0 = omega arith in
    let at = st.at in
    ap (λ (z : Bool). unwrap_or (label_place l (if z then 1 else 0) s.lines) 0) named
    ∙ (ap (λ z. unwrap_or (label_place l 1 z) 0) st.whole
    ∙ (ap (λ o. unwrap_or o 0) (place_found ks s l 1 st.before x (ys ++ st.after) none e) ∙ sym at))

-- the statement that comes first
literal_first : (n w : ℕ) (zs : List Line) → first_statement (literal_lines n w ++ zs) ≡ n
literal_first n w zs = by_test (nat_eq w 65535)
  where
    by_test : (b : Bool) → first_statement ((if b then quiet n (command.Push Rattle.vm_tree.specs.declared.command.Segment.TheVariants.Constant 0) ∷ commit n (command.Operate Rattle.vm_tree.specs.declared.command.Operation.TheVariants.Not) ∷ []
        else commit n (command.Push Rattle.vm_tree.specs.declared.command.Segment.TheVariants.Constant w) ∷ []) ++ zs) ≡ n
    by_test true = refl
    by_test false = refl

module _ (around : Around) where
  mutual
    expression_first : (n : ℕ) (e : Expression) (zs : List Line) → first_statement zs ≡ n → first_statement (expression_lines around n e ++ zs) ≡ n
    expression_first n (Value w) zs h = h
    expression_first n Open zs h = h
    expression_first n (Literal w) zs h = literal_first n w zs
    expression_first n (Name x) zs h = refl
    expression_first n This zs h = refl
    expression_first n (Field k) zs h = refl
    expression_first n (Unary o a) zs h = ap first_statement (append_assoc (expression_lines around n a) _ zs) ∙ expression_first n a _ refl
    expression_first n (Binary o a b) zs h =
        ap first_statement (append_assoc (expression_lines around n a) _ zs)
        ∙ expression_first n a _ (ap first_statement (append_assoc (expression_lines around n b) _ zs) ∙ expression_first n b _ refl)
    expression_first n (Load a j) zs h =
        ap first_statement (append_assoc (expression_lines around n a) _ zs)
        ∙ expression_first n a _ (ap first_statement (append_assoc (expression_lines around n j) _ zs) ∙ expression_first n j _ refl)
    expression_first n (Call g es) zs h = ap first_statement (append_assoc (arguments_lines around n es) _ zs) ∙ arguments_first n es _ refl

    arguments_first : (n : ℕ) (es : Expressions) (zs : List Line) → first_statement zs ≡ n → first_statement (arguments_lines around n es ++ zs) ≡ n
    arguments_first n NoMore zs h = h
    arguments_first n (More e es) zs h =
        ap first_statement (append_assoc (expression_lines around n e) (arguments_lines around n es) zs) ∙ expression_first n e _ (arguments_first n es zs h)

  statement_first : (next i w : ℕ) (t : Statement) (zs : List Line) → first_statement (statement_lines around next i w t ++ zs) ≡ number_of t
  statement_first next i w (Let n x e) zs = ap first_statement (append_assoc (expression_lines around n e) _ zs) ∙ expression_first n e _ refl
  statement_first next i w (LetField n k e) zs = ap first_statement (append_assoc (expression_lines around n e) _ zs) ∙ expression_first n e _ refl
  statement_first next i w (LetThis n e) zs = ap first_statement (append_assoc (expression_lines around n e) _ zs) ∙ expression_first n e _ refl
  statement_first next i w (Store n a j e) zs =
      ap first_statement (append_assoc (expression_lines around n a) _ zs)
      ∙ expression_first n a _ (ap first_statement (append_assoc (expression_lines around n j) _ zs) ∙ expression_first n j _ refl)
  statement_first next i w (Do n e) zs = ap first_statement (append_assoc (expression_lines around n e) _ zs) ∙ expression_first n e _ refl
  statement_first next i w (Return n e) zs = ap first_statement (append_assoc (expression_lines around n e) _ zs) ∙ expression_first n e _ refl
  statement_first next i w (If n o c a b) zs = ap first_statement (append_assoc (expression_lines around n c) _ zs) ∙ expression_first n c _ refl
  statement_first next i w (While n c s) zs = refl

  text_first : (t : Text) → first_statement (text_lines around 0 0 0 t) ≡ first_number 0 t
  text_first End = refl
  text_first (Next t rest) = statement_first (first_number 0 rest) 0 0 t (text_lines around 0 (0 + ifs_of t) (0 + whiles_of t) rest)

pub subroutine_first : (around : Around) (sub : Subroutine) → first_statement (subroutine_lines around sub) ≡ first_number 0 sub.body
subroutine_first around sub = by_kind sub.kind
  where
    by_kind : (k : Kind) → first_statement (object_lines k (first_number 0 sub.body) ++ text_lines around 0 0 0 sub.body) ≡ first_number 0 sub.body
    by_kind Method = refl
    by_kind Function = text_first around sub.body
    by_kind Constructor = text_first around sub.body
