-- The linked code of a subroutine's lines is what the templates say.
use Rattle.std.proofs.Common.{◌≡◌, ◌+◌, ◌-◌, ◌++◌, ℕ, suc, Bool, true, false, nat_eq, List, [], ◌∷◌, Some, length, refl, sym, ap, subst, ◌∙◌, arith, append_assoc, length-append, if◌then◌else◌}
use Rattle.std.specs.List.{filter_map}
use Rattle.std.proofs.lemmas.List.{append-nil}
use Rattle.std.proofs.lemmas.List.Elements.{filter_map-append}
use Rattle.vm_tree.specs.declared.command.Line.{Line}
use Rattle.vm_tree.specs.declared.command.Segment.TheVariants as segment
use Rattle.vm_tree.specs.declared.command.Operation.TheVariants as operation
use Rattle.vm_tree.specs.declared.command.Command.TheVariants as line_command
use Rattle.vm_link.specs.declared.linked.Step.TheVariants as command
use Rattle.vm_link.specs.declared.linked.Code.{Code}
use Rattle.vm_link.specs.Sections.{Section, label}
use Rattle.vm_link.specs.Faults.{words_before}
use Rattle.vm_link.specs.Resolved.{code_of, number_in, place_in}
use Rattle.jack_meaning.specs.Text.{Variable, Argument, Local, Static, Sign, Minus, Complement, ShiftLeft, ShiftRight, Operator, Plus, Subtract, And, Or, Less, Greater, Equal, Expression, Literal, Value, Name, This, Field, Unary, Binary, Load, Call, Open, Expressions, NoMore, More, Statement, Let, LetField, LetThis, Store, Do, If, While, Return, Text, End, Next, Subroutine}
use Rattle.jack_compiler.specs.Templates.{Numbers, quiet, commit, count, literal_code, push_variable, pop_variable, sign_step, operator_step, load_code, store_code, expression_code, arguments_code, statement_code, text_code, first_number, no_else}
use Rattle.jack_compiler.specs.Fits.{Scope, IsThere, IsWhole, AreWhole, IsFresh, IsFreshText}
use Rattle.jack_compiler.specs.Lines as lines
use Rattle.jack_compiler.specs.Lines.{Around, if_true, if_false, if_end, while_exp, while_do, while_end, into_if, into_else, into_while, out_of_while, literal_lines, sign_command, operator_command, expression_lines, arguments_lines, statement_lines, text_lines, object_lines, ifs_of, ifs_in, whiles_of, whiles_in}

-- What linking gives for what a subroutine names.
pub record Gives (subs : List Subroutine) (first numbers : Numbers) (around : Around) (ks : List Section) (s : Section) : Type 0 where
  pub calls : (g : ℕ) → first.keeps g ≡ true → number_in ks (around.name g) ≡ numbers.function g
  pub statics : (k : ℕ) → first.holds k ≡ true → words_before ks s.file + (k - around.before) ≡ numbers.static k

-- These lines stand in the section, and the first of them is at this place.
pub record Stands (ks : List Section) (s : Section) (p : ℕ) (xs : List Line) : Type 0 where
  pub before : List Line
  pub after : List Line
  pub whole : s.lines ≡ before ++ (xs ++ after)
  pub at : p ≡ 1 + length (filter_map (code_of ks s) before)

-- a label has the place of what follows it
abbrev pub Places : List Section → Section → Type 0
Places ks s = (p : ℕ) (x : Line) (ys : List Line) (l : List ℕ) → Stands ks s p (x ∷ ys) → label x.command ≡ Some l → place_in s l ≡ p

module _ (ks : List Section) (s : Section) where
  abbrev code : List Line → List Code
  code xs = filter_map (code_of ks s) xs

  both : (xs ys : List Line) (a b : List Code) → code xs ≡ a → code ys ≡ b → code (xs ++ ys) ≡ a ++ b
  both xs ys a b e f = filter_map-append (code_of ks s) xs ys ∙ (ap (λ z. z ++ code ys) e ∙ ap (λ z. a ++ z) f)

  pub front : (p : ℕ) (xs ys : List Line) → Stands ks s p (xs ++ ys) → Stands ks s p xs
  front p xs ys h = record { before = h.before; after = ys ++ h.after; whole = h.whole ∙ ap (λ z. h.before ++ z) (append_assoc xs ys h.after); at = h.at }

  pub back : (p q : ℕ) (xs ys : List Line) → Stands ks s p (xs ++ ys) → q ≡ p + length (code xs) → Stands ks s q ys
  back p q xs ys h e = record {
    before = h.before ++ xs;
    after = h.after;
    whole = h.whole ∙ (ap (λ z. h.before ++ z) (append_assoc xs ys h.after) ∙ sym (append_assoc h.before xs (ys ++ h.after)));
    at =
        let a = h.at in
        let l : length (code (h.before ++ xs)) ≡ length (code h.before) + length (code xs) = ap length (filter_map-append (code_of ks s) h.before xs) ∙ length-append (code h.before) (code xs) in
        omega arith;
  }

  turn : (n m a b a' b' : ℕ) (xs ys : List Code) → a ≡ a' → b ≡ b' → xs ≡ ys → commit n (command.IfGoto a) ∷ quiet m (command.Goto b) ∷ xs ≡ commit n (command.IfGoto a') ∷ quiet m (command.Goto b') ∷ ys
  turn n m a b a' b' xs ys e f g = λ i. commit n (command.IfGoto (e i)) ∷ quiet m (command.Goto (f i)) ∷ g i

  -- an `if` without statements in its second branch
  short_choice : (n m k p : ℕ) (E A : List Line) (E' : List Code) (tc : ℕ → List Code) → Places ks s
      → Stands ks s p (E ++ (into_if n m k ++ (A ++ lines.quiet n (line_command.Label (if_false k)) ∷ []))) → code E ≡ E'
      → ((q : ℕ) → Stands ks s q A → code A ≡ tc q)
      → code (E ++ (into_if n m k ++ (A ++ lines.quiet n (line_command.Label (if_false k)) ∷ [])))
      ≡ E' ++ (commit n (command.IfGoto (p + length E' + 2)) ∷ quiet m (command.Goto (p + length E' + 2 + length (tc (p + length E' + 2)))) ∷ (tc (p + length E' + 2) ++ []))
  short_choice n m k p E A E' tc places h eE eA =
      let q = p + length E' in
      let f = lines.quiet n (line_command.Label (if_false k)) in
      let g1 = lines.commit n (line_command.IfGoto (if_true k)) in
      let g2 = lines.quiet m (line_command.Goto (if_false k)) in
      let t = lines.quiet n (line_command.Label (if_true k)) in
      let lE = ap length eE in
      let h1 : Stands ks s (p + length E') (into_if n m k ++ (A ++ f ∷ [])) = back p (p + length E') E (into_if n m k ++ (A ++ f ∷ [])) h (omega arith) in
      let h2 : Stands ks s (p + length E' + 2) (t ∷ (A ++ f ∷ [])) = back (p + length E') (p + length E' + 2) (g1 ∷ g2 ∷ []) (t ∷ (A ++ f ∷ [])) h1 (omega arith) in
      let h3 : Stands ks s (p + length E' + 2) (A ++ f ∷ []) = back (p + length E' + 2) (p + length E' + 2) (t ∷ []) (A ++ f ∷ []) h2 (omega arith) in
      let pt = places (p + length E' + 2) t (A ++ f ∷ []) (if_true k) h2 refl in
      let a = eA (p + length E' + 2) (front (p + length E' + 2) A (f ∷ []) h3) in
      let lA = ap length a in
      let h4 : Stands ks s (p + length E' + 2 + length (tc (p + length E' + 2))) (f ∷ []) = back (p + length E' + 2) (p + length E' + 2 + length (tc (p + length E' + 2))) A (f ∷ []) h3 (omega arith) in
      let pf = places (p + length E' + 2 + length (tc (p + length E' + 2))) f [] (if_false k) h4 refl in
      both E (into_if n m k ++ (A ++ f ∷ [])) E' _ eE (turn n m _ _ _ _ _ _ pt pf (both A (f ∷ []) (tc (p + length E' + 2)) [] a refl))

  -- an `if` with statements in both
  long_choice : (n next m k p : ℕ) (E A B : List Line) (E' : List Code) (tc td : ℕ → List Code) → Places ks s
      → Stands ks s p (E ++ (into_if n m k ++ (A ++ (into_else n next k ++ (B ++ lines.quiet n (line_command.Label (if_end k)) ∷ []))))) → code E ≡ E'
      → ((q : ℕ) → Stands ks s q A → code A ≡ tc q) → ((q : ℕ) → Stands ks s q B → code B ≡ td q)
      → (other : ℕ) → other ≡ p + length E' + 2 + length (tc (p + length E' + 2))
      → code (E ++ (into_if n m k ++ (A ++ (into_else n next k ++ (B ++ lines.quiet n (line_command.Label (if_end k)) ∷ [])))))
      ≡ E' ++ (commit n (command.IfGoto (p + length E' + 2)) ∷ quiet m (command.Goto (other + 1)) ∷ (tc (p + length E' + 2) ++ quiet next (command.Goto (other + 1 + length (td (other + 1)))) ∷ td (other + 1)))
  long_choice n next m k p E A B E' tc td places h eE eA eB other o =
      let f = lines.quiet n (line_command.Label (if_false k)) in
      let g1 = lines.commit n (line_command.IfGoto (if_true k)) in
      let g2 = lines.quiet m (line_command.Goto (if_false k)) in
      let t = lines.quiet n (line_command.Label (if_true k)) in
      let g3 = lines.quiet next (line_command.Goto (if_end k)) in
      let e = lines.quiet n (line_command.Label (if_end k)) in
      let lE = ap length eE in
      let h1 : Stands ks s (p + length E') (into_if n m k ++ (A ++ (into_else n next k ++ (B ++ e ∷ [])))) =
      back p (p + length E') E (into_if n m k ++ (A ++ (into_else n next k ++ (B ++ e ∷ [])))) h (omega arith) in
      let h2 : Stands ks s (p + length E' + 2) (t ∷ (A ++ (into_else n next k ++ (B ++ e ∷ [])))) =
      back (p + length E') (p + length E' + 2) (g1 ∷ g2 ∷ []) (t ∷ (A ++ (into_else n next k ++ (B ++ e ∷ [])))) h1 (omega arith) in
      let h3 : Stands ks s (p + length E' + 2) (A ++ (into_else n next k ++ (B ++ e ∷ []))) =
      back (p + length E' + 2) (p + length E' + 2) (t ∷ []) (A ++ (into_else n next k ++ (B ++ e ∷ []))) h2 (omega arith) in
      let pt = places (p + length E' + 2) t (A ++ (into_else n next k ++ (B ++ e ∷ []))) (if_true k) h2 refl in
      let a = eA (p + length E' + 2) (front (p + length E' + 2) A (into_else n next k ++ (B ++ e ∷ [])) h3) in
      let lA = ap length a in
      let h4 : Stands ks s other (g3 ∷ f ∷ (B ++ e ∷ [])) = back (p + length E' + 2) other A (g3 ∷ f ∷ (B ++ e ∷ [])) h3 (omega arith) in
      let h5 : Stands ks s (other + 1) (f ∷ (B ++ e ∷ [])) = back other (other + 1) (g3 ∷ []) (f ∷ (B ++ e ∷ [])) h4 (omega arith) in
      let pf = places (other + 1) f (B ++ e ∷ []) (if_false k) h5 refl in
      let h6 : Stands ks s (other + 1) (B ++ e ∷ []) = back (other + 1) (other + 1) (f ∷ []) (B ++ e ∷ []) h5 (omega arith) in
      let b = eB (other + 1) (front (other + 1) B (e ∷ []) h6) in
      let lB = ap length b in
      let h7 : Stands ks s (other + 1 + length (td (other + 1))) (e ∷ []) = back (other + 1) (other + 1 + length (td (other + 1))) B (e ∷ []) h6 (omega arith) in
      let pe = places (other + 1 + length (td (other + 1))) e [] (if_end k) h7 refl in
      let second : code (B ++ e ∷ []) ≡ td (other + 1) = both B (e ∷ []) (td (other + 1)) [] b refl ∙ append-nil (td (other + 1)) in
      both E (into_if n m k ++ (A ++ (into_else n next k ++ (B ++ e ∷ [])))) E' _ eE
      (turn n m _ _ _ _ _ _ pt pf (both A (g3 ∷ f ∷ (B ++ e ∷ [])) (tc (p + length E' + 2)) _ a (λ i. quiet next (command.Goto (pe i)) ∷ second i)))

  -- a `while`
  loop : (n next k p : ℕ) (E S : List Line) (E' : List Code) (tc : ℕ → List Code) → Places ks s
      → Stands ks s p (lines.quiet n (line_command.Label (while_exp k)) ∷ (E ++ (into_while n next k ++ (S ++ out_of_while n k)))) → code E ≡ E'
      → ((q : ℕ) → Stands ks s q S → code S ≡ tc q)
      → code (lines.quiet n (line_command.Label (while_exp k)) ∷ (E ++ (into_while n next k ++ (S ++ out_of_while n k))))
      ≡ E' ++ (commit n (command.IfGoto (p + length E' + 2)) ∷ quiet next (command.Goto (p + length E' + 2 + length (tc (p + length E' + 2)) + 1)) ∷ (tc (p + length E' + 2) ++ quiet n (command.Goto p) ∷ []))
  loop n next k p E S E' tc places h eE eS =
      let x = lines.quiet n (line_command.Label (while_exp k)) in
      let g1 = lines.commit n (line_command.IfGoto (while_do k)) in
      let g2 = lines.quiet next (line_command.Goto (while_end k)) in
      let d = lines.quiet n (line_command.Label (while_do k)) in
      let g3 = lines.quiet n (line_command.Goto (while_exp k)) in
      let e = lines.quiet n (line_command.Label (while_end k)) in
      let lE = ap length eE in
      let px = places p x (E ++ (into_while n next k ++ (S ++ out_of_while n k))) (while_exp k) h refl in
      let h0 : Stands ks s p (E ++ (into_while n next k ++ (S ++ out_of_while n k))) = back p p (x ∷ []) (E ++ (into_while n next k ++ (S ++ out_of_while n k))) h (omega arith) in
      let h1 : Stands ks s (p + length E') (into_while n next k ++ (S ++ out_of_while n k)) = back p (p + length E') E (into_while n next k ++ (S ++ out_of_while n k)) h0 (omega arith) in
      let h2 : Stands ks s (p + length E' + 2) (d ∷ (S ++ out_of_while n k)) = back (p + length E') (p + length E' + 2) (g1 ∷ g2 ∷ []) (d ∷ (S ++ out_of_while n k)) h1 (omega arith) in
      let pd = places (p + length E' + 2) d (S ++ out_of_while n k) (while_do k) h2 refl in
      let h3 : Stands ks s (p + length E' + 2) (S ++ out_of_while n k) = back (p + length E' + 2) (p + length E' + 2) (d ∷ []) (S ++ out_of_while n k) h2 (omega arith) in
      let a = eS (p + length E' + 2) (front (p + length E' + 2) S (out_of_while n k) h3) in
      let lS = ap length a in
      let h4 : Stands ks s (p + length E' + 2 + length (tc (p + length E' + 2)) + 1) (e ∷ []) =
      back (p + length E' + 2) (p + length E' + 2 + length (tc (p + length E' + 2)) + 1) (S ++ g3 ∷ []) (e ∷ [])
      (subst (λ z. Stands ks s (p + length E' + 2) z) (sym (append_assoc S (g3 ∷ []) (e ∷ []))) h3)
      (let l = ap length (both S (g3 ∷ []) _ _ a refl) ∙ length-append (tc (p + length E' + 2)) (code (g3 ∷ [])) in omega arith) in
      let pe = places (p + length E' + 2 + length (tc (p + length E' + 2)) + 1) e [] (while_end k) h4 refl in
      both E (into_while n next k ++ (S ++ out_of_while n k)) E' _ eE
      (turn n next _ _ _ _ _ _ pd pe (both S (out_of_while n k) (tc (p + length E' + 2)) (quiet n (command.Goto p) ∷ []) a (ap (λ (z : ℕ). quiet n (command.Goto z) ∷ []) px)))

-- the code of lines
pub record Codes (ks : List Section) (s : Section) (xs : List Line) (cs : List Code) : Type 0 where
  pub is : filter_map (code_of ks s) xs ≡ cs

pub join : {ks : List Section} {s : Section} {xs ys : List Line} {a b : List Code} → Codes ks s xs a → Codes ks s ys b → Codes ks s (xs ++ ys) (a ++ b)
join {ks} {s} {xs} {ys} {a} {b} e f = record { is = both ks s xs ys a b e.is f.is }

module _ (subs : List Subroutine) (first numbers : Numbers) (around : Around) (ks : List Section) (s : Section) (scope : Scope) (gives : Gives subs first numbers around ks s) where
  abbrev Are : List Line → List Code → Type 0
  Are xs cs = Codes ks s xs cs

  literal_codes : (n w : ℕ) → Are (literal_lines n w) (literal_code n w)
  literal_codes n w = record { is = by_test (nat_eq w 65535) }
    where
      by_test : (b : Bool) → filter_map (code_of ks s) (if b then lines.quiet n (line_command.Push segment.Constant 0) ∷ lines.commit n (line_command.Operate operation.Not) ∷ [] else lines.commit n (line_command.Push segment.Constant w) ∷ [])
          ≡ (if b then quiet n (command.Push segment.Constant 0) ∷ commit n (command.Operate operation.Not) ∷ [] else commit n (command.Push segment.Constant w) ∷ [])
      by_test true = refl
      by_test false = refl

  sign_codes : (n : ℕ) (o : Sign) → Are (lines.commit n (sign_command o) ∷ []) (commit n (sign_step o) ∷ [])
  sign_codes n Minus = record { is = refl }
  sign_codes n Complement = record { is = refl }
  sign_codes n ShiftLeft = record { is = refl }
  sign_codes n ShiftRight = record { is = refl }

  operator_codes : (n : ℕ) (o : Operator) → Are (lines.commit n (operator_command o) ∷ []) (commit n (operator_step o) ∷ [])
  operator_codes n Plus = record { is = refl }
  operator_codes n Subtract = record { is = refl }
  operator_codes n And = record { is = refl }
  operator_codes n Or = record { is = refl }
  operator_codes n Less = record { is = refl }
  operator_codes n Greater = record { is = refl }
  operator_codes n Equal = record { is = refl }

  push_codes : (n : ℕ) (x : Variable) → IsThere subs first scope x → Are (lines.commit n (lines.push_variable around x) ∷ []) (commit n (push_variable numbers x) ∷ [])
  push_codes n (Argument k) h = record { is = refl }
  push_codes n (Local k) h = record { is = refl }
  push_codes n (Static k) h = record { is = ap (λ (z : ℕ). commit n (command.Push segment.Static z) ∷ []) (gives.statics k h) }

  pop_codes : (n : ℕ) (x : Variable) → IsThere subs first scope x → Are (lines.commit n (lines.pop_variable around x) ∷ []) (commit n (pop_variable numbers x) ∷ [])
  pop_codes n (Argument k) h = record { is = refl }
  pop_codes n (Local k) h = record { is = refl }
  pop_codes n (Static k) h = record { is = ap (λ (z : ℕ). commit n (command.Pop segment.Static z) ∷ []) (gives.statics k h) }

  called : (n g : ℕ) (es : Expressions) → first.keeps g ≡ true
      → Are (lines.commit n (line_command.Call (around.name g) (count es)) ∷ []) (commit n (command.Call (numbers.function g) (count es)) ∷ [])
  called n g es k = record { is = ap (λ (z : ℕ). commit n (command.Call z (count es)) ∷ []) (gives.calls g k) }

  load_codes : (n : ℕ) → Are (lines.load_lines n) (load_code n)
  load_codes n = record { is = refl }

  store_codes : (n : ℕ) → Are (lines.store_lines n) (store_code n)
  store_codes n = record { is = refl }

  mutual
    pub expression_codes : (n : ℕ) (e : Expression) → IsWhole subs first scope e → Are (expression_lines around n e) (expression_code numbers n e)
    expression_codes n (Value w) h = absurd h
    expression_codes n Open h = absurd h
    expression_codes n (Literal w) h = literal_codes n w
    expression_codes n (Name x) h = push_codes n x h
    expression_codes n This h = record { is = refl }
    expression_codes n (Field k) h = record { is = refl }
    expression_codes n (Unary o a) h = join (expression_codes n a h) (sign_codes n o)
    expression_codes n (Binary o a b) h = join (expression_codes n a h.0) (join (expression_codes n b h.1) (operator_codes n o))
    expression_codes n (Load a j) h = join (expression_codes n a h.0) (join (expression_codes n j h.1) (load_codes n))
    expression_codes n (Call g es) h = join (arguments_codes n es h.1) (called n g es h.0.0)

    pub arguments_codes : (n : ℕ) (es : Expressions) → AreWhole subs first scope es → Are (arguments_lines around n es) (arguments_code numbers n es)
    arguments_codes n NoMore h = record { is = refl }
    arguments_codes n (More e es) h = join (expression_codes n e h.0) (arguments_codes n es h.1)

  -- a command that has no name
  pub last_codes : (n : ℕ) (c : _) (d : _) → filter_map (code_of ks s) (lines.commit n c ∷ []) ≡ commit n d ∷ [] → Are (lines.commit n c ∷ []) (commit n d ∷ [])
  last_codes n c d e = record { is = e }

  module _ (places : Places ks s) where
    choice : (next p i w n : ℕ) (c : Expression) (a b : Text) (z : Bool) → Are (expression_lines around n c) (expression_code numbers n c)
        → ((q : ℕ) → Stands ks s q (text_lines around next (suc i) w a) → Are (text_lines around next (suc i) w a) (text_code numbers next q a))
        → ((q : ℕ) → Stands ks s q (text_lines around next (suc i + ifs_in a) (w + whiles_in a) b) → Are (text_lines around next (suc i + ifs_in a) (w + whiles_in a) b) (text_code numbers next q b))
        → Stands ks s p (expression_lines around n c ++ (into_if n (first_number next b) i ++ (text_lines around next (suc i) w a
        ++ (if z then lines.quiet n (line_command.Label (if_false i)) ∷ [] else into_else n next i ++ (text_lines around next (suc i + ifs_in a) (w + whiles_in a) b ++ lines.quiet n (line_command.Label (if_end i)) ∷ [])))))
        → let q = p + length (expression_code numbers n c) in
        let first_branch = text_code numbers next (q + 2) a in
        let other = q + 2 + length first_branch in
        let second = text_code numbers next (other + 1) b in
        filter_map (code_of ks s) (expression_lines around n c ++ (into_if n (first_number next b) i ++ (text_lines around next (suc i) w a
        ++ (if z then lines.quiet n (line_command.Label (if_false i)) ∷ [] else into_else n next i ++ (text_lines around next (suc i + ifs_in a) (w + whiles_in a) b ++ lines.quiet n (line_command.Label (if_end i)) ∷ [])))))
        ≡ expression_code numbers n c
        ++ (commit n (command.IfGoto (q + 2))
        ∷ quiet (first_number next b) (command.Goto (if z then other else other + 1))
        ∷ (first_branch ++ (if z then [] else quiet next (command.Goto (other + 1 + length second)) ∷ second)))
    choice next p i w n c a b true ec ea eb st =
        short_choice ks s n (first_number next b) i p (expression_lines around n c) (text_lines around next (suc i) w a) (expression_code numbers n c) (λ q. text_code numbers next q a) places st ec.is (λ q k. (ea q k).is)
    choice next p i w n c a b false ec ea eb st =
        long_choice ks s n next (first_number next b) i p (expression_lines around n c) (text_lines around next (suc i) w a) (text_lines around next (suc i + ifs_in a) (w + whiles_in a) b)
        (expression_code numbers n c) (λ q. text_code numbers next q a) (λ q. text_code numbers next q b) places st ec.is (λ q k. (ea q k).is) (λ q k. (eb q k).is) _ refl

    mutual
      pub statement_codes : (next p i w : ℕ) (t : Statement) → IsFresh subs first scope t → Stands ks s p (statement_lines around next i w t)
          → Are (statement_lines around next i w t) (statement_code numbers next p t)
      statement_codes next p i w (Let n x e) h st = join (expression_codes n e h.1) (pop_codes n x h.0)
      statement_codes next p i w (LetField n k e) h st = join (expression_codes n e h.1) (last_codes n (line_command.Pop segment.This k) (command.Pop segment.This k) refl)
      statement_codes next p i w (LetThis n e) h st = absurd h
      statement_codes next p i w (Store n a j e) h st =
          let rest = join (expression_codes n e h.2) (store_codes n) in
          let more : Are (lines.quiet n (line_command.Operate operation.Add) ∷ (expression_lines around n e ++ lines.store_lines n)) (quiet n (command.Operate operation.Add) ∷ (expression_code numbers n e ++ store_code n)) =
          record { is = ap (λ z. quiet n (command.Operate operation.Add) ∷ z) rest.is } in
          join (expression_codes n a h.0) (join (expression_codes n j h.1) more)
      statement_codes next p i w (Do n e) h st = join (expression_codes n e h) (last_codes n (line_command.Pop segment.Temp 0) (command.Pop segment.Temp 0) refl)
      statement_codes next p i w (Return n e) h st = join (expression_codes n e h) (last_codes n line_command.Return command.Return refl)
      statement_codes next p i w (If n o c a b) h st =
          record {
            is = choice next p i w n c a b (no_else o b) (expression_codes n c h.0) (λ q k. text_codes next q (suc i) w a h.1 k)
                (λ q k. text_codes next q (suc i + ifs_in a) (w + whiles_in a) b h.2 k) st;
          }
      statement_codes next p i w (While n c t) h st =
          record {
            is = loop ks s n next w p (expression_lines around n c) (text_lines around n i (suc w) t) (expression_code numbers n c) (λ q. text_code numbers n q t) places st
                (expression_codes n c h.0).is (λ q k. (text_codes n q i (suc w) t h.1 k).is);
          }

      pub text_codes : (next p i w : ℕ) (t : Text) → IsFreshText subs first scope t → Stands ks s p (text_lines around next i w t)
          → Are (text_lines around next i w t) (text_code numbers next p t)
      text_codes next p i w End h st = record { is = refl }
      text_codes next p i w (Next t rest) h st =
          let here = statement_codes (first_number next rest) p i w t h.0
          (front ks s p (statement_lines around (first_number next rest) i w t) (text_lines around next (i + ifs_of t) (w + whiles_of t) rest) st) in
          let l = ap length here.is in
          join here
          (text_codes next (p + length (statement_code numbers (first_number next rest) p t)) (i + ifs_of t) (w + whiles_of t) rest h.1
          (back ks s p (p + length (statement_code numbers (first_number next rest) p t)) (statement_lines around (first_number next rest) i w t)
          (text_lines around next (i + ifs_of t) (w + whiles_of t) rest) st (ap (λ z. p + z) (sym l))))
