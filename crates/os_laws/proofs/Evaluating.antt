-- Steps of expressions and statements, by what they are made of. The laws do not use it: their texts are known, and run by computation. Laws of other
-- routines, with calls in them, are to stand on it.
use Rattle.std.proofs.Common.{◌≡◌, ℕ, zero, ◌+◌, ◌-◌, ◌<◌, ◌≤◌, true, false, nat_lt, List, [], Some, option_and_then, refl, sym, ap, ◌∙◌, arith, add-one}
use Rattle.std.specs.Prelude.{slice_index, slice_set}
use Rattle.std.proofs.lemmas.Bool.Decides.{nat_tests}
use Rattle.word16.specs.Words.{word_add}
use Rattle.jack_meaning.specs.Words.{sign_of, operator_of}
use Rattle.jack_meaning.specs.Text.{Variable, Argument, Local, Static, Expression, Literal, Value, Name, This, Field, Unary, Binary, Load, Call as Calling, Open, Let, Store, If, While, Return, Text, End, Next, joined_text, Subroutine}
use Rattle.jack_meaning.specs.Expressions.{View, Rewrites, within, variable_of, value_of, loaded_word, rewrite}
use Rattle.jack_meaning.specs.Meaning.{Done, view_of, step_part, after_assignment, after_store, passed_over, text_chosen, turn_of}
use Rattle.os_laws.proofs.Runs.{Call, over, call_in, next, run, run_then}

-- the steps of an expression: one for each part that is no value
abbrev pub cost : Expression → ℕ
cost (Literal n) = 1
cost (Value w) = 0
cost (Name x) = 1
cost This = 1
cost (Field k) = 1
cost (Unary o a) = cost a + 1
cost (Binary o a b) = cost a + (cost b + 1)
cost (Load a i) = cost a + (cost i + 1)
cost (Calling g es) = 0
cost Open = 0

-- the word at an address of heap or screen
abbrev pub word_in : View → ℕ → ℕ
word_in v a = slice_index v.words (a - 2048)

-- what it comes to
abbrev pub value : View → Expression → ℕ
value v (Literal n) = n
value v (Value w) = w
value v (Name x) = variable_of v x
value v This = v.this
value v (Field k) = word_in v (word_add v.this k)
value v (Unary o a) = sign_of o (value v a)
value v (Binary o a b) = operator_of o (value v a) (value v b)
value v (Load a i) = word_in v (word_add (value v a) (value v i))
value v (Calling g es) = 0
value v Open = 0

abbrev pub IsInside : ℕ → Type 0
IsInside a = (2048 ≤ a) × (a < 24576)

-- it calls nothing, and each load is at an address of heap or screen
abbrev pub IsPlain : View → Expression → Type 0
IsPlain v (Literal n) = Unit {0}
IsPlain v (Value w) = Unit {0}
IsPlain v (Name x) = Unit {0}
IsPlain v This = Unit {0}
IsPlain v (Field k) = IsInside (word_add v.this k)
IsPlain v (Unary o a) = IsPlain v a
IsPlain v (Binary o a b) = IsPlain v a × IsPlain v b
IsPlain v (Load a i) = IsPlain v a × IsPlain v i × IsInside (word_add (value v a) (value v i))
IsPlain v (Calling g es) = ⊥
IsPlain v Open = ⊥

pub loaded_inside : (v : View) (a : ℕ) → IsInside a → loaded_word v a ≡ Rewrites false (Value (word_in v a))
loaded_inside v a h =
    let low : nat_lt a 2048 ≡ false = grind (arith, nat_tests) in
    let high : nat_lt a 24576 ≡ true = grind (arith, nat_tests) in
    rw (low, high) refl

-- the call with this text
abbrev pub with_text : Call → Text → Call
with_text c t = record c { frame = record (c.frame) { text = t } }

abbrev pub seen : Call → View
seen c = view_of 0 (over [] c) c.frame

-- A place of an expression in a text: where the expression moves, the text moves with it.
abbrev pub Place : List Subroutine → Call → (Expression → Text) → Type 0
Place subs c whole = (e e' : Expression) → rewrite (seen c) e ≡ Rewrites false e' → next subs (with_text c (whole e)) ≡ Some (with_text c (whole e'))

module _ (subs : List Subroutine) (c : Call) where
  in_unary : (whole : Expression → Text) → Place subs c whole → (o : _) → Place subs c (λ a. whole (Unary o a))
  in_unary whole p o a a' e = p (Unary o a) (Unary o a') (ap (λ m. within m (Unary o) (Rewrites false (Value (sign_of o (value_of a))))) e)

  in_left : (whole : Expression → Text) → Place subs c whole → (o : _) (b : Expression) → Place subs c (λ a. whole (Binary o a b))
  in_left whole p o b a a' e =
      p (Binary o a b) (Binary o a' b)
      (ap (λ m. within m (λ z. Binary o z b) (within (rewrite (seen c) b) (Binary o a) (Rewrites false (Value (operator_of o (value_of a) (value_of b)))))) e)

  in_right : (whole : Expression → Text) → Place subs c whole → (o : _) (x : ℕ) → Place subs c (λ b. whole (Binary o (Value x) b))
  in_right whole p o x b b' e = p (Binary o (Value x) b) (Binary o (Value x) b') (ap (λ m. within m (Binary o (Value x)) (Rewrites false (Value (operator_of o x (value_of b))))) e)

  in_base : (whole : Expression → Text) → Place subs c whole → (i : Expression) → Place subs c (λ a. whole (Load a i))
  in_base whole p i a a' e =
      p (Load a i) (Load a' i)
      (ap (λ m. within m (λ z. Load z i) (within (rewrite (seen c) i) (Load a) (loaded_word (seen c) (word_add (value_of a) (value_of i))))) e)

  in_index : (whole : Expression → Text) → Place subs c whole → (x : ℕ) → Place subs c (λ i. whole (Load (Value x) i))
  in_index whole p x i i' e = p (Load (Value x) i) (Load (Value x) i') (ap (λ m. within m (Load (Value x)) (loaded_word (seen c) (word_add x (value_of i)))) e)

  one_step : (t t' : Text) → next subs (with_text c t) ≡ Some (with_text c t') → run subs 1 (with_text c t) ≡ Some (with_text c t')
  one_step t t' e = ap (option_and_then (run subs zero)) e

  -- an expression in its place becomes its value
  pub evaluates : (e : Expression) → IsPlain (seen c) e → (whole : Expression → Text) → Place subs c whole → run subs (cost e) (with_text c (whole e)) ≡ Some (with_text c (whole (Value (value (seen c) e))))
  evaluates (Literal n) h whole p = one_step (whole (Literal n)) (whole (Value n)) (p (Literal n) (Value n) refl)
  evaluates (Value w) h whole p = refl
  evaluates (Name x) h whole p = one_step (whole (Name x)) (whole (Value (variable_of (seen c) x))) (p (Name x) (Value (variable_of (seen c) x)) refl)
  evaluates This h whole p = one_step (whole This) (whole (Value c.frame.this)) (p This (Value (c.frame.this)) refl)
  evaluates (Field k) h whole p =
      one_step (whole (Field k)) (whole (Value (word_in (seen c) (word_add c.frame.this k)))) (p (Field k) (Value (word_in (seen c) (word_add c.frame.this k))) (loaded_inside (seen c) (word_add c.frame.this k) h))
  evaluates (Unary o a) h whole p =
      let x = value (seen c) a in
      run_then subs (cost a) 1 (with_text c (whole (Unary o a))) (with_text c (whole (Unary o (Value x)))) (with_text c (whole (Value (sign_of o x)))) (evaluates a h (λ z. whole (Unary o z)) (in_unary whole p o))
      (one_step (whole (Unary o (Value x))) (whole (Value (sign_of o x))) (p (Unary o (Value x)) (Value (sign_of o x)) refl))
  evaluates (Binary o a b) h whole p =
      let x = value (seen c) a in
      let y = value (seen c) b in
      run_then subs (cost a) (cost b + 1) (with_text c (whole (Binary o a b))) (with_text c (whole (Binary o (Value x) b))) (with_text c (whole (Value (operator_of o x y)))) (evaluates a h.0 (λ z. whole (Binary o z b)) (in_left whole p o b))
      (run_then subs (cost b) 1 (with_text c (whole (Binary o (Value x) b))) (with_text c (whole (Binary o (Value x) (Value y)))) (with_text c (whole (Value (operator_of o x y)))) (evaluates b h.1 (λ z. whole (Binary o (Value x) z)) (in_right whole p o x))
      (one_step (whole (Binary o (Value x) (Value y))) (whole (Value (operator_of o x y))) (p (Binary o (Value x) (Value y)) (Value (operator_of o x y)) refl)))
  evaluates (Load a i) h whole p =
      let x = value (seen c) a in
      let y = value (seen c) i in
      let w = word_in (seen c) (word_add x y) in
      run_then subs (cost a) (cost i + 1) (with_text c (whole (Load a i))) (with_text c (whole (Load (Value x) i))) (with_text c (whole (Value w))) (evaluates a h.0 (λ z. whole (Load z i)) (in_base whole p i))
      (run_then subs (cost i) 1 (with_text c (whole (Load (Value x) i))) (with_text c (whole (Load (Value x) (Value y)))) (with_text c (whole (Value w))) (evaluates i h.1 (λ z. whole (Load (Value x) z)) (in_index whole p x))
      (one_step (whole (Load (Value x) (Value y))) (whole (Value w)) (p (Load (Value x) (Value y)) (Value w) (loaded_inside (seen c) (word_add x y) h.2))))
  evaluates (Calling g es) h whole p = absurd h
  evaluates Open h whole p = absurd h

  -- ---- statements

  in_let : (n : ℕ) (x : Variable) (rest : Text) → Place subs c (λ e. Next (Let n x e) rest)
  in_let n x rest e e' h = ap (λ m. call_in (step_part subs (over [] (with_text c (Next (Let n x e) rest))) ((with_text c (Next (Let n x e) rest)).frame) [] m (λ z. Next (Let n x z) rest) (after_assignment (over [] (with_text c (Next (Let n x e) rest))) ((with_text c (Next (Let n x e) rest)).frame) [] rest x (value_of e)))) h

  in_if : (n : ℕ) (o : _) (a b rest : Text) → Place subs c (λ e. Next (If n o e a b) rest)
  in_if n o a b rest e e' h = ap (λ m. call_in (step_part subs (over [] (with_text c (Next (If n o e a b) rest))) ((with_text c (Next (If n o e a b) rest)).frame) [] m (λ z. Next (If n o z a b) rest) (passed_over (over [] (with_text c (Next (If n o e a b) rest))) ((with_text c (Next (If n o e a b) rest)).frame) [] (joined_text (text_chosen (value_of e) a b) rest)))) h

  in_return : (n : ℕ) (rest : Text) → Place subs c (λ e. Next (Return n e) rest)
  in_return n rest e e' h = ap (λ m. call_in (step_part subs (over [] (with_text c (Next (Return n e) rest))) ((with_text c (Next (Return n e) rest)).frame) [] m (λ z. Next (Return n z) rest) Done)) h

  in_store_base : (n : ℕ) (i w : Expression) (rest : Text) → Place subs c (λ e. Next (Store n e i w) rest)
  in_store_base n i w rest e e' h =
      let t = with_text c (Next (Store n e i w) rest) in
      ap (λ m. call_in (step_part subs (over [] t) t.frame [] m (λ z. Next (Store n z i w) rest)
      (step_part subs (over [] t) t.frame [] (rewrite (seen c) i) (λ z. Next (Store n e z w) rest)
      (step_part subs (over [] t) t.frame [] (rewrite (seen c) w) (λ z. Next (Store n e i z) rest) (after_store (over [] t) t.frame [] rest (word_add (value_of e) (value_of i)) (value_of w)))))) h

  in_store_index : (n x : ℕ) (w : Expression) (rest : Text) → Place subs c (λ e. Next (Store n (Value x) e w) rest)
  in_store_index n x w rest e e' h =
      let t = with_text c (Next (Store n (Value x) e w) rest) in
      ap (λ m. call_in (step_part subs (over [] t) t.frame [] m (λ z. Next (Store n (Value x) z w) rest)
      (step_part subs (over [] t) t.frame [] (rewrite (seen c) w) (λ z. Next (Store n (Value x) e z) rest) (after_store (over [] t) t.frame [] rest (word_add x (value_of e)) (value_of w))))) h

  in_store_value : (n x y : ℕ) (rest : Text) → Place subs c (λ e. Next (Store n (Value x) (Value y) e) rest)
  in_store_value n x y rest e e' h =
      let t = with_text c (Next (Store n (Value x) (Value y) e) rest) in
      ap (λ m. call_in (step_part subs (over [] t) t.frame [] m (λ z. Next (Store n (Value x) (Value y) z) rest) (after_store (over [] t) t.frame [] rest (word_add x y) (value_of e)))) h

  -- `let` of a local, an argument or a static
  pub let_local : (n k : ℕ) (e : Expression) (rest : Text) → IsPlain (seen c) e
      → run subs (cost e + 1) (with_text c (Next (Let n (Local k) e) rest)) ≡ Some (record c { frame = record (c.frame) { text = rest; locals = slice_set c.frame.locals k (value (seen c) e) } })
  let_local n k e rest h =
      run_then subs (cost e) 1 (with_text c (Next (Let n (Local k) e) rest)) (with_text c (Next (Let n (Local k) (Value (value (seen c) e))) rest)) _ (evaluates e h (λ z. Next (Let n (Local k) z) rest) (in_let n (Local k) rest)) refl

  pub let_argument : (n k : ℕ) (e : Expression) (rest : Text) → IsPlain (seen c) e
      → run subs (cost e + 1) (with_text c (Next (Let n (Argument k) e) rest)) ≡ Some (record c { frame = record (c.frame) { text = rest; arguments = slice_set c.frame.arguments k (value (seen c) e) } })
  let_argument n k e rest h =
      run_then subs (cost e) 1 (with_text c (Next (Let n (Argument k) e) rest)) (with_text c (Next (Let n (Argument k) (Value (value (seen c) e))) rest)) _ (evaluates e h (λ z. Next (Let n (Argument k) z) rest) (in_let n (Argument k) rest)) refl

  pub let_static : (n k : ℕ) (e : Expression) (rest : Text) → IsPlain (seen c) e
      → run subs (cost e + 1) (with_text c (Next (Let n (Static k) e) rest)) ≡ Some (record c { frame = record (c.frame) { text = rest }; statics = slice_set c.statics k (value (seen c) e) })
  let_static n k e rest h =
      run_then subs (cost e) 1 (with_text c (Next (Let n (Static k) e) rest)) (with_text c (Next (Let n (Static k) (Value (value (seen c) e))) rest)) _ (evaluates e h (λ z. Next (Let n (Static k) z) rest) (in_let n (Static k) rest)) refl

  -- an element's `let`, at an address of heap or screen
  stored_inside : (n x y w : ℕ) (rest : Text) → IsInside (word_add x y)
      → run subs 1 (with_text c (Next (Store n (Value x) (Value y) (Value w)) rest)) ≡ Some (record c { frame = record (c.frame) { text = rest }; words = slice_set c.words (word_add x y - 2048) w })
  stored_inside n x y w rest h =
      let low : nat_lt (word_add x y) 2048 ≡ false = grind (arith, nat_tests) in
      let high : nat_lt (word_add x y) 24576 ≡ true = grind (arith, nat_tests) in
      rw (low, high) refl

  pub stores : (n : ℕ) (a i e : Expression) (rest : Text) → IsPlain (seen c) a → IsPlain (seen c) i → IsPlain (seen c) e → IsInside (word_add (value (seen c) a) (value (seen c) i))
      → run subs (cost a + (cost i + (cost e + 1))) (with_text c (Next (Store n a i e) rest))
      ≡ Some (record c { frame = record (c.frame) { text = rest }; words = slice_set c.words (word_add (value (seen c) a) (value (seen c) i) - 2048) (value (seen c) e) })
  stores n a i e rest ha hi he h =
      let x = value (seen c) a in
      let y = value (seen c) i in
      let w = value (seen c) e in
      let last : Call = record c { frame = record (c.frame) { text = rest }; words = slice_set c.words (word_add x y - 2048) w } in
      run_then subs (cost a) (cost i + (cost e + 1)) (with_text c (Next (Store n a i e) rest)) (with_text c (Next (Store n (Value x) i e) rest)) last (evaluates a ha (λ z. Next (Store n z i e) rest) (in_store_base n i e rest))
      (run_then subs (cost i) (cost e + 1) (with_text c (Next (Store n (Value x) i e) rest)) (with_text c (Next (Store n (Value x) (Value y) e) rest)) last (evaluates i hi (λ z. Next (Store n (Value x) z e) rest) (in_store_index n x e rest))
      (run_then subs (cost e) 1 (with_text c (Next (Store n (Value x) (Value y) e) rest)) (with_text c (Next (Store n (Value x) (Value y) (Value w)) rest)) last (evaluates e he (λ z. Next (Store n (Value x) (Value y) z) rest) (in_store_value n x y rest))
      (stored_inside n x y w rest h)))

  -- `if`
  pub if_chooses : (n : ℕ) (o : _) (e : Expression) (a b rest : Text) → IsPlain (seen c) e
      → run subs (cost e + 1) (with_text c (Next (If n o e a b) rest)) ≡ Some (with_text c (joined_text (text_chosen (value (seen c) e) a b) rest))
  if_chooses n o e a b rest h =
      run_then subs (cost e) 1 (with_text c (Next (If n o e a b) rest)) (with_text c (Next (If n o (Value (value (seen c) e)) a b) rest)) _ (evaluates e h (λ z. Next (If n o z a b) rest) (in_if n o a b rest)) refl

  -- A loop that comes first goes as the choice that the meaning reads it as.
  pub while_chooses : (n : ℕ) (e : Expression) (s rest : Text) → IsPlain (seen c) e
      → run subs (cost e + 1) (with_text c (Next (While n e s) rest)) ≡ Some (with_text c (joined_text (text_chosen (value (seen c) e) (turn_of n e s) End) rest))
  while_chooses n e s rest h =
      ap (λ k. run subs k (with_text c (Next (While n e s) rest))) (add-one (cost e)) ∙ sym (ap (λ k. run subs k (with_text c (Next (If n false e (turn_of n e s) End) rest))) (add-one (cost e)))
      ∙ if_chooses n false e (turn_of n e s) End rest h

  -- the value of a `return`
  pub return_value : (n : ℕ) (e : Expression) (rest : Text) → IsPlain (seen c) e → run subs (cost e) (with_text c (Next (Return n e) rest)) ≡ Some (with_text c (Next (Return n (Value (value (seen c) e))) rest))
  return_value n e rest h = evaluates e h (λ z. Next (Return n z) rest) (in_return n rest)
