-- The part of an expression that moves next, whatever the key.
use Rattle.std.proofs.Common.{◌≡◌, ◌⊎◌, inl, inr, ℕ, ◌+◌, Bool, true, false, nat_eq, nat_lt, List, [], ◌∷◌, ◌++◌, length, refl, sym, ap, ◌∙◌, subst, arith, append_assoc, append-nil}
use Rattle.std.specs.Prelude.{if◌then◌else◌}
use Rattle.word16.specs.Words.{word_add}
use Rattle.vm_link.specs.declared.linked.Step.TheVariants as command
use Rattle.vm_tree.specs.declared.command.Segment.TheVariants as segment
use Rattle.vm_link.specs.declared.linked.Code.{Code}
use Rattle.jack_meaning.specs.Text.{Variable, Sign, Operator, Expression, Literal, Value, Name, This, Field, Unary, Binary, Load, Call, Open, Expressions, NoMore, More, Subroutine}
use Rattle.jack_meaning.specs.Words.{sign_of, operator_of}
use Rattle.jack_meaning.specs.Expressions.{Move, Stands, Rewrites, Calls, Strays, within, View, variable_of, value_of, values_of, loaded_word, rewrite, rewrite_first, filled, filled_in, standing, standing_in}
use Rattle.jack_meaning.specs.Meaning.{subroutine_at}
use Rattle.jack_compiler.specs.Templates.{Numbers, commit, literal_code, push_variable, sign_step, operator_step, load_code, count, expression_code, arguments_code}
use Rattle.jack_compiler.specs.Fits.{Scope, IsThere, IsLiteral, IsField, IsCall, IsWhole, AreWhole, Ordered, whole, value, unary, left, right, base, index, call, AreOrdered, none, here, later}
use Rattle.jack_compiler.specs.Places.{stack_of, stacks_of}

-- a part whose own parts are values
pub data Redex : Type 0 where
  Number : ℕ → Redex
  Reads : Variable → Redex
  Self : Redex
  FieldAt : ℕ → Redex
  Turns : Sign → ℕ → Redex
  Joins : Operator → ℕ → ℕ → Redex
  Loads : ℕ → ℕ → Redex
  Enters : ℕ → List ℕ → Redex

-- values on others, the first one lowest
abbrev pub onto : List ℕ → List ℕ → List ℕ
onto [] vs = vs
onto (x ∷ xs) vs = onto xs (x ∷ vs)

abbrev pub operands : Redex → List ℕ → List ℕ
operands (Number w) vs = vs
operands (Reads x) vs = vs
operands Self vs = vs
operands (FieldAt k) vs = vs
operands (Turns o x) vs = x ∷ vs
operands (Joins o x y) vs = y ∷ x ∷ vs
operands (Loads a i) vs = i ∷ a ∷ vs
operands (Enters g xs) vs = onto xs vs

abbrev pub redex_move : View → Redex → Move Expression
redex_move v (Number w) = Rewrites false (Value w)
redex_move v (Reads x) = Rewrites false (Value (variable_of v x))
redex_move v Self = Rewrites false (Value v.this)
redex_move v (FieldAt k) = loaded_word v (word_add v.this k)
redex_move v (Turns o x) = Rewrites false (Value (sign_of o x))
redex_move v (Joins o x y) = Rewrites false (Value (operator_of o x y))
redex_move v (Loads a i) = loaded_word v (word_add a i)
redex_move v (Enters g xs) = Calls g xs Open

abbrev pub redex_code : Numbers → ℕ → Redex → List Code
redex_code numbers n (Number w) = literal_code n w
redex_code numbers n (Reads x) = commit n (push_variable numbers x) ∷ []
redex_code numbers n Self = commit n (command.Push segment.Pointer 0) ∷ []
redex_code numbers n (FieldAt k) = commit n (command.Push segment.This k) ∷ []
redex_code numbers n (Turns o x) = commit n (sign_step o) ∷ []
redex_code numbers n (Joins o x y) = commit n (operator_step o) ∷ []
redex_code numbers n (Loads a i) = load_code n
redex_code numbers n (Enters g xs) = commit n (command.Call (numbers.function g) (length xs)) ∷ []

abbrev pub NoStand : {A : Type 0} → Move A → Type 0
NoStand Stands = ⊥
NoStand (Rewrites b a) = Unit {0}
NoStand (Calls g xs a) = Unit {0}
NoStand (Strays a) = Unit {0}

within_within : {A B C : Type 0} (m : Move A) (f : A → B) (g : B → C) (after : Move C) → NoStand m → within (within m f Stands) g after ≡ within m (λ a. g (f a)) Stands
within_within Stands f g after h = absurd h
within_within (Rewrites b a) f g after h = refl
within_within (Calls q xs a) f g after h = refl
within_within (Strays a) f g after h = refl

within_id : (m : Move Expression) → within m (λ a. a) Stands ≡ m
within_id Stands = refl
within_id (Rewrites b a) = refl
within_id (Calls q xs a) = refl
within_id (Strays a) = refl

if_move : (b : Bool) (m m' : Move Expression) → NoStand m → NoStand m' → NoStand (if b then m else m')
if_move true m m' h h' = h
if_move false m m' h h' = h'

loaded_moves : (v : View) (a : ℕ) → NoStand (loaded_word v a)
loaded_moves v a = if_move (nat_lt a 2048) _ _ tt (if_move (nat_lt a 24576) _ _ tt (if_move (nat_eq a 24576) _ _ tt tt))

pub redex_moves : (v : View) (r : Redex) → NoStand (redex_move v r)
redex_moves v (Number w) = tt
redex_moves v (Reads x) = tt
redex_moves v Self = tt
redex_moves v (FieldAt k) = loaded_moves v (word_add v.this k)
redex_moves v (Turns o x) = tt
redex_moves v (Joins o x y) = tt
redex_moves v (Loads a i) = loaded_moves v (word_add a i)
redex_moves v (Enters g xs) = tt

module _ (subs : List Subroutine) (numbers : Numbers) (scope : Scope) where
  abbrev pub IsFitRedex : Redex → Type 0
  IsFitRedex (Number w) = IsLiteral subs numbers scope w
  IsFitRedex (Reads x) = IsThere subs numbers scope x
  IsFitRedex Self = scope.object ≡ true
  IsFitRedex (FieldAt k) = IsField subs numbers scope k
  IsFitRedex (Turns o x) = Unit {0}
  IsFitRedex (Joins o x y) = Unit {0}
  IsFitRedex (Loads a i) = Unit {0}
  IsFitRedex (Enters g xs) = (numbers.keeps g ≡ true) × (length xs ≡ (subroutine_at subs g).arguments)

  mutual
    whole_stack : (e : Expression) (vs : List ℕ) → IsWhole subs numbers scope e → stack_of e vs ≡ vs
    whole_stack (Value w) vs h = absurd h
    whole_stack Open vs h = refl
    whole_stack (Unary o a) vs h = whole_stack a vs h
    whole_stack (Binary o a b) vs h = whole_stack b _ h.1 ∙ whole_stack a vs h.0
    whole_stack (Load a b) vs h = whole_stack b _ h.1 ∙ whole_stack a vs h.0
    whole_stack (Call g es) vs h = wholes_stack es vs h.1
    whole_stack (Literal w) vs h = refl
    whole_stack (Name x) vs h = refl
    whole_stack This vs h = refl
    whole_stack (Field k) vs h = refl

    wholes_stack : (es : Expressions) (vs : List ℕ) → AreWhole subs numbers scope es → stacks_of es vs ≡ vs
    wholes_stack NoMore vs h = refl
    wholes_stack (More e es) vs h = wholes_stack es _ h.1 ∙ whole_stack e vs h.0

  mutual
    pub whole_filled : (w : ℕ) (e : Expression) → IsWhole subs numbers scope e → filled w e ≡ e
    whole_filled w (Value x) h = refl
    whole_filled w Open h = absurd h
    whole_filled w (Unary o a) h = ap (Unary o) (whole_filled w a h)
    whole_filled w (Binary o a b) h = ap (λ a'. Binary o a' (filled w b)) (whole_filled w a h.0) ∙ ap (Binary o a) (whole_filled w b h.1)
    whole_filled w (Load a b) h = ap (λ a'. Load a' (filled w b)) (whole_filled w a h.0) ∙ ap (Load a) (whole_filled w b h.1)
    whole_filled w (Call g es) h = ap (Call g) (wholes_filled w es h.1)
    whole_filled w (Literal x) h = refl
    whole_filled w (Name x) h = refl
    whole_filled w This h = refl
    whole_filled w (Field k) h = refl

    wholes_filled : (w : ℕ) (es : Expressions) → AreWhole subs numbers scope es → filled_in w es ≡ es
    wholes_filled w NoMore h = refl
    wholes_filled w (More e es) h = ap (λ e'. More e' (filled_in w es)) (whole_filled w e h.0) ∙ ap (More e) (wholes_filled w es h.1)

  mutual
    pub whole_standing : (e : Expression) → IsWhole subs numbers scope e → standing e ≡ 0
    whole_standing (Value x) h = absurd h
    whole_standing Open h = refl
    whole_standing (Unary o a) h = whole_standing a h
    whole_standing (Binary o a b) h = let x = whole_standing a h.0 in let y = whole_standing b h.1 in omega arith
    whole_standing (Load a b) h = let x = whole_standing a h.0 in let y = whole_standing b h.1 in omega arith
    whole_standing (Call g es) h = wholes_standing es h.1
    whole_standing (Literal x) h = refl
    whole_standing (Name x) h = refl
    whole_standing This h = refl
    whole_standing (Field k) h = refl

    wholes_standing : (es : Expressions) → AreWhole subs numbers scope es → standing_in es ≡ 0
    wholes_standing NoMore h = refl
    wholes_standing (More e es) h = let x = whole_standing e h.0 in let y = wholes_standing es h.1 in omega arith

  pub whole_values : (e : Expression) (vs : List ℕ) → IsWhole subs numbers scope e → stack_of e vs ≡ vs
  whole_values = whole_stack

  -- An expression is its redex in a whole, where a value, an open call or the redex can stand.
  pub record Found (n : ℕ) (e : Expression) : Type 0 where
    pub redex : Redex
    pub plug : Expression → Expression
    pub fit : IsFitRedex redex
    pub rest : (w : ℕ) → expression_code numbers n e ≡ redex_code numbers n redex ++ expression_code numbers n (plug (Value w))
    pub under : List ℕ → List ℕ
    pub stack : (vs : List ℕ) → stack_of e vs ≡ operands redex (under vs)
    pub then_stack : (w : ℕ) (vs : List ℕ) → stack_of (plug (Value w)) vs ≡ w ∷ under vs
    pub ordered : (w : ℕ) → Ordered subs numbers scope (plug (Value w))
    pub filled_is : (w : ℕ) → filled w (plug Open) ≡ plug (Value w)
    pub moves : (v : View) → rewrite v e ≡ within (redex_move v redex) plug Stands
    pub many : (vs : List ℕ) → standing (plug Open) + length vs ≡ length (under vs)

  pub record FoundIn (n : ℕ) (es : Expressions) : Type 0 where
    pub redex : Redex
    pub plug : Expression → Expressions
    pub fit : IsFitRedex redex
    pub rest : (w : ℕ) → arguments_code numbers n es ≡ redex_code numbers n redex ++ arguments_code numbers n (plug (Value w))
    pub under : List ℕ → List ℕ
    pub stack : (vs : List ℕ) → stacks_of es vs ≡ operands redex (under vs)
    pub then_stack : (w : ℕ) (vs : List ℕ) → stacks_of (plug (Value w)) vs ≡ w ∷ under vs
    pub ordered : (w : ℕ) → AreOrdered subs numbers scope (plug (Value w))
    pub filled_is : (w : ℕ) → filled_in w (plug Open) ≡ plug (Value w)
    pub moves : (v : View) → rewrite_first v es ≡ within (redex_move v redex) plug Stands
    pub many : (vs : List ℕ) → standing_in (plug Open) + length vs ≡ length (under vs)
    pub counted : (x : Expression) → count (plug x) ≡ count es

  -- all arguments are values
  pub record Through (n : ℕ) (es : Expressions) : Type 0 where
    pub values : List ℕ
    pub rest : arguments_code numbers n es ≡ []
    pub stack : (vs : List ℕ) → stacks_of es vs ≡ onto values vs
    pub moves : (v : View) → rewrite_first v es ≡ Stands
    pub these : values_of es ≡ values
    pub counted : count es ≡ length values

  module _ (n : ℕ) where
    -- an expression that is its own redex
    leaf : (e : Expression) (r : Redex) → IsFitRedex r → expression_code numbers n e ≡ redex_code numbers n r → ((vs : List ℕ) → stack_of e vs ≡ operands r vs) → ((v : View) → rewrite v e ≡ redex_move v r) → Found n e
    leaf e r fit code stack moves = record {
      redex = r;
      plug = λ x. x;
      fit = fit;
      rest = λ w. code ∙ sym (append-nil (redex_code numbers n r));
      under = λ vs. vs;
      stack = stack;
      then_stack = λ w vs. refl;
      ordered = λ w. value w;
      filled_is = λ w. refl;
      moves = λ v. moves v ∙ sym (within_id (redex_move v r));
      many = λ vs. omega arith;
    }

    in_unary : (o : Sign) (a : Expression) → Found n a → Found n (Unary o a)
    in_unary o a f = record {
      redex = f.redex;
      plug = λ x. Unary o (f.plug x);
      fit = f.fit;
      rest = λ w. ap (λ r. r ++ commit n (sign_step o) ∷ []) (f.rest w) ∙ append_assoc (redex_code numbers n f.redex) _ _;
      under = f.under;
      stack = f.stack;
      then_stack = f.then_stack;
      ordered = λ w. unary o (f.plug (Value w)) (f.ordered w);
      filled_is = λ w. ap (Unary o) (f.filled_is w);
      moves = λ v. ap (λ m. within m (Unary o) (Rewrites false (Value (sign_of o (value_of a))))) (f.moves v) ∙ within_within (redex_move v f.redex) f.plug (Unary o) _ (redex_moves v f.redex);
      many = f.many;
    }

    in_left : (o : Operator) (a b : Expression) → IsWhole subs numbers scope b → Found n a → Found n (Binary o a b)
    in_left o a b h f = record {
      redex = f.redex;
      plug = λ x. Binary o (f.plug x) b;
      fit = f.fit;
      rest = λ w. ap (λ r. r ++ (expression_code numbers n b ++ commit n (operator_step o) ∷ [])) (f.rest w) ∙ append_assoc (redex_code numbers n f.redex) _ _;
      under = f.under;
      stack = λ vs. whole_stack b (stack_of a vs) h ∙ f.stack vs;
      then_stack = λ w vs. whole_stack b (stack_of (f.plug (Value w)) vs) h ∙ f.then_stack w vs;
      ordered = λ w. left o (f.plug (Value w)) b (f.ordered w) h;
      filled_is = λ w. ap (λ a'. Binary o a' (filled w b)) (f.filled_is w) ∙ ap (Binary o (f.plug (Value w))) (whole_filled w b h);
      moves = λ v. ap (λ m. within m (λ a'. Binary o a' b) (within (rewrite v b) (Binary o a) (Rewrites false (Value (operator_of o (value_of a) (value_of b)))))) (f.moves v) ∙ within_within (redex_move v f.redex) f.plug (λ a'. Binary o a' b) _ (redex_moves v f.redex);
      many = λ vs. let z = whole_standing b h in let y = f.many vs in omega arith;
    }

    in_right : (o : Operator) (x : ℕ) (b : Expression) → Found n b → Found n (Binary o (Value x) b)
    in_right o x b f = record {
      redex = f.redex;
      plug = λ y. Binary o (Value x) (f.plug y);
      fit = f.fit;
      rest = λ w. ap (λ r. r ++ commit n (operator_step o) ∷ []) (f.rest w) ∙ append_assoc (redex_code numbers n f.redex) _ _;
      under = λ vs. f.under (x ∷ vs);
      stack = λ vs. f.stack (x ∷ vs);
      then_stack = λ w vs. f.then_stack w (x ∷ vs);
      ordered = λ w. right o x (f.plug (Value w)) (f.ordered w);
      filled_is = λ w. ap (Binary o (Value x)) (f.filled_is w);
      moves = λ v. ap (λ m. within m (Binary o (Value x)) (Rewrites false (Value (operator_of o x (value_of b))))) (f.moves v) ∙ within_within (redex_move v f.redex) f.plug (Binary o (Value x)) _ (redex_moves v f.redex);
      many = λ vs. let y = f.many (x ∷ vs) in omega arith;
    }

    in_base : (a i : Expression) → IsWhole subs numbers scope i → Found n a → Found n (Load a i)
    in_base a i h f = record {
      redex = f.redex;
      plug = λ x. Load (f.plug x) i;
      fit = f.fit;
      rest = λ w. ap (λ r. r ++ (expression_code numbers n i ++ load_code n)) (f.rest w) ∙ append_assoc (redex_code numbers n f.redex) _ _;
      under = f.under;
      stack = λ vs. whole_stack i (stack_of a vs) h ∙ f.stack vs;
      then_stack = λ w vs. whole_stack i (stack_of (f.plug (Value w)) vs) h ∙ f.then_stack w vs;
      ordered = λ w. base (f.plug (Value w)) i (f.ordered w) h;
      filled_is = λ w. ap (λ a'. Load a' (filled w i)) (f.filled_is w) ∙ ap (Load (f.plug (Value w))) (whole_filled w i h);
      moves = λ v. ap (λ m. within m (λ a'. Load a' i) (within (rewrite v i) (Load a) (loaded_word v (word_add (value_of a) (value_of i))))) (f.moves v) ∙ within_within (redex_move v f.redex) f.plug (λ a'. Load a' i) _ (redex_moves v f.redex);
      many = λ vs. let z = whole_standing i h in let y = f.many vs in omega arith;
    }

    in_index : (x : ℕ) (i : Expression) → Found n i → Found n (Load (Value x) i)
    in_index x i f = record {
      redex = f.redex;
      plug = λ y. Load (Value x) (f.plug y);
      fit = f.fit;
      rest = λ w. ap (λ r. r ++ load_code n) (f.rest w) ∙ append_assoc (redex_code numbers n f.redex) _ _;
      under = λ vs. f.under (x ∷ vs);
      stack = λ vs. f.stack (x ∷ vs);
      then_stack = λ w vs. f.then_stack w (x ∷ vs);
      ordered = λ w. index x (f.plug (Value w)) (f.ordered w);
      filled_is = λ w. ap (Load (Value x)) (f.filled_is w);
      moves = λ v. ap (λ m. within m (Load (Value x)) (loaded_word v (word_add x (value_of i)))) (f.moves v) ∙ within_within (redex_move v f.redex) f.plug (Load (Value x)) _ (redex_moves v f.redex);
      many = λ vs. let y = f.many (x ∷ vs) in omega arith;
    }

    in_call : (g : ℕ) (es : Expressions) → IsCall subs numbers scope g es → FoundIn n es → Found n (Call g es)
    in_call g es h f = record {
      redex = f.redex;
      plug = λ y. Call g (f.plug y);
      fit = f.fit;
      rest = λ w. rw (f.counted (Value w)) (ap (λ r. r ++ commit n (command.Call (numbers.function g) (count es)) ∷ []) (f.rest w) ∙ append_assoc (redex_code numbers n f.redex) _ _);
      under = f.under;
      stack = f.stack;
      then_stack = f.then_stack;
      ordered = λ w. call g (f.plug (Value w)) (h.0, f.counted (Value w) ∙ h.1) (f.ordered w);
      filled_is = λ w. ap (Call g) (f.filled_is w);
      moves = λ v. ap (λ m. within m (Call g) (Calls g (values_of es) Open)) (f.moves v) ∙ within_within (redex_move v f.redex) f.plug (Call g) _ (redex_moves v f.redex);
      many = f.many;
    }

    enters : (g : ℕ) (es : Expressions) → IsCall subs numbers scope g es → Through n es → Found n (Call g es)
    enters g es h t = leaf (Call g es) (Enters g t.values) (h.0, sym t.counted ∙ h.1)
        (ap (λ r. r ++ commit n (command.Call (numbers.function g) (count es)) ∷ []) t.rest ∙ ap (λ k. commit n (command.Call (numbers.function g) k) ∷ []) t.counted)
        t.stack
        (λ v. ap (λ m. within m (Call g) (Calls g (values_of es) Open)) (t.moves v) ∙ ap (λ xs. Calls g xs Open) t.these)

    in_here : (e : Expression) (es : Expressions) → AreWhole subs numbers scope es → Found n e → FoundIn n (More e es)
    in_here e es h f = record {
      redex = f.redex;
      plug = λ x. More (f.plug x) es;
      fit = f.fit;
      rest = λ w. ap (λ r. r ++ arguments_code numbers n es) (f.rest w) ∙ append_assoc (redex_code numbers n f.redex) _ _;
      under = f.under;
      stack = λ vs. wholes_stack es (stack_of e vs) h ∙ f.stack vs;
      then_stack = λ w vs. wholes_stack es (stack_of (f.plug (Value w)) vs) h ∙ f.then_stack w vs;
      ordered = λ w. here (f.plug (Value w)) es (f.ordered w) h;
      filled_is = λ w. ap (λ e'. More e' (filled_in w es)) (f.filled_is w) ∙ ap (More (f.plug (Value w))) (wholes_filled w es h);
      moves = λ v. ap (λ m. within m (λ e'. More e' es) (within (rewrite_first v es) (More e) Stands)) (f.moves v) ∙ within_within (redex_move v f.redex) f.plug (λ e'. More e' es) _ (redex_moves v f.redex);
      many = λ vs. let z = wholes_standing es h in let y = f.many vs in omega arith;
      counted = λ x. refl;
    }

    in_later : (x : ℕ) (es : Expressions) → FoundIn n es → FoundIn n (More (Value x) es)
    in_later x es f = record {
      redex = f.redex;
      plug = λ y. More (Value x) (f.plug y);
      fit = f.fit;
      rest = f.rest;
      under = λ vs. f.under (x ∷ vs);
      stack = λ vs. f.stack (x ∷ vs);
      then_stack = λ w vs. f.then_stack w (x ∷ vs);
      ordered = λ w. later x (f.plug (Value w)) (f.ordered w);
      filled_is = λ w. ap (More (Value x)) (f.filled_is w);
      moves = λ v. ap (λ m. within m (More (Value x)) Stands) (f.moves v) ∙ within_within (redex_move v f.redex) f.plug (More (Value x)) _ (redex_moves v f.redex);
      many = λ vs. let y = f.many (x ∷ vs) in omega arith;
      counted = λ y. ap (λ k. k + 1) (f.counted y);
    }

    through_later : (x : ℕ) (es : Expressions) → Through n es → Through n (More (Value x) es)
    through_later x es t = record {
      values = x ∷ t.values;
      rest = t.rest;
      stack = λ vs. t.stack (x ∷ vs);
      moves = λ v. ap (λ m. within m (More (Value x)) Stands) (t.moves v);
      these = ap (λ l. x ∷ l) t.these;
      counted = let h = t.counted in omega arith;
    }

    call_found : (g : ℕ) (es : Expressions) → IsCall subs numbers scope g es → FoundIn n es ⊎ Through n es → Found n (Call g es)
    call_found g es h (inl f) = in_call g es h f
    call_found g es h (inr t) = enters g es h t

    mutual
      pub whole_found : (e : Expression) → IsWhole subs numbers scope e → Found n e
      whole_found (Value w) h = absurd h
      whole_found Open h = absurd h
      whole_found (Literal w) h = leaf (Literal w) (Number w) h refl (λ vs. refl) (λ v. refl)
      whole_found (Name x) h = leaf (Name x) (Reads x) h refl (λ vs. refl) (λ v. refl)
      whole_found This h = leaf This Self h refl (λ vs. refl) (λ v. refl)
      whole_found (Field k) h = leaf (Field k) (FieldAt k) h refl (λ vs. refl) (λ v. refl)
      whole_found (Unary o a) h = in_unary o a (whole_found a h)
      whole_found (Binary o a b) h = in_left o a b h.1 (whole_found a h.0)
      whole_found (Load a i) h = in_base a i h.1 (whole_found a h.0)
      whole_found (Call g es) h = call_found g es h.0 (wholes_found es h.1)

      wholes_found : (es : Expressions) → AreWhole subs numbers scope es → FoundIn n es ⊎ Through n es
      wholes_found NoMore h = inr (record { values = []; rest = refl; stack = λ vs. refl; moves = λ v. refl; these = refl; counted = refl })
      wholes_found (More e es) h = inl (in_here e es h.1 (whole_found e h.0))

    -- a value, or an expression with its redex
    abbrev pub Sight : Expression → Type 0
    Sight e = ((w : ℕ) × (e ≡ Value w)) ⊎ Found n e

    see_unary : (o : Sign) (a : Expression) → Sight a → Found n (Unary o a)
    see_unary o a (inl d) = subst (λ a'. Found n (Unary o a')) (sym d.1) (leaf (Unary o (Value d.0)) (Turns o d.0) tt refl (λ vs. refl) (λ v. refl))
    see_unary o a (inr f) = in_unary o a f

    see_right : (o : Operator) (x : ℕ) (b : Expression) → Sight b → Found n (Binary o (Value x) b)
    see_right o x b (inl d) = subst (λ b'. Found n (Binary o (Value x) b')) (sym d.1) (leaf (Binary o (Value x) (Value d.0)) (Joins o x d.0) tt refl (λ vs. refl) (λ v. refl))
    see_right o x b (inr f) = in_right o x b f

    see_left : (o : Operator) (a b : Expression) → IsWhole subs numbers scope b → Sight a → Found n (Binary o a b)
    see_left o a b h (inl d) = subst (λ a'. Found n (Binary o a' b)) (sym d.1) (in_right o d.0 b (whole_found b h))
    see_left o a b h (inr f) = in_left o a b h f

    see_index : (x : ℕ) (i : Expression) → Sight i → Found n (Load (Value x) i)
    see_index x i (inl d) = subst (λ i'. Found n (Load (Value x) i')) (sym d.1) (leaf (Load (Value x) (Value d.0)) (Loads x d.0) tt refl (λ vs. refl) (λ v. refl))
    see_index x i (inr f) = in_index x i f

    see_base : (a i : Expression) → IsWhole subs numbers scope i → Sight a → Found n (Load a i)
    see_base a i h (inl d) = subst (λ a'. Found n (Load a' i)) (sym d.1) (in_index d.0 i (whole_found i h))
    see_base a i h (inr f) = in_base a i h f

    see_later : (x : ℕ) (es : Expressions) → FoundIn n es ⊎ Through n es → FoundIn n (More (Value x) es) ⊎ Through n (More (Value x) es)
    see_later x es (inl f) = inl (in_later x es f)
    see_later x es (inr t) = inr (through_later x es t)

    see_here : (e : Expression) (es : Expressions) → AreWhole subs numbers scope es → Sight e → FoundIn n (More e es) ⊎ Through n (More e es)
    see_here e es h (inl d) = subst (λ e'. FoundIn n (More e' es) ⊎ Through n (More e' es)) (sym d.1) (see_later d.0 es (wholes_found es h))
    see_here e es h (inr f) = inl (in_here e es h f)

    mutual
      pub sight : (e : Expression) → Ordered subs numbers scope e → Sight e
      sight e (whole _ h) = inr (whole_found e h)
      sight e (value w) = inl (w, refl)
      sight e (unary o a d) = inr (see_unary o a (sight a d))
      sight e (left o a b d h) = inr (see_left o a b h (sight a d))
      sight e (right o x b d) = inr (see_right o x b (sight b d))
      sight e (base a i d h) = inr (see_base a i h (sight a d))
      sight e (index x i d) = inr (see_index x i (sight i d))
      sight e (call g es h d) = inr (call_found g es h (sights es d))

      sights : (es : Expressions) → AreOrdered subs numbers scope es → FoundIn n es ⊎ Through n es
      sights es none = inr (record { values = []; rest = refl; stack = λ vs. refl; moves = λ v. refl; these = refl; counted = refl })
      sights es (here e es' d h) = see_here e es' h (sight e d)
      sights es (later x es' d) = see_later x es' (sights es' d)
