-- The entries of an image are those of its functions, in order: each function makes its locals by its first command, and by no other.
use Rattle.std.proofs.Common.{◌≡◌, ◌+◌, ◌<◌, ◌++◌, ℕ, zero, suc, Bool, true, false, List, [], ◌∷◌, Option, Some, None, nat_eq, slice_get, length, take, option_map, unwrap_or, refl, sym, ap, subst, ◌∙◌, arith, if◌then◌else◌}
use Rattle.std.specs.List.{filter_map, cons_option}
use Rattle.std.proofs.lemmas.Bool.{ne_eqb, eq-eqb}
use Rattle.std.proofs.lemmas.List.Elements.{filter_map-append}
use Rattle.vm_tree.specs.declared.command.Operation.TheVariants as operation
use Rattle.vm_tree.specs.declared.command.Segment.TheVariants as segment
use Rattle.vm_link.specs.declared.linked.Step.{Step}
use Rattle.vm_link.specs.declared.linked.Step.TheVariants as command
use Rattle.vm_link.specs.declared.linked.Code.{Code}
use Rattle.vm_link.specs.declared.linked.Linked.{Linked}
use Rattle.vm_link.specs.declared.linked.LinkedFunction.{LinkedFunction}
use Rattle.vm_translator.specs.Shapes.{step_size}
use Rattle.vm_translator.specs.Places.{address_of, base_of, placed_code, placed_from, words_in, words_of}
use Rattle.vm_translator.specs.Image.{entries_of, entry_range, is_entry}
use Rattle.jack_meaning.specs.Text.{Variable, Argument, Local, Static, Sign, Minus, Complement, ShiftLeft, ShiftRight, Operator, Plus, Subtract, And, Or, Less, Greater, Equal, Expression, Literal, Value, Name, This, Field, Unary, Binary, Load, Call, Open, Expressions, NoMore, More, Statement, Let, LetField, LetThis, Store, Do, If, While, Return, Text, End, Next, Kind, Constructor, Function, Method, Subroutine, Program}
use Rattle.jack_meaning.specs.Meaning.{subroutine_at}
use Rattle.jack_compiler.specs.Templates.{Numbers, quiet, commit, literal_code, load_code, store_code, expression_code, arguments_code, first_number, no_else, statement_code, text_code, object_code, push_variable, pop_variable, sign_step, operator_step}
use Rattle.jack_compiler.specs.Linked.{IsLinkedProgram}
use Rattle.vm_debug.specs.Places.{entry_from, entry_in, entry_of}

-- a command that makes no locals
abbrev Plain : Code → Type 0
Plain c = is_entry c.step ≡ false

abbrev AllPlain : List Code → Type 0
AllPlain [] = Unit {0}
AllPlain (c ∷ cs) = Plain c × AllPlain cs

both : (xs ys : List Code) → AllPlain xs → AllPlain ys → AllPlain (xs ++ ys)
both [] ys h k = k
both (x ∷ xs) ys h k = (h.0, both xs ys h.1 k)

ends : (xs : List Code) (n : ℕ) (c : Step) → is_entry c ≡ false → AllPlain xs → AllPlain (xs ++ commit n c ∷ [])
ends xs n c e h = both xs (commit n c ∷ []) h (e, tt)

literal_plain : (n w : ℕ) → AllPlain (literal_code n w)
literal_plain n w = by_test (nat_eq w 65535)
  where
    by_test : (b : Bool) → AllPlain (if b then quiet n (command.Push segment.Constant 0) ∷ commit n (command.Operate operation.Not) ∷ [] else commit n (command.Push segment.Constant w) ∷ [])
    by_test true = (refl, (refl, tt))
    by_test false = (refl, tt)

load_plain : (n : ℕ) → AllPlain (load_code n)
load_plain n = (refl, (refl, (refl, tt)))

store_plain : (n : ℕ) → AllPlain (store_code n)
store_plain n = (refl, (refl, (refl, (refl, tt))))

sign_plain : (o : Sign) → is_entry (sign_step o) ≡ false
sign_plain Minus = refl
sign_plain Complement = refl
sign_plain ShiftLeft = refl
sign_plain ShiftRight = refl

operator_plain : (o : Operator) → is_entry (operator_step o) ≡ false
operator_plain Plus = refl
operator_plain Subtract = refl
operator_plain And = refl
operator_plain Or = refl
operator_plain Less = refl
operator_plain Greater = refl
operator_plain Equal = refl

module _ (numbers : Numbers) where
  push_plain : (x : Variable) → is_entry (push_variable numbers x) ≡ false
  push_plain (Argument k) = refl
  push_plain (Local k) = refl
  push_plain (Static k) = refl

  pop_plain : (x : Variable) → is_entry (pop_variable numbers x) ≡ false
  pop_plain (Argument k) = refl
  pop_plain (Local k) = refl
  pop_plain (Static k) = refl

  mutual
    expression_plain : (n : ℕ) (e : Expression) → AllPlain (expression_code numbers n e)
    expression_plain n (Value w) = tt
    expression_plain n Open = tt
    expression_plain n (Literal w) = literal_plain n w
    expression_plain n (Name x) = (push_plain x, tt)
    expression_plain n This = (refl, tt)
    expression_plain n (Field k) = (refl, tt)
    expression_plain n (Unary o a) = ends (expression_code numbers n a) n _ (sign_plain o) (expression_plain n a)
    expression_plain n (Binary o a b) = both (expression_code numbers n a) _ (expression_plain n a) (ends (expression_code numbers n b) n _ (operator_plain o) (expression_plain n b))
    expression_plain n (Load a i) = both (expression_code numbers n a) _ (expression_plain n a) (both (expression_code numbers n i) (load_code n) (expression_plain n i) (load_plain n))
    expression_plain n (Call g es) = ends (arguments_code numbers n es) n _ refl (arguments_plain n es)

    arguments_plain : (n : ℕ) (es : Expressions) → AllPlain (arguments_code numbers n es)
    arguments_plain n NoMore = tt
    arguments_plain n (More e es) = both (expression_code numbers n e) (arguments_code numbers n es) (expression_plain n e) (arguments_plain n es)

  if_plain : (n m next p q t : ℕ) (C A B : List Code) (b : Bool) → AllPlain C → AllPlain A → AllPlain B
      → AllPlain (C ++ (commit n (command.IfGoto p) ∷ quiet m (command.Goto q) ∷ (A ++ (if b then [] else quiet next (command.Goto t) ∷ B))))
  if_plain n m next p q t C A B true c a b = both C _ c (refl, (refl, both A [] a tt))
  if_plain n m next p q t C A B false c a b = both C _ c (refl, (refl, both A (quiet next (command.Goto t) ∷ B) a (refl, b)))

  mutual
    statement_plain : (next p : ℕ) (t : Statement) → AllPlain (statement_code numbers next p t)
    statement_plain next p (Let n x e) = ends (expression_code numbers n e) n _ (pop_plain x) (expression_plain n e)
    statement_plain next p (LetField n k e) = ends (expression_code numbers n e) n _ refl (expression_plain n e)
    statement_plain next p (LetThis n e) = ends (expression_code numbers n e) n _ refl (expression_plain n e)
    statement_plain next p (Store n a i e) =
        both (expression_code numbers n a) _ (expression_plain n a)
        (both (expression_code numbers n i) _ (expression_plain n i) (refl, both (expression_code numbers n e) (store_code n) (expression_plain n e) (store_plain n)))
    statement_plain next p (Do n e) = ends (expression_code numbers n e) n _ refl (expression_plain n e)
    statement_plain next p (Return n e) = ends (expression_code numbers n e) n _ refl (expression_plain n e)
    statement_plain next p (If n o c a b) =
        let q = p + length (expression_code numbers n c) in
        let first = text_code numbers next (q + 2) a in
        let other = q + 2 + length first in
        let second = text_code numbers next (other + 1) b in
        if_plain n (first_number next b) next (q + 2) (if no_else o b then other else other + 1) (other + 1 + length second) (expression_code numbers n c) first second (no_else o b)
        (expression_plain n c) (text_plain next (q + 2) a) (text_plain next (other + 1) b)
    statement_plain next p (While n c s) =
        let q = p + length (expression_code numbers n c) in
        let turn = text_code numbers n (q + 2) s in
        both (expression_code numbers n c) _ (expression_plain n c) (refl, (refl, both turn (quiet n (command.Goto p) ∷ []) (text_plain n (q + 2) s) (refl, tt)))

    text_plain : (next p : ℕ) (t : Text) → AllPlain (text_code numbers next p t)
    text_plain next p End = tt
    text_plain next p (Next s rest) =
        both (statement_code numbers (first_number next rest) p s) _ (statement_plain (first_number next rest) p s) (text_plain next (p + length (statement_code numbers (first_number next rest) p s)) rest)

  object_plain : (k : Kind) (n : ℕ) → AllPlain (object_code k n)
  object_plain Method n = (refl, (refl, tt))
  object_plain Function n = tt
  object_plain Constructor n = tt

  -- the commands of a subroutine after the first
  abbrev rest_code : Subroutine → List Code
  rest_code sub = object_code sub.kind (first_number 0 sub.body) ++ text_code numbers 0 (1 + length (object_code sub.kind (first_number 0 sub.body))) sub.body

  subroutine_plain : (sub : Subroutine) → AllPlain (rest_code sub)
  subroutine_plain sub = both (object_code sub.kind (first_number 0 sub.body)) _ (object_plain sub.kind (first_number 0 sub.body)) (text_plain 0 (1 + length (object_code sub.kind (first_number 0 sub.body))) sub.body)

-- A function whose first command makes its locals, and no other one.
record Enters (f : LinkedFunction) : Type 0 where
  first : Code
  rest : List Code
  code : f.code ≡ first ∷ rest
  makes : is_entry first.step ≡ true
  plain : AllPlain rest

abbrev AllEnter : List LinkedFunction → Type 0
AllEnter [] = Unit {0}
AllEnter (f ∷ fs) = Enters f × AllEnter fs

none_in : (k sub at : ℕ) (cs : List Code) → AllPlain cs → filter_map entry_range (placed_code k sub at cs) ≡ []
none_in k sub at [] h = refl
none_in k sub at (c ∷ cs) h =
    ap (λ (b : Bool). cons_option (if b then Some (at, at + step_size c.step) else None) (filter_map entry_range (placed_code k sub (at + step_size c.step) cs))) h.0
    ∙ none_in k sub (at + step_size c.step) cs h.1

one_in : (k sub at : ℕ) (f : LinkedFunction) → Enters f → filter_map entry_range (placed_code k sub at f.code) ≡ (at, at + words_of (take 1 f.code)) ∷ []
one_in k sub at f e = subst (λ cs. filter_map entry_range (placed_code k sub at cs) ≡ (at, at + words_of (take 1 cs)) ∷ []) (sym e.code) by_code
  where
    size : at + step_size e.first.step ≡ at + words_of (take 1 (e.first ∷ e.rest))
    size = omega arith

    by_code : filter_map entry_range (placed_code k sub at (e.first ∷ e.rest)) ≡ (at, at + words_of (take 1 (e.first ∷ e.rest))) ∷ []
    by_code =
        ap (λ (b : Bool). cons_option (if b then Some (at, at + step_size e.first.step) else None) (filter_map entry_range (placed_code k sub (at + step_size e.first.step) e.rest))) e.makes
        ∙ ap (λ (es : List (ℕ × ℕ)). (at, at + step_size e.first.step) ∷ es) (none_in k sub (at + step_size e.first.step) e.rest e.plain)
        ∙ ap (λ (to : ℕ). (at, to) ∷ []) size

-- the entries of functions, the first of which stands at an address
abbrev entries_at : ℕ → List LinkedFunction → List (ℕ × ℕ)
entries_at at [] = []
entries_at at (f ∷ fs) = (at, at + words_of (take 1 f.code)) ∷ entries_at (at + words_of f.code) fs

entries_are : (k at : ℕ) (fs : List LinkedFunction) → AllEnter fs → filter_map entry_range (placed_from k at fs) ≡ entries_at at fs
entries_are k at [] h = refl
entries_are k at (f ∷ fs) h =
    filter_map-append entry_range (placed_code k f.number at f.code) (placed_from (k + 1) (at + words_of f.code) fs)
    ∙ ap (λ es. es ++ filter_map entry_range (placed_from (k + 1) (at + words_of f.code) fs)) (one_in k f.number at f h.0)
    ∙ ap (λ es. (at, at + words_of (take 1 f.code)) ∷ es) (entries_are (k + 1) (at + words_of f.code) fs h.1)

-- the entry of a function whose number no function before it has
entry_here : (fs : List LinkedFunction) (at k : ℕ) (f : LinkedFunction) → slice_get fs k ≡ Some f
    → slice_get (entries_at at fs) k ≡ Some (at + words_in (take k fs), at + (words_in (take k fs) + words_of (take 1 f.code)))
entry_here [] at k f g = absurd (cc g)
entry_here (h ∷ fs) at zero f g =
    let e : h ≡ f = cc in
    let low : at ≡ at + 0 = omega arith in
    let code : at + words_of (take 1 h.code) ≡ at + words_of (take 1 f.code) = ap (λ (z : LinkedFunction). at + words_of (take 1 z.code)) e in
    let high : at + words_of (take 1 f.code) ≡ at + (0 + words_of (take 1 f.code)) = omega arith in
    λ i. Some (low i, (code ∙ high) i)
entry_here (h ∷ fs) at (suc k) f g =
    let low : at + words_of h.code + words_in (take k fs) ≡ at + (words_of h.code + words_in (take k fs)) = omega arith in
    let high : at + words_of h.code + (words_in (take k fs) + words_of (take 1 f.code)) ≡ at + (words_of h.code + words_in (take k fs) + words_of (take 1 f.code)) = omega arith in
    entry_here fs (at + words_of h.code) k f g ∙ (λ i. Some (low i, high i))

entry_found : (fs : List LinkedFunction) (es : List (ℕ × ℕ)) (j k : ℕ) (f : LinkedFunction) → slice_get fs k ≡ Some f → ((i : ℕ) (g : LinkedFunction) → i < k → slice_get fs i ≡ Some g → g.number ≡ f.number → ⊥)
    → entry_from j fs es f.number ≡ entry_in es (j + k)
entry_found [] es j k f g apart = absurd (cc g)
entry_found (h ∷ fs) es j zero f g apart =
    let e : h ≡ f = cc in
    let same : nat_eq h.number f.number ≡ true = eq-eqb h.number f.number (ap (λ (z : LinkedFunction). z.number) e) in
    let z : j ≡ j + 0 = omega arith in
    ap (λ (b : Bool). if b then entry_in es j else entry_from (j + 1) fs es f.number) same ∙ ap (entry_in es) z
entry_found (h ∷ fs) es j (suc k) f g apart =
    let other : nat_eq h.number f.number ≡ false = ne_eqb h.number f.number (apart 0 h (omega arith) refl) in
    let z : j + 1 + k ≡ j + suc k = omega arith in
    ap (λ (b : Bool). if b then entry_in es j else entry_from (j + 1) fs es f.number) other
    ∙ entry_found fs es (j + 1) k f g (λ i x l. apart (suc i) x (omega arith)) ∙ ap (entry_in es) z

-- each function of the linked code is the code of its subroutine
module _ (program : Program) (linked : Linked) (h : IsLinkedProgram program linked) where
  enters : (k : ℕ) (f : LinkedFunction) → slice_get linked.functions k ≡ Some f → Enters f
  enters k f g =
      let keeps = h.all f.number (h.only k f g) in
      let own = h.code.function f.number keeps in
      let same_place : k ≡ h.numbers.function f.number = h.once k (h.numbers.function f.number) f own.0 g own.1 (sym own.2) in
      let same : Some f ≡ Some own.0 = sym g ∙ ap (slice_get linked.functions) same_place ∙ own.1 in
      let is : f ≡ own.0 = cc in
      let sub = subroutine_at program.subroutines f.number in
      record {
        first = quiet (first_number 0 sub.body) (command.Function sub.locals);
        rest = rest_code h.numbers sub;
        code = ap (λ (z : LinkedFunction). z.code) is ∙ own.3;
        makes = refl;
        plain = subroutine_plain h.numbers sub;
      }

  all_enter : (fs : List LinkedFunction) → ((k : ℕ) (f : LinkedFunction) → slice_get fs k ≡ Some f → Enters f) → AllEnter fs
  all_enter [] e = tt
  all_enter (f ∷ fs) e = (e 0 f refl, all_enter fs (λ k. e (suc k)))

  -- the entry code of a linked function, by its number
  pub entry_is : (k : ℕ) (f : LinkedFunction) → slice_get linked.functions k ≡ Some f
      → entry_of linked.functions (entries_of linked) f.number ≡ (address_of linked k 0, address_of linked k 1)
  entry_is k f g =
      let base = base_of linked in
      let apart : (j : ℕ) (x : LinkedFunction) → j < k → slice_get linked.functions j ≡ Some x → x.number ≡ f.number → ⊥ = λ j x l there e. absurd (let same = h.once j k x f there g e in omega arith) in
      let zero_is : 0 + k ≡ k = omega arith in
      let low : base + words_in (take k linked.functions) ≡ base + (words_in (take k linked.functions) + 0) = omega arith in
      let own : base + (words_in (take k linked.functions) + words_of (take 1 f.code)) ≡ address_of linked k 1 = ap (λ (o : Option LinkedFunction). base + (words_in (take k linked.functions) + words_of (take 1 (unwrap_or (option_map (λ (x : LinkedFunction). x.code) o) [])))) (sym g) in
      ap (λ es. entry_of linked.functions es f.number) (entries_are 0 base linked.functions (all_enter linked.functions enters))
      ∙ entry_found linked.functions (entries_at base linked.functions) 0 k f g apart ∙ ap (entry_in (entries_at base linked.functions)) zero_is
      ∙ ap (λ o. unwrap_or o (0, 0)) (entry_here linked.functions base k f g) ∙ (λ i. (low i, own i))
