-- What the text of a kept subroutine calls is kept.
use Rattle.std.proofs.Common.{◌≡◌, ◌++◌, ℕ, true, List, [], ◌∷◌, inl, inr, subst, arith}
use Rattle.std.specs.List.{Contains}
use Rattle.std.proofs.lemmas.List.Elements.{Contains-append_cases, Contains-push_cases}
use Rattle.jack_meaning.specs.Text.{Expression, Literal, Value, Name, This, Field, Unary, Binary, Load, Call, Open, Expressions, NoMore, More, Statement, Let, LetField, LetThis, Store, Do, If, While, Return, Text, End, Next, Kind, Constructor, Function, Method, Subroutine, Program}
use Rattle.jack_meaning.specs.Meaning.{subroutine_at}
use Rattle.jack_meaning.specs.Linked.{calls, calls_in, statement_calls, text_calls, IsLinked, init, called}
use Rattle.jack_compiler.specs.Templates.{Numbers}
use Rattle.jack_compiler.specs.Fits.{Scope, scope_of, without_object, IsWhole, AreWhole, IsFresh, IsFreshText, IsBody, IsFit}

-- every one of these subroutines is kept
abbrev Kept : Numbers → List ℕ → Type 0
Kept numbers gs = (g : ℕ) → Contains gs g → numbers.keeps g ≡ true

module _ (numbers : Numbers) where
  none_kept : Kept numbers []
  none_kept g c = absurd (let k = c.1 in omega arith)

  both_kept : (xs ys : List ℕ) → Kept numbers xs → Kept numbers ys → Kept numbers (xs ++ ys)
  both_kept xs ys a b g c = elim (Contains-append_cases xs ys g c) [ inl h ↦ a g h | inr h ↦ b g h ]

  one_more : (xs : List ℕ) (h : ℕ) → Kept numbers xs → numbers.keeps h ≡ true → Kept numbers (xs ++ h ∷ [])
  one_more xs h a k g c = elim (Contains-push_cases xs h g c) [ inl i ↦ a g i | inr e ↦ subst (λ z. numbers.keeps z ≡ true) e k ]

module _ (subs : List Subroutine) (numbers : Numbers) where
  module _ (scope : Scope) where
    mutual
      whole_keeps : (e : Expression) → IsWhole subs numbers scope e → Kept numbers (calls e)
      whole_keeps (Value w) h = none_kept numbers
      whole_keeps Open h = none_kept numbers
      whole_keeps (Literal w) h = none_kept numbers
      whole_keeps (Name x) h = none_kept numbers
      whole_keeps This h = none_kept numbers
      whole_keeps (Field k) h = none_kept numbers
      whole_keeps (Unary o a) h = whole_keeps a h
      whole_keeps (Binary o a b) h = both_kept numbers (calls a) (calls b) (whole_keeps a h.0) (whole_keeps b h.1)
      whole_keeps (Load a i) h = both_kept numbers (calls a) (calls i) (whole_keeps a h.0) (whole_keeps i h.1)
      whole_keeps (Call g es) h = one_more numbers (calls_in es) g (wholes_keep es h.1) h.0.0

      wholes_keep : (es : Expressions) → AreWhole subs numbers scope es → Kept numbers (calls_in es)
      wholes_keep NoMore h = none_kept numbers
      wholes_keep (More e es) h = both_kept numbers (calls e) (calls_in es) (whole_keeps e h.0) (wholes_keep es h.1)

    mutual
      fresh_keeps : (s : Statement) → IsFresh subs numbers scope s → Kept numbers (statement_calls s)
      fresh_keeps (Let n x e) h = whole_keeps e h.1
      fresh_keeps (LetField n k e) h = whole_keeps e h.1
      fresh_keeps (LetThis n e) h = absurd h
      fresh_keeps (Store n a i e) h =
          both_kept numbers (calls a) (calls i ++ calls e) (whole_keeps a h.0) (both_kept numbers (calls i) (calls e) (whole_keeps i h.1) (whole_keeps e h.2))
      fresh_keeps (Do n e) h = whole_keeps e h
      fresh_keeps (If n o c a b) h =
          both_kept numbers (calls c) (text_calls a ++ text_calls b) (whole_keeps c h.0) (both_kept numbers (text_calls a) (text_calls b) (texts_keep a h.1) (texts_keep b h.2))
      fresh_keeps (While n c s) h = both_kept numbers (calls c) (text_calls s) (whole_keeps c h.0) (texts_keep s h.1)
      fresh_keeps (Return n e) h = whole_keeps e h

      texts_keep : (t : Text) → IsFreshText subs numbers scope t → Kept numbers (text_calls t)
      texts_keep End h = none_kept numbers
      texts_keep (Next s rest) h = both_kept numbers (statement_calls s) (text_calls rest) (fresh_keeps s h.0) (texts_keep rest h.1)

  pub body_keeps : (scope : Scope) (k : Kind) (t : Text) → IsBody subs numbers scope k t → Kept numbers (text_calls t)
  body_keeps scope Function t h = texts_keep scope t h
  body_keeps scope Method t h = texts_keep scope t h
  body_keeps scope Constructor End h = absurd h
  body_keeps scope Constructor (Next (LetThis n e) rest) h =
      both_kept numbers (calls e) (text_calls rest) (whole_keeps (without_object scope) e h.0) (texts_keep scope rest h.1)
  body_keeps scope Constructor (Next (Let n x e) rest) h = absurd h
  body_keeps scope Constructor (Next (LetField n k e) rest) h = absurd h
  body_keeps scope Constructor (Next (Store n a j e) rest) h = absurd h
  body_keeps scope Constructor (Next (Do n e) rest) h = absurd h
  body_keeps scope Constructor (Next (If n o c a b) rest) h = absurd h
  body_keeps scope Constructor (Next (While n c s) rest) h = absurd h
  body_keeps scope Constructor (Next (Return n e) rest) h = absurd h

-- Each subroutine that a program can come to is kept.
pub linked_kept : (program : Program) (numbers : Numbers) (depth most_locals : ℕ) → IsFit program numbers depth most_locals → (g : ℕ) → IsLinked program g → numbers.keeps g ≡ true
linked_kept program numbers depth most_locals fit g init = fit.init
linked_kept program numbers depth most_locals fit g (called {g = f} l c) =
    let sub = subroutine_at program.subroutines f in
    let kept = linked_kept program numbers depth most_locals fit f l in
    body_keeps program.subroutines numbers (scope_of sub) sub.kind sub.body (fit.each f kept).body g c
