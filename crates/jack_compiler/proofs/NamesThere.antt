-- The text of a program with resolved names: whatever it names is there.
use Rattle.std.proofs.Common.{◌≡◌, ◌<◌, ◌+◌, ℕ, zero, suc, List, [], ◌∷◌, length, drop, get_or, map, sym, ap, subst, ◌∙◌, arith}
use Rattle.std.proofs.lemmas.List.{length-map}
use Rattle.jack_meaning.specs.Text.{Variable, Argument, Local, Static, Expression, Literal, Value, Name, This, Field, Unary, Binary, Load, Call, Open, Expressions, NoMore, More, Statement, Let, LetField, LetThis, Store, Do, If, While, Return, Text, End, Next, Kind, Constructor, Function, Method, Subroutine, Program}
use Rattle.jack_meaning.specs.Meaning.{subroutine_at}
use Rattle.jack_core.specs.declared.program.Subroutine.{Subroutine as TheSubroutine}
use Rattle.jack_core.specs.declared.program.Core.{Core}
use Rattle.jack_core.specs.Texts.{the_class, the_subroutine, the_program, names_of}
use Rattle.jack_compiler.specs.Templates.{Numbers, count}
use Rattle.jack_compiler.specs.Fits.{Scope, scope_of, without_object, IsThere, IsCall, IsWhole, AreWhole, IsFresh, IsFreshText, IsBody}
use Rattle.jack_compiler.specs.Files.{statics_before}
use Rattle.jack_compiler.specs.Resolved.{named_in, IsResolvedSubroutine, IsResolved, IsResolvedCore}
use Rattle.jack_compiler.specs.Inner.Named.{NamesVariable, NamesCall, Names, NamesEach, NamesIn, NamesText, NamesAll}
use Rattle.jack_compiler.specs.declared.expressions.Around.{Around}
use Rattle.jack_compiler.proofs.Numbering.{own_lower, own_upper}
use Rattle.jack_compiler.proofs.Resolving.{keeps_there}

module _ (program : Program) (names : List (List ℕ)) (resolved : IsResolved program names) (around : Around) (class : ℕ)
    (before : around.before ≡ statics_before program.classes class) (there : length around.subroutines.now ≡ length program.subroutines) where
  abbrev first : Numbers
  first = named_in program class

  module _ (scope : Scope) (few_arguments : scope.arguments < 65536) (few_locals : scope.locals < 65536) where
    variable_named : (x : Variable) → IsThere program.subroutines first scope x → NamesVariable around x
    variable_named (Argument k) h = omega arith
    variable_named (Local k) h = omega arith
    variable_named (Static k) h =
        let lower = own_lower program.classes class k h in
        let upper = own_upper program.classes class k h in
        let bound = resolved.statics class in
        (omega arith, omega arith)

    call_named : (g : ℕ) (es : Expressions) → IsCall program.subroutines first scope g es → NamesCall around g (count es)
    call_named g es h =
        let b = keeps_there program names resolved class g h.0 in
        let bound = (resolved.each g b.0 b.1).arguments in
        let same = h.1 in
        let upper = b.1 in
        (omega arith, omega arith)

    mutual
      expression_named : (e : Expression) → IsWhole program.subroutines first scope e → Names around e
      expression_named (Value w) h = absurd h
      expression_named Open h = absurd h
      expression_named (Literal w) h = tt
      expression_named (Name x) h = variable_named x h
      expression_named This h = tt
      expression_named (Field k) h = tt
      expression_named (Unary o a) h = expression_named a h
      expression_named (Binary o a b) h = (expression_named a h.0, expression_named b h.1)
      expression_named (Load a i) h = (expression_named a h.0, expression_named i h.1)
      expression_named (Call g es) h = (call_named g es h.0, each_named es h.1)

      each_named : (es : Expressions) → AreWhole program.subroutines first scope es → NamesEach around es
      each_named NoMore h = tt
      each_named (More e es) h = (expression_named e h.0, each_named es h.1)

    mutual
      fresh_named : (s : Statement) → IsFresh program.subroutines first scope s → NamesIn around s
      fresh_named (Let n x e) h = (variable_named x h.0, expression_named e h.1)
      fresh_named (LetField n k e) h = expression_named e h.1
      fresh_named (LetThis n e) h = absurd h
      fresh_named (Store n a i e) h = (expression_named a h.0, expression_named i h.1, expression_named e h.2)
      fresh_named (Do n e) h = expression_named e h
      fresh_named (If n o c a b) h = (expression_named c h.0, text_named a h.1, text_named b h.2)
      fresh_named (While n c s) h = (expression_named c h.0, text_named s h.1)
      fresh_named (Return n e) h = expression_named e h

      text_named : (t : Text) → IsFreshText program.subroutines first scope t → NamesText around t
      text_named End h = tt
      text_named (Next s rest) h = (fresh_named s h.0, text_named rest h.1)

  body_named : (scope : Scope) → scope.arguments < 65536 → scope.locals < 65536 → (k : Kind) (t : Text) → IsBody program.subroutines first scope k t → NamesText around t
  body_named scope a l Function t h = text_named scope a l t h
  body_named scope a l Method t h = text_named scope a l t h
  body_named scope a l Constructor End h = absurd h
  body_named scope a l Constructor (Next (LetThis n e) rest) h = (expression_named (without_object scope) a l e h.0, text_named scope a l rest h.1)
  body_named scope a l Constructor (Next (Let n x e) rest) h = absurd h
  body_named scope a l Constructor (Next (LetField n k e) rest) h = absurd h
  body_named scope a l Constructor (Next (Store n a' j e) rest) h = absurd h
  body_named scope a l Constructor (Next (Do n e) rest) h = absurd h
  body_named scope a l Constructor (Next (If n o c a' b) rest) h = absurd h
  body_named scope a l Constructor (Next (While n c t) rest) h = absurd h
  body_named scope a l Constructor (Next (Return n e) rest) h = absurd h

-- each subroutine but `start` can be compiled
all_named : (program : Program) (names : List (List ℕ)) → IsResolved program names → (around : Around) (g : ℕ) (sub : Subroutine) → 0 < g → g < length program.subroutines
    → subroutine_at program.subroutines g ≡ sub → around.before ≡ statics_before program.classes sub.class → length around.subroutines.now ≡ length program.subroutines → NamesAll around g sub
all_named program names resolved around g sub lower upper is before there =
    let r = subst (IsResolvedSubroutine program) is (resolved.each g lower upper) in record {
      there = omega arith;
      locals = r.locals;
      text = body_named program names resolved around sub.class before there (scope_of sub) r.arguments r.locals sub.kind sub.body r.body;
    }

-- the subroutines but the first
rest_at : (xs : List TheSubroutine) (i : ℕ) (s : TheSubroutine) → i < length (drop 1 xs) → s ≡ get_or (drop 1 xs) i s
    → (i + 1 < length (map the_subroutine xs)) × (subroutine_at (map the_subroutine xs) (i + 1) ≡ the_subroutine s)
rest_at [] i s b e = absurd (omega arith)
rest_at (x ∷ xs) i s b e =
    let l = length-map xs the_subroutine in (
      omega arith,
      ap (subroutine_at (map the_subroutine (x ∷ xs))) (let z : i + 1 ≡ suc i = omega arith in z) ∙ item xs i b e,
    )
  where
    item : (xs : List TheSubroutine) (i : ℕ) → i < length xs → s ≡ get_or xs i s → subroutine_at (map the_subroutine xs) i ≡ the_subroutine s
    item [] i b e = absurd (omega arith)
    item (x ∷ xs) zero b e = ap the_subroutine (sym e)
    item (x ∷ xs) (suc i) b e = item xs i (omega arith) e

-- what holds of one of the others of a core
module _ (core : Core) (resolved : IsResolvedCore core) (others : List TheSubroutine) (are : others ≡ drop 1 core.subroutines.items) (i : ℕ) (s : TheSubroutine)
    (within : i < length others) (is : s ≡ get_or others i s) where
  at_number : (i + 1 < length (the_program core).subroutines) × (subroutine_at (the_program core).subroutines (i + 1) ≡ the_subroutine s)
  at_number = rest_at core.subroutines.items i s (let l = ap length are in omega arith) (subst (λ z. s ≡ get_or z i s) are is)

  pub class_there : s.class < length core.classes.items
  class_there =
      let r = subst (IsResolvedSubroutine (the_program core)) at_number.1 (resolved.each (i + 1) (omega arith) at_number.0) in
      let l = length-map core.classes.items the_class in
      let b = r.class in
      omega arith

  pub other_named : (around : Around) → around.subroutines.now ≡ core.subroutines.items → around.before ≡ statics_before (map the_class core.classes.items) s.class → NamesAll around (i + 1) (the_subroutine s)
  other_named around there before =
      all_named (the_program core) (names_of core) resolved around (i + 1) (the_subroutine s) (omega arith) at_number.0 at_number.1 before
      (let l = length-map core.subroutines.items the_subroutine in let m = ap length there in omega arith)
