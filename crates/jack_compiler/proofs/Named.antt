-- The parts of an expression name what it names, and the statements of a text what that names.
use Rattle.std.proofs.Common.{◌≡◌, ◌<◌, ◌≤◌, ◌++◌, ℕ, zero, suc, List, [], ◌∷◌, Some, length, take, drop, reverse, get_or, sym, ap, subst, ◌∙◌, arith}
use Rattle.std.proofs.lemmas.List.{reverse-append, take-append-drop}
use Rattle.jack_meaning.specs.Text.{Expression}
use Rattle.jack_core.specs.declared.tree.Part.{Part}
use Rattle.jack_core.specs.declared.tree.Part.TheVariants as part
use Rattle.jack_core.specs.declared.tree.Expression.{Expression as TheExpression}
use Rattle.jack_core.specs.declared.program.Statement.{Statement as TheStatement}
use Rattle.jack_core.specs.Heights.{takes, height}
use Rattle.jack_core.specs.Reading.{the_expression, arguments_of, put, build_expressions}
use Rattle.jack_core.specs.Texts.{the_statement, the_block}
use Rattle.jack_core.proofs.Postfix.{enough, behind, put_length, spells}
use Rattle.jack_compiler.specs.Inner.Named.{NamesCall, NamesPart, NamesParts, Names, NamesEach, NamesIn, NamesText}
use Rattle.jack_compiler.specs.declared.expressions.Around.{Around}
use Rattle.jack_compiler.proofs.Postfix.{count_is, few}

module _ (around : Around) where
  -- each of these expressions does
  abbrev All : List Expression → Type 0
  All [] = Unit {0}
  All (e ∷ es) = Names around e × All es

  all_first : (xs ys : List Expression) → All (xs ++ ys) → All xs
  all_first [] ys h = tt
  all_first (x ∷ xs) ys h = (h.0, all_first xs ys h.1)

  all_second : (xs ys : List Expression) → All (xs ++ ys) → All ys
  all_second [] ys h = h
  all_second (x ∷ xs) ys h = all_second xs ys h.1

  all_both : (xs ys : List Expression) → All xs → All ys → All (xs ++ ys)
  all_both [] ys h k = k
  all_both (x ∷ xs) ys h k = (h.0, all_both xs ys h.1 k)

  all_reversed : (xs : List Expression) → All (reverse xs) → All xs
  all_reversed [] h = tt
  all_reversed (x ∷ xs) h =
      let both : All (reverse xs ++ x ∷ []) = subst All (reverse-append (x ∷ []) xs) h in
      ((all_second (reverse xs) (x ∷ []) both).0, all_reversed xs (all_first (reverse xs) (x ∷ []) both))

  all_of : (es : List Expression) → NamesEach around (arguments_of es) → All es
  all_of [] h = tt
  all_of (e ∷ es) h = (h.0, all_of es h.1)

  put_named : (p : Part) (es : List Expression) → takes p ≤ length es → All (put p es) → NamesPart around p × All es
  put_named (part.Literal w) es le h = (tt, h.1)
  put_named (part.Argument k) es le h = h
  put_named (part.Local k) es le h = h
  put_named (part.Static k) es le h = h
  put_named part.This es le h = (tt, h.1)
  put_named (part.Field k) es le h = (tt, h.1)
  put_named (part.Unary o) [] le h = absurd (omega arith)
  put_named (part.Unary o) (a ∷ es) le h = (tt, (h.0, h.1))
  put_named (part.Binary o) [] le h = absurd (omega arith)
  put_named (part.Binary o) (b ∷ []) le h = absurd (omega arith)
  put_named (part.Binary o) (b ∷ a ∷ es) le h = (tt, (h.0.1, (h.0.0, h.1)))
  put_named part.Load [] le h = absurd (omega arith)
  put_named part.Load (i ∷ []) le h = absurd (omega arith)
  put_named part.Load (i ∷ a ∷ es) le h = (tt, (h.0.1, (h.0.0, h.1)))
  put_named (part.Call k g) es le h = (
    subst (NamesCall around g) (count_is (reverse (take k es)) ∙ few k es le) h.0.0,
    subst All (take-append-drop k es) (all_both (take k es) (drop k es) (all_reversed (take k es) (all_of (reverse (take k es)) h.0.1)) h.1),
  )

  built_named : (k : ℕ) (es : List Expression) (ps : List Part) → height (length es) ps ≡ Some k → All (build_expressions es ps) → NamesParts around ps × All es
  built_named k es [] e h = (tt, h)
  built_named k es (p ∷ ps) e h =
      let le = enough (length es) k p ps e in
      let later = built_named k (put p es) ps (ap (λ z. height z ps) (put_length p es le) ∙ behind (length es) k p ps e) h in
      let here = put_named p es le later.1 in
      ((here.0, later.0), here.1)

  pub parts_named : (e : TheExpression) → Names around (the_expression e) → NamesParts around e.parts
  parts_named e h = (built_named 1 [] e.parts e.one (subst All (sym (spells [] e)) (h, tt))).0

  part_at : (ps : List Part) (i : ℕ) (d : Part) → i < length ps → NamesParts around ps → NamesPart around (get_or ps i d)
  part_at [] i d b h = absurd (omega arith)
  part_at (p ∷ ps) zero d b h = h.0
  part_at (p ∷ ps) (suc i) d b h = part_at ps i d (omega arith) h.1

  pub part_named : (qs ps : List Part) (i : ℕ) (d : Part) → qs ≡ ps → i < length qs → NamesParts around ps → NamesPart around (get_or qs i d)
  part_named qs ps i d e b h = part_at qs i d b (subst (NamesParts around) (sym e) h)

  -- a statement of a text
  pub statement_named : (ss : List TheStatement) (i : ℕ) (s : TheStatement) → i < length ss → s ≡ get_or ss i s → NamesText around (the_block ss) → NamesIn around (the_statement s)
  statement_named [] i s b e h = absurd (omega arith)
  statement_named (t ∷ ss) zero s b e h = subst (λ z. NamesIn around (the_statement z)) (sym e) h.0
  statement_named (t ∷ ss) (suc i) s b e h = statement_named ss i s (omega arith) e h.1
