-- The lines of an expression's parts are those of the expression.
use Rattle.std.proofs.Common.{◌≡◌, ◌≤◌, ℕ, List, [], ◌∷◌, ◌++◌, Some, length, take, drop, reverse, refl, sym, ap, ◌∙◌, arith, append_assoc}
use Rattle.std.proofs.lemmas.List.{append-nil, reverse-append, take-append-drop, length-reverse, length-take-le}
use Rattle.vm_tree.specs.declared.command.Command.TheVariants as command
use Rattle.vm_tree.specs.declared.command.Line.{Line}
use Rattle.jack_meaning.specs.Text.{Expression as AnExpression}
use Rattle.jack_core.specs.declared.tree.Part.{Part}
use Rattle.jack_core.specs.declared.tree.Part.TheVariants as part
use Rattle.jack_core.specs.declared.tree.Expression.{Expression}
use Rattle.jack_core.specs.Heights.{takes, height}
use Rattle.jack_core.specs.Reading.{the_expression, arguments_of, put, build_expressions}
use Rattle.jack_core.proofs.Postfix.{enough, behind, put_length, spells}
use Rattle.jack_compiler.specs.Templates.{count}
use Rattle.jack_compiler.specs.Lines.{Around, commit, expression_lines, arguments_lines}
use Rattle.jack_compiler.specs.Inner.Postfix.{part_lines, parts_lines}

pub count_is : (es : List AnExpression) → count (arguments_of es) ≡ length es
count_is [] = refl
count_is (e ∷ es) = let ih = count_is es in omega arith

pub few : (k : ℕ) (es : List AnExpression) → k ≤ length es → length (reverse (take k es)) ≡ k
few k es le = length-reverse (take k es) ∙ length-take-le k es le

module _ (around : Around) (n : ℕ) where
  -- the lines of expressions, the last of which comes first
  abbrev stack_lines : List AnExpression → List Line
  stack_lines [] = []
  stack_lines (e ∷ es) = stack_lines es ++ expression_lines around n e

  stack_more : (xs ys : List AnExpression) → stack_lines (xs ++ ys) ≡ stack_lines ys ++ stack_lines xs
  stack_more [] ys = sym (append-nil (stack_lines ys))
  stack_more (x ∷ xs) ys = ap (λ z. z ++ expression_lines around n x) (stack_more xs ys) ∙ append_assoc (stack_lines ys) (stack_lines xs) (expression_lines around n x)

  arguments_more : (xs ys : List AnExpression) → arguments_lines around n (arguments_of (xs ++ ys)) ≡ arguments_lines around n (arguments_of xs) ++ arguments_lines around n (arguments_of ys)
  arguments_more [] ys = refl
  arguments_more (x ∷ xs) ys =
      ap (λ z. expression_lines around n x ++ z) (arguments_more xs ys)
      ∙ sym (append_assoc (expression_lines around n x) (arguments_lines around n (arguments_of xs)) (arguments_lines around n (arguments_of ys)))

  -- in order they are arguments
  in_order : (es : List AnExpression) → arguments_lines around n (arguments_of (reverse es)) ≡ stack_lines es
  in_order [] = refl
  in_order (e ∷ es) =
      ap (λ z. arguments_lines around n (arguments_of z)) (reverse-append (e ∷ []) es)
      ∙ arguments_more (reverse es) (e ∷ [])
      ∙ ap (λ z. arguments_lines around n (arguments_of (reverse es)) ++ z) (append-nil (expression_lines around n e))
      ∙ ap (λ z. z ++ expression_lines around n e) (in_order es)

  call_lines : (g k : ℕ) (es : List AnExpression) → k ≤ length es → stack_lines (put (part.Call k g) es) ≡ stack_lines es ++ part_lines around n (part.Call k g)
  call_lines g k es le =
      let last = commit n (command.Call (around.name g) k) ∷ [] in
      ap (λ (z : ℕ). stack_lines (drop k es) ++ (arguments_lines around n (arguments_of (reverse (take k es))) ++ commit n (command.Call (around.name g) z) ∷ []))
      (count_is (reverse (take k es)) ∙ few k es le)
      ∙ ap (λ z. stack_lines (drop k es) ++ (z ++ last)) (in_order (take k es))
      ∙ sym (append_assoc (stack_lines (drop k es)) (stack_lines (take k es)) last)
      ∙ ap (λ z. z ++ last) (sym (stack_more (take k es) (drop k es)) ∙ ap stack_lines (take-append-drop k es))

  behind_two : (es : List AnExpression) (a b : AnExpression) (ls : List Line) → stack_lines es ++ (expression_lines around n a ++ (expression_lines around n b ++ ls)) ≡ stack_lines (b ∷ a ∷ es) ++ ls
  behind_two es a b ls =
      sym (append_assoc (stack_lines (a ∷ es)) (expression_lines around n b) ls ∙ append_assoc (stack_lines es) (expression_lines around n a) (expression_lines around n b ++ ls))

  -- a part that finds its operands adds its lines after theirs
  put_lines : (p : Part) (es : List AnExpression) → takes p ≤ length es → stack_lines (put p es) ≡ stack_lines es ++ part_lines around n p
  put_lines (part.Literal w) es le = refl
  put_lines (part.Argument k) es le = refl
  put_lines (part.Local k) es le = refl
  put_lines (part.Static k) es le = refl
  put_lines part.This es le = refl
  put_lines (part.Field k) es le = refl
  put_lines (part.Unary o) [] le = absurd (omega arith)
  put_lines (part.Unary o) (a ∷ es) le = sym (append_assoc (stack_lines es) (expression_lines around n a) (part_lines around n (part.Unary o)))
  put_lines (part.Binary o) [] le = absurd (omega arith)
  put_lines (part.Binary o) (b ∷ []) le = absurd (omega arith)
  put_lines (part.Binary o) (b ∷ a ∷ es) le = behind_two es a b (part_lines around n (part.Binary o))
  put_lines part.Load [] le = absurd (omega arith)
  put_lines part.Load (i ∷ []) le = absurd (omega arith)
  put_lines part.Load (i ∷ a ∷ es) le = behind_two es a i (part_lines around n part.Load)
  put_lines (part.Call k g) es le = call_lines g k es le

  built_lines : (k : ℕ) (es : List AnExpression) (ps : List Part) → height (length es) ps ≡ Some k → stack_lines (build_expressions es ps) ≡ stack_lines es ++ parts_lines around n ps
  built_lines k es [] e = sym (append-nil (stack_lines es))
  built_lines k es (p ∷ ps) e =
      let le = enough (length es) k p ps e in
      built_lines k (put p es) ps (ap (λ h. height h ps) (put_length p es le) ∙ behind (length es) k p ps e)
      ∙ ap (λ z. z ++ parts_lines around n ps) (put_lines p es le)
      ∙ append_assoc (stack_lines es) (part_lines around n p) (parts_lines around n ps)

  -- the parts of an expression have its lines
  pub spelled_lines : (e : Expression) → parts_lines around n e.parts ≡ expression_lines around n (the_expression e)
  spelled_lines e = sym (built_lines 1 [] e.parts e.one) ∙ ap stack_lines (spells [] e)
