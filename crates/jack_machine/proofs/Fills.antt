-- A value in place of the open call: parts of the program have none, so it comes in among their operands.
use Rattle.std.proofs.Common.{◌≡◌, ℕ, false, zero, suc, List, [], ◌∷◌, map, take, drop, reverse, refl, sym, ap, ◌∙◌}
use Rattle.std.proofs.lemmas.List.{take-map, drop-map}
use Rattle.jack_meaning.specs.Text.{Expression, Value, More, Call, Unary, Binary, Load, Store, If, Do, Return, Let, LetField, LetThis, End, Next, Text}
use Rattle.jack_meaning.specs.Expressions.{filled, filled_in}
use Rattle.jack_meaning.specs.Meaning.{filled_first, filled_text, turn_of}
use Rattle.jack_core.specs.declared.tree.Part.{Part}
use Rattle.jack_core.specs.declared.tree.Part.TheVariants as part
use Rattle.jack_core.specs.declared.tree.Expression.{Expression as ExpressionTree}
use Rattle.jack_core.specs.declared.program.Statement.{Statement, If', While'}
use Rattle.jack_core.specs.Heights.{takes}
use Rattle.jack_core.specs.Texts.{the_statement, the_row}
use Rattle.jack_core.specs.Reading.{the_variable, the_sign, the_operator, the_expression, arguments_of, operand, make_expression, put, build_expressions}
use Rattle.jack_machine.specs.Texts.{written_statement, written_first, begun_text, waiting}
use Rattle.jack_machine.specs.declared.fronts.First.{First}
use Rattle.jack_machine.proofs.Lists.{map-reverse, with_first}

module _ (w : ℕ) where
  abbrev all : List Expression → List Expression
  all es = map (filled w) es

  operand_filled : (k : ℕ) (es : List Expression) → filled w (operand k es) ≡ operand k (all es)
  operand_filled zero [] = refl
  operand_filled (suc k) [] = refl
  operand_filled zero (e ∷ es) = refl
  operand_filled (suc k) (e ∷ es) = operand_filled k es

  arguments_filled : (es : List Expression) → filled_in w (arguments_of es) ≡ arguments_of (all es)
  arguments_filled [] = refl
  arguments_filled (e ∷ es) = ap (More (filled w e)) (arguments_filled es)

  made_filled : (p : Part) (es : List Expression) → filled w (make_expression p es) ≡ make_expression p (all es)
  made_filled (part.Literal n) es = refl
  made_filled (part.Argument k) es = refl
  made_filled (part.Local k) es = refl
  made_filled (part.Static k) es = refl
  made_filled part.This es = refl
  made_filled (part.Field k) es = refl
  made_filled (part.Unary o) es = ap (Unary (the_sign o)) (operand_filled 0 es)
  made_filled (part.Binary o) es = ap (λ a. Binary (the_operator o) a (filled w (operand 1 es))) (operand_filled 0 es) ∙ ap (Binary (the_operator o) (operand 0 (all es))) (operand_filled 1 es)
  made_filled part.Load es = ap (λ a. Load a (filled w (operand 1 es))) (operand_filled 0 es) ∙ ap (Load (operand 0 (all es))) (operand_filled 1 es)
  made_filled (part.Call n g) es = ap (Call g) (arguments_filled es)

  put_filled : (p : Part) (es : List Expression) → all (put p es) ≡ put p (all es)
  put_filled p es =
      ap (λ e. e ∷ all (drop (takes p) es)) (made_filled p (reverse (take (takes p) es)) ∙ ap (make_expression p) (map-reverse (filled w) (take (takes p) es) ∙ ap reverse (sym (take-map (filled w) (takes p) es))))
      ∙ ap (λ l. make_expression p (reverse (take (takes p) (all es))) ∷ l) (sym (drop-map (filled w) (takes p) es))

  built_filled : (es : List Expression) (ps : List Part) → all (build_expressions es ps) ≡ build_expressions (all es) ps
  built_filled es [] = refl
  built_filled es (p ∷ ps) = built_filled (put p es) ps ∙ ap (λ l. build_expressions l ps) (put_filled p es)

  written_filled : (s : Statement) (es : List Expression) → filled_first w (written_statement s es) ≡ written_statement s (all es)
  written_filled (Statement.Let n x e) es = ap (Let n (the_variable x)) (operand_filled 0 es)
  written_filled (Statement.LetField n k e) es = ap (LetField n k) (operand_filled 0 es)
  written_filled (Statement.LetThis n e) es = ap (LetThis n) (operand_filled 0 es)
  written_filled (Statement.Store n a i e) es =
      ap (λ x. Store n x (filled w (operand 1 es)) (filled w (operand 0 es))) (operand_filled 2 es)
      ∙ ap (λ x. Store n (operand 2 (all es)) x (filled w (operand 0 es))) (operand_filled 1 es)
      ∙ ap (Store n (operand 2 (all es)) (operand 1 (all es))) (operand_filled 0 es)
  written_filled (Statement.Do n e) es = ap (Do n) (operand_filled 0 es)
  written_filled (If' n o c p a q b) es = ap (λ x. If n o x (the_row a) (the_row b)) (operand_filled 0 es)
  written_filled (While' n c p s) es = ap (λ x. If n false x (turn_of n (the_expression c) (the_row s)) End) (operand_filled 0 es)
  written_filled (Statement.Return n e) es = ap (Return n) (operand_filled 0 es)

  first_filled : (first : First) (es : List Expression) (rest : Text) → filled_text w (written_first first es rest) ≡ written_first first (all es) rest
  first_filled (First.Start init) es rest = ap (λ x. Next (Do 1 x) rest) (operand_filled 0 es)
  first_filled (First.Statement s) es rest = ap (λ x. Next x rest) (written_filled s.now es)
  first_filled First.Nothing es rest = refl

  all_values : (ws : List ℕ) → all (map Value ws) ≡ map Value ws
  all_values [] = refl
  all_values (x ∷ ws) = ap (λ l. Value x ∷ l) (all_values ws)

  all_waiting : (ws : List ℕ) → all (waiting ws) ≡ map Value (with_first w ws)
  all_waiting [] = refl
  all_waiting (x ∷ ws) = ap (λ l. Value w ∷ l) (all_values ws)

  expression_filled : (e : ExpressionTree) → filled w (the_expression e) ≡ the_expression e
  expression_filled e = operand_filled 0 (build_expressions [] e.parts) ∙ ap (operand 0) (built_filled [] e.parts)

  -- no call of the program's text is open
  statement_filled : (s : Statement) → filled_first w (the_statement s) ≡ the_statement s
  statement_filled (Statement.Let n x e) = ap (Let n (the_variable x)) (expression_filled e)
  statement_filled (Statement.LetField n k e) = ap (LetField n k) (expression_filled e)
  statement_filled (Statement.LetThis n e) = ap (LetThis n) (expression_filled e)
  statement_filled (Statement.Store n a i e) =
      ap (λ x. Store n x (filled w (the_expression i)) (filled w (the_expression e))) (expression_filled a)
      ∙ ap (λ x. Store n (the_expression a) x (filled w (the_expression e))) (expression_filled i) ∙ ap (Store n (the_expression a) (the_expression i)) (expression_filled e)
  statement_filled (Statement.Do n e) = ap (Do n) (expression_filled e)
  statement_filled (If' n o c p a q b) = ap (λ x. If n o x (the_row a) (the_row b)) (expression_filled c)
  statement_filled (While' n c p s) = refl
  statement_filled (Statement.Return n e) = ap (Return n) (expression_filled e)

  waiting_filled : (first : First) (ws : List ℕ) (ps : List Part) (rest : Text)
      → filled_text w (written_first first (build_expressions (waiting ws) ps) rest) ≡ written_first first (build_expressions (map Value (with_first w ws)) ps) rest
  waiting_filled first ws ps rest =
      first_filled first (build_expressions (waiting ws) ps) rest
      ∙ ap (λ l. written_first first l rest) (built_filled (waiting ws) ps ∙ ap (λ l. build_expressions l ps) (all_waiting ws))

  -- where the last value is that of an open call, it becomes this one
  pub begun_filled : (first : First) (done : ℕ) (ws : List ℕ) (ps : List Part) (rest : Text)
      → filled_text w (begun_text first done (build_expressions (waiting ws) ps) rest) ≡ begun_text first done (build_expressions (map Value (with_first w ws)) ps) rest
  begun_filled (First.Start init) zero ws ps rest = waiting_filled (First.Start init) ws ps rest
  begun_filled (First.Start init) (suc done) ws ps rest = waiting_filled (First.Start init) ws ps rest
  begun_filled (First.Statement s) zero ws ps rest = ap (λ t. Next t rest) (statement_filled s.now)
  begun_filled (First.Statement s) (suc done) ws ps rest = waiting_filled (First.Statement s) ws ps rest
  begun_filled First.Nothing zero ws ps rest = refl
  begun_filled First.Nothing (suc done) ws ps rest = refl
