-- The step of what comes first: its next part moves, or it acts.
use Rattle.std.proofs.Common.{◌≡◌, ℕ, zero, suc, ◌+◌, false, true, List, [], ◌∷◌, ◌++◌, Some, length, drop, map, reverse, refl, sym, ap, ◌∙◌, arith}
use Rattle.std.proofs.lemmas.List.{length-append, length-map, nil_from_length}
use Rattle.jack_meaning.specs.Text.{Expression, Value, Open, Let, LetField, LetThis, Store, Do, If, Return, Text, End, Next, Subroutine}
use Rattle.jack_meaning.specs.Expressions.{View, Move, Stands, Rewrites, Calls, Strays, within, rewrite, value_of}
use Rattle.jack_meaning.specs.Meaning.{Frame, State, Outcome, Done, view_of, step_first, step_part, after_assignment, after_store, passed_over, after_return, turn_of}
use Rattle.word16.specs.Words.{word_add}
use Rattle.jack_core.specs.declared.tree.Part.{Part}
use Rattle.jack_core.specs.declared.tree.Expression.{Expression as ExpressionTree}
use Rattle.jack_core.specs.declared.program.Statement.{Statement, If', While'}
use Rattle.jack_core.specs.Heights.{height}
use Rattle.jack_core.specs.Reading.{the_variable, the_expression, operand, build_expressions}
use Rattle.jack_core.specs.Texts.{the_statement, the_row}
use Rattle.jack_core.proofs.Postfix.{built_more, spells, built_length}
use Rattle.jack_machine.specs.Parts.{parts_in, parts_of, wanted_in, wanted_count}
use Rattle.jack_machine.specs.Texts.{written_statement, written_first, begun_text}
use Rattle.jack_machine.specs.Effects.{act_of}
use Rattle.jack_machine.specs.declared.fronts.First.{First}
use Rattle.jack_machine.proofs.Places.{is_move, IsPlace, Lies, lies_first, lies_built}
use Rattle.jack_machine.proofs.Fitting.{none_stand}

-- a store as its three expressions stand in the text
store_reads : (n : ℕ) (a i e : ExpressionTree) → build_expressions [] (a.parts ++ i.parts ++ e.parts) ≡ the_expression e ∷ the_expression i ∷ the_expression a ∷ []
store_reads n a i e =
    built_more [] (a.parts ++ i.parts) e.parts
    ∙ ap (λ l. build_expressions l e.parts) (built_more [] a.parts i.parts ∙ ap (λ l. build_expressions l i.parts) (spells [] a) ∙ spells (the_expression a ∷ []) i)
    ∙ spells (the_expression i ∷ the_expression a ∷ []) e

module _ (subs : List Subroutine) (key : ℕ) (s : State) (f : Frame) (below : List Frame) (rest : Text) where
  abbrev v : View
  v = view_of key s f

  abbrev step_of : Text → Outcome
  step_of t = step_first subs key s f below t

  -- a statement of which nothing is done makes the step of the same one with its expressions written again
  statement_begins : (t : Statement) → step_of (Next (the_statement t) rest) ≡ step_of (Next (written_statement t (build_expressions [] (parts_in t))) rest)
  statement_begins (Statement.Let n x e) = refl
  statement_begins (Statement.LetField n k e) = refl
  statement_begins (Statement.LetThis n e) = refl
  statement_begins (Statement.Store n a i e) = ap (λ l. step_of (Next (Store n (operand 2 l) (operand 1 l) (operand 0 l)) rest)) (sym (store_reads n a i e))
  statement_begins (Statement.Do n e) = refl
  statement_begins (If' n o c p a q b) = refl
  statement_begins (While' n c p a) = refl
  statement_begins (Statement.Return n e) = refl

  pub first_begins : (first : First) (done : ℕ) (ws : List ℕ) → height (length ws) (drop done (parts_of first)) ≡ Some (wanted_count first)
      → step_of (begun_text first done (build_expressions (map Value (reverse ws)) (drop done (parts_of first))) rest) ≡ step_of (written_first first (build_expressions (map Value (reverse ws)) (drop done (parts_of first))) rest)
  first_begins (First.Start init) zero ws h = refl
  first_begins (First.Start init) (suc done) ws h = refl
  first_begins (First.Statement t) zero ws h =
      statement_begins t.now
      ∙ ap (λ l. step_of (Next (written_statement t.now (build_expressions (map Value (reverse l)) (parts_in t.now))) rest)) (sym (nil_from_length ws (none_stand (length ws) (First.Statement t) h)))
  first_begins (First.Statement t) (suc done) ws h = refl
  first_begins First.Nothing zero ws h = refl
  first_begins First.Nothing (suc done) ws h = refl

  step_within : (m : Move Expression) (c : Expression → Expression) (g : Expression → Text) (o : Outcome) → is_move m ≡ true
      → step_part subs s f below (within m c Stands) g o ≡ step_part subs s f below m (λ x. g (c x)) Done
  step_within Stands c g o h = cc
  step_within (Rewrites heard a) c g o h = refl
  step_within (Calls n xs a) c g o h = refl
  step_within (Strays a) c g o h = refl

  same_part : (m : Move Expression) (g g' : Expression → Text) (o : Outcome) → ((x : Expression) → g x ≡ g' x) → step_part subs s f below m g o ≡ step_part subs s f below m g' o
  same_part Stands g g' o e = refl
  same_part (Rewrites heard a) g g' o e = ap (λ t. step_part subs s f below (Rewrites heard a) (λ x. t) o) (e a)
  same_part (Calls n xs a) g g' o e = ap (λ t. step_part subs s f below (Calls n xs a) (λ x. t) o) (e a)
  same_part (Strays a) g g' o e = refl

  module _ (r : Expression) (moves : is_move (rewrite v r) ≡ true) where
    -- the part that moves, in its place among a statement's expressions
    in_place : (c : Expression → Expression) (place : IsPlace c) (g : Expression → Text) (o : Outcome) → step_part subs s f below (rewrite v (c r)) g o ≡ step_part subs s f below (rewrite v r) (λ x. g (c x)) Done
    in_place c place g o = ap (λ m. step_part subs s f below m g o) (place.moves v r moves) ∙ step_within (rewrite v r) c g o moves

    one_moves : (t : Statement) (c : Expression → Expression) → IsPlace c → wanted_in t ≡ 1
        → step_of (Next (written_statement t (c r ∷ [])) rest) ≡ step_part subs s f below (rewrite v r) (λ x. Next (written_statement t (c x ∷ [])) rest) Done
    one_moves (Statement.Let n x e) c place h = in_place c place (λ a. Next (Let n (the_variable x) a) rest) (after_assignment s f below rest (the_variable x) (value_of (c r)))
    one_moves (Statement.LetField n k e) c place h = in_place c place (λ a. Next (LetField n k a) rest) (after_store s f below rest (word_add f.this k) (value_of (c r)))
    one_moves (Statement.LetThis n e) c place h = in_place c place (λ a. Next (LetThis n a) rest) (passed_over s (record f { this = value_of (c r) }) below rest)
    one_moves (Statement.Store n a i e) c place h = cc
    one_moves (Statement.Do n e) c place h = in_place c place (λ a. Next (Do n a) rest) (passed_over s f below rest)
    one_moves (If' n o d p a q b) c place h = in_place c place (λ x. Next (If n o x (the_row a) (the_row b)) rest) (act_of s f below (If n o (c r) (the_row a) (the_row b)) rest)
    one_moves (While' n d p a) c place h =
        in_place c place (λ x. Next (If n false x (turn_of n (the_expression d) (the_row a)) End) rest) (act_of s f below (If n false (c r) (turn_of n (the_expression d) (the_row a)) End) rest)
    one_moves (Statement.Return n e) c place h = in_place c place (λ a. Next (Return n a) rest) (after_return s below (value_of (c r)))

    three_move : (n : ℕ) (fresh : List Expression) (c : Expression → Expression) (low : List ℕ) → IsPlace c → length fresh + suc (length low) ≡ 3
        → step_of (Next (Store n (operand 2 (fresh ++ c r ∷ map Value low)) (operand 1 (fresh ++ c r ∷ map Value low)) (operand 0 (fresh ++ c r ∷ map Value low))) rest)
        ≡ step_part subs s f below (rewrite v r) (λ x. Next (Store n (operand 2 (fresh ++ c x ∷ map Value low)) (operand 1 (fresh ++ c x ∷ map Value low)) (operand 0 (fresh ++ c x ∷ map Value low))) rest) Done
    three_move n [] c (y ∷ z ∷ []) place h = in_place c place (λ x. Next (Store n (Value z) (Value y) x) rest) (act_of s f below (Store n (Value z) (Value y) (c r)) rest)
    three_move n (e ∷ []) c (y ∷ []) place h =
        in_place c place (λ x. Next (Store n (Value y) x e) rest)
        (step_part subs s f below (rewrite v e) (λ x. Next (Store n (Value y) (c r) x) rest) (act_of s f below (Store n (Value y) (c r) e) rest))
    three_move n (e ∷ i ∷ []) c [] place h =
        in_place c place (λ x. Next (Store n x i e) rest)
        (step_part subs s f below (rewrite v i) (λ x. Next (Store n (c r) x e) rest)
        (step_part subs s f below (rewrite v e) (λ x. Next (Store n (c r) i x) rest) (act_of s f below (Store n (c r) i e) rest)))
    three_move n [] c [] place h = absurd (omega (arith, h))
    three_move n [] c (y ∷ []) place h = absurd (omega (arith, h))
    three_move n [] c (y ∷ z ∷ x ∷ low) place h = absurd (omega (arith, h))
    three_move n (e ∷ []) c [] place h = absurd (omega (arith, h))
    three_move n (e ∷ []) c (y ∷ z ∷ low) place h = absurd (omega (arith, h))
    three_move n (e ∷ i ∷ []) c (y ∷ low) place h = absurd (omega (arith, h))
    three_move n (e ∷ i ∷ a ∷ fresh) c low place h = absurd (omega (arith, h))

    -- one expression alone is its place
    alone : (fresh : List Expression) (c : Expression → Expression) (low : List ℕ) → length fresh + suc (length low) ≡ 1 → (x : Expression) → fresh ++ c x ∷ map Value low ≡ c x ∷ []
    alone [] c [] h x = refl
    alone [] c (y ∷ low) h x = absurd (omega (arith, h))
    alone (e ∷ fresh) c low h x = absurd (omega (arith, h))

    module _ (es : Expression → List Expression) (l : Lies es) where
      size : length (es Open) ≡ length l.fresh + suc (length l.low)
      size = ap length (l.lies Open) ∙ length-append l.fresh (l.place Open ∷ map Value l.low) ∙ ap (λ n. length l.fresh + suc n) (length-map l.low Value)

      with_one : (t : Statement) → wanted_in t ≡ 1 → length (es Open) ≡ 1 → step_of (Next (written_statement t (es r)) rest) ≡ step_part subs s f below (rewrite v r) (λ x. Next (written_statement t (es x)) rest) Done
      with_one t one h =
          let single : (x : Expression) → es x ≡ l.place x ∷ [] = λ x. l.lies x ∙ alone l.fresh l.place l.low (sym size ∙ h) x in
          ap (λ k. step_of (Next (written_statement t k) rest)) (single r) ∙ one_moves t l.place l.is_place one
          ∙ same_part (rewrite v r) (λ x. Next (written_statement t (l.place x ∷ [])) rest) (λ x. Next (written_statement t (es x)) rest) Done (λ x. ap (λ k. Next (written_statement t k) rest) (sym (single x)))

      with_three : (n : ℕ) → length (es Open) ≡ 3
          → step_of (Next (Store n (operand 2 (es r)) (operand 1 (es r)) (operand 0 (es r))) rest)
          ≡ step_part subs s f below (rewrite v r) (λ x. Next (Store n (operand 2 (es x)) (operand 1 (es x)) (operand 0 (es x))) rest) Done
      with_three n h =
          ap (λ k. step_of (Next (Store n (operand 2 k) (operand 1 k) (operand 0 k)) rest)) (l.lies r) ∙ three_move n l.fresh l.place l.low l.is_place (sym size ∙ h)
          ∙ same_part (rewrite v r) (λ x. Next (Store n (operand 2 (l.fresh ++ l.place x ∷ map Value l.low)) (operand 1 (l.fresh ++ l.place x ∷ map Value l.low)) (operand 0 (l.fresh ++ l.place x ∷ map Value l.low))) rest)
          (λ x. Next (Store n (operand 2 (es x)) (operand 1 (es x)) (operand 0 (es x))) rest) Done
          (λ x. ap (λ k. Next (Store n (operand 2 k) (operand 1 k) (operand 0 k)) rest) (sym (l.lies x)))

      statement_moves : (t : Statement) → length (es Open) ≡ wanted_in t → step_of (Next (written_statement t (es r)) rest) ≡ step_part subs s f below (rewrite v r) (λ x. Next (written_statement t (es x)) rest) Done
      statement_moves (Statement.Let n x e) h = with_one (Statement.Let n x e) refl h
      statement_moves (Statement.LetField n k e) h = with_one (Statement.LetField n k e) refl h
      statement_moves (Statement.LetThis n e) h = with_one (Statement.LetThis n e) refl h
      statement_moves (Statement.Store n a i e) h = with_three n h
      statement_moves (Statement.Do n e) h = with_one (Statement.Do n e) refl h
      statement_moves (If' n o c p a q b) h = with_one (If' n o c p a q b) refl h
      statement_moves (While' n c p a) h = with_one (While' n c p a) refl h
      statement_moves (Statement.Return n e) h = with_one (Statement.Return n e) refl h

      first_moves : (first : First) → length (es Open) ≡ wanted_count first
          → step_of (written_first first (es r) rest) ≡ step_part subs s f below (rewrite v r) (λ x. written_first first (es x) rest) Done
      first_moves (First.Start init) h =
          let single : (x : Expression) → es x ≡ l.place x ∷ [] = λ x. l.lies x ∙ alone l.fresh l.place l.low (sym size ∙ h) x in
          ap (λ k. step_of (Next (Do 1 (operand 0 k)) rest)) (single r) ∙ in_place l.place l.is_place (λ a. Next (Do 1 a) rest) (passed_over s f below rest)
          ∙ same_part (rewrite v r) (λ x. Next (Do 1 (l.place x)) rest) (λ x. Next (Do 1 (operand 0 (es x))) rest) Done (λ x. ap (λ k. Next (Do 1 (operand 0 k)) rest) (sym (single x)))
      first_moves (First.Statement t) h = statement_moves t.now h
      first_moves First.Nothing h = absurd (omega (arith, h, size))

    -- a part over values, and those that are left
    pub part_moves : (first : First) (low : List ℕ) (ps : List Part) → height (length low + 1) ps ≡ Some (wanted_count first)
        → step_of (written_first first (build_expressions (r ∷ map Value low) ps) rest) ≡ step_part subs s f below (rewrite v r) (λ x. written_first first (build_expressions (x ∷ map Value low) ps) rest) Done
    part_moves first low ps h =
        let count : length (Open ∷ map Value low) ≡ length low + 1 = omega (arith, length-map low Value) in
        let fits : height (length (Open ∷ map Value low)) ps ≡ Some (wanted_count first) = ap (λ n. height n ps) count ∙ h in
        first_moves (λ x. build_expressions (x ∷ map Value low) ps) (lies_built ps (λ x. x ∷ map Value low) (lies_first low) (wanted_count first) fits) first
        (built_length (wanted_count first) (Open ∷ map Value low) ps fits)

  -- a statement acts where its expressions are values
  one_acts : (t : Statement) (w : ℕ) → wanted_in t ≡ 1 → step_of (Next (written_statement t (Value w ∷ [])) rest) ≡ act_of s f below (written_statement t (Value w ∷ [])) rest
  one_acts (Statement.Let n x e) w h = refl
  one_acts (Statement.LetField n k e) w h = refl
  one_acts (Statement.LetThis n e) w h = refl
  one_acts (Statement.Store n a i e) w h = cc
  one_acts (Statement.Do n e) w h = refl
  one_acts (If' n o c p a q b) w h = refl
  one_acts (While' n c p a) w h = refl
  one_acts (Statement.Return n e) w h = refl

  only_one : (t : Statement) (ws : List ℕ) → wanted_in t ≡ 1 → length ws ≡ 1 → step_of (Next (written_statement t (map Value (reverse ws))) rest) ≡ act_of s f below (written_statement t (map Value (reverse ws))) rest
  only_one t [] one h = absurd (omega (arith, h))
  only_one t (w ∷ []) one h = one_acts t w one
  only_one t (w ∷ x ∷ ws) one h = absurd (omega (arith, h))

  three_act : (n : ℕ) (a i e : ExpressionTree) (ws : List ℕ) → length ws ≡ 3
      → step_of (Next (written_statement (Statement.Store n a i e) (map Value (reverse ws))) rest) ≡ act_of s f below (written_statement (Statement.Store n a i e) (map Value (reverse ws))) rest
  three_act n a i e [] h = absurd (omega (arith, h))
  three_act n a i e (x ∷ []) h = absurd (omega (arith, h))
  three_act n a i e (x ∷ y ∷ []) h = absurd (omega (arith, h))
  three_act n a i e (x ∷ y ∷ z ∷ []) h = refl
  three_act n a i e (x ∷ y ∷ z ∷ w ∷ ws) h = absurd (omega (arith, h))

  pub statement_acts : (t : Statement) (ws : List ℕ) → length ws ≡ wanted_in t → step_of (Next (written_statement t (map Value (reverse ws))) rest) ≡ act_of s f below (written_statement t (map Value (reverse ws))) rest
  statement_acts (Statement.Let n x e) ws h = only_one (Statement.Let n x e) ws refl h
  statement_acts (Statement.LetField n k e) ws h = only_one (Statement.LetField n k e) ws refl h
  statement_acts (Statement.LetThis n e) ws h = only_one (Statement.LetThis n e) ws refl h
  statement_acts (Statement.Store n a i e) ws h = three_act n a i e ws h
  statement_acts (Statement.Do n e) ws h = only_one (Statement.Do n e) ws refl h
  statement_acts (If' n o c p a q b) ws h = only_one (If' n o c p a q b) ws refl h
  statement_acts (While' n c p a) ws h = only_one (While' n c p a) ws refl h
  statement_acts (Statement.Return n e) ws h = only_one (Statement.Return n e) ws refl h

  pub start_acts : (init : ℕ) (ws : List ℕ) → length ws ≡ 1 → step_of (written_first (First.Start init) (map Value (reverse ws)) rest) ≡ passed_over s f below rest
  start_acts init [] h = absurd (omega (arith, h))
  start_acts init (w ∷ []) h = refl
  start_acts init (w ∷ x ∷ ws) h = absurd (omega (arith, h))
