-- What the rest of a frame's text stands for.
use Rattle.std.specs.Prelude.{ℕ, zero, false, List, [], ◌∷◌, map, reverse, drop}
use Rattle.jack_meaning.specs.Text.{Let, LetField, LetThis, Store, Do, If, Return, Value, Open, Text as AText, End, Next, joined_text}
use Rattle.jack_meaning.specs.Text.{Expression as AnExpression, Statement as AStatement}
use Rattle.jack_meaning.specs.Meaning.{text_chosen, turn_of}
use Rattle.jack_core.specs.Reading.{the_variable, the_expression, operand, build_expressions}
use Rattle.jack_core.specs.Texts.{the_statement, the_row, the_block}
use Rattle.jack_core.specs.declared.program.Statement.{Statement, If', While'}
use Rattle.jack_machine.specs.Parts.{parts_of}
use Rattle.jack_machine.specs.declared.fronts.First.{First}
use Rattle.jack_machine.specs.declared.fronts.Front.{Front}
use Rattle.jack_machine.specs.declared.texts.Row.{Row}
use Rattle.jack_machine.specs.declared.texts.Text.{Text}

-- A statement with these expressions in the places of its own, the last one first. A loop with something done is the choice that the
-- meaning reads it as.
abbrev pub written_statement : Statement → List AnExpression → AStatement
written_statement (Statement.Let n x e) es = Let n (the_variable x) (operand 0 es)
written_statement (Statement.LetField n k e) es = LetField n k (operand 0 es)
written_statement (Statement.LetThis n e) es = LetThis n (operand 0 es)
written_statement (Statement.Store n a i e) es = Store n (operand 2 es) (operand 1 es) (operand 0 es)
written_statement (Statement.Do n e) es = Do n (operand 0 es)
written_statement (If' n o c p a q b) es = If n o (operand 0 es) (the_row a) (the_row b)
written_statement (While' n c p s) es = If n false (operand 0 es) (turn_of n (the_expression c) (the_row s)) End
written_statement (Statement.Return n e) es = Return n (operand 0 es)

-- a text that begins so, and this text after it
abbrev pub written_first : First → List AnExpression → AText → AText
written_first (First.Start init) es rest = Next (Do 1 (operand 0 es)) rest
written_first (First.Statement s) es rest = Next (written_statement s.now es) rest
written_first First.Nothing es rest = End

-- The same, with this many parts done. A statement with nothing done stands as it is in the
-- program.
abbrev pub begun_text : First → ℕ → List AnExpression → AText → AText
begun_text (First.Statement s) zero es rest = Next (the_statement s.now) rest
begun_text first done es rest = written_first first es rest

-- the statements of a row
abbrev pub the_line : Row → AText
the_line r = Next (the_statement r.first.now) (the_block r.others.now)

-- texts, one after the other
abbrev pub chained_texts : List AText → AText
chained_texts [] = End
chained_texts (t ∷ ts) = joined_text t (chained_texts ts)

-- the rows that follow, the innermost of which stands last
abbrev pub the_after : List Row → AText
the_after rows = chained_texts (reverse (map the_line rows))

-- The expressions that stand in what comes first, the last one first: what the parts that are left make of the values.
abbrev pub the_expressions : Front → List AnExpression
the_expressions f = build_expressions (map Value (reverse f.values.items)) (drop f.done (parts_of f.first))

-- the text of the top frame
abbrev pub the_text : Text → AText
the_text t = begun_text t.front.first t.front.done (the_expressions t.front) (the_after t.after.items)

-- the values of a text that waits for a call, the last one first: in place of the last one stands the open call
abbrev pub waiting : List ℕ → List AnExpression
waiting [] = []
waiting (w ∷ ws) = Open ∷ map Value ws

-- the text of a frame that waits for a call
abbrev pub the_waiting_text : Text → AText
the_waiting_text t = begun_text t.front.first t.front.done (build_expressions (waiting (reverse t.front.values.items)) (drop t.front.done (parts_of t.front.first))) (the_after t.after.items)

-- a choice that comes first is taken
abbrev pub chosen_text : ℕ → AText → AText
chosen_text w (Next (If n o c a b) rest) = joined_text (text_chosen w a b) rest
chosen_text w (Next s rest) = rest
chosen_text w End = End

-- the text after its first statement
abbrev pub text_tail : AText → AText
text_tail End = End
text_tail (Next s rest) = rest
