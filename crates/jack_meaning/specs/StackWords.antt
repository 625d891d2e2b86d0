-- How many words the program's calls may want on the stack.
use Rattle.std.specs.Prelude.{ℕ, ◌+◌, List, [], ◌∷◌, length}
use Rattle.jack_meaning.specs.Text.{Let, LetField, LetThis, Store, Do, If, While, Return, Text, End, Next}
use Rattle.jack_meaning.specs.Expressions.{standing}
use Rattle.jack_meaning.specs.Meaning.{Frame}

-- the values that stand in a text: only its first statement has any
abbrev pub standing_first : Text → ℕ
standing_first End = 0
standing_first (Next (Let n x e) rest) = standing e
standing_first (Next (LetField n k e) rest) = standing e
standing_first (Next (LetThis n e) rest) = standing e
standing_first (Next (Store n a i e) rest) = standing a + standing i + standing e
standing_first (Next (Do n e) rest) = standing e
standing_first (Next (If n o c a b) rest) = standing c
standing_first (Next (While n c s) rest) = 0
standing_first (Next (Return n e) rest) = standing e

-- The words that these frames may want on the stack of chapters 7 and 8. They are the values that stand in their texts, and for each
-- frame but `start` its arguments, its locals and the five words of a call.
abbrev pub stack_words : List Frame → ℕ
stack_words [] = 0
stack_words (f ∷ []) = standing_first f.text
stack_words (f ∷ g ∷ below) = stack_words (g ∷ below) + length f.arguments + 5 + length f.locals + standing_first f.text
