-- What a whole text spells, and its first fault.
use Rattle.std.specs.Prelude.{ℕ, List}
use Rattle.grammar.specs.declared.Fault.{Fault}
use Rattle.grammar.specs.Rules.{Tree, Pair, Skip}
use Rattle.grammar.specs.Texts.{Spelled, Refused, OneReading}
use Rattle.jack_tree.specs.declared.tree.Class.{Class}
use Rattle.jack_lexer.specs.Tokens.{tokens_of, finish}
use Rattle.jack_parser.specs.Grammar.{jack, Said, whole, fresh}
use Rattle.jack_parser.specs.ClassTrees.{class_tree}

abbrev pub whole_tree : Class → Tree Said
whole_tree c = Pair (class_tree c) Skip

-- the text spells the tree
abbrev pub Spells : List ℕ → Tree Said → Type 0
Spells text tree = Spelled (jack (finish text)) whole (fresh 0) (tokens_of text) tree

-- the text spells none, and this is its first fault
abbrev pub Refuses : List ℕ → Fault → Type 0
Refuses text f = Refused (jack (finish text)) whole (fresh 0) (tokens_of text) f

-- The law of reading: a text spells at most one tree, has at most one first fault, and not both.
abbrev pub ReadingLaw : Type 0
ReadingLaw = (text : List ℕ) → OneReading (Tree Said) (Spells text) (Refuses text)
