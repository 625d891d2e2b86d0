-- The class of a text, by computation.
use Rattle.std.proofs.Common.{◌≡◌, ℕ, Bool, true, false, List, [], Option, Some, None, Result, Ok, Err, refl, ◌&&◌}
use Rattle.std.proofs.lemmas.Bool.{and_parts}
use Rattle.scan_text.specs.declared.Place.{Place}
use Rattle.grammar.specs.declared.Fault.{Fault}
use Rattle.grammar.specs.Rules.{Tree, Skip}
use Rattle.jack_tree.specs.Tokens.{Word}
use Rattle.jack_tree.specs.Syntax.{Class}
use Rattle.jack_lexer.specs.Tokens.{tokens_of}
use Rattle.jack_parser.specs.declared.counts.Counts.{Counts}
use Rattle.jack_parser.specs.Grammar.{jack, Said, fresh, whole}
use Rattle.jack_parser.specs.Spelling.{class_tokens}
use Rattle.jack_parser.specs.Spelled.{SpellsClass}
use Rattle.grammar.proofs.Reader.{Got, run}
use Rattle.jack_parser.proofs.SpellingTests.{all_say, say, keeps_limits, limits}
use Rattle.jack_parser.proofs.TreeClasses.{class_of}

abbrev words_of : Result (List Word) Fault → List Word
words_of (Ok ws) = ws
words_of (Err f) = []

abbrev nowhere : Place
nowhere = record { line = 0; column = 0 }

abbrev tree_of : Option (Got Word Counts Said) → Tree Said
tree_of None = Skip
tree_of (Some x) = x.tree

abbrev class_by : List Word → Class
class_by ws = class_of (tree_of (run (jack nowhere) 4000 (fresh 0) whole ws))

-- what a text spells, where it spells a class
abbrev pub class_in : List ℕ → Class
class_in text = class_by (words_of (tokens_of text))

abbrev is_class : List Word → Class → Bool
is_class ws c = all_say ws (class_tokens c) && keeps_limits c

abbrev is_cut : Result (List Word) Fault → Bool
is_cut (Ok ws) = is_class ws (class_by ws)
is_cut (Err f) = false

-- the text spells that class
abbrev pub is_spelled : List ℕ → Bool
is_spelled text = is_cut (tokens_of text)

by_cut : (text : List ℕ) (r : Result (List Word) Fault) → tokens_of text ≡ r → is_cut r ≡ true → SpellsClass text (class_by (words_of r))
by_cut text (Ok ws) cut h =
    let c = class_by ws in
    let p = and_parts (all_say ws (class_tokens c)) (keeps_limits c) h in
    record { tokens = ws; cut = cut; say = say ws (class_tokens c) p.0; limits = limits c p.1 }
by_cut text (Err f) cut h = absurd cc

pub spelled : (text : List ℕ) → is_spelled text ≡ true → SpellsClass text (class_in text)
spelled text h = by_cut text (tokens_of text) refl h
