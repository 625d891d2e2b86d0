-- The tokens of a class are those of the text that spells it.
use Rattle.std.proofs.Common.{◌≡◌, ℕ, List, map, Ok, ap, ◌∙◌}
use Rattle.grammar.specs.Leaves.{leaves}
use Rattle.jack_tree.specs.declared.tree.Class.{Class}
use Rattle.jack_tree.specs.Tokens.{Word}
use Rattle.jack_lexer.specs.Tokens.{tokens_of, finish}
use Rattle.jack_parser.specs.Grammar.{jack, whole}
use Rattle.jack_parser.specs.Spells.{whole_tree, Spells}
use Rattle.jack_parser.specs.Printed.{shown_word, class_tokens}
use Rattle.jack_parser.proofs.Saying.{told_leaves, told_shown, whole_tells}

same_tokens : (text : List ℕ) (ts us : List Word) → tokens_of text ≡ Ok ts → tokens_of text ≡ Ok us → ts ≡ us
same_tokens text ts us a b = cc

pub tokens_told : (text : List ℕ) (c : Class) (ts : List Word) → tokens_of text ≡ Ok ts → Spells text (whole_tree c) → map shown_word ts ≡ class_tokens c
tokens_told text c ts cut s =
    ap (map shown_word) (same_tokens text ts s.0 cut s.2) ∙ told_shown (leaves (jack (finish text)) (whole_tree c) whole) s.0 (told_leaves whole_tells s.3)
