-- The printed form of a class: its tokens with one space between them, and a line feed in its place after `{`, `}` and `;`.
use Rattle.std.specs.Prelude.{◌≡◌, ℕ, ◌++◌, List, [], ◌∷◌, Ok, map, decimal, length, ◌≤◌}
use Rattle.std.specs.List.{flat_map}
use Rattle.scan_text.specs.Text.{start}
use Rattle.grammar.specs.Rules.{Tree}
use Rattle.grammar.specs.Leaves.{leaves, seen_by}
use Rattle.grammar.specs.Printed.{set_off}
use Rattle.jack_tree.specs.declared.token.Kind.{Kind}
use Rattle.jack_tree.specs.declared.token.Kind.TheVariants as kind
use Rattle.jack_tree.specs.declared.tree.Class.{Class}
use Rattle.jack_tree.specs.Tokens.{Word, keyword_text}
use Rattle.jack_lexer.specs.Tokens.{tokens_of}
use Rattle.jack_parser.specs.Grammar.{jack, Said, Fixed, Placed, whole, without_quotes}
use Rattle.jack_parser.specs.Spells.{whole_tree, Spells}

-- what a token is written as: a number without leading zeros, a string in its quotes
abbrev pub kind_text : Kind → List ℕ → List ℕ
kind_text (kind.Keyword k) text = keyword_text k
kind_text (kind.Symbol b) text = b ∷ []
kind_text (kind.Integer n) text = decimal n
kind_text kind.Text text = 34 ∷ (text ++ 34 ∷ [])
kind_text kind.Identifier text = text

-- the text of a token, that of a string without its quotes
abbrev pub content : Kind → List ℕ → List ℕ
content kind.Text text = without_quotes text
content k text = text

abbrev pub shown_word : Word → List ℕ
shown_word t = kind_text t.kind (content t.kind t.text)

abbrev pub said_text : Said → List ℕ
said_text (Fixed k) = kind_text k []
said_text (Placed k text at) = kind_text k text

-- the tokens of a class
abbrev pub class_tokens : Class → List (List ℕ)
class_tokens c = map said_text (leaves (jack start) (whole_tree c) whole)

-- the printed form of a class
abbrev pub class_text : Class → List ℕ
class_text c = flat_map set_off (class_tokens c)

-- A text that spells a class has the tokens of the class, whatever stands between them.
abbrev pub TokensLaw : Type 0
TokensLaw = (text : List ℕ) (c : Class) (ts : List Word) → tokens_of text ≡ Ok ts → Spells text (whole_tree c) → map shown_word ts ≡ class_tokens c

-- what a token says but for its place
abbrev pub without_place : Said → Said
without_place (Fixed k) = Fixed k
without_place (Placed k text at) = Placed k text start

-- The printed form of a class that some text spells, where it is within the limit of a file, spells the class but for places.
abbrev pub PrintedLaw : Type 0
PrintedLaw = (text : List ℕ) (c : Class) → Spells text (whole_tree c) → length (class_text c) ≤ 1048576 → (t : Tree Said) × Spells (class_text c) t × (seen_by without_place (whole_tree c) ≡ seen_by without_place t)
