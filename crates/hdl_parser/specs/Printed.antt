-- The printed form of a chip (book, appendix 2): its tokens with one space between them, and a line feed in its place after `{`, `}`
-- and `;`. The book lays down no layout; this one is the project's own.
use Rattle.std.specs.Prelude.{◌≡◌, ℕ, ◌≤◌, true, List, [], ◌∷◌, Ok, map, length, decimal, codes}
use Rattle.std.specs.List.{flat_map}
use Rattle.scan_text.specs.Text.{start}
use Rattle.grammar.specs.Leaves.{leaves}
use Rattle.grammar.specs.Printed.{set_off}
use Rattle.hdl_tree.specs.declared.tree.Chip.{Chip}
use Rattle.hdl_tree.specs.Writable.{chip_can}
use Rattle.hdl_parser.specs.declared.token.Kind.{Kind}
use Rattle.hdl_parser.specs.declared.token.Kind.TheVariants as kind
use Rattle.hdl_parser.specs.Tokens.{Word, keyword_text, tokens_of}
use Rattle.hdl_parser.specs.Grammar.{hdl, Said, Fixed, Text, whole}
use Rattle.hdl_parser.specs.Spells.{whole_tree, Spells}

-- what a token is written as: a number without leading zeros
abbrev pub kind_text : Kind → List ℕ → List ℕ
kind_text (kind.Keyword k) text = keyword_text k
kind_text (kind.Symbol b) text = b ∷ []
kind_text kind.Dots text = codes ".."
kind_text (kind.Number n) text = decimal n
kind_text kind.Name text = text

abbrev pub shown_word : Word → List ℕ
shown_word t = kind_text t.kind t.text

abbrev pub said_text : Said → List ℕ
said_text (Fixed k) = kind_text k []
said_text (Text text) = text

-- the tokens of a chip
abbrev pub chip_tokens : Chip → List (List ℕ)
chip_tokens c = map said_text (leaves (hdl start) (whole_tree c) whole)

-- the printed form of a chip
abbrev pub chip_text : Chip → List ℕ
chip_text c = flat_map set_off (chip_tokens c)

-- A text that spells a chip has the tokens of the chip, whatever stands between them.
abbrev pub TokensLaw : Type 0
TokensLaw = (text : List ℕ) (c : Chip) (ts : List Word) → tokens_of text ≡ Ok ts → Spells text c → map shown_word ts ≡ chip_tokens c

-- The printed form of each chip that texts can have, where it is within the limit of a file, spells that very chip.
abbrev pub PrintedLaw : Type 0
PrintedLaw = (c : Chip) → chip_can c ≡ true → length (chip_text c) ≤ 1048576 → Spells (chip_text c) c
