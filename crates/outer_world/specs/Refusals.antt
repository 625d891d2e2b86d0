-- The diagnostic of a fault, and the line on err that reports it of a file:
-- `path:line:column: Word detail`.
use Rattle.std.specs.Prelude.{ℕ, List, [], decimal}
use Rattle.outer_world.specs.Texts.{fault_line}
use Rattle.outer_world.specs.declared.refusal.Detail.{Detail}
use Rattle.outer_world.specs.declared.refusal.Detail.TheVariants as detail

-- the place of a fault, both 0 where it has none, its word, and its detail
pub record Message : Type 0 where
  pub line : ℕ
  pub column : ℕ
  pub word : List ℕ
  pub detail : List ℕ

abbrev pub message : ℕ → ℕ → List ℕ → List ℕ → Message
message line column word detail = record { line = line; column = column; word = word; detail = detail }

-- the line that reports it of the file at a path
abbrev pub message_line : List ℕ → Message → List ℕ
message_line path m = fault_line path m.line m.column m.word m.detail

-- a detail as a text: a number in decimal, a name as it stands
abbrev pub detail_text : Detail → List ℕ
detail_text detail.Nothing = []
detail_text (detail.Number n) = decimal n
detail_text (detail.Name name) = name.items
