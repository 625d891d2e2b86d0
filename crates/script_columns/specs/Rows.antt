-- Lines of a few scripts, by computation.
use Rattle.std.specs.Prelude.{◌≡◌, ℕ, true, false, List, [], ◌∷◌, ◌++◌, codes}
use Rattle.script_columns.specs.declared.layout.Format.{Format}
use Rattle.script_columns.specs.declared.layout.Format.TheVariants.{Binary, Decimal, Text}
use Rattle.script_columns.specs.declared.layout.Layout.{Layout}
use Rattle.script_columns.specs.declared.layout.Value.{Value}
use Rattle.script_columns.specs.declared.layout.Value.TheVariants.{Time, Wide, Narrow}
use Rattle.script_columns.specs.declared.layout.Cell.{Cell}
use Rattle.script_columns.specs.Columns.{column_text, head_column, value_text, line_text}
use Rattle.script_columns.specs.Comparison.{lines_of, agrees, agrees_first}

abbrev layout : Format → ℕ → ℕ → ℕ → Layout
layout format left shown right = record { format = format; left = left; shown = shown; right = right }

abbrev cell : Layout → Value → Cell
cell layout value = record { layout = layout; value = value }

-- the columns of an And: a bit of one digit, with three blanks on both sides
abbrev narrow : Layout
narrow = layout Binary 3 1 3

abbrev truths : List ℕ
truths = codes "|   1   |   1   |   1   |"

-- These are lines of scripts, heads over them, and texts in their columns.
pub record RowsLaw : Type 0 where
  pub head : (124 ∷ []) ++ head_column narrow (codes "a") ++ head_column narrow (codes "b")
      ++ head_column narrow (codes "out") ≡ codes "|   a   |   b   |  out  |"
  pub all_true : line_text
      (cell narrow (Narrow 1) ∷ cell narrow (Narrow 1) ∷ cell narrow (Narrow 1) ∷ []) ≡ truths
  -- a name that leaves an odd number of places has the fewer on its left
  pub clocked : (124 ∷ []) ++ head_column (layout Text 1 4 1) (codes "time")
      ++ head_column (layout Decimal 1 4 1) (codes "out") ≡ codes "| time | out  |"
  -- the time in its three formats
  pub ticked : line_text (cell (layout Text 1 4 1) (Time 0 true)
      ∷ cell (layout Decimal 1 4 1) (Time 1 false) ∷ cell (layout Binary 1 4 1) (Time 12 true) ∷ [])
      ≡ codes "| 0+   |    1 |  12+ |"
  pub memory : (124 ∷ []) ++ head_column (layout Decimal 2 6 2) (codes "RAM[0]")
      ++ head_column (layout Decimal 2 6 2) (codes "RAM[256]") ≡ codes "|  RAM[0]  | RAM[256] |"
  pub words : line_text (cell (layout Decimal 2 6 2) (Wide 257)
      ∷ cell (layout Decimal 2 6 2) (Wide 15) ∷ []) ≡ codes "|     257  |      15  |"
  -- a name that is too long is cut at its end, a number and a text at their fronts
  pub cut_name : head_column (layout Decimal 1 6 1) (codes "RAM16K[0]") ≡ codes "RAM16K[0|"
  pub cut_number : column_text (layout Decimal 0 2 0) (codes "12345") ≡ codes "45|"
  pub cut_text : column_text (layout Text 0 2 1) (codes "12+") ≡ codes "2+ |"
  -- sixteen digits, the highest first; of fewer places the lowest are shown
  pub digits : line_text (cell (layout Binary 1 16 1) (Wide 60432) ∷ [])
      ≡ codes "| 1110110000010000 |"
  pub low_digits : line_text (cell (layout Binary 1 3 1) (Narrow 6) ∷ []) ≡ codes "| 110 |"
  -- sixteen bits have a sign, fewer have none
  pub signed : value_text Decimal (Wide 65535) ≡ codes "-1"
  pub lowest : value_text Text (Wide 32768) ≡ codes "-32768"
  pub unsigned : value_text Decimal (Narrow 32767) ≡ codes "32767"
  -- an empty list, and columns of no places
  pub nothing : line_text [] ≡ codes "|"
  pub no_places : line_text (cell (layout Binary 0 0 0) (Wide 5) ∷ []) ≡ codes "||"
  -- lines of a compare file
  pub lines : lines_of (codes "a\r\n\nb\r") ≡ codes "a" ∷ [] ∷ codes "b\r" ∷ []
  pub ended : lines_of (codes "a\n") ≡ codes "a" ∷ []
  -- a star stands for any character, in the compare file alone; lengths count
  pub star : agrees (codes "|   1   |   1   |   *   |") truths ≡ true
  pub star_put : agrees truths (codes "|   1   |   1   |   *   |") ≡ false
  pub other : agrees (codes "|   0   |   1   |   1   |") (codes "|   0   |   1   |   0   |") ≡ false
  pub shorter : agrees (codes "|   1") (codes "|   1   |") ≡ false
  pub longer : agrees (codes "|   1   |*") (codes "|   1   |") ≡ false
  pub missing : agrees_first [] [] ≡ false
