-- The lines that a script puts: columns of values, and over them those of names (book, appendix 3).
use Rattle.std.specs.Prelude.{◌≡◌, ℕ, ◌+◌, ◌-◌, ◌/◌, Bool, if◌then◌else◌, List, [], ◌∷◌, ◌++◌, length, take, drop, map, replicate, flat_map, decimal}
use Rattle.std.specs.List.{range_with_len}
use Rattle.word16.specs.Words.{binary_text}
use Rattle.outer_world.specs.Texts.{signed_text}
use Rattle.script_columns.specs.declared.layout.Format.{Format}
use Rattle.script_columns.specs.declared.layout.Format.TheVariants.{Binary, Decimal, Text}
use Rattle.script_columns.specs.declared.layout.Layout.{Layout}
use Rattle.script_columns.specs.declared.layout.Value.{Value}
use Rattle.script_columns.specs.declared.layout.Value.TheVariants.{Time, Wide, Narrow}
use Rattle.script_columns.specs.declared.layout.Cell.{Cell}
use Rattle.script_columns.specs.declared.layout.Head.{Head}

abbrev pub blanks : ℕ → List ℕ
blanks n = replicate n 32

-- the time: the cycles that are over, and a plus from a tick to its tock
abbrev pub time_text : ℕ → Bool → List ℕ
time_text cycle ticked = decimal cycle ++ (if ticked then 43 ∷ [] else [])

-- the time, or a number: signed where it has sixteen bits
abbrev pub plain_text : Value → List ℕ
plain_text (Time cycle ticked) = time_text cycle ticked
plain_text (Wide word) = signed_text word
plain_text (Narrow word) = decimal word

-- a value in a format; the time has one text in all of them
abbrev pub value_text : Format → Value → List ℕ
value_text Binary (Time cycle ticked) = time_text cycle ticked
value_text Binary (Wide word) = binary_text word
value_text Binary (Narrow word) = binary_text word
value_text Decimal value = plain_text value
value_text Text value = plain_text value

-- blanks stand before digits, and after a text
abbrev pub filled_field : Format → List ℕ → List ℕ → List ℕ
filled_field Binary gap text = gap ++ text
filled_field Decimal gap text = gap ++ text
filled_field Text gap text = text ++ gap

-- a text in n places: filled up with blanks, or its last n characters where it is longer
abbrev pub placed_field : Format → ℕ → List ℕ → List ℕ
placed_field format n text = filled_field format (blanks (n - length text)) (drop (length text - n) text)

-- a text in its column, with the bar that ends it
abbrev pub column_text : Layout → List ℕ → List ℕ
column_text layout text = blanks layout.left ++ placed_field layout.format layout.shown text ++ blanks layout.right ++ 124 ∷ []

abbrev pub cell_text : Cell → List ℕ
cell_text cell = column_text cell.layout (value_text cell.layout.format cell.value)

-- how many characters a column has between its bars
abbrev pub width : Layout → ℕ
width layout = layout.left + layout.shown + layout.right

-- a name in the middle of this many places, the left side the shorter one; a longer name is cut at its
-- end
abbrev pub centred_text : ℕ → List ℕ → List ℕ
centred_text places name =
    let free = places - length name in
    blanks (free / 2) ++ take places name ++ blanks (free - free / 2)

abbrev pub head_column : Layout → List ℕ → List ℕ
head_column layout name = centred_text (width layout) name ++ 124 ∷ []

abbrev pub head_cell : Head → List ℕ
head_cell head = head_column head.layout head.name.now

-- a line of values, and a line of names, without the end of the line
abbrev pub line_text : List Cell → List ℕ
line_text cells = (124 ∷ []) ++ flat_map cell_text cells

abbrev pub head_text : List Head → List ℕ
head_text heads = (124 ∷ []) ++ flat_map head_cell heads

-- A column of values is as wide as that of its name.
abbrev pub WidthLaw : Type 0
WidthLaw = (layout : Layout) (text name : List ℕ) → (length (column_text layout text) ≡ width layout + 1) × (length (head_column layout name) ≡ width layout + 1)
