-- The chips that texts can have: they keep the rules of the grammar and its limits. (The book, appendix 2.)
use Rattle.std.specs.Prelude.{ℕ, Bool, true, false, not, List, [], ◌∷◌, Option, Some, None, ◌&&◌, ◌||◌, ◌==◌, nat_le, codes}
use Rattle.std.specs.Char.{is_ascii_alphabetic, is_ascii_digit}
use Rattle.std.specs.Str.{bytes_eq}
use Rattle.hdl_tree.specs.declared.tree.Pin.{Pin}
use Rattle.hdl_tree.specs.declared.tree.Subscript.{Subscript}
use Rattle.hdl_tree.specs.declared.tree.Subscript.TheVariants as subscript
use Rattle.hdl_tree.specs.declared.tree.Selection.{Selection}
use Rattle.hdl_tree.specs.declared.tree.Source.{Source}
use Rattle.hdl_tree.specs.declared.tree.Source.TheVariants as source
use Rattle.hdl_tree.specs.declared.tree.Connection.{Connection}
use Rattle.hdl_tree.specs.declared.tree.Part.{Part}
use Rattle.hdl_tree.specs.declared.tree.Body.{Body}
use Rattle.hdl_tree.specs.declared.tree.Body.TheVariants as body
use Rattle.hdl_tree.specs.declared.tree.Chip.{Chip}

abbrev pub all : {A : Type 0} → (A → Bool) → List A → Bool
all test [] = true
all test (x ∷ xs) = test x && all test xs

-- the same of one or more
abbrev pub all_of_some : {A : Type 0} → (A → Bool) → List A → Bool
all_of_some test [] = false
all_of_some test (x ∷ xs) = test x && all test xs

-- letters and the underscore
abbrev pub is_letter : ℕ → Bool
is_letter b = is_ascii_alphabetic b || b == 95

abbrev pub is_name_byte : ℕ → Bool
is_name_byte b = is_letter b || is_ascii_digit b

-- the words that no name can be
abbrev pub reserved_names : List (List ℕ)
reserved_names = codes "CHIP" ∷ codes "IN" ∷ codes "OUT" ∷ codes "PARTS" ∷ codes "BUILTIN" ∷ codes "CLOCKED" ∷ codes "true" ∷ codes "false" ∷ []

abbrev pub is_among : List ℕ → List (List ℕ) → Bool
is_among text [] = false
is_among text (word ∷ words) = bytes_eq text word || is_among text words

-- letters, digits and underscores, the first no digit, and no reserved word
abbrev pub name_can : List ℕ → Bool
name_can [] = false
name_can (b ∷ bs) = is_letter b && (all is_name_byte bs && not (is_among (b ∷ bs) reserved_names))

-- a width is at most 16
abbrev pub width_can : Option ℕ → Bool
width_can None = true
width_can (Some n) = nat_le n 16

abbrev pub pin_can : Pin → Bool
pin_can p = name_can p.name && width_can p.width

-- an index is at most 15, and the first is at most the last
abbrev pub subscript_can : Option Subscript → Bool
subscript_can None = true
subscript_can (Some (subscript.Bit i)) = nat_le i 15
subscript_can (Some (subscript.Bits i j)) = nat_le i j && nat_le j 15

abbrev pub selection_can : Selection → Bool
selection_can s = name_can s.name && subscript_can s.subscript

abbrev pub source_can : Source → Bool
source_can (source.Net s) = selection_can s
source_can (source.Constant b) = true

abbrev pub connection_can : Connection → Bool
connection_can c = selection_can c.pin && source_can c.source

-- a part has at least one connection
abbrev pub part_can : Part → Bool
part_can p = name_can p.chip && all_of_some connection_can p.connections

abbrev pub body_can : Body → Bool
body_can (body.Parts ps) = all part_can ps
body_can (body.Builtin n clocked) = name_can n && all name_can clocked

abbrev pub chip_can : Chip → Bool
chip_can c = name_can c.name && (all pin_can c.inputs && (all pin_can c.outputs && body_can c.body))
