-- The text of the map of a program, in its second form. It has the control points of its image with their places in the source, its commits, the
-- routines that commands share, and its subroutines, their variables and those of classes. (The book, chapters 7 to 11.)
use Rattle.std.specs.Prelude.{ℕ, zero, suc, ◌+◌, List, [], ◌∷◌, ◌++◌, codes, decimal, length, Option, Some, None, slice_get}
use Rattle.std.specs.List.{flat_map}
use Rattle.image_map.specs.Text.{commit_line, shared_line}
use Rattle.jack_tree.specs.declared.tree.Form.{Form}
use Rattle.jack_tree.specs.declared.tree.Form.TheVariants.{Constructor, Function, Method}
use Rattle.jack_debug.specs.declared.places.ClassPlaces.{ClassPlaces}
use Rattle.jack_debug.specs.declared.places.PlacedRange.{PlacedRange}
use Rattle.jack_debug.specs.declared.places.PlacedStatic.{PlacedStatic}
use Rattle.jack_debug.specs.declared.places.Places.{Places}
use Rattle.jack_debug.specs.declared.places.SubPlaces.{SubPlaces}
use Rattle.jack_debug.specs.Walk.{first_named, name_of, sub_at}

-- words with a blank between each two, and the end of the line
abbrev pub line_of : List (List ℕ) → List ℕ
line_of [] = 10 ∷ []
line_of (w ∷ []) = w ++ 10 ∷ []
line_of (w ∷ x ∷ ws) = w ++ 32 ∷ line_of (x ∷ ws)

-- ---- points

-- the file of a class
abbrev pub class_file : Option ClassPlaces → List ℕ
class_file None = []
class_file (Some c) = c.file

-- the file of a subroutine; that of `start` is called so
abbrev pub file_of : Places → ℕ → Option SubPlaces → List ℕ
file_of places zero sub = codes "start"
file_of places (suc k) None = []
file_of places (suc k) (Some sub) = class_file (slice_get places.classes sub.class)

-- the names of the subroutine and of its file are given
abbrev pub point_text : List ℕ → List ℕ → PlacedRange → List ℕ
point_text name file r =
    line_of (codes "point" ∷ decimal r.from ∷ decimal r.to ∷ name ∷ decimal r.point.number ∷ file ∷ decimal r.place.line ∷ decimal r.place.column ∷ [])

abbrev pub point_line : Places → PlacedRange → List ℕ
point_line places r = let sub = sub_at places r.point.sub in point_text (name_of sub r.point.sub) (file_of places r.point.sub sub) r

-- ---- subroutines

abbrev pub form_word : Form → List ℕ
form_word Constructor = codes "constructor"
form_word Function = codes "function"
form_word Method = codes "method"

-- an argument or a local of a subroutine, with its index
abbrev pub variable_line : List ℕ → List ℕ → ℕ → List ℕ → List ℕ
variable_line sub kind k name = line_of (codes "var" ∷ sub ∷ name ∷ kind ∷ decimal k ∷ [])

-- those from this index on
abbrev pub variable_lines : List ℕ → List ℕ → ℕ → List (List ℕ) → List ℕ
variable_lines sub kind k [] = []
variable_lines sub kind k (x ∷ xs) = variable_line sub kind k x ++ variable_lines sub kind (k + 1) xs

-- A subroutine with the numbers of its arguments and locals. The object of a method is an argument, the first, which has no name.
abbrev pub sub_text : List ℕ → List ℕ → ℕ → ℕ → List ℕ
sub_text name form arguments locals = line_of (codes "sub" ∷ name ∷ form ∷ decimal arguments ∷ decimal locals ∷ [])

abbrev pub sub_line : SubPlaces → List ℕ
sub_line s = sub_text s.name (form_word s.form) (first_named s.form + length s.arguments) (length s.locals)

abbrev pub sub_lines : SubPlaces → List ℕ
sub_lines s = sub_line s ++ (variable_lines s.name (codes "argument") (first_named s.form) s.arguments ++ variable_lines s.name (codes "local") 0 s.locals)

-- the subroutine of a number, if it is one
abbrev pub lines_of_sub : Option SubPlaces → List ℕ
lines_of_sub None = []
lines_of_sub (Some s) = sub_lines s

-- ---- classes

-- a field, by its index in an object
abbrev pub field_line : List ℕ → ℕ → List ℕ → List ℕ
field_line class k name = line_of (codes "field" ∷ class ∷ name ∷ decimal k ∷ [])

abbrev pub field_lines : List ℕ → ℕ → List (List ℕ) → List ℕ
field_lines class k [] = []
field_lines class k (x ∷ xs) = field_line class k x ++ field_lines class (k + 1) xs

-- a static that has a word
abbrev pub word_line : List ℕ → List ℕ → Option ℕ → List ℕ
word_line class name None = []
word_line class name (Some a) = line_of (codes "static" ∷ class ∷ name ∷ decimal a ∷ [])

abbrev pub static_line : List ℕ → PlacedStatic → List ℕ
static_line class s = word_line class s.name s.address

abbrev pub class_lines : ClassPlaces → List ℕ
class_lines c = field_lines c.name 0 c.fields ++ flat_map (static_line c.name) c.statics

-- the class of a number, if it is one
abbrev pub lines_of_class : Option ClassPlaces → List ℕ
lines_of_class None = []
lines_of_class (Some c) = class_lines c

-- ---- the whole

-- the points in order of address, the commits, and the routines that commands share
abbrev pub image_lines : Places → List ℕ
image_lines places = flat_map (point_line places) places.ranges ++ (flat_map commit_line places.commits ++ flat_map shared_line places.shared)

-- the linked subroutines in order of address, and by name the classes that have one
abbrev pub program_lines : Places → List ℕ
program_lines places =
    flat_map (λ k. lines_of_sub (sub_at places k)) places.linked ++ flat_map (λ k. lines_of_class (slice_get places.classes k)) places.by_name

abbrev pub map_text : Places → List ℕ
map_text places = codes "map 2\n" ++ (image_lines places ++ program_lines places)
