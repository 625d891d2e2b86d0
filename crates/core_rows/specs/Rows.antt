-- What that program means, written out. (The book, chapters 9 to 12.)
use Rattle.std.specs.Prelude.{◌≡◌, ℕ, List, [], ◌∷◌}
use Rattle.jack_tree.specs.Syntax.{ClassFile}
use Rattle.jack_parser.specs.Spelled.{SpellsClass}
use Rattle.jack_meaning.specs.Text.{Argument, Local, Static, Plus, Expression, Literal, Name, Field, This, Binary, Call, NoMore, More, Statement, Let, LetField, LetThis, Do, Return, text_of, Kind, Constructor, Function, Method, Subroutine, Class, Program}
use Rattle.jack_names.specs.Meaning.{no_subroutine, program_meaning}
use Rattle.jack_names.specs.NameFaults.{IsWellNamed}
use Rattle.core_rows.specs.Texts.{Texts, own, system}

-- ---- what is written out

abbrev pub subroutine : Kind → ℕ → ℕ → ℕ → List Statement → Subroutine
subroutine kind class arguments locals statements = record { kind = kind; class = class; arguments = arguments; locals = locals; body = text_of statements }

abbrev pub with_one : ℕ → Expression → Expression
with_one g a = Call g (More a NoMore)

abbrev pub with_two : ℕ → Expression → Expression → Expression
with_two g a b = Call g (More a (More b NoMore))

-- 1, Main.new: a block of two words is taken first, and a * 2 is a call of Math.multiply, 4
abbrev pub new : Subroutine
new = subroutine Constructor 0 1 0 (
    LetThis 0 (with_one 6 (Literal 2))
    ∷ LetField 1 0 (Name (Argument 0))
    ∷ LetField 2 1 (with_two 4 (Name (Argument 0)) (Literal 2))
    ∷ Return 3 This
    ∷ [])

-- 2, Main.half: y / 2 is a call of Math.divide, 5
abbrev pub half : Subroutine
half = subroutine Method 0 1 0 (Return 1 (with_two 5 (Field 1) (Literal 2)) ∷ [])

-- 3, Main.main: the string is made by String.new, 7, and filled by String.appendChar, 8; the return after its last
-- statement is added
abbrev pub main : Subroutine
main = subroutine Function 0 0 2 (
    Let 1 (Static 0) (Binary Plus (Name (Static 0)) (Literal 1))
    ∷ Let 2 (Local 0) (with_one 1 (Literal 3))
    ∷ Let 3 (Local 1) (with_two 8 (with_two 8 (with_one 7 (Literal 2)) (Literal 72)) (Literal 105))
    ∷ Do 4 (with_one 2 (Name (Local 0)))
    ∷ Return 5 (Literal 0)
    ∷ [])

abbrev pub gives_zero : Subroutine
gives_zero = subroutine Function 1 2 0 (Return 1 (Literal 0) ∷ [])

-- the system: 4 and 5 in Math, 6 Memory.alloc, 7 and 8 in String, of which the first takes a block of one word, and 9
-- Sys.init
abbrev pub of_system : List Subroutine
of_system =
    gives_zero ∷ gives_zero
    ∷ subroutine Function 2 1 0 (Return 1 (Literal 2048) ∷ [])
    ∷ subroutine Constructor 3 1 0 (LetThis 0 (with_one 6 (Literal 1)) ∷ Return 1 This ∷ [])
    ∷ subroutine Method 3 2 0 (Return 1 This ∷ [])
    ∷ subroutine Function 4 0 0 (Do 1 (Call 3 NoMore) ∷ Return 2 (Literal 0) ∷ [])
    ∷ []

abbrev pub class_of : ℕ → ℕ → Class
class_of fields statics = record { fields = fields; statics = statics }

abbrev pub row_program : Program
row_program = record {
  classes = class_of 2 1 ∷ class_of 0 0 ∷ class_of 0 0 ∷ class_of 0 0 ∷ class_of 0 0 ∷ [];
  subroutines = no_subroutine ∷ new ∷ half ∷ main ∷ of_system;
  init = 9;
}

-- ---- the row

-- the texts spell the classes, file by file
abbrev pub AreSpelled : Texts → List ClassFile → Type 0
AreSpelled [] [] = Unit {0}
AreSpelled (f ∷ fs) (c ∷ cs) = (f.0 ≡ c.file) × SpellsClass f.1 c.class × AreSpelled fs cs
AreSpelled [] (c ∷ cs) = ⊥
AreSpelled (f ∷ fs) [] = ⊥

-- The texts spell classes that are well named and mean this program.
pub record MeansRow : Type 0 where
  pub classes : List ClassFile
  pub system_classes : List ClassFile
  pub spelled : AreSpelled own classes
  pub system_spelled : AreSpelled system system_classes
  pub well_named : IsWellNamed classes system_classes
  pub means : program_meaning classes system_classes ≡ row_program
