-- What else of the shipped texts is fixed: how the system starts, and the static of Memory. (The book, chapter 12.)
use Rattle.std.specs.Prelude.{◌≡◌, ℕ, ◌++◌, List, [], ◌∷◌, Option, Some, None, codes, map, if◌then◌else◌}
use Rattle.std.specs.Str.{bytes_eq}
use Rattle.jack_tree.specs.Syntax.{Class, ClassFile, ClassVariables, Name, Scope, Static, Subroutine, ValueType, Int, Char, Boolean, Object}
use Rattle.jack_os.specs.RoutineTexts.{IsTextOf}
use Rattle.jack_os.specs.System.{AreFilesOf, system}

-- Memory comes first, since all others take memory, and Main.main last; after it the computer stands still.
abbrev pub sys_init_text : List ℕ
sys_init_text =
    codes "function void init() { do Memory.init(); do Math.init(); do Screen.init(); do Output.init(); do Keyboard.init(); "
    ++ codes "do Main.main(); do Sys.halt(); return; }"

-- the class of a name, and its subroutine of a name
abbrev pub class_named : List ClassFile → List ℕ → Option Class
class_named [] name = None
class_named (c ∷ cs) name = if bytes_eq name c.class.name.text then Some c.class else class_named cs name

abbrev pub subroutine_named : List Subroutine → List ℕ → Option Subroutine
subroutine_named [] name = None
subroutine_named (s ∷ ss) name = if bytes_eq name s.name.text then Some s else subroutine_named ss name

abbrev pub subroutines_of : Option Class → List Subroutine
subroutines_of None = []
subroutines_of (Some c) = c.subroutines

abbrev pub variables_of : Option Class → List ClassVariables
variables_of None = []
variables_of (Some c) = c.variables

abbrev pub subroutine_in : List ClassFile → List ℕ → List ℕ → Option Subroutine
subroutine_in cs class name = subroutine_named (subroutines_of (class_named cs class)) name

-- a declaration without its places
abbrev pub type_text : ValueType → List ℕ
type_text Int = codes "int"
type_text Char = codes "char"
type_text Boolean = codes "boolean"
type_text (Object n) = n.text

abbrev pub declaration_of : ClassVariables → Scope × List ℕ × List (List ℕ)
declaration_of v = (v.scope, type_text v.type, v.names.first.text ∷ map (λ (n : Name). n.text) v.names.more)

-- In the classes that the texts spell, `Sys.init` has the tokens of this text, and Memory declares `static Array free;`
-- and nothing else.
pub record FixedTextsLaw : Type 0 where
  pub sys_init : (cs : List ClassFile) → AreFilesOf system cs → (s : Subroutine)
      × (subroutine_in cs (codes "Sys") (codes "init") ≡ Some s) × IsTextOf s sys_init_text
  pub free : (cs : List ClassFile)
      → AreFilesOf system cs → map declaration_of (variables_of (class_named cs (codes "Memory")))
      ≡ (Static, codes "Array", codes "free" ∷ []) ∷ []
