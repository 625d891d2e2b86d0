-- The sections of a program: its functions, and with `bare` the opening texts of its files.
use Rattle.std.specs.Prelude.{ℕ, ◌+◌, ◌++◌, Bool, true, false, List, [], ◌∷◌, Option, Some, None, length}
use Rattle.std.specs.List.{list_any, filter_map}
use Rattle.std.specs.Str.{bytes_eq}
use Rattle.vm_tree.specs.declared.command.Line.{Line}
use Rattle.vm_tree.specs.declared.command.Command.{Command}
use Rattle.vm_tree.specs.declared.command.Command.TheVariants as command
use Rattle.vm_tree.specs.declared.program.Function.{Function}
use Rattle.vm_tree.specs.declared.program.File.{File}

-- A function of a file, or, without a name, the opening text of a file. Files are counted from 0, and all sections of a program,
-- in order of file and text, from 1.
pub record Section : Type 0 where
  pub file : ℕ
  pub number : ℕ
  pub name : Option (List ℕ)
  pub locals : ℕ
  pub lines : List Line

abbrev pub function_section : ℕ → ℕ → Function → Section
function_section k n f = record { file = k; number = n; name = Some f.name; locals = f.locals; lines = f.lines }

abbrev pub opening_section : ℕ → ℕ → File → Section
opening_section k n f = record { file = k; number = n; name = None; locals = 0; lines = f.opening }

-- functions of a file, numbered from n
abbrev pub functions_from : ℕ → ℕ → List Function → List Section
functions_from k n [] = []
functions_from k n (f ∷ fs) = function_section k n f ∷ functions_from k (n + 1) fs

-- the sections of a file, in order of text, numbered from n
abbrev pub file_sections : Bool → ℕ → ℕ → File → List Section
file_sections true k n f = opening_section k n f ∷ functions_from k (n + 1) f.functions
file_sections false k n f = functions_from k n f.functions

-- those of files that are counted from k
abbrev pub sections_from : Bool → ℕ → ℕ → List File → List Section
sections_from bare k n [] = []
sections_from bare k n (f ∷ fs) = file_sections bare k n f ++ sections_from bare (k + 1) (n + length (file_sections bare k n f)) fs

-- those of a program, in order of file and text
abbrev pub sections : Bool → List File → List Section
sections bare files = sections_from bare 0 1 files

-- the function of this name
abbrev pub has_name : List ℕ → Option (List ℕ) → Bool
has_name name None = false
has_name name (Some own) = bytes_eq name own

abbrev pub is_named : List ℕ → Section → Bool
is_named name s = has_name name s.name

-- what a command calls, goes to and marks
abbrev pub called_name : Command → Option (List ℕ)
called_name (command.Call name n) = Some name
called_name (command.Operate o) = None
called_name (command.Push s i) = None
called_name (command.Pop s i) = None
called_name (command.Label l) = None
called_name (command.Goto l) = None
called_name (command.IfGoto l) = None
called_name command.Return = None

abbrev pub target : Command → Option (List ℕ)
target (command.Goto l) = Some l
target (command.IfGoto l) = Some l
target (command.Call name n) = None
target (command.Operate o) = None
target (command.Push s i) = None
target (command.Pop s i) = None
target (command.Label l) = None
target command.Return = None

abbrev pub label : Command → Option (List ℕ)
label (command.Label l) = Some l
label (command.Goto l) = None
label (command.IfGoto l) = None
label (command.Call name n) = None
label (command.Operate o) = None
label (command.Push s i) = None
label (command.Pop s i) = None
label command.Return = None

-- the names that lines call, and the labels that stand there, in order of text
abbrev pub calls : List Line → List (List ℕ)
calls lines = filter_map (λ x. called_name x.command) lines

abbrev pub labels : List Line → List (List ℕ)
labels lines = filter_map (λ x. label x.command) lines

-- a name stands among names
abbrev pub stands_in : List (List ℕ) → List ℕ → Bool
stands_in names name = list_any (bytes_eq name) names
