-- What is added to a body.
use Rattle.std.specs.Prelude.{◌≡◌, ◌+◌, ◌<◌, ◌++◌, ◌==◌, ℕ, List, [], ◌∷◌, length, get_or, if◌then◌else◌}
use Rattle.vm_tree.specs.declared.program.Function.{Function}
use Rattle.vm_tree.specs.declared.program.File.{File}
use Rattle.vm_tree.specs.declared.command.Segment.TheVariants as segment
use Rattle.vm_tree.specs.declared.command.Command.{Command}
use Rattle.vm_tree.specs.declared.command.Command.TheVariants as command
use Rattle.jack_meaning.specs.Text.{Statement, Let, LetField, LetThis, Store, Do, Text, Class, Subroutine}
use Rattle.jack_compiler.specs.Lines.{Around, pop_variable, statement_lines, text_lines, ifs_of, ifs_in, whiles_of, whiles_in}
use Rattle.jack_compiler.specs.Files.{function_of, functions_of, around_class, file_of}
use Rattle.jack_compiler.specs.declared.bodies.Body.{Body}

-- the command that takes a statement's value; a choice and a loop end in a label, and any will do
abbrev pub last_command : Around → Statement → Command
last_command around (Let n x e) = pop_variable around x
last_command around (LetField n k e) = command.Pop segment.This k
last_command around (LetThis n e) = command.Pop segment.Pointer 0
last_command around (Store n a i e) = command.Pop segment.That 0
last_command around (Do n e) = command.Pop segment.Temp 0
last_command around _ = command.Return

-- the lines of a statement and of a text, with their labels counted
pub record Adds (around : Around) (next : ℕ) (s : Statement) (old new : Body) : Type 0 where
  pub lines : new.lines ≡ old.lines ++ statement_lines around next old.ifs old.whiles s
  pub ifs : new.ifs ≡ old.ifs + ifs_of s
  pub whiles : new.whiles ≡ old.whiles + whiles_of s

pub record AddsText (around : Around) (next : ℕ) (t : Text) (old new : Body) : Type 0 where
  pub lines : new.lines ≡ old.lines ++ text_lines around next old.ifs old.whiles t
  pub ifs : new.ifs ≡ old.ifs + ifs_in t
  pub whiles : new.whiles ≡ old.whiles + whiles_in t

abbrev pub no_file : File
no_file = record { name = []; opening = []; functions = [] }

-- a file with more functions
abbrev pub with_more : File → List Function → File
with_more file functions = record file { functions = file.functions ++ functions }

-- The function of a subroutine comes to the file of its class.
pub record AddsFunction (around : Around) (number : ℕ) (sub : Subroutine) (old new : List File) : Type 0 where
  pub count : length new ≡ length old
  pub each : (k : ℕ) → k < length old → get_or new k no_file ≡ with_more (get_or old k no_file)
      (if sub.class == k then function_of around number sub ∷ [] else [])

-- These are the files of the classes, with the functions among subroutines that are numbered from 1.
pub record AreFiles (classes : List Class) (names class_names : List (List ℕ)) (subs : List Subroutine) (files : List File) : Type 0 where
  pub count : length files ≡ length classes
  pub each : (k : ℕ) → k < length classes → get_or files k no_file
      ≡ file_of (get_or class_names k []) (functions_of (around_class classes names k) k 1 subs)
