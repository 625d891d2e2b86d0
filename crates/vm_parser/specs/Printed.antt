-- The files whose printed form spells them again.
use Rattle.std.specs.Prelude.{ℕ, Bool, true, false, List, [], ◌∷◌, ◌&&◌, nat_le, map}
use Rattle.vm_tree.specs.declared.command.Command.{Command}
use Rattle.vm_tree.specs.declared.command.Command.TheVariants as command
use Rattle.vm_tree.specs.declared.command.Line.{Line}
use Rattle.vm_tree.specs.declared.program.Function.{Function}
use Rattle.vm_tree.specs.declared.program.File.{File}
use Rattle.vm_parser.specs.Tokens.{begins_name, is_name_byte}
use Rattle.vm_parser.specs.Grammar.{may_come, most_of, greatest}
use Rattle.vm_parser.specs.Trees.{read_line}

abbrev pub all : {A : Type 0} → (A → Bool) → List A → Bool
all test [] = true
all test (x ∷ xs) = test x && all test xs

-- bytes of names, the first no digit
abbrev pub is_text_of_name : List ℕ → Bool
is_text_of_name [] = false
is_text_of_name (b ∷ bs) = begins_name b && all is_name_byte bs

-- names are names, indices are in their segments, numbers are at most 32,767, and nothing is popped to `constant`
abbrev pub can_be_written : Command → Bool
can_be_written (command.Operate o) = true
can_be_written (command.Push g i) = nat_le i (most_of g)
can_be_written (command.Pop g i) = may_come false g && nat_le i (most_of g)
can_be_written (command.Label l) = is_text_of_name l
can_be_written (command.Goto l) = is_text_of_name l
can_be_written (command.IfGoto l) = is_text_of_name l
can_be_written (command.Call f n) = is_text_of_name f && nat_le n greatest
can_be_written command.Return = true

abbrev pub line_can : Line → Bool
line_can l = can_be_written l.command

abbrev pub function_can : Function → Bool
function_can f = is_text_of_name f.name && (nat_le f.locals greatest && all line_can f.lines)

-- without `bare` nothing stands before the first function
abbrev pub opening_can : Bool → List Line → Bool
opening_can true ls = all line_can ls
opening_can false [] = true
opening_can false (l ∷ ls) = false

abbrev pub file_can : Bool → File → Bool
file_can bare f = opening_can bare f.opening && all function_can f.functions

-- what is left of a file when it is printed: no line has a statement or is a commit
abbrev pub read_lines : List Line → List Line
read_lines ls = map (λ l. read_line l.command) ls

abbrev pub read_function : Function → Function
read_function f = record { name = f.name; locals = f.locals; lines = read_lines f.lines }

abbrev pub read_file : File → File
read_file f = record { name = f.name; opening = read_lines f.opening; functions = map read_function f.functions }
