-- The printed form of a program: one command a line, its words with one space between them (chapters 7 and 8).
use Rattle.std.specs.Prelude.{ℕ, ◌++◌, List, [], ◌∷◌, codes, decimal}
use Rattle.std.specs.List.{flat_map}
use Rattle.vm_tree.specs.declared.command.Operation.{Operation}
use Rattle.vm_tree.specs.declared.command.Operation.TheVariants as operation
use Rattle.vm_tree.specs.declared.command.Segment.{Segment}
use Rattle.vm_tree.specs.declared.command.Segment.TheVariants as segment
use Rattle.vm_tree.specs.declared.command.Command.{Command}
use Rattle.vm_tree.specs.declared.command.Command.TheVariants as command
use Rattle.vm_tree.specs.declared.command.Line.{Line}
use Rattle.vm_tree.specs.declared.program.Function.{Function}
use Rattle.vm_tree.specs.declared.program.File.{File}

abbrev pub operation_text : Operation → List ℕ
operation_text operation.Add = codes "add"
operation_text operation.Sub = codes "sub"
operation_text operation.Neg = codes "neg"
operation_text operation.Eq = codes "eq"
operation_text operation.Gt = codes "gt"
operation_text operation.Lt = codes "lt"
operation_text operation.And = codes "and"
operation_text operation.Or = codes "or"
operation_text operation.Not = codes "not"
operation_text operation.ShiftLeft = codes "shiftleft"
operation_text operation.ShiftRight = codes "shiftright"

abbrev pub segment_text : Segment → List ℕ
segment_text segment.Argument = codes "argument"
segment_text segment.Local = codes "local"
segment_text segment.Static = codes "static"
segment_text segment.Constant = codes "constant"
segment_text segment.This = codes "this"
segment_text segment.That = codes "that"
segment_text segment.Pointer = codes "pointer"
segment_text segment.Temp = codes "temp"

-- words with a number at the end of a line
abbrev pub with_number : List ℕ → List ℕ → ℕ → List ℕ
with_number first second n = first ++ (second ++ (32 ∷ (decimal n ++ 10 ∷ [])))

-- a command's line
abbrev pub command_text : Command → List ℕ
command_text (command.Operate o) = operation_text o ++ 10 ∷ []
command_text (command.Push s i) = with_number (codes "push ") (segment_text s) i
command_text (command.Pop s i) = with_number (codes "pop ") (segment_text s) i
command_text (command.Label l) = codes "label " ++ (l ++ 10 ∷ [])
command_text (command.Goto l) = codes "goto " ++ (l ++ 10 ∷ [])
command_text (command.IfGoto l) = codes "if-goto " ++ (l ++ 10 ∷ [])
command_text (command.Call name n) = with_number (codes "call ") name n
command_text command.Return = codes "return\n"

abbrev pub lines_text : List Line → List ℕ
lines_text lines = flat_map (λ x. command_text x.command) lines

abbrev pub function_text : Function → List ℕ
function_text f = with_number (codes "function ") f.name f.locals ++ lines_text f.lines

abbrev pub functions_text : List Function → List ℕ
functions_text fs = flat_map function_text fs

abbrev pub file_text : File → List ℕ
file_text f = lines_text f.opening ++ functions_text f.functions

abbrev pub program_text : List File → List ℕ
program_text files = flat_map file_text files

-- The line of a file is a comment. (The name of a class and of its file are one; a VM file ends in `.vm`, chapters 7 and 11.)
abbrev pub file_line : List ℕ → List ℕ
file_line name = codes "// file " ++ (name ++ codes ".vm\n")

abbrev pub named_text : File → List ℕ
named_text f = file_line f.name ++ file_text f

-- files, each after its line
abbrev pub files_text : List File → List ℕ
files_text files = flat_map named_text files
