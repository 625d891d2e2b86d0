-- What linked code is: calls by number, labels by place, statics by number.
use Rattle.std.specs.Prelude.{ℕ, ◌+◌, ◌++◌, Bool, false, List, [], ◌∷◌, Option, Some, None, option_map, map, unwrap_or, is_some, if◌then◌else◌}
use Rattle.std.specs.List.{position_from, filter_map, list_any}
use Rattle.vm_tree.specs.declared.command.Line.{Line}
use Rattle.vm_tree.specs.declared.command.Command.{Command}
use Rattle.vm_tree.specs.declared.command.Command.TheVariants as command
use Rattle.vm_tree.specs.declared.command.Segment.{Segment}
use Rattle.vm_tree.specs.declared.command.Segment.TheVariants as segment
use Rattle.vm_tree.specs.declared.program.File.{File}
use Rattle.vm_link.specs.declared.linked.Step.{Step}
use Rattle.vm_link.specs.declared.linked.Step.TheVariants as step
use Rattle.vm_link.specs.declared.linked.Code.{Code}
use Rattle.vm_link.specs.declared.linked.LinkedFunction.{LinkedFunction}
use Rattle.vm_link.specs.declared.linked.LinkedFile.{LinkedFile}
use Rattle.vm_link.specs.declared.linked.Linked.{Linked}
use Rattle.vm_link.specs.Sections.{Section, is_named, has_name, label}
use Rattle.vm_link.specs.Faults.{sys_init, file_words, words_before}

-- a label is no step
abbrev pub steps : Command → ℕ
steps c = if is_some (label c) then 0 else 1

-- the place of a label among lines, the first of which has this place
abbrev pub label_place : List ℕ → ℕ → List Line → Option ℕ
label_place l at [] = None
label_place l at (x ∷ xs) = if has_name l (label x.command) then Some at else label_place l (at + steps x.command) xs

-- the place of a section's first line: a function's `function` line stands before it
abbrev pub first_place : Section → ℕ
first_place s = if is_some s.name then 1 else 0

abbrev pub place_in : Section → List ℕ → ℕ
place_in s l = unwrap_or (label_place l (first_place s) s.lines) 0

-- the number of a function among the kept sections
abbrev pub number_in : List Section → List ℕ → ℕ
number_in kept name = unwrap_or (position_from (is_named name) 0 kept) 0

-- a static has its number among the words of all files, those of the files before its own first
abbrev pub index_in : ℕ → Segment → ℕ → ℕ
index_in before segment.Static i = before + i
index_in before segment.Argument i = i
index_in before segment.Local i = i
index_in before segment.Constant i = i
index_in before segment.This i = i
index_in before segment.That i = i
index_in before segment.Pointer i = i
index_in before segment.Temp i = i

abbrev pub step_of : List Section → Section → Command → Option Step
step_of kept s (command.Operate o) = Some (step.Operate o)
step_of kept s (command.Push g i) = Some (step.Push g (index_in (words_before kept s.file) g i))
step_of kept s (command.Pop g i) = Some (step.Pop g (index_in (words_before kept s.file) g i))
step_of kept s (command.Label l) = None
step_of kept s (command.Goto l) = Some (step.Goto (place_in s l))
step_of kept s (command.IfGoto l) = Some (step.IfGoto (place_in s l))
step_of kept s (command.Call name n) = Some (step.Call (number_in kept name) n)
step_of kept s command.Return = Some step.Return

abbrev pub code_of : List Section → Section → Line → Option Code
code_of kept s x = option_map (λ c. record { step = c; statement = x.statement; commit = x.commit }) (step_of kept s x.command)

-- the `function` line, which belongs to the first statement
abbrev pub first_statement : List Line → ℕ
first_statement [] = 0
first_statement (x ∷ xs) = x.statement

abbrev pub entry_of : Option (List ℕ) → ℕ → List Line → List Code
entry_of None locals lines = []
entry_of (Some name) locals lines = record { step = step.Function locals; statement = first_statement lines; commit = false } ∷ []

abbrev pub function_of : List Section → Section → LinkedFunction
function_of kept s = record {
  name = unwrap_or s.name [];
  file = s.file;
  number = s.number;
  code = entry_of s.name s.locals s.lines ++ filter_map (code_of kept s) s.lines;
}

-- Some line is a commit, as in a program that a compiler has made. In one that is read from text none is.
abbrev pub is_marked : List Section → Bool
is_marked kept = list_any (λ s. list_any (λ x. x.commit) s.lines) kept

-- the files, which are counted from k
abbrev pub files_from : List Section → ℕ → List File → List LinkedFile
files_from kept k [] = []
files_from kept k (f ∷ fs) = record { name = f.name; statics = file_words kept k } ∷ files_from kept (k + 1) fs

abbrev pub linked_of : Bool → List File → List Section → Linked
linked_of bare files kept = record {
  functions = map (function_of kept) kept;
  files = files_from kept 0 files;
  start = position_from (is_named sys_init) 0 kept;
  bare = bare;
  marked = is_marked kept;
}
