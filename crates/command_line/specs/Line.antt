-- The command lines: which words are a line, and what the line asks for.
use Rattle.std.specs.Prelude.{◌≡◌, ◌≤◌, ℕ, Bool, true, false, List, [], Option, Some, None, codes, nat_eq, option_map, if◌then◌else◌}
use Rattle.std.specs.Borrow.{Bor}
use Rattle.std.specs.List.{ends_with}
use Rattle.std.specs.Str.Parse.{IsNumeral, digits_value}
use Rattle.clap.specs.Walk.{Row, Text, first_of, rows_of}
use Rattle.clap.specs.Matches.{found_of}
use Rattle.clap.specs.Simple.{subcommand_of}
use Rattle.clap.specs.Faults.{fault_of}
use Rattle.clap.specs.declared.parser.matches.ArgMatches.{ArgMatches}
use Rattle.command_line.specs.Point.{IsSubroutine, before, behind}
use Rattle.command_line.specs.Table.{table}
use Rattle.machine_io.specs.declared.report.Show.TheVariants as shows
use Rattle.command_line.specs.declared.request.MapFormat.{MapFormat}
use Rattle.command_line.specs.declared.request.MapFormat.TheVariants as formats
use Rattle.command_line.specs.declared.request.RunLevel.{RunLevel}
use Rattle.command_line.specs.declared.request.RunLevel.TheVariants as levels
use Rattle.command_line.specs.declared.request.Shown.{Shown}
use Rattle.command_line.specs.declared.request.Shown.TheVariants.{Words, Nets}
use Rattle.command_line.specs.declared.request.SourceKind.{SourceKind}
use Rattle.command_line.specs.declared.request.SourceKind.TheVariants as kinds
use Rattle.command_line.specs.declared.request.Source as code_source
use Rattle.command_line.specs.declared.request.ClassWork.{ClassWork as CodeClassWork}
use Rattle.command_line.specs.declared.request.ClassWork.TheVariants as class_work
use Rattle.command_line.specs.declared.request.FileWork.{FileWork as CodeFileWork}
use Rattle.command_line.specs.declared.request.FileWork.TheVariants as file_work
use Rattle.command_line.specs.declared.request.Request.{Request}
use Rattle.command_line.specs.declared.request.Request.TheVariants as request

-- ---- the lines, by what they read

-- Where the Jack classes of a program are read: a folder, and whether its classes take the place of those of the operating system that have their
-- names.
pub record Source : Type 0 where
  pub folder : Text
  pub replace : Bool

-- What is done with the Jack classes of a source: the commands `compile`, `build`, `map`, `run` and `debug`.
pub data ClassWork : Type 0 where
  compile : ClassWork
  build : ClassWork
  map_image : (format : MapFormat) → ClassWork
  run : (level : RunLevel) (cycles : ℕ) (keys : Option Text) → ClassWork
  debug : (sub : Text) (number cycles : ℕ) (keys : Option Text) → ClassWork

-- What is done with one file: the commands `asm`, `exec` and `show`.
pub data FileWork : Type 0 where
  asm : FileWork
  exec : (cycles from to : ℕ) → FileWork
  show : (kind : SourceKind) → FileWork

-- What a line asks for: a work with what it reads, or a command of its own, with its values. A path is the bytes of its word.
pub data Line : Type 0 where
  of_classes : (source : Source) (work : ClassWork) → Line
  of_file : (path : Text) (work : FileWork) → Line
  vm : (folder : Text) (bare : Bool) → Line
  chip : (name : Text) → Line
  test : (path : Text) (gates simplify : Bool) → Line
  soak : (seed count : ℕ) → Line

-- The key script of a work with classes, where it has one.
abbrev pub script_of : ClassWork → Option Text
script_of (run level cycles keys) = keys
script_of (debug sub number cycles keys) = keys
script_of work = None

-- The line is that of no test script, which alone is read as it goes.
abbrev pub IsNoTest : Line → Type 0
IsNoTest (test path gates simplify) = ⊥
IsNoTest line = Unit {0}

-- ---- the words of a line

-- One or more decimal digits and nothing else, which write a number of at most `most`.
pub record IsNumber (text : List ℕ) (most n : ℕ) : Type 0 where
  pub digits : IsNumeral 10 text
  pub value : digits_value 10 text ≡ n
  pub small : n ≤ most

-- The value that stands for `id` in the matches is the number n.
abbrev pub NumberIn : List Row → Text → ℕ → ℕ → Type 0
NumberIn rows id most n = (text : Text) × (first_of id rows ≡ Some text) × IsNumber text most n

-- The word of the statement of this number in the subroutine of this name: a colon stands between them.
pub record IsPointWord (word sub : Text) (number : ℕ) : Type 0 where
  pub is_sub : sub ≡ before 58 word
  pub named : IsSubroutine sub
  pub numbered : IsNumber (behind 58 word) 1000000000 number

-- The value of `--break` in the matches is the word of this statement.
abbrev pub PointIn : List Row → Text → ℕ → Type 0
PointIn rows sub number = (word : Text) × (first_of (codes "break") rows ≡ Some word) × IsPointWord word sub number

-- the words of the levels at which a program can be run
abbrev pub level_word : RunLevel → Text
level_word (levels.Jack words) = codes "jack"
level_word (levels.Vm words) = codes "vm"
level_word (levels.Hack words) = codes "hack"
level_word (levels.Gates shown) = codes "gates"
level_word (levels.Simplified words) = codes "gates"

-- The netlist is simplified: at level gates alone, where no parts are shown.
abbrev pub is_simplified : RunLevel → Bool
is_simplified (levels.Simplified words) = true
is_simplified level = false

-- What is shown after the report of a level: words of the memory, and at level gates alone the outputs of parts in their place.
abbrev pub shown_at : RunLevel → Shown
shown_at (levels.Jack words) = Words words
shown_at (levels.Vm words) = Words words
shown_at (levels.Hack words) = Words words
shown_at (levels.Gates shown) = shown
shown_at (levels.Simplified words) = Words words

-- the words for what is shown after a report
abbrev pub shown_word : Shown → Text
shown_word (Words shows.Nothing) = codes "none"
shown_word (Words shows.Heap) = codes "heap"
shown_word (Words shows.Screen) = codes "screen"
shown_word Nets = codes "nets"

-- the value that stands for an option that has no word of its own: whether it stands in the line
abbrev pub flag_word : Bool → Text
flag_word true = codes "true"
flag_word false = codes "false"

-- The kind of source that a path names: `.vm` ends the path of a VM text, `.jack` that of a Jack class, `.hdl` that of a
-- chip, and no other path is that of a source.
abbrev pub kind_of : Text → Option SourceKind
kind_of path =
    if ends_with nat_eq path (codes ".vm") then Some kinds.Vm
    else if ends_with nat_eq path (codes ".jack") then Some kinds.Jack
    else if ends_with nat_eq path (codes ".hdl") then Some kinds.Hdl
    else None

-- the numbers of the forms of a map
abbrev pub format_number : MapFormat → ℕ
format_number formats.Points = 1
format_number formats.Places = 2

-- the command of a line
abbrev pub class_command : ClassWork → Text
class_command compile = codes "compile"
class_command build = codes "build"
class_command (map_image format) = codes "map"
class_command (run level cycles keys) = codes "run"
class_command (debug sub number cycles keys) = codes "debug"

abbrev pub file_command : FileWork → Text
file_command asm = codes "asm"
file_command (exec cycles from to) = codes "exec"
file_command (show kind) = codes "show"

abbrev pub command_of : Line → Text
command_of (of_classes source work) = class_command work
command_of (of_file path work) = file_command work
command_of (vm folder bare) = codes "vm"
command_of (chip name) = codes "chip"
command_of (test path gates simplify) = codes "test"
command_of (soak seed count) = codes "soak"

-- The matches beside the folder are those of the work, and so of a work with one file.
abbrev pub HasClassWork : List Row → ClassWork → Type 0
HasClassWork rows (map_image format) = NumberIn rows (codes "format") 2 (format_number format)
HasClassWork rows (run level cycles keys) =
    (first_of (codes "level") rows ≡ Some (level_word level))
    × NumberIn rows (codes "cycles") 1000000000 cycles
    × (first_of (codes "keys") rows ≡ keys) × (first_of (codes "show") rows ≡ Some (shown_word (shown_at level)))
    × (first_of (codes "simplify") rows ≡ Some (flag_word (is_simplified level)))
HasClassWork rows (debug sub number cycles keys) =
    PointIn rows sub number × NumberIn rows (codes "cycles") 1000000000 cycles × (first_of (codes "keys") rows ≡ keys)
HasClassWork rows work = Unit {0}

abbrev pub HasFileWork : List Row → Text → FileWork → Type 0
HasFileWork rows path asm = Unit {0}
HasFileWork rows path (exec cycles from to) =
    NumberIn rows (codes "cycles") 1000000000 cycles
    × NumberIn rows (codes "from") 32767 from × NumberIn rows (codes "to") 32767 to
HasFileWork rows path (show kind) = kind_of path ≡ Some kind

-- The matches of a command are those of the line, beside its name.
abbrev pub HasValues : List Row → Line → Type 0
HasValues rows (of_classes source work) =
    (first_of (codes "path") rows ≡ Some source.folder) × (first_of (codes "replace") rows ≡ Some (flag_word source.replace))
    × HasClassWork rows work
HasValues rows (of_file path work) = (first_of (codes "path") rows ≡ Some path) × HasFileWork rows path work
HasValues rows (vm folder bare) = (first_of (codes "path") rows ≡ Some folder) × (first_of (codes "bare") rows ≡ Some (flag_word bare))
HasValues rows (chip name) = first_of (codes "name") rows ≡ Some name
HasValues rows (test path gates simplify) =
    (first_of (codes "path") rows ≡ Some path) × (first_of (codes "gates") rows ≡ Some (flag_word gates))
    × (first_of (codes "simplify") rows ≡ Some (flag_word simplify))
HasValues rows (soak seed count) = NumberIn rows (codes "seed") 1000000 seed × NumberIn rows (codes "count") 1000 count

-- The matches of the command `name` are those of the line: the table says which matches a command has.
abbrev pub IsReading : Text → List Row → Line → Type 0
IsReading name rows line = (name ≡ command_of line) × HasValues rows line

-- The words are the line: `clap` reads them by the table without a fault, as a command of the table
-- with its matches, and these are the line's. So words are no line where `clap` gives no matches, or
-- where a value in them is not one that its cell allows.
abbrev pub IsLine : List Text → Line → Type 0
IsLine words line =
    (fault_of table words ≡ []) × (name : Text) × (rows : List Row)
    × (subcommand_of table words ≡ Some (name, rows)) × IsReading name rows line

abbrev pub IsNoLine : List Text → Type 0
IsNoLine words = (line : Line) → ¬ IsLine words line

-- Words are at most one line.
abbrev pub AreOneLine : Type 0
AreOneLine = (words : List Text) (line other : Line) → IsLine words line → IsLine words other → line ≡ other

-- The numbers of a line are within their ranges.
abbrev pub IsInRange : Line → Type 0
IsInRange (of_classes source (run level cycles keys)) = cycles ≤ 1000000000
IsInRange (of_classes source (debug sub number cycles keys)) = (number ≤ 1000000000) × (cycles ≤ 1000000000)
IsInRange (of_file path (exec cycles from to)) = (cycles ≤ 1000000000) × (from ≤ 32767) × (to ≤ 32767)
IsInRange (soak seed count) = (seed ≤ 1000000) × (count ≤ 1000)
IsInRange line = Unit {0}

-- ---- the code's side

-- the source and the work that a request of the code names
abbrev pub source_of : code_source.Source → Source
source_of source = record { folder = source.folder.now; replace = source.replace }

abbrev pub class_work_of : CodeClassWork → ClassWork
class_work_of class_work.Compile = compile
class_work_of class_work.Build = build
class_work_of (class_work.Map format) = map_image format
class_work_of (class_work.Run r) = run r.level r.cycles (option_map (λ keys. keys.now) r.keys)
class_work_of (class_work.Debug d) = debug d.sub.now d.number d.cycles (option_map (λ keys. keys.now) d.keys)

abbrev pub file_work_of : CodeFileWork → FileWork
file_work_of file_work.Asm = asm
file_work_of (file_work.Exec e) = exec e.cycles e.from e.to
file_work_of (file_work.Show kind) = show kind

-- the line that it is
abbrev pub line_of : Request → Line
line_of (request.Classes source work) = of_classes (source_of source) (class_work_of work)
line_of (request.File path work) = of_file path.now (file_work_of work)
line_of (request.Vm folder bare) = vm folder.now bare
line_of (request.Chip name) = chip name.now
line_of (request.Test path gates simplify) = test path.now gates simplify
line_of (request.Soak seed count) = soak seed count

-- the matches of a command, as rows
abbrev pub rows_in : ArgMatches → List Row
rows_in m = rows_of (found_of m)

-- The request that is read of the matches of a command, or none where they are those of no line.
abbrev pub Reads : Text → List Row → Option Request → Type 0
Reads name rows (Some r) = IsReading name rows (line_of r)
Reads name rows None = (line : Line) → ¬ IsReading name rows line

-- the same of a number
abbrev pub ReadsNumber : List Row → Text → ℕ → Option ℕ → Type 0
ReadsNumber rows id most (Some n) = NumberIn rows id most n
ReadsNumber rows id most None = (n : ℕ) → ¬ NumberIn rows id most n

-- the same of a statement
abbrev pub ReadsPoint : List Row → Option (Bor Text × ℕ) → Type 0
ReadsPoint rows (Some (sub, number)) = PointIn rows sub.now number
ReadsPoint rows None = (sub : Text) (number : ℕ) → ¬ PointIn rows sub number

-- the same of the form of a map
abbrev pub ReadsFormat : List Row → Option MapFormat → Type 0
ReadsFormat rows (Some format) = NumberIn rows (codes "format") 2 (format_number format)
ReadsFormat rows None = (format : MapFormat) → ¬ NumberIn rows (codes "format") 2 (format_number format)

-- the form that has this number
abbrev pub IsFormatOf : ℕ → Option MapFormat → Type 0
IsFormatOf number (Some format) = number ≡ format_number format
IsFormatOf number None = (format : MapFormat) → ¬ (number ≡ format_number format)

-- the same of what is shown
abbrev pub ReadsShown : List Row → Option Shown → Type 0
ReadsShown rows (Some shown) = first_of (codes "show") rows ≡ Some (shown_word shown)
ReadsShown rows None = (shown : Shown) → ¬ (first_of (codes "show") rows ≡ Some (shown_word shown))

-- the same of a level with what is shown
abbrev pub HasLevel : List Row → RunLevel → Type 0
HasLevel rows level =
    (first_of (codes "level") rows ≡ Some (level_word level)) × (first_of (codes "show") rows ≡ Some (shown_word (shown_at level)))
    × (first_of (codes "simplify") rows ≡ Some (flag_word (is_simplified level)))

abbrev pub ReadsLevel : List Row → Option RunLevel → Type 0
ReadsLevel rows (Some level) = HasLevel rows level
ReadsLevel rows None = (level : RunLevel) → ¬ HasLevel rows level

-- the level that has this word and shows this, simplified or not
abbrev pub IsLevelOf : Text → Shown → Bool → Option RunLevel → Type 0
IsLevelOf word shown simplify (Some level) = (word ≡ level_word level) × (shown ≡ shown_at level) × (simplify ≡ is_simplified level)
IsLevelOf word shown simplify None = (level : RunLevel) → ¬ ((word ≡ level_word level) × (shown ≡ shown_at level) × (simplify ≡ is_simplified level))

abbrev pub ReadsFlag : List Row → Text → Option Bool → Type 0
ReadsFlag rows id (Some stands) = first_of id rows ≡ Some (flag_word stands)
ReadsFlag rows id None = (stands : Bool) → ¬ (first_of id rows ≡ Some (flag_word stands))
