-- What is wrong with a program, and which fault is reported first.
use Rattle.std.specs.Prelude.{ℕ, ◌+◌, ◌-◌, ◌^◌, ◌++◌, ◌==◌, ◌||◌, Bool, List, [], ◌∷◌, Option, Some, None, option_map, max, min, codes, nat_lt, zero, suc, if◌then◌else◌}
use Rattle.std.specs.List.{list_any, filter_map}
use Rattle.std.specs.Option.{option_or}
use Rattle.vm_tree.specs.declared.command.Line.{Line}
use Rattle.vm_tree.specs.declared.command.Command.{Command}
use Rattle.vm_tree.specs.declared.command.Command.TheVariants as command
use Rattle.vm_tree.specs.declared.command.Segment.{Segment}
use Rattle.vm_tree.specs.declared.command.Segment.TheVariants as segment
use Rattle.vm_link.specs.declared.fault.LinkFault.{LinkFault}
use Rattle.vm_link.specs.declared.fault.LinkFault.TheVariants.{NoFunction, TwiceDefined, NoLabel, LabelTwice, NoSysInit, TooManyStatics}
use Rattle.vm_link.specs.Sections.{Section, is_named, called_name, target, labels, stands_in}

-- where a program starts
abbrev pub sys_init : List ℕ
sys_init = codes "Sys.init"

-- the first name that stands in a list before itself, where these names stand before the list
abbrev pub repeat_after : List (List ℕ) → List (List ℕ) → Option (List ℕ)
repeat_after before [] = None
repeat_after before (name ∷ names) = if stands_in before name then Some name else repeat_after (before ++ name ∷ []) names

abbrev pub first_repeat : List (List ℕ) → Option (List ℕ)
first_repeat names = repeat_after [] names

-- what the first item gives that gives something
abbrev pub first_of : {A : Type 0} → (A → Option (List ℕ)) → List A → Option (List ℕ)
first_of f [] = None
first_of f (x ∷ xs) = option_or (f x) (first_of f xs)

-- a name that is not there
abbrev pub lacking : (List ℕ → Bool) → Option (List ℕ) → Option (List ℕ)
lacking is_there None = None
lacking is_there (Some name) = if is_there name then None else Some name

-- the names of the functions, in order of file and text
abbrev pub names : List Section → List (List ℕ)
names ss = filter_map (λ s. s.name) ss

-- the first label that stands twice in a section
abbrev pub label_twice : Section → Option (List ℕ)
label_twice s = first_repeat (labels s.lines)

-- the first label that a section goes to and has not
abbrev pub no_label : Section → Option (List ℕ)
no_label s = first_of (λ x. lacking (stands_in (labels s.lines)) (target x.command)) s.lines

-- the first name that a section calls and no function has
abbrev pub no_function : List Section → Section → Option (List ℕ)
no_function ss s = first_of (λ x. lacking (λ f. list_any (is_named f) ss) (called_name x.command)) s.lines

abbrev pub no_start : Bool → List Section → Option LinkFault
no_start bare ss = if bare || list_any (is_named sys_init) ss then None else Some NoSysInit

-- The faults of all sections, the first of its kind in order of file and text. A function twice defined comes before
-- a label that stands twice, this before a label that is not there, and this before a missing start.
abbrev pub text_fault : Bool → List Section → Option LinkFault
text_fault bare ss =
    option_or (option_map TwiceDefined (first_repeat (names ss)))
    (option_or (option_map LabelTwice (first_of label_twice ss))
    (option_or (option_map NoLabel (first_of no_label ss))
    (no_start bare ss)))

-- one more than the index, where a static is named
abbrev pub words_at : Segment → ℕ → ℕ
words_at segment.Static i = i + 1
words_at segment.Argument i = 0
words_at segment.Local i = 0
words_at segment.Constant i = 0
words_at segment.This i = 0
words_at segment.That i = 0
words_at segment.Pointer i = 0
words_at segment.Temp i = 0

abbrev pub static_words : Command → ℕ
static_words (command.Push s i) = words_at s i
static_words (command.Pop s i) = words_at s i
static_words (command.Operate o) = 0
static_words (command.Label l) = 0
static_words (command.Goto l) = 0
static_words (command.IfGoto l) = 0
static_words (command.Call name n) = 0
static_words command.Return = 0

-- one more than the greatest static index that lines name, 0 where they name none
abbrev pub words_of_lines : List Line → ℕ
words_of_lines [] = 0
words_of_lines (x ∷ xs) = max (static_words x.command) (words_of_lines xs)

-- the same of the sections of a file
abbrev pub file_words : List Section → ℕ → ℕ
file_words [] k = 0
file_words (s ∷ ss) k = if s.file == k then max (words_of_lines s.lines) (file_words ss k) else file_words ss k

-- the static words of the first n files
abbrev pub words_before : List Section → ℕ → ℕ
words_before ss zero = 0
words_before ss (suc n) = words_before ss n + file_words ss n

-- more than the 240 words that there are
abbrev pub too_many : ℕ → Option LinkFault
too_many n = if nat_lt 240 n then Some (TooManyStatics (min n (2 ^ 64 - 1))) else None

-- The faults of the kept sections: a function that is called and not there comes before too many statics.
abbrev pub kept_fault : ℕ → List Section → List Section → Option LinkFault
kept_fault files ss kept =
    option_or (option_map NoFunction (first_of (no_function ss) kept)) (too_many (words_before kept files))
