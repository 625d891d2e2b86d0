-- Small programs with two faults each, of which the first is reported, and one without, by
-- computation.
use Rattle.std.specs.Prelude.{◌≡◌, ℕ, false, List, [], ◌∷◌, Some, None, codes, map}
use Rattle.vm_tree.specs.declared.command.Line.{Line}
use Rattle.vm_tree.specs.declared.command.Command.{Command}
use Rattle.vm_tree.specs.declared.command.Command.TheVariants as command
use Rattle.vm_tree.specs.declared.command.Segment.TheVariants as segment
use Rattle.vm_link.specs.declared.fault.LinkFault.TheVariants.{NoFunction, TwiceDefined, NoLabel, LabelTwice, NoSysInit, TooManyStatics}
use Rattle.vm_link.specs.Faults.{kept_fault, sys_init, text_fault}
use Rattle.vm_link.specs.Sections.{Section}

abbrev pub line : Command → Line
line c = record { command = c; statement = 0; commit = false }

-- the function of a number and name, in file 0
abbrev pub function : ℕ → List ℕ → List Command → Section
function number name commands = record { file = 0; number = number; name = Some name; locals = 0; lines = map line commands }

abbrev pub f : List ℕ
f = codes "Main.f"

abbrev pub a : List ℕ
a = codes "A"

abbrev pub b : List ℕ
b = codes "B"

-- label A, label A, goto B
abbrev pub two_labels : List Command
two_labels = command.Label a ∷ command.Label a ∷ command.Goto b ∷ []

-- goto A, label A, if-goto B
abbrev pub nowhere : List Command
nowhere = command.Goto a ∷ command.Label a ∷ command.IfGoto b ∷ []

-- call Main.g 0, push static 240
abbrev pub calls_none : List Command
calls_none = command.Call (codes "Main.g") 0 ∷ command.Push segment.Static 240 ∷ []

abbrev pub start : List Command → List Section
start commands = function 1 sys_init commands ∷ []

pub record LinkRows : Type 0 where
  pub twice_defined : text_fault false (function 1 f two_labels ∷ function 2 f [] ∷ [])
      ≡ Some (TwiceDefined f)
  pub label_twice : text_fault false (function 1 f two_labels ∷ []) ≡ Some (LabelTwice a)
  pub no_label : text_fault false (function 1 f nowhere ∷ []) ≡ Some (NoLabel b)
  pub no_start : text_fault false (function 1 f [] ∷ []) ≡ Some NoSysInit
  pub none : text_fault false (start calls_none) ≡ None
  pub no_function : kept_fault 1 (start calls_none) (start calls_none)
      ≡ Some (NoFunction (codes "Main.g"))
  pub too_many : kept_fault 1 (start (command.Push segment.Static 240 ∷ []))
      (start (command.Push segment.Static 240 ∷ [])) ≡ Some (TooManyStatics 241)
