-- VM files with as many static words as there is room for, and a program with as many words of budget, by computation.
use Rattle.std.specs.Prelude.{ℕ, false, List, [], ◌∷◌, codes, replicate}
use Rattle.vm_tree.specs.declared.command.Command.{Command}
use Rattle.vm_tree.specs.declared.command.Command.TheVariants as command
use Rattle.vm_tree.specs.declared.command.Line.{Line}
use Rattle.vm_tree.specs.declared.command.Segment.TheVariants as segment
use Rattle.vm_tree.specs.declared.program.File.{File}
use Rattle.jack_meaning.specs.Text.{Binary, Expression, Let, Local, Minus, Plus, Statement, Unary, While, text_of}
use Rattle.tower.specs.Budget.{IsBudget}
use Rattle.tower.specs.BudgetRows.{local, repeated_program}
use Rattle.nand_cli.specs.Complete.{HasFewStatics, HasSmallBudget, HasStatics}

abbrev pub line : Command → Line
line c = record { command = c; statement = 0; commit = false }

-- Main.vm: Main.main names its static 138, and Main.other, which nothing calls, its static 200
abbrev pub main_file : File
main_file = record {
  name = codes "Main";
  opening = [];
  functions =
      record { name = codes "Main.main"; locals = 0; lines = line (command.Pop segment.Static 138) ∷ line (command.Push segment.Static 3) ∷ [] }
      ∷ record { name = codes "Main.other"; locals = 0; lines = line (command.Push segment.Static 200) ∷ [] }
      ∷ [];
}

-- Sys.vm: Sys.init names its static of this number and calls Main.main
abbrev pub sys_file : ℕ → File
sys_file k = record {
  name = codes "Sys";
  opening = [];
  functions = record { name = codes "Sys.init"; locals = 0; lines = line (command.Push segment.Static k) ∷ line (command.Call (codes "Main.main") 0) ∷ [] } ∷ [];
}

abbrev pub two_files : ℕ → List File
two_files k = main_file ∷ sys_file k ∷ []

abbrev pub plus_a : Expression → Expression
plus_a e = Binary Plus (local 0) e

abbrev pub minus : Expression → Expression
minus e = Unary Minus e

-- while (-a) { .. }, where `let i = ---(a + (a + (a + (a + (a + a)))));` stands this many times
abbrev pub filling : ℕ → Statement
filling n = While 1 (minus (local 0)) (text_of (replicate n (Let 2 (Local 1) (minus (minus (minus (plus_a (plus_a (plus_a (plus_a (plus_a (local 0))))))))))))

pub record CompleteRows : Type 0 where
  -- 139 words of Main.vm and 101 of Sys.vm are as many as there are,
  pub statics : HasStatics (two_files 100) 240
  pub few : HasFewStatics (two_files 100)
  -- and these are one more
  pub one_more : HasStatics (two_files 101) 241
  -- 32,768 words of budget are within the room
  pub budget : IsBudget (repeated_program 1 (filling 324)) 32768
  pub small : HasSmallBudget (repeated_program 1 (filling 324))
