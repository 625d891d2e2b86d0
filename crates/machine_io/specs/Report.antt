-- The text of a report.
use Rattle.std.specs.Prelude.{ℕ, ◌-◌, false, List, [], ◌∷◌, ◌++◌, codes, decimal}
use Rattle.word16.specs.Memory.{heap, screen}
use Rattle.machine_io.specs.declared.driving.End.{End}
use Rattle.machine_io.specs.declared.driving.End.TheVariants as ends
use Rattle.machine_io.specs.declared.machine.Stray.{Stray}
use Rattle.machine_io.specs.declared.machine.Stray.TheVariants as strays
use Rattle.machine_io.specs.declared.report.LevelName.{LevelName}
use Rattle.machine_io.specs.declared.report.LevelName.TheVariants as levels
use Rattle.machine_io.specs.declared.report.Show.{Show}
use Rattle.machine_io.specs.declared.report.Show.TheVariants as shows
use Rattle.machine_io.specs.Words.{words_text}
use Rattle.machine_io.specs.Screen.{screen_text}

abbrev pub level_name : LevelName → List ℕ
level_name levels.Jack = codes "jack"
level_name levels.Vm = codes "vm"
level_name levels.Hack = codes "hack"
level_name levels.Gates = codes "gates"

-- an address without a sign, or a word
abbrev pub stray_text : Stray → List ℕ
stray_text (strays.Address a) = decimal a
stray_text strays.Values = codes "values"
stray_text strays.Argument = codes "argument"
stray_text strays.Local = codes "local"
stray_text strays.Code = codes "code"

abbrev pub end_text : End → List ℕ
end_text ends.Bound = codes "bound"
end_text ends.Done = codes "done"
end_text (ends.Stray s) = codes "stray " ++ stray_text s
end_text (ends.Full w) = codes "full " ++ decimal w

-- a line of a word and what is said of it
abbrev pub said_line : List ℕ → List ℕ → List ℕ
said_line word text = word ++ 32 ∷ (text ++ 10 ∷ [])

abbrev pub counts_text : LevelName → ℕ → ℕ → List ℕ
counts_text level moves steps =
    said_line (codes "level") (level_name level) ++ said_line (codes "moves") (decimal moves) ++ said_line (codes "steps") (decimal steps)

-- the five lines that each report begins with
abbrev pub head_text : LevelName → ℕ → ℕ → List ℕ → ℕ → End → List ℕ
head_text level moves steps subroutine statement end =
    counts_text level moves steps ++ said_line (codes "point") (subroutine ++ 32 ∷ decimal statement) ++ said_line (codes "end") (end_text end)

-- what is shown of the words of heap and screen
abbrev pub shown_text : Show → (ℕ → ℕ) → List ℕ
shown_text shows.Nothing word = []
shown_text shows.Heap word = words_text word false heap (screen - 1)
shown_text shows.Screen word = screen_text word

abbrev pub report_text : LevelName → ℕ → ℕ → List ℕ → ℕ → End → Show → (ℕ → ℕ) → List ℕ
report_text level moves steps subroutine statement end show word = head_text level moves steps subroutine statement end ++ shown_text show word
