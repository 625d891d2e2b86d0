-- What the machine asks of a program. (Chapter 9: a subroutine that is called is one of some class.)
use Rattle.std.specs.Prelude.{◌<◌, ℕ, length}
use Rattle.jack_meaning.specs.Text.{Program}
use Rattle.jack_meaning.specs.Linked.{IsLinked}

-- Each subroutine that the program can come to is there.
abbrev pub CallsAreThere : Program → Type 0
CallsAreThere program = (g : ℕ) → IsLinked program g → g < length program.subroutines
