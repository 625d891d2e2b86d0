-- Over known files a line that is no test script prints at most one thing, is refused for at most one, and not both. It
-- does neither where its folder is there and something else that it reads is not.
use Rattle.std.specs.Prelude.{◌≡◌, ℕ, Bool, true, List, Some}
use Rattle.outer_world.specs.Files.{Files}
use Rattle.jack_core.specs.declared.program.Core.{Core}
use Rattle.tower.specs.OneProgram.{SameProgram}
use Rattle.script_laws.specs.Exact.{SameButNets}
use Rattle.command_line.specs.Line.{ClassWork, FileWork, IsNoTest, Line, Source, chip, of_classes, of_file, run, soak, test, vm}
use Rattle.command_line.specs.declared.request.RunLevel.{RunLevel}
use Rattle.command_line.specs.declared.request.RunLevel.TheVariants.{Gates}
use Rattle.command_line.specs.declared.request.Shown.TheVariants.{Nets}
use Rattle.nand_cli.specs.Answer.{Disagrees, Lacks, Prints, Refuses}
use Rattle.nand_cli.specs.Commands.Test.{script_at}
use Rattle.nand_cli.specs.JackFolder.{FolderMeans}

-- What is shown at the level is one text. The outputs of parts are those of some behaviour of the Computer; that it has
-- no other is not claimed.
abbrev pub ShowsOneText : RunLevel → Type 0
ShowsOneText (Gates Nets) = ⊥
ShowsOneText level = Unit {0}

abbrev pub HasOneText : Line → Type 0
HasOneText (of_classes source (run level cycles keys)) = ShowsOneText level
HasOneText line = Unit {0}

-- The folder that a line names is there, be it empty; a line that names a file alone wants none.
abbrev pub HasFolder : (List ℕ → Bool) → Line → Type 0
HasFolder there (of_classes source work) = there source.folder ≡ true
HasFolder there (vm folder bare) = there folder ≡ true
HasFolder there line = Unit {0}

-- Over these files let the line show one text. Then it prints at most one thing on out and on err, is refused with at
-- most one, and is not both done and refused. Where its folder is there and something that it reads is not, it is
-- neither: so an honest shelf leaves no choice among Done, Refused and ReadFault. (A folder that is not there may be
-- read as an empty one.)
pub record IsExact (files : Files) (line : Line) : Type 0 where
  pub prints : HasOneText line → (out err out' err' : List ℕ) → Prints (Some files) line out err
      → Prints (Some files) line out' err' → (out ≡ out') × (err ≡ err')
  pub refuses : (out before told out' before' told' : List ℕ)
      → Refuses (Some files) line out before told → Refuses (Some files) line out' before' told'
      → (out ≡ out') × (told ≡ told') × (before ≡ before')
  pub apart : (out err out' before told : List ℕ) → Prints (Some files) line out err
      → Refuses (Some files) line out' before told → ⊥
  pub lacking : (there : List ℕ → Bool)
      → HasFolder there line → Lacks there files line → (out before told : List ℕ)
      → (Prints (Some files) line out before → ⊥) × (Refuses (Some files) line out before told → ⊥)

-- by what a line reads
abbrev pub ClassesExactLaw : Type 0
ClassesExactLaw = (files : Files) (source : Source) (work : ClassWork) → IsExact files (of_classes source work)

abbrev pub FileExactLaw : Type 0
FileExactLaw = (files : Files) (path : List ℕ) (work : FileWork) → IsExact files (of_file path work)

abbrev pub VmExactLaw : Type 0
VmExactLaw = (files : Files) (folder : List ℕ) (bare : Bool) → IsExact files (vm folder bare)

abbrev pub ChipExactLaw : Type 0
ChipExactLaw = (files : Files) (name : List ℕ) → IsExact files (chip name)

abbrev pub SoakExactLaw : Type 0
SoakExactLaw = (files : Files) (seed count : ℕ) → IsExact files (soak seed count)

-- Over these files let the line be one of `test`. Then its script prints at most one thing on out and on err. It is
-- refused with at most one line, but for the nets of a loop, and differs in at most one line. It is not two of done,
-- refused and different.
pub record TestIsExact (files : Files) (path : List ℕ) (gates simplify : Bool) : Type 0 where
  pub prints : (out err out' err' : List ℕ) → Prints (Some files) (test path gates simplify) out err
      → Prints (Some files) (test path gates simplify) out' err' → (out ≡ out') × (err ≡ err')
  pub refuses : (out before told out' before' told' : List ℕ)
      → Refuses (Some files) (test path gates simplify) out before told
      → Refuses (Some files) (test path gates simplify) out' before' told' → (out ≡ out')
      × (before ≡ before') × SameButNets (script_at (Some files) path gates) told told'
  pub differs : (out before told out' before' told' : List ℕ)
      → Disagrees (Some files) (test path gates simplify) out before told
      → Disagrees (Some files) (test path gates simplify) out' before' told'
      → (out ≡ out') × (before ≡ before') × (told ≡ told')
  pub apart : (out err out' before told : List ℕ)
      → Prints (Some files) (test path gates simplify) out err
      → Refuses (Some files) (test path gates simplify) out' before told → ⊥
  pub agrees : (out err out' before told : List ℕ)
      → Prints (Some files) (test path gates simplify) out err
      → Disagrees (Some files) (test path gates simplify) out' before told → ⊥
  pub alone : (out before told out' before' told' : List ℕ)
      → Refuses (Some files) (test path gates simplify) out before told
      → Disagrees (Some files) (test path gates simplify) out' before' told' → ⊥

abbrev pub TestExactLaw : Type 0
TestExactLaw = (files : Files) (path : List ℕ) (gates simplify : Bool) → TestIsExact files path gates simplify

-- The law of exactness. That of a script is the one before.
abbrev pub ExactLaw : Type 0
ExactLaw = (files : Files) (line : Line) → IsNoTest line → IsExact files line

-- A folder whose files are known means at most one program.
abbrev pub OneProgramLaw : Type 0
OneProgramLaw = (files : Files) (source : Source) (core core' : Core) → FolderMeans (Some files) source core → FolderMeans (Some files) source core' → SameProgram core core'
