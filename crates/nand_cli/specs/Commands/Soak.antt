-- The command `soak`: the summary of the programs that are generated from a seed, and why there is no summary. (The
-- book has none; this one is the project's own.)
use Rattle.std.specs.Prelude.{◌≡◌, ◌<◌, ◌+◌, ◌^◌, ◌%◌, ◌++◌, ◌↔◌, [], ◌∷◌, ℕ, zero, suc, Bool, false, IsTrue, List, Some, if◌then◌else◌, codes, decimal}
use Rattle.outer_world.specs.Files.{Files}
use Rattle.simulation.specs.Trace.{steps}
use Rattle.jack_core.specs.declared.program.Core.{Core}
use Rattle.hdl_tree.specs.Behaviour.{Histories}
use Rattle.hack_cpu.specs.Computer.{word_at}
use Rattle.image_map.specs.declared.map.Image.{Image}
use Rattle.tower.specs.Image.{IsImageOf}
use Rattle.gate_computer.specs.Computer.{IsComputer}
use Rattle.soak_program.specs.Generator.{IsProgram}
use Rattle.command_line.specs.Line.{Source}
use Rattle.nand_cli.specs.Commands.Build.{BuildRefuses}
use Rattle.nand_cli.specs.Commands.Gates.{InEach}
use Rattle.nand_cli.specs.Commands.SoakLevels.{Agree, no_keys, silent_trace}
use Rattle.nand_cli.specs.JackFolder.{FolderMeans}

-- ---- one program

-- how many cycles each program runs for, how many words are looked at, and how many moves the virtual machine may make
unfoldable pub cycles : ℕ
cycles = 300000

unfoldable pub words : ℕ
words = 22528

unfoldable pub most_moves : ℕ
most_moves = 2 ^ 62

-- the sum of the first n of some numbers
abbrev pub total : (ℕ → ℕ) → ℕ → ℕ
total f zero = 0
total f (suc n) = total f n + f n

-- the sum of the words from 2048 on that a level shows, to 16 bits
abbrev pub word_sum : (ℕ → ℕ) → ℕ
word_sum word = total (λ i. word (2048 + i)) words % 65536

-- A behaviour of the Computer has m steps at cycle n, its words have this sum, and it is known whether the levels
-- agree.
pub record Shows (core : Core) (image : Image) (n bound m sum : ℕ) (agreed : Bool) (wires : List ℕ → Histories) : Type 0 where
  pub counted : m ≡ steps (silent_trace image wires) n
  pub summed : sum ≡ word_sum (word_at wires n)
  pub told : IsTrue agreed ↔ Agree core image n bound wires

-- So it is with each behaviour of the Computer with the program's image that goes on past cycle n; and behaviours there
-- are, over any number of cycles.
pub record IsOutcome (core : Core) (n bound m sum : ℕ) (agreed : Bool) : Type 0 where
  pub image : Image
  pub is_image : IsImageOf core image
  pub behaves : (k : ℕ) → (wires : List ℕ → Histories) × IsComputer image.words no_keys k wires
  pub shows : InEach image.words no_keys n (Shows core image n bound m sum agreed)

-- A generated program stands alone in a folder `soak`, in the file Main.jack.
abbrev pub soak_folder : List ℕ
soak_folder = codes "soak"

abbrev pub soak_source : Source
soak_source = record { folder = soak_folder; replace = false }

abbrev pub soak_files : List ℕ → Files
soak_files text = (codes "soak/Main.jack", text) ∷ []

-- The program that a seed has at a number has this outcome.
pub record HasOutcome (seed number m sum : ℕ) (agreed : Bool) : Type 0 where
  pub text : List ℕ
  pub generated : IsProgram seed number text
  pub core : Core
  pub means : FolderMeans (Some (soak_files text)) soak_source core
  pub outcome : IsOutcome core cycles most_moves m sum agreed

-- It has no image, as this line says.
pub record HasNoImage (seed number : ℕ) (line : List ℕ) : Type 0 where
  pub text : List ℕ
  pub generated : IsProgram seed number text
  pub refused : BuildRefuses (Some (soak_files text)) soak_source line

-- ---- the first programs

-- Of the first programs of a seed: how many agree, the sum of their steps, and that of the sums of their words.
pub data AreOutcomes (seed : ℕ) : ℕ → ℕ → ℕ → ℕ → Type 0 where
  None : AreOutcomes seed 0 0 0 0
  More : {i agree all sum m w : ℕ} {agreed : Bool} → AreOutcomes seed i agree all sum → HasOutcome seed (suc i) m w agreed
      → AreOutcomes seed (suc i) (agree + (if agreed then 1 else 0)) (all + m) ((sum + w) % 65536)

-- the four lines
abbrev pub summary_text : ℕ → ℕ → ℕ → ℕ → ℕ → List ℕ
summary_text seed count agree all sum =
    codes "soak " ++ (decimal seed ++ (codes " " ++ (decimal count ++ (codes "\nagree " ++ (decimal agree
    ++ (codes "\nsteps " ++ (decimal all ++ (codes "\nsum " ++ (decimal sum ++ codes "\n")))))))))

pub record IsSummary (seed count : ℕ) (text : List ℕ) : Type 0 where
  pub agree : ℕ
  pub all : ℕ
  pub sum : ℕ
  pub outcomes : AreOutcomes seed count agree all sum
  pub is_text : text ≡ summary_text seed count agree all sum

-- ---- the line

abbrev pub SoakPrints : ℕ → ℕ → List ℕ → Type 0
SoakPrints seed count out = IsSummary seed count out

-- One of the programs has no image, and this line says why; those before it have outcomes.
pub record SoakRefuses (seed count : ℕ) (line : List ℕ) : Type 0 where
  pub before : ℕ
  pub agree : ℕ
  pub all : ℕ
  pub sum : ℕ
  pub outcomes : AreOutcomes seed before agree all sum
  pub within : before < count
  pub refused : HasNoImage seed (suc before) line
