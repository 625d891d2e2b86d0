-- A generated program agrees at the four levels as far as it is tame (book, chapters 1 to 12).
use Rattle.std.specs.Prelude.{◌≤◌, ◌<◌, ◌*◌, ℕ, List, [], Some}
use Rattle.simulation.specs.System.{Tame}
use Rattle.simulation.specs.Trace.{steps}
use Rattle.jack_meaning.specs.Meaning.{start}
use Rattle.jack_meaning.specs.Gap.{IsGap}
use Rattle.jack_core.specs.declared.program.Core.{Core}
use Rattle.jack_core.specs.Texts.{the_program}
use Rattle.hdl_tree.specs.Behaviour.{Histories}
use Rattle.image_map.specs.declared.map.Image.{Image}
use Rattle.tower.specs.Image.{IsImageOf}
use Rattle.gate_computer.specs.Computer.{IsComputer}
use Rattle.soak_program.specs.Generator.{IsProgram}
use Rattle.nand_cli.specs.JackFolder.{FolderMeans}
use Rattle.nand_cli.specs.Commands.Gates.{meaning_in}
use Rattle.nand_cli.specs.Commands.Soak.{soak_files, soak_source}
use Rattle.nand_cli.specs.Commands.SoakLevels.{Agree, no_keys, silent_trace}

-- Of whatever seed and number, let the program have an image, and let its meaning be tame for the steps that a
-- behaviour of the Computer has at cycle n. Then the levels agree, if the virtual machine may make the gap of the
-- program for each of these steps.
abbrev pub AgreeLaw : Type 0
AgreeLaw = (seed number : ℕ) (text : List ℕ) (core : Core) (image : Image) → IsProgram seed number text → FolderMeans (Some (soak_files text)) soak_source core → IsImageOf core image
    → (n k : ℕ) (wires : List ℕ → Histories) → n < k → IsComputer image.words no_keys k wires
    → Tame (meaning_in core) (start (the_program core)) [] (steps (silent_trace image wires) n)
    → (gap bound : ℕ) → IsGap (the_program core) gap → steps (silent_trace image wires) n * gap ≤ bound
    → Agree core image n bound wires
