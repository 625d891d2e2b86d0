-- Why the classes of a folder have no places.
use Rattle.std.specs.Prelude.{◌⊎◌, ℕ, List, Ok, map}
use Rattle.jack_tree.specs.declared.tree.Class.{Class}
use Rattle.jack_tree.specs.Seen.{the_file}
use Rattle.jack_core.specs.declared.program.Core.{Core}
use Rattle.tower.specs.Program.{Means}
use Rattle.command_line.specs.Line.{Source}
use Rattle.nand_cli.specs.JackFolder.{BuildIsRefused, IsMeaningless}

-- They mean no program, or one that has no image, and this line says why.
abbrev pub AreRefused : List Class → Source → List ℕ → Type 0
AreRefused own source line =
    IsMeaningless source (map the_file own) line ⊎ ((core : Core) × Means source.replace own (Ok core) × BuildIsRefused core source.folder line)
