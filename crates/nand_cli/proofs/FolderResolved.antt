-- The names of the program that a folder means are resolved.
use Rattle.std.proofs.Common.{List, ℕ, Option, map, sym, subst}
use Rattle.outer_world.specs.Files.{Files}
use Rattle.jack_tree.specs.Seen.{the_file}
use Rattle.jack_meaning.specs.Text.{Program}
use Rattle.jack_core.specs.Texts.{the_program}
use Rattle.jack_core.specs.declared.program.Core.{Core}
use Rattle.jack_names.specs.Meaning.{program_names}
use Rattle.jack_compiler.specs.Resolved.{IsResolved, IsResolvedCore}
use Rattle.tower.specs.Resolved.{ResolvedLaw}
use Rattle.tower.specs.Sources.{system_beside}
use Rattle.command_line.specs.Line.{Source}
use Rattle.nand_cli.specs.JackFolder.{FolderMeans}
use Rattle.nand_cli.proofs.Spelling.{spelled_classes}

pub folder_resolved : ResolvedLaw → (files : Option Files) (source : Source) (core : Core) → FolderMeans files source core → IsResolvedCore core
folder_resolved law files source core (classes, has, (os, are, is)) =
    subst (λ (ns : List (List ℕ)). IsResolved (the_program core) ns) (sym is.names)
    (subst (λ (p : Program). IsResolved p (program_names (map the_file classes) (map the_file os))) (sym is.program) (law classes os (system_beside source.replace (map the_file classes)) is.well_named (spelled_classes files source.folder classes has) are))
