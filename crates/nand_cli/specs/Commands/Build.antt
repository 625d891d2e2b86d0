-- The command `build`: the image of the program of a folder as binary digits, one word a line, or why there is no
-- image. (The book, chapters 4 to 12.)
use Rattle.std.specs.Prelude.{◌≡◌, ℕ, List, Option}
use Rattle.outer_world.specs.Files.{Files}
use Rattle.hack_asm.specs.Image.{image_text}
use Rattle.jack_core.specs.declared.program.Core.{Core}
use Rattle.image_map.specs.declared.map.Image.{Image}
use Rattle.tower.specs.Image.{IsImageOf}
use Rattle.command_line.specs.Line.{Source}
use Rattle.nand_cli.specs.JackFolder.{BuildIsRefused, FolderIsRefused, FolderMeans}

-- The folder means a program, and this is its image with its map.
abbrev pub FolderBuilds : Option Files → Source → Core → Image → Type 0
FolderBuilds files source core image = FolderMeans files source core × IsImageOf core image

abbrev pub BuildPrints : Option Files → Source → List ℕ → Type 0
BuildPrints files source out = (core : Core) × (image : Image) × FolderBuilds files source core image × (out ≡ image_text image.words)

-- The folder has no image, and this line says why: it means no program, or its program has no
-- image.
pub data BuildRefuses (files : Option Files) (source : Source) (line : List ℕ) : Type 0 where
  without_program : FolderIsRefused files source line → BuildRefuses files source line
  unbuilt : (core : Core) → FolderMeans files source core → BuildIsRefused core source.folder line → BuildRefuses files source line
