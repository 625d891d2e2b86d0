-- The command `map`: the map of the image of the program of a folder, in its first form or in its second; it is refused
-- as `build` is. (The book, chapters 7 to 11.)
use Rattle.std.specs.Prelude.{◌≡◌, ◌≤◌, ℕ, suc, Bool, List, [], ◌∷◌, Option, length, map}
use Rattle.outer_world.specs.Files.{Files}
use Rattle.jack_tree.specs.declared.tree.Class.{Class}
use Rattle.jack_tree.specs.Seen.{the_file}
use Rattle.jack_os.specs.System.{AreClassesOf}
use Rattle.jack_core.specs.Texts.{names_of, the_program}
use Rattle.jack_core.specs.declared.program.Core.{Core}
use Rattle.image_map.specs.declared.map.Image.{Image}
use Rattle.image_map.specs.Text.{map_text}
use Rattle.image_map.specs.Map.{Covers, CoversShared}
use Rattle.jack_debug.specs.MapText as placed
use Rattle.jack_debug.specs.declared.places.Places.{Places}
use Rattle.vm_debug.specs.Program.{ArePlacesOf, ArePlacesOfClasses}
use Rattle.tower.specs.Image.{IsImageOf}
use Rattle.tower.specs.Program.{IsProgramOf}
use Rattle.tower.specs.Sources.{system_beside}
use Rattle.command_line.specs.Line.{Source}
use Rattle.command_line.specs.declared.request.MapFormat.{MapFormat}
use Rattle.command_line.specs.declared.request.MapFormat.TheVariants as formats
use Rattle.nand_cli.specs.JackFolder.{HasClasses}
use Rattle.nand_cli.specs.Commands.Build.{FolderBuilds}

-- Each of these addresses is above the one before, and the first is at least this one.
abbrev pub RiseFrom : ℕ → List ℕ → Type 0
RiseFrom least [] = Unit {0}
RiseFrom least (a ∷ more) = (least ≤ a) × RiseFrom (suc a) more

abbrev pub AreRising : List ℕ → Type 0
AreRising addresses = RiseFrom 0 addresses

-- The points of an image are given in ranges, and then the routines that commands share: together they have each
-- address once, rising.
pub record HasEachAddress (image : Image) : Type 0 where
  pub mapped : ℕ
  pub points : Covers 0 image.map.points mapped
  pub shared : CoversShared mapped image.map.shared (length image.words)

-- The points and routines of an image have each address once, rising, and its commits rise.
abbrev pub IsWholeMap : Image → Type 0
IsWholeMap image = HasEachAddress image × AreRising image.map.commits

-- A folder's classes mean a program with those of the operating system, and these are its places: of the classes, and
-- of the image of the program. So each address of the image has its control point in them, each subroutine the names of
-- its variables, and each static the address of its word.
pub record HavePlaces (replace : Bool) (own : List Class) (places : Places) : Type 0 where
  pub os : List Class
  pub core : Core
  pub image : Image
  pub shipped : AreClassesOf (system_beside replace (map the_file own)) os
  pub program : IsProgramOf (map the_file own) (map the_file os) core
  pub is_image : IsImageOf core image
  pub are : ArePlacesOfClasses own os core image.map places
  pub meant : ArePlacesOf (the_program core) is_image.linked places

abbrev pub FolderHasPlaces : Option Files → Source → Places → Type 0
FolderHasPlaces files source places = (own : List Class) × HasClasses files source.folder (map the_file own) × HavePlaces source.replace own places

-- The folder means a program, and this is the map of its image. The first form has its points, its commits and its
-- routines, with the names of its subroutines. The second has the places of its classes.
abbrev pub MapPrints : Option Files → Source → MapFormat → List ℕ → Type 0
MapPrints files source formats.Points out =
    (core : Core) × (image : Image) × FolderBuilds files source core image × IsWholeMap image × (out ≡ map_text (names_of core) image.map)
MapPrints files source formats.Places out =
    (places : Places) × (here : FolderHasPlaces files source places) × IsWholeMap here.2.image × (out ≡ placed.map_text places)
