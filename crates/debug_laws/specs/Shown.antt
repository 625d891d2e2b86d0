-- What the places of a folder's classes say of the program that the classes mean.
use Rattle.std.specs.Prelude.{List, map}
use Rattle.jack_tree.specs.declared.tree.Class.{Class}
use Rattle.jack_tree.specs.Seen.{the_file}
use Rattle.image_map.specs.declared.map.Image.{Image}
use Rattle.jack_os.specs.System.{AreClassesOf, Texts}
use Rattle.jack_core.specs.declared.program.Core.{Core}
use Rattle.jack_core.specs.Texts.{the_program}
use Rattle.jack_debug.specs.declared.places.Places.{Places}
use Rattle.tower.specs.Image.{IsImageOf}
use Rattle.tower.specs.Program.{IsProgramOf}
use Rattle.tower.specs.Spelled.{AreSpelled}
use Rattle.vm_debug.specs.Program.{ArePlacesOf, ArePlacesOfClasses}

-- The places of a folder's classes, with those of a system's files, are those of the program that they mean and of the
-- linked code of its image.
abbrev pub ClassPlacesLaw : Type 0
ClassPlacesLaw = (own os : List Class) (files : Texts) (core : Core) (image : Image) (places : Places) → AreSpelled own → AreClassesOf files os → IsProgramOf (map the_file own) (map the_file os) core
    → (is : IsImageOf core image) → ArePlacesOfClasses own os core image.map places → ArePlacesOf (the_program core) is.linked places
