-- The places of a program, and that those of its classes are so.
use Rattle.std.specs.Prelude.{◌≡◌, ℕ, false, List, Some, Ok, map, slice_get}
use Rattle.jack_tree.specs.declared.tree.Class.{Class}
use Rattle.jack_tree.specs.Seen.{the_file}
use Rattle.vm_link.specs.declared.linked.Linked.{Linked}
use Rattle.vm_link.specs.Links.{Links}
use Rattle.image_map.specs.declared.map.ImageMap.{ImageMap}
use Rattle.vm_translator.specs.Image.{image_map_of}
use Rattle.jack_meaning.specs.Text.{Program}
use Rattle.jack_meaning.specs.Meaning.{subroutine_at}
use Rattle.jack_names.specs.Meaning.{program_meaning}
use Rattle.jack_core.specs.declared.program.Core.{Core}
use Rattle.jack_compiler.specs.Files.{files_of}
use Rattle.jack_compiler.specs.Linked.{IsLinkedProgram}
use Rattle.jack_debug.specs.declared.places.Places.{Places}
use Rattle.jack_debug.specs.declared.places.SubPlaces.{SubPlaces}
use Rattle.jack_debug.specs.Walk.{sub_at, statics_of}
use Rattle.vm_debug.specs.Meanings.{Names, AreStaticsOf}
use Rattle.vm_debug.specs.Places.{the_places}
use Rattle.vm_debug.specs.Views.{IsPlacesOf}

-- These are the places of a program, and those of its image. Subroutines have the program's own numbers, and each has the names of its variables and
-- the statics of its class.
pub record ArePlacesOf (program : Program) (linked : Linked) (places : Places) : Type 0 where
  pub image : IsPlacesOf linked places (λ g. g)
  pub names : (g : ℕ) (sub : SubPlaces) → sub_at places g ≡ Some sub
      → Names sub (subroutine_at program.subroutines g)
  pub statics : (g : ℕ) (sub : SubPlaces) → sub_at places g ≡ Some sub → AreStaticsOf program linked
      (subroutine_at program.subroutines g).class (statics_of (slice_get places.classes sub.class))

-- These are the places of a folder's own classes and of the operating system's, of the linked code of their program, and of its image, which has
-- this map.
abbrev pub ArePlacesOfClasses : List Class → List Class → Core → ImageMap → Places → Type 0
ArePlacesOfClasses own system core m places = (linked : Linked) × Links false (files_of core) (Ok linked) × (places ≡ the_places own system linked m)

-- Places are given by the classes' abstract syntax.
abbrev pub SamePlacesLaw : Type 0
SamePlacesLaw = (own own' system system' : List Class) (linked : Linked) (m : ImageMap) → map the_file own ≡ map the_file own' → map the_file system ≡ map the_file system'
    → the_places own system linked m ≡ the_places own' system' linked m

-- The places of classes, of their linked code and its image, are those of the program that the classes mean.
abbrev pub PlacesLaw : Type 0
PlacesLaw = (own system : List Class) (program : Program) (linked : Linked) → program ≡ program_meaning (map the_file own) (map the_file system) → IsLinkedProgram program linked
    → ArePlacesOf program linked (the_places own system linked (image_map_of linked))
