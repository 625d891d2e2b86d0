-- Places in classes that texts spell.
use Rattle.std.specs.Prelude.{◌≡◌, ℕ, List, Some, slice_get}
use Rattle.jack_tree.specs.Syntax.{ClassFile}
use Rattle.jack_parser.specs.Spelled.{SpellsClass}
use Rattle.jack_names.specs.Faults.{NameDiagnostic}
use Rattle.jack_names.specs.FaultOrder.{IsFirstFault, PlacesRise, IsFirstByPlace}

-- Each of these files has a text that spells its class.
abbrev pub AreSpelled : List ClassFile → Type 0
AreSpelled own = (i : ℕ) (c : ClassFile) → slice_get own i ≡ Some c → (text : List ℕ) × SpellsClass text c.class

-- The law of places: where the files of a folder are spelled by texts, places rise from name to name in each.
abbrev pub RisesLaw : Type 0
RisesLaw = (own os : List ClassFile) → AreSpelled own → PlacesRise own os

-- The law of first faults: there the fault that is first in the order of the text is first by file, place and kind.
abbrev pub FirstLaw : Type 0
FirstLaw = (own os : List ClassFile) (told : NameDiagnostic) → AreSpelled own → IsFirstFault own os told → IsFirstByPlace own os told
