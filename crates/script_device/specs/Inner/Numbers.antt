-- Tables of names: the number of a name is the first place where it stands in a list, counted from 0. (The book, appendix 3.)
use Rattle.std.specs.Prelude.{◌≡◌, ℕ, suc, Bool, List, [], ◌∷◌, Option, Some, None, Vec, map, if◌then◌else◌}
use Rattle.std.specs.declared.alloc.Global.{Global}
use Rattle.std.specs.Option.{option_map}
use Rattle.std.specs.Map.{lookup}
use Rattle.std.specs.Str.{bytes_eq}
use Rattle.script_device.specs.declared.directory.Directory.{Directory}
use Rattle.script_device.specs.declared.directory.PinNodes.{PinNodes}
use Rattle.script_device.specs.declared.directory.PartNodes.{PartNodes}
use Rattle.script_device.specs.declared.numbering.Numbers.{Numbers}
use Rattle.script_device.specs.declared.tables.Tables.{Tables}

abbrev pub is_key : List ℕ → Vec ℕ Global → Bool
is_key name key = bytes_eq name key.items

-- the number that a table has for a name
abbrev pub number_in : Numbers → List ℕ → Option ℕ
number_in numbers name = lookup (is_key name) numbers.places.entries

-- the first place of a name
abbrev pub first_place : List (List ℕ) → List ℕ → Option ℕ
first_place [] name = None
first_place (x ∷ xs) name = if bytes_eq x name then Some 0 else option_map suc (first_place xs name)

-- the table has these names, each with its first place, and no other
abbrev pub AreNumbers : Numbers → List (List ℕ) → Type 0
AreNumbers numbers names = (name : List ℕ) → number_in numbers name ≡ first_place names name

abbrev pub pin_names : List PinNodes → List (List ℕ)
pin_names pins = map (λ (pin : PinNodes). pin.name) pins

abbrev pub part_names : List PartNodes → List (List ℕ)
part_names parts = map (λ (part : PartNodes). part.chip) parts

-- these are the tables of what has a name in a chip
pub record AreTables (tables : Tables) (d : Directory) : Type 0 where
  pub inputs : AreNumbers tables.inputs (pin_names d.inputs)
  pub outputs : AreNumbers tables.outputs (pin_names d.outputs)
  pub parts : AreNumbers tables.parts (part_names d.parts)
