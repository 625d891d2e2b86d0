-- The linked subroutines of the places of a program are those that have a point.
use Rattle.std.specs.Prelude.{◌≡◌, ℕ, false, nat_eq, if◌then◌else◌, List, [], ◌∷◌, map, Ok}
use Rattle.std.specs.List.{list_any}
use Rattle.jack_tree.specs.declared.tree.Class.{Class}
use Rattle.vm_tree.specs.declared.program.File.{File}
use Rattle.vm_link.specs.Links.{Links}
use Rattle.vm_link.specs.declared.linked.Linked.{Linked}
use Rattle.vm_translator.specs.Image.{image_map_of}
use Rattle.jack_debug.specs.declared.places.PlacedRange.{PlacedRange}
use Rattle.vm_debug.specs.Places.{the_places}

-- numbers, each where it stands first, without these
abbrev pub firsts : List ℕ → List ℕ → List ℕ
firsts before [] = []
firsts before (n ∷ ns) = if list_any (nat_eq n) before then firsts before ns else n ∷ firsts (n ∷ before) ns

-- The subroutines that have a point in one of these ranges, in order of the first, without `start`, which is 0.
abbrev pub subs_in : List PlacedRange → List ℕ
subs_in rs = firsts (0 ∷ []) (map (λ (r : PlacedRange). r.point.sub) rs)

-- The linked subroutines are those that have a point, in order of their first address.
abbrev pub LinkedLaw : Type 0
LinkedLaw = (own system : List Class) (files : List File) (linked : Linked) → Links false files (Ok linked)
    → (the_places own system linked (image_map_of linked)).linked ≡ subs_in (the_places own system linked (image_map_of linked)).ranges
