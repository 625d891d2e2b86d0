-- Instructions that stand in an image, and the endless loop at its end. (The book, chapters 4 and 7.)
use Rattle.std.specs.Prelude.{◌≡◌, ℕ, ◌+◌, ◌<◌, false, List, [], ◌∷◌, slice_index}
use Rattle.hack_isa.specs.Table.{instr_of}
use Rattle.hack_isa.specs.Machine.{image_words}
use Rattle.hack_isa.specs.declared.Instr.{Instr}
use Rattle.image_map.specs.Map.{Map}
use Rattle.vm_templates.specs.Templates.{endless}

-- the instructions stand in the image from an address on
abbrev pub Stands : List ℕ → ℕ → List Instr → Type 0
Stands image here [] = Unit {0}
Stands image here (i ∷ is) = (instr_of (slice_index image here) ≡ i) × Stands image (here + 1) is

-- The endless loop stands at an address. Its instructions are no commits and have one point.
pub record HasLoop (image : List ℕ) (map : Map) (loop : ℕ) : Type 0 where
  pub low : loop + 1 < image_words
  pub stands : Stands image loop (endless loop)
  pub commits : (map.commits loop ≡ false) × (map.commits (loop + 1) ≡ false)
  pub points : map.points (loop + 1) ≡ map.points loop
