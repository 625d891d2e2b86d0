-- The marks of a tally are at the commits.
use Rattle.std.specs.Prelude.{◌≡◌, ℕ, Bool, false, List, length, slice_index_or, nat_eq}
use Rattle.std.specs.List.{list_any}
use Rattle.image_map.specs.declared.map.ImageMap.{ImageMap}
use Rattle.image_map.specs.Map.{Covers}

-- there is a mark for each number of 16 bits, set at the commits, and the ranges cover as many addresses as are mapped
pub record IsMarked (marks : List Bool) (map : ImageMap) (mapped : ℕ) : Type 0 where
  pub size : length marks ≡ 65536
  pub marked : (k : ℕ) → slice_index_or marks k false ≡ list_any (nat_eq k) map.commits
  pub covers : Covers 0 map.points mapped
