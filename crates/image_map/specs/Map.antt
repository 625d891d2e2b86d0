-- What the map of an image says of each address, and the ranges that it says it by. (The book, chapters 7, 8 and 11.)
use Rattle.std.specs.Prelude.{◌≡◌, ◌<◌, ◌≤◌, ℕ, Bool, ◌&&◌, nat_le, nat_lt, nat_eq, List, [], ◌∷◌, Option, Some, None, length, if◌then◌else◌}
use Rattle.std.specs.List.{list_any}
use Rattle.outer_world.specs.declared.point.Point.{Point}
use Rattle.hack_isa.specs.Machine.{image_words}
use Rattle.image_map.specs.declared.map.PointRange.{PointRange}
use Rattle.image_map.specs.declared.map.ImageMap.{ImageMap}
use Rattle.image_map.specs.declared.map.Image.{Image}

-- Of each address: the control point, which an address of a shared part and one past the image have not, and whether its instruction is a commit.
pub record Map : Type 0 where
  pub points : ℕ → Option Point
  pub commits : ℕ → Bool

-- the point of the range that an address is in
abbrev pub point_in : List PointRange → ℕ → Option Point
point_in [] k = None
point_in (r ∷ rs) k = if nat_le r.from k && nat_lt k r.to then Some r.point else point_in rs k

-- An address has the point of its range, and is a commit where it is among these.
abbrev pub map_of : List ℕ → List PointRange → Map
map_of commits ranges = record { points = point_in ranges; commits = λ k. list_any (nat_eq k) commits }

abbrev pub the_map : ImageMap → Map
the_map m = map_of m.commits m.points

-- The ranges cover the addresses from one up to and without another, each once.
abbrev pub Covers : ℕ → List PointRange → ℕ → Type 0
Covers at [] to = at ≡ to
Covers at (r ∷ rs) to = (r.from ≡ at) × (at < r.to) × Covers r.to rs to

-- The same of ranges without points.
abbrev pub CoversShared : ℕ → List (ℕ × ℕ) → ℕ → Type 0
CoversShared at [] to = at ≡ to
CoversShared at (r ∷ rs) to = (r.0 ≡ at) × (at < r.1) × CoversShared r.1 rs to

-- The ranges have the addresses from 0 up to and without another, each once: those of an image before the part that commands share.
pub record CoverSome (ranges : List PointRange) : Type 0 where
  pub mapped : ℕ
  pub some : 0 < mapped
  pub covers : Covers 0 ranges mapped

-- The image is one that the computer has room for, and each address of its first part has a point, the first address among them. After this part come
-- the routines that commands share.
pub record IsMapped (image : Image) : Type 0 where
  pub covers : CoverSome image.map.points
  pub within : covers.mapped ≤ length image.words
  pub room : length image.words ≤ image_words
