-- The text of the map of an image: the control points of its addresses, its commits, and where the routines stand that commands share.
-- (The book, chapters 8 and 11: where the code of a program stands.)
use Rattle.std.specs.Prelude.{ℕ, List, [], ◌∷◌, ◌++◌, codes, decimal, get_or}
use Rattle.std.specs.List.{flat_map}
use Rattle.image_map.specs.declared.map.PointRange.{PointRange}
use Rattle.image_map.specs.declared.map.ImageMap.{ImageMap}

-- a range of addresses, from one up to and without another, and the point that they have: a subroutine by its name, and the number of a statement
abbrev pub point_text : List ℕ → PointRange → List ℕ
point_text name r = codes "point " ++ (decimal r.from ++ 32 ∷ (decimal r.to ++ 32 ∷ (name ++ 32 ∷ (decimal r.point.number ++ 10 ∷ []))))

abbrev pub point_line : List (List ℕ) → PointRange → List ℕ
point_line names r = point_text (get_or names r.point.sub []) r

-- an address at which a step of the program's meaning is committed
abbrev pub commit_line : ℕ → List ℕ
commit_line address = codes "commit " ++ (decimal address ++ 10 ∷ [])

-- the addresses of a routine that commands share, from one up to and without another
abbrev pub shared_line : ℕ × ℕ → List ℕ
shared_line r = codes "shared " ++ (decimal r.0 ++ 32 ∷ (decimal r.1 ++ 10 ∷ []))

-- The number of the form, then the lines of the points, then those of the commits, then those of the shared routines.
abbrev pub map_text : List (List ℕ) → ImageMap → List ℕ
map_text names m =
    (codes "map 1" ++ 10 ∷ []) ++ (flat_map (point_line names) m.points ++ (flat_map commit_line m.commits ++ flat_map shared_line m.shared))
