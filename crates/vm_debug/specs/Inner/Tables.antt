-- The places of points by tables of the subroutines' statements.
use Rattle.std.specs.Prelude.{ℕ, zero, suc, List, Option, Some, None, slice_get, unwrap_or}
use Rattle.scan_text.specs.declared.Place.{Place}
use Rattle.outer_world.specs.declared.point.Point.{Point}
use Rattle.jack_tree.specs.Seen.{the_subroutine}
use Rattle.jack_tree.specs.declared.tree.Subroutine.{Subroutine}
use Rattle.image_map.specs.declared.map.PointRange.{PointRange}
use Rattle.jack_debug.specs.declared.places.PlacedRange.{PlacedRange}
use Rattle.jack_debug.specs.Statements.{no_place, subroutine_places}

abbrev pub table_of : Subroutine → List Place
table_of t = subroutine_places (the_subroutine t)

abbrev pub table_at : List (List Place) → ℕ → Option (List Place)
table_at tables zero = None
table_at tables (suc k) = slice_get tables k

abbrev pub place_at : Option (List Place) → ℕ → Place
place_at None n = no_place
place_at (Some places) n = unwrap_or (slice_get places n) no_place

abbrev pub place_by : List (List Place) → Point → Place
place_by tables p = place_at (table_at tables p.sub) p.number

abbrev pub range_by : List (List Place) → PointRange → PlacedRange
range_by tables r = record { from = r.from; to = r.to; point = r.point; place = place_by tables r.point }
