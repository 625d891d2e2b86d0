-- What the map of an image counts of a run: the steps of the program's meaning, and the control point. (The book, chapters 4 and 5.)
use Rattle.std.specs.Prelude.{◌≡◌, ℕ, false, List, Some, unwrap_or}
use Rattle.outer_world.specs.declared.point.Point.{Point}
use Rattle.simulation.specs.Trace.{Trace, steps, point_at}
use Rattle.image_map.specs.declared.map.PointRange.{PointRange}
use Rattle.image_map.specs.declared.map.ImageMap.{ImageMap}
use Rattle.image_map.specs.Map.{Map, point_in, the_map}

-- the map, the address that the run is at, the number of steps before it, and the control point
pub record TallyState : Type 0 where
  pub map : ImageMap
  pub at : ℕ
  pub steps : ℕ
  pub point : Point

-- a run that is at these addresses, one in each cycle, and hears nothing
abbrev pub trace_through : Map → (ℕ → ℕ) → Trace
trace_through map pc = record { commits = λ c. map.commits (pc c); hears = λ c. false; key = λ c. 0; point = λ c. map.points (pc c) }

-- it was counted up to cycle n of a run through these addresses
pub record HasTallied (t : TallyState) (pc : ℕ → ℕ) (n : ℕ) : Type 0 where
  pub here : t.at ≡ pc n
  pub counted : t.steps ≡ steps (trace_through (the_map t.map) pc) n
  pub seen : point_at (trace_through (the_map t.map) pc) n ≡ Some t.point

abbrev pub nowhere : Point
nowhere = record { sub = 0; number = 0 }

-- the point of an address that has one
abbrev pub point_seen : List PointRange → ℕ → Point
point_seen ranges k = unwrap_or (point_in ranges k) nowhere
