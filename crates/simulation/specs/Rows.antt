-- What is counted of a short run, by computation.
use Rattle.std.specs.Prelude.{◌≡◌, ℕ, ◌+◌, nat_eq, ◌||◌, if◌then◌else◌, List, [], ◌∷◌, Option, Some, None}
use Rattle.outer_world.specs.declared.point.Point.{Point}
use Rattle.simulation.specs.Trace.{Trace, steps, heard_keys, point_at}

abbrev pub at : ℕ → ℕ → Point
at sub number = record { sub = sub; number = number }

-- The keys are 65, 66, 67 .. The steps of the cycles 1 and 3 count, those of the cycles 0 and 2 hear their key, and the cycles 0 and 2
-- have a point.
abbrev pub short_run : Trace
short_run = record {
  commits = λ c. nat_eq c 1 || nat_eq c 3;
  hears = λ c. nat_eq c 0 || nat_eq c 2;
  key = λ c. 65 + c;
  point = λ c. if nat_eq c 0 then Some (at 2 1) else (if nat_eq c 2 then Some (at 2 3) else None);
}

pub record RowsLaw : Type 0 where
  -- what is counted at a cycle is what was done before it
  pub none_counted : steps short_run 1 ≡ 0
  pub one_counted : steps short_run 2 ≡ 1
  pub still_one : steps short_run 3 ≡ 1
  pub two_counted : steps short_run 4 ≡ 2
  -- the keys heard, in order
  pub none_heard : heard_keys short_run 0 ≡ []
  pub one_heard : heard_keys short_run 1 ≡ 65 ∷ []
  pub not_the_second : heard_keys short_run 2 ≡ 65 ∷ []
  pub two_heard : heard_keys short_run 3 ≡ 65 ∷ 67 ∷ []
  -- the point of the cycle itself, or the last one before it
  pub first_point : point_at short_run 0 ≡ Some (at 2 1)
  pub point_kept : point_at short_run 1 ≡ Some (at 2 1)
  pub next_point : point_at short_run 2 ≡ Some (at 2 3)
  pub next_kept : point_at short_run 3 ≡ Some (at 2 3)
