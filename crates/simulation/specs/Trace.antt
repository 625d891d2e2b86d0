-- What is counted of a run, cycle by cycle.
use Rattle.std.specs.Prelude.{ℕ, zero, suc, Bool, if◌then◌else◌, List, [], ◌++◌, Option}
use Rattle.std.specs.Option.{option_or}
use Rattle.outer_world.specs.declared.point.Point.{Point}
use Rattle.simulation.specs.System.{System, keys_heard}

-- of each cycle: whether its step counts, whether it hears the key, the key, and the point before it
pub record Trace : Type 0 where
  pub commits : ℕ → Bool
  pub hears : ℕ → Bool
  pub key : ℕ → ℕ
  pub point : ℕ → Option Point

-- the number of steps of the meaning before cycle n
abbrev pub steps : Trace → ℕ → ℕ
steps t zero = 0
steps t (suc n) = if t.commits n then suc (steps t n) else steps t n

-- the keys heard before cycle n, in order
abbrev pub heard_keys : Trace → ℕ → List ℕ
heard_keys t zero = []
heard_keys t (suc n) = heard_keys t n ++ keys_heard (t.hears n) (t.key n)

-- the control point at cycle n: that of the last cycle up to n that has one
abbrev pub point_at : Trace → ℕ → Option Point
point_at t zero = t.point 0
point_at t (suc n) = option_or (t.point (suc n)) (point_at t n)

-- the trace of a machine that is in these states at the cycles, under these keys
abbrev pub trace_of : {S : Type 0} → System S → (ℕ → ℕ) → (ℕ → S) → Trace
trace_of sys keys state = record {
  commits = λ c. sys.commits (state c);
  hears = λ c. sys.hears (state c);
  key = keys;
  point = λ c. sys.point (state c);
}
