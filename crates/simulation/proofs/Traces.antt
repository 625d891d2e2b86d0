-- Counts of traces that are the same so far.
use Rattle.std.proofs.Common.{◌≡◌, ℕ, zero, suc, ◌<◌, ◌≤◌, refl, arith}
use Rattle.simulation.specs.Trace.{Trace, steps, heard_keys, point_at}
use Rattle.simulation.specs.Laws.{SameTrace, SameCounts}

pub steps_same : (t t' : Trace) (n : ℕ) → ((c : ℕ) → c < n → t.commits c ≡ t'.commits c) → steps t n ≡ steps t' n
steps_same t t' zero h = refl
steps_same t t' (suc n) h = rw (h n (omega arith), steps_same t t' n (λ c l. h c (omega arith)))

pub heard_same : (t t' : Trace) (n : ℕ) → ((c : ℕ) → c < n → t.hears c ≡ t'.hears c) → ((c : ℕ) → c < n → t.key c ≡ t'.key c) → heard_keys t n ≡ heard_keys t' n
heard_same t t' zero h k = refl
heard_same t t' (suc n) h k = rw (h n (omega arith), k n (omega arith), heard_same t t' n (λ c l. h c (omega arith)) (λ c l. k c (omega arith)))

pub point_same : (t t' : Trace) (n : ℕ) → ((c : ℕ) → c ≤ n → t.point c ≡ t'.point c) → point_at t n ≡ point_at t' n
point_same t t' zero h = h 0 (omega arith)
point_same t t' (suc n) h = rw (h (suc n) (omega arith), point_same t t' n (λ c l. h c (omega arith)))

pub same_counts : (t t' : Trace) (n : ℕ) → SameTrace t t' n → SameCounts t t' n
same_counts t t' n h = record {
  steps_are = steps_same t t' n h.commits;
  heard_are = heard_same t t' n h.hears h.key;
  point_is = point_same t t' n h.point;
}
