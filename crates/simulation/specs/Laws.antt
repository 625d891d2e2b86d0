-- The laws of layers, at machines whose states are of any types and are related by tests.
use Rattle.std.specs.Prelude.{◌≡◌, ℕ, suc, ◌+◌, ◌<◌, ◌≤◌, Bool, true, None}
use Rattle.simulation.specs.System.{System, Tame}
use Rattle.simulation.specs.Trace.{Trace, steps, heard_keys, point_at, trace_of}
use Rattle.simulation.specs.Layers.{Simulates, Through}
use Rattle.simulation.specs.Headline.{Follows, CarriesRun, Meets}

-- the relation that a test decides
abbrev pub Related : {S T : Type 0} → (S → T → Bool) → S → T → Type 0
Related r u l = r u l ≡ true

-- Two layers, one on the other, are one layer, where the machine between makes no step at its end.
abbrev pub LayersCompose : Type 0 → Type 0 → Type 0 → Type 0
LayersCompose U V L = (up : System U) (mid : System V) (low : System L) (cost_mid : V → ℕ) (cost : L → ℕ) (r : U → V → Bool) (s : V → L → Bool) (bound : U → ℕ)
    → ((v : V) (key : ℕ) → mid.halted v ≡ true → mid.step key v ≡ None)
    → Simulates up mid cost_mid (Related r) bound → Simulates mid low cost (Related s) cost_mid
    → Simulates up low cost (Through (Related r) (Related s)) bound

-- A machine that carries the run of a meaning follows it at each cycle.
abbrev pub RunsFollow : Type 0 → Type 0 → Type 0
RunsFollow U L = (up : System U) (start : U) (low : System L) (cost : L → ℕ) (r : U → L → Bool) (bound : U → ℕ) (gap until : ℕ) (keys : ℕ → ℕ) (state : ℕ → L)
    → CarriesRun up start low cost (Related r) bound gap until keys state
    → (n : ℕ) → n + gap ≤ until → Follows up start (trace_of low keys state) (λ c. low.word (state c)) gap n

-- After a commit, as far as the meaning is tame, the states of the two machines are related.
abbrev pub RunsMeet : Type 0 → Type 0 → Type 0
RunsMeet U L = (up : System U) (start : U) (low : System L) (cost : L → ℕ) (r : U → L → Bool) (bound : U → ℕ) (gap until : ℕ) (keys : ℕ → ℕ) (state : ℕ → L)
    → CarriesRun up start low cost (Related r) bound gap until keys state
    → (n : ℕ) → suc n ≤ until → low.commits (state n) ≡ true → Tame up start (heard_keys (trace_of low keys state) (suc n)) (steps (trace_of low keys state) (suc n))
    → Meets up start low (Related r) keys state (suc n)

-- what is counted of a run up to cycle n depends on its first cycles alone
pub record SameCounts (t t' : Trace) (n : ℕ) : Type 0 where
  pub steps_are : steps t n ≡ steps t' n
  pub heard_are : heard_keys t n ≡ heard_keys t' n
  pub point_is : point_at t n ≡ point_at t' n

-- two traces are the same up to cycle n, whose step has not been made
pub record SameTrace (t t' : Trace) (n : ℕ) : Type 0 where
  pub commits : (c : ℕ) → c < n → t.commits c ≡ t'.commits c
  pub hears : (c : ℕ) → c < n → t.hears c ≡ t'.hears c
  pub key : (c : ℕ) → c < n → t.key c ≡ t'.key c
  pub point : (c : ℕ) → c ≤ n → t.point c ≡ t'.point c

abbrev pub CountsAreTold : Type 0
CountsAreTold = (t t' : Trace) (n : ℕ) → SameTrace t t' n → SameCounts t t' n
