-- What stands before out while a script runs: the sink, and the bytes that were not put yet.
use Rattle.std.specs.Prelude.{◌≡◌, ◌≤◌, ℕ, List, ◌++◌, Option, take, drop}
use Rattle.outer_world.specs.Written.{Got}
use Rattle.outer_world.specs.declared.sink.Put.{Put}
use Rattle.outer_world.specs.declared.sink.Put.TheVariants as put
use Rattle.tst_runner.specs.Ends.{whole}

-- Of a text all whole pieces went out, where this stood before, and the rest is pending.
pub record HasPassed (before now : Option (List ℕ)) (pending text : List ℕ) : Type 0 where
  pub went : Got before now (take (whole text) text)
  pub rest : pending ≡ drop (whole text) text

-- Of a text some went out, all whole pieces of its front among it.
pub record WentInPart (before now : Option (List ℕ)) (front text : List ℕ) : Type 0 where
  pub n : ℕ
  pub from : whole front ≤ n
  pub went : Got before now (take n text)

-- A text was put after another that has passed: both have passed, or the sink failed.
abbrev pub PutsBehind : Option (List ℕ) → Option (List ℕ) → List ℕ → List ℕ → List ℕ → Put → Type 0
PutsBehind before now rest text more put.Done = HasPassed before now rest (text ++ more)
PutsBehind before now rest text more put.Failed = WentInPart before now text (text ++ more)
