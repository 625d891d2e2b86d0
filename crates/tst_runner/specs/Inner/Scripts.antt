-- What the parts of a call that runs a script say; the call's own contract needs none of it.
use Rattle.std.specs.Prelude.{◌≡◌, ◌⊎◌, ℕ, Bool, true, false, List, Result, Ok, Err, if◌then◌else◌}
use Rattle.outer_world.specs.State.{SinkState}
use Rattle.outer_world.specs.Written.{Puts}
use Rattle.outer_world.specs.declared.sink.Put.TheVariants as put
use Rattle.tst_runner.specs.declared.standing.Stop.{Stop}
use Rattle.tst_runner.specs.declared.standing.Stop.TheVariants as stops
use Rattle.tst_runner.specs.declared.script.Verdict.{Verdict}
use Rattle.tst_runner.specs.declared.script.Verdict.TheVariants as verdicts
use Rattle.tst_runner.specs.declared.script.ScriptError.{ScriptError}
use Rattle.tst_runner.specs.declared.script.ScriptError.TheVariants as errors

-- ---- how a script ends

-- out or err could not be written
abbrev pub is_cut : Result (Unit {0}) Stop → Bool
is_cut (Ok _) = false
is_cut (Err (stops.Unloaded error)) = false
is_cut (Err (stops.Differs difference)) = false
is_cut (Err stops.Out) = true
is_cut (Err stops.Err) = true

-- how commands ended, with a compare file or without one
abbrev pub verdict_of : Result (Unit {0}) Stop → Bool → Result Verdict ScriptError
verdict_of (Ok _) compares = if compares then Ok verdicts.Same else Ok verdicts.NoCompare
verdict_of (Err (stops.Unloaded error)) compares = Err (errors.Unloaded error)
verdict_of (Err (stops.Differs difference)) compares = Ok (verdicts.Differs difference)
verdict_of (Err stops.Out) compares = Err errors.Out
verdict_of (Err stops.Err) compares = Err errors.Err

-- What is pending is put, if out and err were written so far, and that is how the script ends, or out fails here.
abbrev pub Finishes : Bool → SinkState → SinkState → List ℕ → Result Verdict ScriptError → Result Verdict ScriptError → Type 0
Finishes true before now pending verdict result = (now ≡ before) × (result ≡ verdict)
Finishes false before now pending verdict result =
    (Puts before now pending put.Done × (result ≡ verdict)) ⊎ (Puts before now pending put.Failed × (result ≡ Err errors.Out))
