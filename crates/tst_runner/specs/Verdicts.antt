-- What a call that runs a script says. (The book, appendix 3.)
use Rattle.std.specs.Prelude.{◌≡◌, ◌⊎◌, ℕ, Bool, true, false, List, [], Result, Ok, Err, codes}
use Rattle.outer_world.specs.Faults.{Rose}
use Rattle.outer_world.specs.Refusals.{message, message_line}
use Rattle.outer_world.specs.State.{SinkState}
use Rattle.outer_world.specs.Written.{Got}
use Rattle.source_files.specs.Loads.{line_of}
use Rattle.source_files.specs.declared.error.LoadError.TheVariants as loads
use Rattle.tst_runner.specs.declared.standing.Difference.{Difference}
use Rattle.tst_runner.specs.declared.script.Verdict.{Verdict}
use Rattle.tst_runner.specs.declared.script.Verdict.TheVariants as verdicts
use Rattle.tst_runner.specs.declared.script.ScriptError.{ScriptError}
use Rattle.tst_runner.specs.declared.script.ScriptError.TheVariants as errors
use Rattle.tst_runner.specs.Setting.{Setting}
use Rattle.tst_runner.specs.Ends.{HasCompared, IsDifferent, IsRefused, IsUnread, IsStarved, OutIsCut, EchoIsCut}

-- the line that reports a difference
abbrev pub difference_line : Difference → List ℕ
difference_line d = message_line d.path (message d.line 1 (codes "Differs") [])

-- What stands on out and on err after the call. The message of how a script ended is still to come, but none after a write fault.
module _ (setting : Setting) (there : List ℕ → Bool) (unfailing : Type 0) where
  abbrev pub Leaves : List ℕ → List ℕ → Result Verdict ScriptError → Type 0
  Leaves o e (Ok verdicts.Same) = HasCompared setting o e true
  Leaves o e (Ok verdicts.NoCompare) = HasCompared setting o e false
  Leaves o e (Ok (verdicts.Differs d)) = (is : IsDifferent setting o e (difference_line d)) × (d.path ≡ is.differs.compared.path) × (d.line ≡ is.t.lines)
  Leaves o e (Err (errors.Unloaded (loads.Refused r))) = IsRefused setting o e (line_of r)
  Leaves o e (Err (errors.Unloaded loads.Failed)) = IsUnread setting there unfailing o e
  Leaves o e (Err (errors.Unloaded loads.Memory)) = IsStarved setting o e
  Leaves o e (Err errors.Out) = OutIsCut setting o e
  Leaves o e (Err errors.Err) = EchoIsCut setting o e

  abbrev pub Runs : SinkState → SinkState → SinkState → SinkState → Result Verdict ScriptError → Type 0
  Runs out out' err err' result = (o : List ℕ) × (e : List ℕ) × Leaves o e result × Got out.written out'.written o × Got err.written err'.written e

-- What it says of the counts of faults of shelf, out and err; where out fails after a fault of the shelf, both have risen.
abbrev pub CountsScript : ℕ → ℕ → SinkState → SinkState → SinkState → SinkState → Result Verdict ScriptError → Type 0
CountsScript shelf shelf' out out' err err' (Err (errors.Unloaded loads.Failed)) = Rose shelf shelf' × (out'.faults ≡ out.faults) × (err'.faults ≡ err.faults)
CountsScript shelf shelf' out out' err err' (Err errors.Out) = ((shelf' ≡ shelf) ⊎ Rose shelf shelf') × Rose out.faults out'.faults × (err'.faults ≡ err.faults)
CountsScript shelf shelf' out out' err err' (Err errors.Err) = (shelf' ≡ shelf) × (out'.faults ≡ out.faults) × Rose err.faults err'.faults
CountsScript shelf shelf' out out' err err' _ = (shelf' ≡ shelf) × (out'.faults ≡ out.faults) × (err'.faults ≡ err.faults)
