-- How the end of a script is that of its line.
use Rattle.std.proofs.Common.{◌≡◌, ℕ, Bool, List, Option, Result, Ok, Err, subst}
use Rattle.outer_world.specs.Files.{Files}
use Rattle.source_files.specs.declared.error.LoadError.TheVariants as loads
use Rattle.hdl_tree.specs.declared.ends.Memories.{Memories}
use Rattle.command_line.specs.Line.{test}
use Rattle.tst_runner.specs.Setting.{setting_of}
use Rattle.tst_runner.specs.Verdicts.{CountsScript, Runs}
use Rattle.tst_runner.specs.declared.script.Verdict.{Verdict}
use Rattle.tst_runner.specs.declared.script.Verdict.TheVariants as verdicts
use Rattle.tst_runner.specs.declared.script.ScriptError.{ScriptError}
use Rattle.tst_runner.specs.declared.script.ScriptError.TheVariants as errors
use Rattle.outer_world.specs.State.{SinkState, shelf_state}
use Rattle.nand_cli.specs.Inner.Parts.{CountsTest, Does, end_result}
use Rattle.nand_cli.specs.Commands.Test.{memories_of}

by_option : (files : Option Files) (there : List ℕ → Bool) (unfailing : Type 0) (path : List ℕ) (gates simplify : Bool) (out out' err err' : SinkState) (result : Result Verdict ScriptError)
    → Runs (setting_of path files (memories_of gates)) there unfailing out out' err err' result → Does (shelf_state files there unfailing) (test path gates simplify) out out' err err' (end_result result)
by_option files there unfailing path gates simplify out out' err err' (Ok verdicts.Same) (o, e, leaves, got, told) = (o, e, leaves.0, got, told)
by_option files there unfailing path gates simplify out out' err err' (Ok verdicts.NoCompare) (o, e, leaves, got, told) = (o, e, leaves.0, got, told)
by_option files there unfailing path gates simplify out out' err err' (Ok (verdicts.Differs d)) (o, e, leaves, got, told) = (o, e, leaves.0, got, told)
by_option files there unfailing path gates simplify out out' err err' (Err (errors.Unloaded (loads.Refused r))) h = h
by_option files there unfailing path gates simplify out out' err err' (Err (errors.Unloaded loads.Failed)) h = h
by_option files there unfailing path gates simplify out out' err err' (Err (errors.Unloaded loads.Memory)) h = h
by_option files there unfailing path gates simplify out out' err err' (Err errors.Out) h = h
by_option files there unfailing path gates simplify out out' err err' (Err errors.Err) h = h

-- the memories are those that the option says
pub does : (files : Option Files) (there : List ℕ → Bool) (unfailing : Type 0) (path : List ℕ) (gates simplify : Bool) (out out' err err' : SinkState) (result : Result Verdict ScriptError) (memories : Memories)
    → memories ≡ memories_of gates → Runs (setting_of path files memories) there unfailing out out' err err' result → Does (shelf_state files there unfailing) (test path gates simplify) out out' err err' (end_result result)
does files there unfailing path gates simplify out out' err err' result memories said h =
    by_option files there unfailing path gates simplify out out' err err' result (subst (λ (m : Memories). Runs (setting_of path files m) there unfailing out out' err err' result) said h)

pub counts : (a a' : ℕ) (b b' c c' : SinkState) (result : Result Verdict ScriptError) → CountsScript a a' b b' c c' result → CountsTest a a' b b' c c' (end_result result)
counts a a' b b' c c' (Ok verdicts.Same) h = h
counts a a' b b' c c' (Ok verdicts.NoCompare) h = h
counts a a' b b' c c' (Ok (verdicts.Differs d)) h = h
counts a a' b b' c c' (Err (errors.Unloaded (loads.Refused r))) h = h
counts a a' b b' c c' (Err (errors.Unloaded loads.Failed)) h = h
counts a a' b b' c c' (Err (errors.Unloaded loads.Memory)) h = h
counts a a' b b' c c' (Err errors.Out) h = h
counts a a' b b' c c' (Err errors.Err) h = h
