-- What the parts of a call say; the call's own contract needs none of it.
use Rattle.std.specs.Prelude.{◌≡◌, ◌⊎◌, ℕ, Bool, List, Option, Result, Ok, Err, IfSome}
use Rattle.command_line.specs.Line.{Line, test}
use Rattle.command_line.specs.declared.reader.LineError.{LineError}
use Rattle.command_line.specs.declared.reader.LineError.TheVariants as no_line
use Rattle.outer_world.specs.Faults.{Rose}
use Rattle.outer_world.specs.Files.{Files, path_in}
use Rattle.outer_world.specs.State.{ShelfState, SinkState}
use Rattle.outer_world.specs.Texts.{read_fault_line, usage_line, want_of_memory_line}
use Rattle.outer_world.specs.Written.{Got, Puts}
use Rattle.outer_world.specs.declared.sink.Put.{Put}
use Rattle.outer_world.specs.declared.sink.Put.TheVariants as put
use Rattle.source_files.specs.Loads.{Refused, line_of}
use Rattle.source_files.specs.declared.error.LoadError.{LoadError}
use Rattle.source_files.specs.declared.error.LoadError.TheVariants as errors
use Rattle.jack_names.specs.Messages.{name_message}
use Rattle.tower.specs.declared.program.ProgramError.{ProgramError}
use Rattle.tower.specs.declared.program.ProgramError.TheVariants as programs
use Rattle.tst_runner.specs.Verdicts.{difference_line}
use Rattle.tst_runner.specs.declared.script.Verdict.{Verdict}
use Rattle.tst_runner.specs.declared.script.Verdict.TheVariants as verdicts
use Rattle.tst_runner.specs.declared.script.ScriptError.{ScriptError}
use Rattle.tst_runner.specs.declared.script.ScriptError.TheVariants as scripts
use Rattle.nand_cli.specs.Answer.{CutsEcho, CutsOut, Disagrees, Lacks, Misses, Prints, Refuses, Starves}
use Rattle.nand_cli.specs.JackFolder.{home_of}
use Rattle.nand_cli.specs.declared.command.Status.{Status}
use Rattle.nand_cli.specs.declared.command.Status.TheVariants as status
use Rattle.nand_cli.specs.declared.failure.Failure.{Failure}
use Rattle.nand_cli.specs.declared.failure.Failure.TheVariants as failure

-- ---- a line

-- What doing a line put on out and err; the message of a failure is still to be put, but none after a write fault.
abbrev pub Leaves : Option Files → (List ℕ → Bool) → Type 0 → Line → List ℕ → List ℕ → Result (Unit {0}) Failure → Type 0
Leaves files there unfailing line o e (Ok _) = Prints files line o e
Leaves files there unfailing line o e (Err (failure.Unloaded (errors.Refused refusal))) = Refuses files line o e (line_of refusal)
Leaves files there unfailing line o e (Err (failure.Unloaded errors.Failed)) = Misses files there unfailing line o e
Leaves files there unfailing line o e (Err (failure.Unloaded errors.Memory)) = Starves files line o e
Leaves files there unfailing line o e (Err (failure.Differs difference)) = Disagrees files line o e (difference_line difference)
Leaves files there unfailing line o e (Err failure.Out) = CutsOut files line o e
Leaves files there unfailing line o e (Err failure.Echo) = CutsEcho files line o e

-- What the shelf that was there, and what came on out and err, say of a line.
abbrev pub Does : ShelfState → Line → SinkState → SinkState → SinkState → SinkState → Result (Unit {0}) Failure → Type 0
Does shelf line out out' err err' result = (o : List ℕ) × (e : List ℕ) × Leaves shelf.files shelf.there shelf.unfailing line o e result × Got out.written out'.written o × Got err.written err'.written e

-- What a line reads is not there, over a shelf with no call to come that is set up to fail.
abbrev pub MissesLine : ShelfState → Line → Type 0
MissesLine shelf line = shelf.unfailing → IfSome shelf.files (λ told. Lacks shelf.there told line)

-- What doing a line says of the counts of faults of shelf, out and err. All is read before anything is put.
abbrev pub Counts : ℕ → ℕ → SinkState → SinkState → SinkState → SinkState → Result (Unit {0}) Failure → Type 0
Counts shelf shelf' out out' err err' (Err (failure.Unloaded errors.Failed)) = Rose shelf shelf' × (out'.faults ≡ out.faults) × (err'.faults ≡ err.faults)
Counts shelf shelf' out out' err err' (Err failure.Out) = (shelf' ≡ shelf) × Rose out.faults out'.faults × (err'.faults ≡ err.faults)
Counts shelf shelf' out out' err err' (Err failure.Echo) = (shelf' ≡ shelf) × (out'.faults ≡ out.faults) × Rose err.faults err'.faults
Counts shelf shelf' out out' err err' _ = (shelf' ≡ shelf) × (out'.faults ≡ out.faults) × (err'.faults ≡ err.faults)

-- The same of `test`, which puts as it reads: where out fails, a read may have failed before.
abbrev pub CountsTest : ℕ → ℕ → SinkState → SinkState → SinkState → SinkState → Result (Unit {0}) Failure → Type 0
CountsTest shelf shelf' out out' err err' (Err failure.Out) = ((shelf' ≡ shelf) ⊎ Rose shelf shelf') × Rose out.faults out'.faults × (err'.faults ≡ err.faults)
CountsTest shelf shelf' out out' err err' result = Counts shelf shelf' out out' err err' result

-- The same of any line.
abbrev pub CountsLine : Line → ℕ → ℕ → SinkState → SinkState → SinkState → SinkState → Result (Unit {0}) Failure → Type 0
CountsLine (test path gates simplify) shelf shelf' out out' err err' result = CountsTest shelf shelf' out out' err err' result
CountsLine line shelf shelf' out out' err err' result = Counts shelf shelf' out out' err err' result

-- how a line ends with the last that it puts on out
abbrev pub finish_result : Put → Result (Unit {0}) Failure
finish_result put.Done = Ok tt
finish_result put.Failed = Err failure.Out

-- how a line of `test` ends
abbrev pub end_result : Result Verdict ScriptError → Result (Unit {0}) Failure
end_result (Ok verdicts.Same) = Ok tt
end_result (Ok verdicts.NoCompare) = Ok tt
end_result (Ok (verdicts.Differs difference)) = Err (failure.Differs difference)
end_result (Err (scripts.Unloaded error)) = Err (failure.Unloaded error)
end_result (Err scripts.Out) = Err failure.Out
end_result (Err scripts.Err) = Err failure.Echo

-- ---- texts

-- Why classes mean no program is reported, unless memory is wanting.
abbrev pub TellsWrong : List ℕ → ProgramError → LoadError → Type 0
TellsWrong folder (programs.Name f) e = Refused (path_in (home_of folder f.shipped) f.file) (name_message f) e
TellsWrong folder programs.Memory e = e ≡ errors.Memory

-- ---- what is reported on err

-- the status after a line was put on err, where this one is wanted
abbrev pub told_status : Put → Status → Status
told_status put.Done wanted = wanted
told_status put.Failed wanted = status.WriteFault

-- What reporting by a line says: the line was put and this is the status, or its putting failed.
abbrev pub TellsBy : List ℕ → Status → SinkState → SinkState → Status → Type 0
TellsBy line wanted before now s = (p : Put) × Puts before now line p × (s ≡ told_status p wanted)

-- So words that are no line are reported, and so is a failure. After a write fault nothing more is
-- put.
abbrev pub TellsNoLine : LineError → SinkState → SinkState → Status → Type 0
TellsNoLine no_line.Usage before now s = TellsBy usage_line status.Usage before now s
TellsNoLine no_line.Memory before now s = TellsBy want_of_memory_line status.NoMemory before now s

abbrev pub TellsFailure : Failure → SinkState → SinkState → Status → Type 0
TellsFailure (failure.Unloaded (errors.Refused r)) before now s = TellsBy (line_of r) status.Refused before now s
TellsFailure (failure.Unloaded errors.Failed) before now s = TellsBy read_fault_line status.ReadFault before now s
TellsFailure (failure.Unloaded errors.Memory) before now s = TellsBy want_of_memory_line status.NoMemory before now s
TellsFailure (failure.Differs d) before now s = TellsBy (difference_line d) status.Differs before now s
TellsFailure failure.Out before now s = (s ≡ status.WriteFault) × (now.faults ≡ before.faults) × (now.written ≡ before.written)
TellsFailure failure.Echo before now s = (s ≡ status.WriteFault) × (now.faults ≡ before.faults) × (now.written ≡ before.written)
