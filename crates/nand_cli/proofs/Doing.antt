-- What a line does: where nothing is loaded nothing is put, and else what its last putting answers.
use Rattle.std.proofs.Common.{◌≡◌, ℕ, Bool, List, [], Option, Some, None, Err, refl, inl, take}
use Rattle.std.specs.Prelude.{IfSome}
use Rattle.outer_world.specs.Files.{Files, LacksFolder}
use Rattle.outer_world.specs.Written.{CountsPut, Puts}
use Rattle.outer_world.specs.declared.sink.Put.{Put}
use Rattle.outer_world.specs.declared.sink.Put.TheVariants as put
use Rattle.outer_world.proofs.Passing.{Got-nothing}
use Rattle.command_line.specs.Line.{IsNoTest, Line, chip, of_classes, of_file, soak, test, vm}
use Rattle.source_files.specs.Loads.{CountsLoad, Loads, line_of}
use Rattle.source_files.specs.declared.error.LoadError.{LoadError}
use Rattle.source_files.specs.declared.error.LoadError.TheVariants as errors
use Rattle.outer_world.specs.State.{SinkState, shelf_state}
use Rattle.nand_cli.specs.Answer.{CutsOut, Lacks, Misses, Prints, Refuses, Starves}
use Rattle.nand_cli.specs.Inner.Parts.{Counts, Does, finish_result}
use Rattle.nand_cli.specs.declared.failure.Failure.TheVariants as failure

-- ---- all commands but `test` put nothing before the message of how they ended

pub misses_other : (files : Option Files) (there : List ℕ → Bool) (unfailing : Type 0) (line : Line) → IsNoTest line → (unfailing → IfSome files (λ told. Lacks there told line)) → Misses files there unfailing line [] []
misses_other files there unfailing (of_classes source work) other may = (refl, refl, may)
misses_other files there unfailing (of_file path work) other may = (refl, refl, may)
misses_other files there unfailing (vm folder bare) other may = (refl, refl, may)
misses_other files there unfailing (chip name) other may = (refl, refl, may)
misses_other files there unfailing (test path gates simplify) other may = absurd other
misses_other files there unfailing (soak seed count) other may = (refl, refl, may)

pub starves_other : (files : Option Files) (line : Line) → IsNoTest line → Starves files line [] []
starves_other files (of_classes source work) other = (refl, refl)
starves_other files (of_file path work) other = (refl, refl)
starves_other files (vm folder bare) other = (refl, refl)
starves_other files (chip name) other = (refl, refl)
starves_other files (test path gates simplify) other = absurd other
starves_other files (soak seed count) other = (refl, refl)

pub cuts_other : (files : Option Files) (line : Line) (text : List ℕ) (n : ℕ) → IsNoTest line → Prints files line text [] → CutsOut files line (take n text) []
cuts_other files (of_classes source work) text n other prints = (text, n, prints, refl, refl)
cuts_other files (of_file path work) text n other prints = (text, n, prints, refl, refl)
cuts_other files (vm folder bare) text n other prints = (text, n, prints, refl, refl)
cuts_other files (chip name) text n other prints = (text, n, prints, refl, refl)
cuts_other files (test path gates simplify) text n other prints = absurd other
cuts_other files (soak seed count) text n other prints = (text, n, prints, refl, refl)

-- nothing is put of what is not loaded
pub nothing_put : {A : Type 0} (good : A → Type 0) (refused : List ℕ → Type 0) (missed : Type 0) (files : Option Files) (there : List ℕ → Bool) (unfailing : Type 0) (line : Line) (out err : SinkState) (e : LoadError)
    → ((text : List ℕ) → refused text → Refuses files line [] [] text) → (missed → unfailing → IfSome files (λ told. Lacks there told line)) → Loads good refused missed (Err e) → IsNoTest line
    → Does (shelf_state files there unfailing) line out out err err (Err (failure.Unloaded e))
nothing_put good refused missed files there unfailing line out err (errors.Refused r) more may h other = ([], [], more (line_of r) h, Got-nothing out.written, Got-nothing err.written)
nothing_put good refused missed files there unfailing line out err errors.Failed more may h other = ([], [], misses_other files there unfailing line other (may h), Got-nothing out.written, Got-nothing err.written)
nothing_put good refused missed files there unfailing line out err errors.Memory more may h other = ([], [], starves_other files line other, Got-nothing out.written, Got-nothing err.written)

pub unread_counts : (A : Type 0) (e : LoadError) (shelf shelf' : ℕ) (out err : SinkState) → CountsLoad {A = A} shelf shelf' (Err e) → Counts shelf shelf' out out err err (Err (failure.Unloaded e))
unread_counts A (errors.Refused r) shelf shelf' out err h = (h, refl, refl)
unread_counts A errors.Failed shelf shelf' out err h = (h, refl, refl)
unread_counts A errors.Memory shelf shelf' out err h = (h, refl, refl)

-- what is not made, and was not read
pub unmade_counts : {A : Type 0} (good : A → Type 0) (refused : List ℕ → Type 0) (e : LoadError) (shelf shelf' : ℕ) (out err : SinkState) → Loads good refused ⊥ (Err e) → shelf' ≡ shelf → Counts shelf shelf' out out err err (Err (failure.Unloaded e))
unmade_counts good refused (errors.Refused r) shelf shelf' out err h e = (e, refl, refl)
unmade_counts good refused errors.Failed shelf shelf' out err h e = absurd h
unmade_counts good refused errors.Memory shelf shelf' out err h e = (e, refl, refl)

-- a shelf that fails in a folder that is not there
pub missing : (files : Option Files) (there : List ℕ → Bool) (folder : List ℕ) (line : Line) → ((told : Files) → LacksFolder (Some told) there folder → Lacks there told line) → LacksFolder files there folder → IfSome files (λ told. Lacks there told line)
missing None there folder line so h = h
missing (Some told) there folder line so h = so told h

-- ---- what is put

pub done_by : (files : Option Files) (there : List ℕ → Bool) (unfailing : Type 0) (line : Line) (text : List ℕ) (out out' err : SinkState) (p : Put) → Prints files line text [] → Puts out out' text p
    → IsNoTest line → Does (shelf_state files there unfailing) line out out' err err (finish_result p)
done_by files there unfailing line text out out' err put.Done prints puts other = (text, [], prints, puts.bytes, Got-nothing err.written)
done_by files there unfailing line text out out' err put.Failed prints puts other = (take puts.bytes.0 text, [], cuts_other files line text puts.bytes.0 other prints, puts.bytes.1, Got-nothing err.written)

pub done_counts : (shelf shelf' : ℕ) (out out' err : SinkState) (p : Put) → shelf' ≡ shelf → CountsPut out.faults out'.faults p → Counts shelf shelf' out out' err err (finish_result p)
done_counts shelf shelf' out out' err put.Done same counts = (same, counts, refl)
done_counts shelf shelf' out out' err put.Failed same counts = (same, counts.0, refl)
