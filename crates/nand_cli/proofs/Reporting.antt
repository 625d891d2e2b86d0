-- The report of what a machine shows; and what a line of `run` does, prepared or not.
use Rattle.std.proofs.Common.{◌≡◌, ◌-◌, ℕ, Bool, List, [], Option, Some, None, Result, Ok, Err, refl, sym, ◌∙◌, ap, subst, inl, inr, slice_index, take}
use Rattle.std.specs.Prelude.{IfSome}
use Rattle.jack_meaning.specs.Level.{point_in}
use Rattle.jack_core.specs.declared.program.Core.{Core}
use Rattle.jack_core.specs.Texts.{names_of}
use Rattle.jack_machine.specs.Whole.{jack_word}
use Rattle.jack_machine.specs.declared.jack.Jack.{Jack}
use Rattle.key_script.specs.Codes.{code_at}
use Rattle.key_script.specs.declared.keys.Keys.{Keys}
use Rattle.key_script.specs.declared.lines.Line.{Line}
use Rattle.outer_world.specs.Files.{Files, LacksFolder}
use Rattle.outer_world.specs.Written.{CountsPut, Got, Puts}
use Rattle.outer_world.specs.declared.sink.Put.{Put}
use Rattle.outer_world.specs.declared.sink.Put.TheVariants as put
use Rattle.outer_world.proofs.Passing.{Got-nothing}
use Rattle.outer_world.specs.declared.point.Point.{Point}
use Rattle.machine_io.specs.Report.{report_text}
use Rattle.machine_io.specs.declared.driving.End.{End}
use Rattle.machine_io.specs.declared.report.LevelName.TheVariants as names
use Rattle.machine_io.specs.declared.report.Show.{Show}
use Rattle.source_files.specs.Loads.{CountsLoad, Loads}
use Rattle.source_files.proofs.Told.{without}
use Rattle.source_files.specs.declared.error.LoadError.{LoadError}
use Rattle.source_files.specs.declared.error.LoadError.TheVariants as errors
use Rattle.command_line.specs.Line.{Source, of_classes, run}
use Rattle.command_line.specs.declared.request.RunLevel.{RunLevel}
use Rattle.command_line.specs.declared.request.RunLevel.TheVariants as levels
use Rattle.tower.specs.Image.{IsImageOf}
use Rattle.outer_world.specs.State.{SinkState, shelf_state}
use Rattle.nand_cli.specs.Answer.{Lacks}
use Rattle.nand_cli.specs.JackFolder.{BuildIsRefused, FolderIsRefused, FolderMeans, IsBuilt}
use Rattle.nand_cli.specs.Inner.Parts.{Counts, Does, finish_result}
use Rattle.nand_cli.specs.Inner.Reports.{CountsReport, HasRun, IsPut, Reports, jack_text}
use Rattle.nand_cli.specs.Inner.Prepared.{IsPrepared, level_of}
use Rattle.nand_cli.specs.declared.commands.run.PreparedRun.{PreparedRun}
use Rattle.nand_cli.specs.Commands.Run.{HasKeys, IsReport, LacksKeys, RunRefuses, ScriptIsRefused, TellsAtMost, name_of, unbuilt, without_program, without_script}
use Rattle.nand_cli.specs.declared.failure.Failure.{Failure}
use Rattle.nand_cli.specs.declared.failure.Failure.TheVariants as failure
use Rattle.nand_cli.proofs.Doing.{missing, nothing_put}

pub reported : (n : ℕ) (show : Show) (core : Core) (new : Jack) (code : ℕ → ℕ) (end : End)
    → new.core.now ≡ core → HasRun code n new end → IsReport (levels.Jack show) core code n (jack_text new (names_of core) end show)
reported n show core new code end same (s, at, ends_so, shows) =
    let all = names_of new.core.now in
    let text =
    ap (λ (p : Point). report_text names.Jack new.moves new.moves (name_of all p.sub) p.number end show (jack_word new)) shows.point
    ∙ ap (λ (ws : List ℕ). report_text names.Jack new.moves new.moves (name_of all (point_in s).sub) (point_in s).number end show (λ a. slice_index ws (a - 2048))) shows.words in
    subst (λ (c : Core). IsReport (levels.Jack show) c code n (jack_text new (names_of c) end show)) same (new.moves, s, end, at, ends_so, text)

-- ---- the report is put

pub reports_by : (is_report : List ℕ → Type 0) (text : List ℕ) (out out' : SinkState) (p : Put) → is_report text → Puts out out' text p → Reports is_report out out' (finish_result p)
reports_by is_report text out out' put.Done is puts = (text, is, puts.bytes)
reports_by is_report text out out' put.Failed is puts = (text, is, puts.bytes)

pub counts_by : (out out' : SinkState) (p : Put) → CountsPut out.faults out'.faults p → CountsReport out out' (finish_result p)
counts_by out out' put.Done counts = counts
counts_by out out' put.Failed counts = counts.0

pub is_put : (p : Put) → IsPut (finish_result p)
is_put put.Done = tt
is_put put.Failed = tt

-- a report is one of another kind too
pub reported_as : (P Q : List ℕ → Type 0) (out out' : SinkState) (r : Result (Unit {0}) Failure) → ((text : List ℕ) → P text → Q text) → Reports P out out' r → Reports Q out out' r
reported_as P Q out out' (Ok u) more (text, is, got) = (text, more text is, got)
reported_as P Q out out' (Err failure.Out) more (text, is, part) = (text, more text is, part)
reported_as P Q out out' (Err (failure.Unloaded e)) more h = h
reported_as P Q out out' (Err (failure.Differs d)) more h = absurd h
reported_as P Q out out' (Err failure.Echo) more h = absurd h

-- ---- the line

module _ (level : RunLevel) (files : Option Files) (there : List ℕ → Bool) (steady : Type 0) (source : Source) (n : ℕ) (keys : Option (List ℕ)) where
  -- with a report
  pub answered : (core : Core) (lines : List Line) (out out' err : SinkState) (r : Result (Unit {0}) Failure) → FolderMeans files source core → IsBuilt core → HasKeys files keys lines
      → Reports (IsReport level core (code_at lines) n) out out' r → Does (shelf_state files there steady) (of_classes source (run level n keys)) out out' err err r
  answered core lines out out' err (Ok u) means built has (text, is, got) = (text, [], ((core, lines, means, built, has, is), refl), got, Got-nothing err.written)
  answered core lines out out' err (Err failure.Out) means built has (text, is, part) = (take part.0 text, [], (text, part.0, ((core, lines, means, built, has, is), refl), refl, refl), part.1, Got-nothing err.written)
  answered core lines out out' err (Err (failure.Differs d)) means built has h = absurd h
  answered core lines out out' err (Err failure.Echo) means built has h = absurd h
  answered core lines out out' err (Err (failure.Unloaded (errors.Refused why))) means built has (same, e) = absurd (let bad : ⊥ = cc in bad)
  answered core lines out out' err (Err (failure.Unloaded errors.Failed)) means built has (same, e) = absurd (let bad : ⊥ = cc in bad)
  answered core lines out out' err (Err (failure.Unloaded errors.Memory)) means built has (same, e) =
      ([], [], (refl, refl), subst (λ now. Got out.written now []) (sym same) (Got-nothing out.written), Got-nothing err.written)

  -- of what is prepared for it
  pub shown : (p : PreparedRun) (out out' err : SinkState) (r : Result (Unit {0}) Failure) → IsPrepared files source level n keys p
      → Reports (λ text. IsReport (level_of p.machine) p.core (code_at p.keys) p.cycles text × TellsAtMost p.cycles text) out out' r → Does (shelf_state files there steady) (of_classes source (run level n keys)) out out' err err r
  shown p out out' err r is h =
      let one = IsReport (level_of p.machine) p.core (code_at p.keys) p.cycles in
      let told = reported_as (λ text. one text × TellsAtMost p.cycles text) one out out' r (λ text both. both.0) h in
      let A : RunLevel → Type 0 = λ l. Reports (IsReport l p.core (code_at p.keys) p.cycles) out out' r in
      let B : ℕ → Type 0 = λ m. Reports (IsReport level p.core (code_at p.keys) m) out out' r in
      answered p.core p.keys out out' err r is.means is.built is.has_keys (subst B is.same_cycles (subst A is.same_level told))

  -- without a program, without its image, and without keys
  abbrev Missed : Type 0
  Missed = steady → IfSome files (λ told. Lacks there told (of_classes source (run level n keys)))

  abbrev Unprepared : LoadError → Type 0
  Unprepared e = Loads (IsPrepared files source level n keys) (RunRefuses files source keys) Missed (Err e)

  pub without_jack : (e : LoadError) → Loads (FolderMeans files source) (FolderIsRefused files source) (steady → LacksFolder files there source.folder) (Err e) → Unprepared e
  without_jack e h =
      without (FolderMeans files source) (FolderIsRefused files source) (steady → LacksFolder files there source.folder) (IsPrepared files source level n keys) (RunRefuses files source keys) Missed e
      (λ told k. without_program k) (λ k s. missing files there source.folder (of_classes source (run level n keys)) (λ told none. inl none) (k s)) h

  pub without_image : (core : Core) (e : LoadError) → FolderMeans files source core → Loads (IsImageOf core) (BuildIsRefused core source.folder) ⊥ (Err e) → Unprepared e
  without_image core e means h =
      without (IsImageOf core) (BuildIsRefused core source.folder) ⊥ (IsPrepared files source level n keys) (RunRefuses files source keys) Missed e
      (λ told k. unbuilt core means k) (λ k. absurd k) h

  without_script_file : (told : Option Files) (core : Core) → FolderMeans told source core → IsBuilt core → LacksKeys told keys → IfSome told (λ fs. Lacks there fs (of_classes source (run level n keys)))
  without_script_file None core means built lacks = tt
  without_script_file (Some fs) core means built lacks = inr (core, means, built, lacks)

  pub without_keys : (core : Core) (e : LoadError) → FolderMeans files source core → IsBuilt core
      → Loads (λ (k : Keys). HasKeys files keys k) (ScriptIsRefused files keys) (steady → LacksKeys files keys) (Err e) → Unprepared e
  without_keys core e means built h =
      without (λ (k : Keys). HasKeys files keys k) (ScriptIsRefused files keys) (steady → LacksKeys files keys) (IsPrepared files source level n keys) (RunRefuses files source keys) Missed e
      (λ told k. without_script core means built k) (λ k s. without_script_file files core means built (k s)) h

  -- a line that is not prepared does nothing
  pub undone : (out err : SinkState) (e : LoadError) → Unprepared e → Does (shelf_state files there steady) (of_classes source (run level n keys)) out out err err (Err (failure.Unloaded e))
  undone out err e h =
      nothing_put (IsPrepared files source level n keys) (RunRefuses files source keys) Missed files there steady (of_classes source (run level n keys)) out err e
      (λ told k. (refl, k, refl)) (λ k. k) h tt

-- a fault of the shelf counts alike, whatever was to be loaded
pub counts_too : (A B : Type 0) (e : LoadError) (shelf shelf' : ℕ) → CountsLoad {A = A} shelf shelf' (Err e) → CountsLoad {A = B} shelf shelf' (Err e)
counts_too A B (errors.Refused r) shelf shelf' h = h
counts_too A B errors.Failed shelf shelf' h = h
counts_too A B errors.Memory shelf shelf' h = h

-- nor does it rise where nothing is read
pub counts_none : {A : Type 0} (B : Type 0) (good : A → Type 0) (refused : List ℕ → Type 0) (e : LoadError) (shelf shelf' : ℕ) → Loads good refused ⊥ (Err e) → shelf' ≡ shelf → CountsLoad {A = B} shelf shelf' (Err e)
counts_none B good refused (errors.Refused r) shelf shelf' h e = e
counts_none B good refused errors.Failed shelf shelf' h e = absurd h
counts_none B good refused errors.Memory shelf shelf' h e = e

-- ---- the counts

pub report_counts : (is_report : List ℕ → Type 0) (shelf shelf' : ℕ) (out out' err : SinkState) (r : Result (Unit {0}) Failure) → shelf' ≡ shelf
    → Reports is_report out out' r → CountsReport out out' r → Counts shelf shelf' out out' err err r
report_counts is_report shelf shelf' out out' err (Ok u) e h count = (e, count, refl)
report_counts is_report shelf shelf' out out' err (Err failure.Out) e h count = (e, count, refl)
report_counts is_report shelf shelf' out out' err (Err (failure.Differs d)) e h count = absurd h
report_counts is_report shelf shelf' out out' err (Err failure.Echo) e h count = absurd h
report_counts is_report shelf shelf' out out' err (Err (failure.Unloaded (errors.Refused why))) e h count = (e, count, refl)
report_counts is_report shelf shelf' out out' err (Err (failure.Unloaded errors.Failed)) e (same, bad) count = absurd (let no : ⊥ = cc in no)
report_counts is_report shelf shelf' out out' err (Err (failure.Unloaded errors.Memory)) e h count = (e, count, refl)
