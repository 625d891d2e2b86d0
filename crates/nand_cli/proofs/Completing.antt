-- A line with which nothing is wrong is not refused, and a call in which nothing failed completes.
use Rattle.std.proofs.Common.{◌≡◌, ◌⊎◌, ◌++◌, inl, inr, ℕ, Bool, true, false, List, Option, Some, Err, map, refl, sym, ◌∙◌, subst, arith}
use Rattle.outer_world.specs.Faults.{Rose}
use Rattle.outer_world.specs.Files.{Files}
use Rattle.outer_world.specs.Refusals.{Message}
use Rattle.key_script.specs.Grammar.{ReadingLaw as KeyLaw}
use Rattle.vm_tree.specs.declared.program.File.{File}
use Rattle.vm_link.specs.Links.{Links}
use Rattle.vm_link.specs.declared.fault.LinkFault.TheVariants.{TooManyStatics}
use Rattle.jack_tree.specs.Seen.{the_file}
use Rattle.jack_parser.specs.Spelled.{ClassLaw}
use Rattle.jack_meaning.specs.Text.{Program}
use Rattle.jack_core.specs.declared.program.Core.{Core}
use Rattle.jack_core.specs.Texts.{the_program}
use Rattle.jack_names.specs.Meaning.{program_meaning, program_names}
use Rattle.jack_tree.specs.Syntax.{ClassFile}
use Rattle.jack_names.specs.NameFaults.{IsWellNamed}
use Rattle.jack_os.specs.System.{AreFilesOf}
use Rattle.jack_os.proofs.SystemTexts.{seen_files}
use Rattle.os_named.specs.Laws.{SystemNamedLaw}
use Rattle.jack_compiler.specs.Files.{files_of, program_files}
use Rattle.jack_compiler.specs.Resolved.{IsResolvedCore}
use Rattle.tower.specs.Budget.{BudgetLaw, IsBudget}
use Rattle.tower.specs.Image.{Builds}
use Rattle.tower.specs.Program.{class_names}
use Rattle.tower.specs.Sources.{system_beside}
use Rattle.tower.proofs.Beside.{one_beside}
use Rattle.tower.specs.Resolved.{ResolvedLaw}
use Rattle.tower.specs.Messages.{build_message}
use Rattle.tower.specs.declared.building.BuildError.{BuildError}
use Rattle.tower.specs.declared.building.BuildError.TheVariants as building
use Rattle.command_line.specs.Line.{IsLine, Line, Source, build, chip, compile, debug, map_image, of_classes, of_file, run, soak, test, vm}
use Rattle.command_line.proofs.Lines.{one_line}
use Rattle.nand_cli.specs.Answer.{Ends, Promises, WordsEnd}
use Rattle.nand_cli.specs.Commands.Build.{BuildRefuses, unbuilt, without_program}
use Rattle.nand_cli.specs.Commands.Debug.{DebugRefuses, IsSoundStatement, without_image, without_point, without_script as debug_without_script}
use Rattle.nand_cli.specs.Commands.Run.{RunRefuses, unbuilt as run_unbuilt, without_program as run_without_program, without_script}
use Rattle.nand_cli.specs.Complete.{Completes, HasRightNames, IsDoneOrWanting, IsSoundFolder, IsSoundScript, IsUnrefused, NoneFailed, SoundLaw}
use Rattle.nand_cli.specs.JackFolder.{BuildIsRefused, FolderIsRefused, FolderMeans, files_meant}
use Rattle.nand_cli.specs.Outside.{Outside}
use Rattle.nand_cli.specs.declared.command.Status.{Status}
use Rattle.nand_cli.specs.declared.command.Status.TheVariants as status
use Rattle.nand_cli.proofs.OneFolder.{never_meaningless, never_scripted, one_list_of_classes}
use Rattle.nand_cli.proofs.FolderResolved.{folder_resolved}
use Rattle.nand_cli.proofs.Statics.{statics_over}

-- ---- a folder with which nothing is wrong

-- the laws that this rests on
pub record Laws : Type 0 where
  pub classes : ClassLaw
  pub scripts : KeyLaw
  pub names : ResolvedLaw
  pub budgets : BudgetLaw
  pub system : SystemNamedLaw

-- right names are well named, since those of the whole operating system are right
well_named : SystemNamedLaw → (replace : Bool) (own os : List ClassFile) → AreFilesOf (system_beside replace own) os → HasRightNames replace own os → IsWellNamed own os
well_named law false own os are right = law.well own os are right
well_named law true own os are right = right

module _ (laws : Laws) (files : Files) (source : Source) (sound : IsSoundFolder files source) where
  abbrev law : ClassLaw
  law = laws.classes

  never_refused : (line : List ℕ) → FolderIsRefused (Some files) source line → ⊥
  never_refused line k =
      never_meaningless law files source sound.own sound.os line sound.spelled sound.shipped (well_named laws.system source.replace sound.own sound.os sound.shipped sound.named) k

  -- what the folder means is the program that is sound
  record IsMeant (core : Core) : Type 0 where
    program : the_program core ≡ program_meaning sound.own sound.os
    compiled : files_of core ≡ files_meant sound.own sound.os
    resolved : IsResolvedCore core

  meant : (core : Core) → FolderMeans (Some files) source core → IsMeant core
  meant core (ds, has, (os, are, is)) =
      let mine = one_list_of_classes law files source.folder (map the_file ds) sound.own has sound.spelled in
      let theirs = one_beside source.replace (map the_file ds) sound.own (map the_file os) sound.os mine
      (seen_files (system_beside source.replace (map the_file ds)) os are) sound.shipped in
      let p = is.program ∙ (λ i. program_meaning (mine i) (theirs i)) in
      let n = is.names ∙ (λ i. program_names (mine i) (theirs i)) in
      let k = is.classes ∙ (λ i. class_names (mine i) ++ class_names (theirs i)) in
      record {
        program = p;
        compiled = λ i. program_files (p i) (n i) (k i);
        resolved = folder_resolved laws.names (Some files) source core (ds, has, (os, are, is));
      }

  -- it has a computer
  built : (core : Core) (error : BuildError) (told : Message) → IsMeant core → Builds core (Err error) → build_message error ≡ Some told → ⊥
  built core building.Memory told is h e = let no : ⊥ = cc in no
  built core (building.TooManyStatics w) told is h e =
      let (words, has, few) = sound.statics in
      let over = statics_over (files_meant sound.own sound.os) w words (subst (λ (fs : List File). Links false fs (Err (TooManyStatics w))) is.compiled h) has in
      omega (arith, over, few)
  built core (building.TooLarge w) told is h e =
      let (words, budget, few) = sound.budget in
      let over = (laws.budgets.too_large core w is.resolved h words (subst (λ (p : Program). IsBudget p words) (sym is.program) budget)).1 in
      omega (arith, over, few)

  never_unbuilt : (core : Core) (line : List ℕ) → FolderMeans (Some files) source core → BuildIsRefused core source.folder line → ⊥
  never_unbuilt core line means (error, told, h, e, d) = built core error told (meant core means) h e

  build_accepted : (line : List ℕ) → BuildRefuses (Some files) source line → ⊥
  build_accepted line (without_program k) = never_refused line k
  build_accepted line (unbuilt core means k) = never_unbuilt core line means k

  run_accepted : (keys : Option (List ℕ)) (line : List ℕ) → IsSoundScript files keys → RunRefuses (Some files) source keys line → ⊥
  run_accepted keys line (lines, has) (run_without_program k) = never_refused line k
  run_accepted keys line (lines, has) (run_unbuilt core means k) = never_unbuilt core line means k
  run_accepted keys line (lines, has) (without_script core means computer k) = never_scripted laws.scripts files keys lines line has k

  debug_accepted : (sub : List ℕ) (number : ℕ) (keys : Option (List ℕ)) (line : List ℕ) → IsSoundScript files keys → IsSoundStatement files source sub number → DebugRefuses (Some files) source sub number keys line → ⊥
  debug_accepted sub number keys line script point (without_image k) = build_accepted line k
  debug_accepted sub number keys line script point (without_point places here none e) = none (point places here)
  debug_accepted sub number keys line (lines, has) point (debug_without_script places here there k) = never_scripted laws.scripts files keys lines line has k

pub sound_lines : Laws → SoundLaw
sound_lines laws files (of_classes source compile) (sound, script, point) = record {
  accepted = λ out before told h. never_refused laws files source sound told h.1;
  agrees = λ out before told h. h;
}
sound_lines laws files (of_classes source build) (sound, script, point) = record {
  accepted = λ out before told h. build_accepted laws files source sound told h.1;
  agrees = λ out before told h. h;
}
sound_lines laws files (of_classes source (map_image format)) (sound, script, point) = record {
  accepted = λ out before told h. build_accepted laws files source sound told h.1;
  agrees = λ out before told h. h;
}
sound_lines laws files (of_classes source (run level cycles keys)) (sound, script, point) = record {
  accepted = λ out before told h. run_accepted laws files source sound keys told script h.1;
  agrees = λ out before told h. h;
}
sound_lines laws files (of_classes source (debug sub number cycles keys)) (sound, script, point) = record {
  accepted = λ out before told h. debug_accepted laws files source sound sub number keys told script point h.1;
  agrees = λ out before told h. h;
}
sound_lines laws files (of_file path work) sound = absurd sound
sound_lines laws files (vm folder bare) sound = absurd sound
sound_lines laws files (chip name) sound = absurd sound
sound_lines laws files (test path gates simplify) sound = absurd sound
sound_lines laws files (soak seed count) sound = absurd sound

-- ---- the call

module _ (words : List (List ℕ)) (before after : Outside) where
  -- words that are a line end as this line does
  as_line : (s : Status) (out err : List ℕ) (line : Line) → IsLine words line → WordsEnd before words s out err → (s ≡ status.NoMemory) ⊎ Ends before.files before.there before.unfailing line s out err
  as_line status.Done out err line is (inl never) = absurd never
  as_line status.Refused out err line is (inl never) = absurd never
  as_line status.Usage out err line is (inl (none, o, e)) = absurd (none line is)
  as_line status.ReadFault out err line is (inl never) = absurd never
  as_line status.WriteFault out err line is (inl never) = absurd never
  as_line status.NoMemory out err line is (inl h) = inl refl
  as_line status.Differs out err line is (inl never) = absurd never
  as_line s out err line is (inr (other, also, ends)) =
      inr (subst (λ (l : Line). Ends before.files before.there before.unfailing l s out err) (one_line words other line also is) ends)

  done_by : (line : Line) (s : Status) → IsLine words line → IsUnrefused before.files line → NoneFailed before after → Promises words before after s → IsDoneOrWanting s
  done_by line status.Done is accepted quiet promises = inl refl
  done_by line status.Refused is accepted quiet promises = by_refusal (as_line status.Refused promises.answers.0 promises.answers.1 line is promises.answers.2)
    where
      by_refusal : (status.Refused ≡ status.NoMemory) ⊎ Ends before.files before.there before.unfailing line status.Refused promises.answers.0 promises.answers.1 → IsDoneOrWanting status.Refused
      by_refusal (inl e) = inr e
      by_refusal (inr h) = absurd (accepted.accepted promises.answers.0 h.0 h.1 h.2)
  done_by line status.Usage is accepted quiet promises = by_usage (as_line status.Usage promises.answers.0 promises.answers.1 line is promises.answers.2)
    where
      by_usage : (status.Usage ≡ status.NoMemory) ⊎ Ends before.files before.there before.unfailing line status.Usage promises.answers.0 promises.answers.1 → IsDoneOrWanting status.Usage
      by_usage (inl e) = inr e
      by_usage (inr h) = absurd h.2
  done_by line status.ReadFault is accepted quiet promises = absurd (quiet.shelf promises.causes.0)
  done_by line status.WriteFault is accepted quiet promises = by_write promises.causes.0
    where
      by_write : Rose before.out_faults after.out_faults ⊎ Rose before.err_faults after.err_faults → IsDoneOrWanting status.WriteFault
      by_write (inl h) = absurd (quiet.out h)
      by_write (inr h) = absurd (quiet.err h)
  done_by line status.NoMemory is accepted quiet promises = inr refl
  done_by line status.Differs is accepted quiet promises = by_difference (as_line status.Differs promises.answers.0 promises.answers.1 line is promises.answers.2)
    where
      by_difference : (status.Differs ≡ status.NoMemory) ⊎ Ends before.files before.there before.unfailing line status.Differs promises.answers.0 promises.answers.1 → IsDoneOrWanting status.Differs
      by_difference (inl e) = inr e
      by_difference (inr h) = absurd (accepted.agrees promises.answers.0 h.0 h.1 h.2)

pub completes : SoundLaw → (words : List (List ℕ)) (before after : Outside) (s : Status) → Promises words before after s → Completes words before after s
completes law words before after s promises = record {
  sound = λ files line told is sound quiet.
      done_by words before after line s is (subst (λ (fs : Option Files). IsUnrefused fs line) (sym told) (law files line sound)) quiet promises;
  unrefused = λ line is accepted quiet. done_by words before after line s is accepted quiet promises;
}
