-- No line of `soak` is refused.
use Rattle.std.proofs.Common.{◌≡◌, ◌≤◌, ◌+◌, ◌++◌, ℕ, suc, false, List, Some, Err, length, map, drop, refl, sym, subst, arith, lit≤}
use Rattle.outer_world.specs.Refusals.{Message}
use Rattle.vm_link.specs.Faults.{words_before}
use Rattle.vm_link.specs.Links.{Links, faulty, kept_faulty}
use Rattle.vm_link.specs.Reached.{Keeps, Reached}
use Rattle.vm_link.specs.Sections.{Section, sections}
use Rattle.vm_link.specs.declared.fault.LinkFault.TheVariants.{TooManyStatics}
use Rattle.scan_text.specs.declared.Place.{Place}
use Rattle.jack_tree.specs.Syntax.{Class, ClassFile, Statements}
use Rattle.jack_tree.specs.Seen.{the_file}
use Rattle.jack_parser.specs.PrintedClass.{PrintedClassLaw}
use Rattle.jack_parser.specs.Spelled.{ClassLaw, SpellsClass}
use Rattle.jack_meaning.specs.Text.{Program}
use Rattle.jack_names.specs.Meaning.{class_meaning, program_meaning}
use Rattle.jack_os.specs.System.{system}
use Rattle.jack_os.proofs.SystemTexts.{are_files, one_list, seen_files, system_classes}
use Rattle.jack_core.specs.declared.program.Core.{Core}
use Rattle.jack_core.specs.Texts.{class_names_of, names_of, the_program}
use Rattle.jack_compiler.specs.Files.{files_of, statics_before}
use Rattle.jack_compiler.specs.Resolved.{IsResolvedCore, IsResolvedSubroutine}
use Rattle.jack_compiler.proofs.Numbering.{files_long}
use Rattle.jack_compiler.proofs.Resolving.{under}
use Rattle.jack_compiler.proofs.Sectioned.{sections_are}
use Rattle.tower.specs.Existence.{FilesMean}
use Rattle.tower.specs.Image.{Builds}
use Rattle.tower.specs.Messages.{build_message}
use Rattle.tower.specs.Resolved.{ResolvedLaw}
use Rattle.tower.specs.declared.building.BuildError.{BuildError}
use Rattle.tower.specs.declared.building.BuildError.TheVariants as building
use Rattle.soak_program.specs.Generator.{IsProgramText}
use Rattle.soak_program.specs.Laws.{LengthLaw}
use Rattle.soak_laws.specs.Named.{NamedLaw, folder_of}
use Rattle.soak_laws.specs.Spelled.{SpelledLaw}
use Rattle.soak_laws.proofs.Pieces.{Places}
use Rattle.soak_laws.proofs.Programs.{class_at, generated}
use Rattle.soak_outcome.specs.Fits.{FitsLaw}
use Rattle.soak_outcome.specs.Unrefused.{UnrefusedLaw}
use Rattle.soak_outcome.proofs.FewStatics.{AreFew, each_of, kept_few, sections_few, words_few}
use Rattle.soak_outcome.proofs.Files.{files_mean, has_classes}
use Rattle.nand_cli.specs.Commands.Build.{BuildRefuses, unbuilt, without_program}
use Rattle.nand_cli.specs.Commands.Soak.{HasNoImage, soak_files, soak_source}
use Rattle.nand_cli.specs.JackFolder.{FolderMeans}
use Rattle.nand_cli.proofs.FolderResolved.{folder_resolved}
use Rattle.nand_cli.proofs.OneFolder.{never_meaningless}
use Rattle.nand_cli.proofs.Statics.{not_of_text, statics_over}

-- ---- static words

module _ (core : Core) (resolved : IsResolvedCore core) where
  few_words : (ks : List Section) → Keeps (Reached (sections false (files_of core))) 0 (sections false (files_of core)) ks
      → words_before ks (length (files_of core)) ≤ statics_before (the_program core).classes (length (the_program core).classes)
  few_words ks keeps =
      let program = the_program core in
      let names = names_of core in
      let is = sections_are program names (class_names_of core) resolved.order (under program names resolved) in
      let few = sections_few program names 1 (drop 1 program.subroutines) (each_of (IsResolvedSubroutine program) program.subroutines resolved.each) in
      let all : AreFew program names (sections false (files_of core)) = subst (AreFew program names) (sym is) few in
      let long = files_long program names (class_names_of core) 0 program.classes in
      let most = words_few program names ks (length (files_of core)) (kept_few program names (Reached (sections false (files_of core))) keeps all) in
      subst (λ (n : ℕ). words_before ks (length (files_of core)) ≤ statics_before program.classes n) long most

  never_many : (w : ℕ) → statics_before (the_program core).classes (length (the_program core).classes) ≤ 240 → Links false (files_of core) (Err (TooManyStatics w)) → ⊥
  never_many w few (faulty e) = not_of_text _ _ _ _ w e
  never_many w few (kept_faulty ks text are e) =
      let over = statics_over (files_of core) w (words_before ks (length (files_of core))) (kept_faulty ks text are e) (ks, are, refl) in
      let most = few_words ks are in
      omega (arith, over, most, few)

-- all statics of a generated class and of the operating system
abbrev all_statics : Class → List ClassFile → ℕ
all_statics c os = statics_before (map class_meaning (folder_of c ++ os)) (length (map class_meaning (folder_of c ++ os)))

own_statics : (body : Places → Statements) (close : Places → Place) (p : Places) → all_statics (class_at body close p) system_classes ≤ 240
own_statics body close p = lit≤ tt

module _ (printed : PrintedClassLaw) (short : LengthLaw) (one : ClassLaw) (names : ResolvedLaw) (spelled : SpelledLaw) (named : NamedLaw) (fits : FitsLaw) where
  few_statics : (s t : ℕ) (text : List ℕ) (c : Class) → IsProgramText s text t → SpellsClass text c → all_statics c system_classes ≤ 240
  few_statics s t text c h spells =
      let g = generated printed short h in
      let same : class_at g.body g.close g.at ≡ c = (one text).one (class_at g.body g.close g.at) c g.spells spells in
      subst (λ (k : Class). all_statics k system_classes ≤ 240) same (own_statics g.body g.close g.at)

  module _ (s t : ℕ) (text : List ℕ) (h : IsProgramText s text t) (c : Class) (spells : SpellsClass text c) where
    core_few : (core : Core) → FilesMean false (folder_of c) core → statics_before (the_program core).classes (length (the_program core).classes) ≤ 240
    core_few core (own, is, (os, are, of)) =
        let theirs : system_classes ≡ map the_file os = one_list system system_classes (map the_file os) are_files (seen_files system os are) in
        let few = few_statics s t text c h spells in
        let P : Program → Type 0 = λ p. statics_before p.classes (length p.classes) ≤ 240 in
        let here : P (program_meaning (folder_of c) system_classes) = few in
        subst P (sym of.program) (subst (λ (l : List ClassFile). P (program_meaning l (map the_file os))) (sym is) (subst (λ (l : List ClassFile). P (program_meaning (folder_of c) l)) theirs here))

    built : (core : Core) (error : BuildError) (told : Message) → FolderMeans (Some (soak_files text)) soak_source core → Builds core (Err error) → build_message error ≡ Some told → ⊥
    built core building.Memory told means b e = let no : ⊥ = cc in no
    built core (building.TooManyStatics w) told means b e =
        never_many core (folder_resolved names (Some (soak_files text)) soak_source core means) w (core_few core (files_mean text one c core spells means)) b
    built core (building.TooLarge w) told means b e = fits s t text c core w h spells (files_mean text one c core spells means) b

    never_by : (line : List ℕ) → BuildRefuses (Some (soak_files text)) soak_source line → ⊥
    never_by line (without_program k) =
        never_meaningless one (soak_files text) soak_source (folder_of c) system_classes line (has_classes text c spells) are_files (named s t text c system_classes h spells are_files) k
    never_by line (unbuilt core means (error, told, b, e, d)) = built core error told means b e

  never : (seed number : ℕ) (line : List ℕ) → HasNoImage seed number line → ⊥
  never seed number line h =
      let generated = h.generated.generated in
      let (c, spells) = spelled _ _ h.text generated in
      never_by _ _ h.text generated c spells line h.refused

  pub unrefused : UnrefusedLaw
  unrefused files seed count = record {
    accepted = λ out before told h. never seed (suc h.1.before) told h.1.refused;
    agrees = λ out before told h. h;
  }
