-- Over known files a line has an answer; and a folder has well named classes, or is refused.
use Rattle.std.specs.Prelude.{◌-◌, ◌^◌, min, nat_le}
use Rattle.std.proofs.Common.{◌≡◌, ◌≤◌, ◌<◌, ◌⊎◌, inl, inr, ℕ, Bool, true, false, List, [], ◌∷◌, Option, Some, None, Result, Ok, Err, codes, length, take, refl, arith}
use Rattle.std.proofs.lemmas.Bool.Decides.{nat_tests}
use Rattle.grammar.specs.declared.Fault.{Fault}
use Rattle.grammar.specs.Faults.{diagnostic_of}
use Rattle.grammar.specs.Texts.{SomeReading}
use Rattle.outer_world.specs.Files.{Files, file_at}
use Rattle.outer_world.specs.Refusals.{Message, message_line}
use Rattle.hack_isa.specs.Machine.{image_words, machine_at, read}
use Rattle.hack_asm.specs.Faults.{Wrong}
use Rattle.hack_asm.specs.Image.{image_text}
use Rattle.hack_asm.specs.Written.{asm_text}
use Rattle.hack_asm.specs.Meaning.{TotalLaw as AssemblyLaw}
use Rattle.hack_asm.specs.HackText.{TotalLaw as ImageLaw}
use Rattle.machine_io.specs.Words.{words_text}
use Rattle.source_files.specs.Folder.{stem_of}
use Rattle.source_files.specs.Sources.{IsFaulty, IsUnread, SpellsAt}
use Rattle.vm_tree.specs.Printed.{files_text, program_text}
use Rattle.vm_tree.specs.declared.program.File.{File}
use Rattle.vm_parser.specs.Trees.{TotalLaw as VmLaw, Spells as SpellsProgram, Refuses as RefusesProgram}
use Rattle.vm_link.specs.Links.{Links}
use Rattle.vm_link.specs.declared.linked.Linked.{Linked}
use Rattle.vm_translator.specs.Image.{IsTooLarge, budget_of, image_of}
use Rattle.hdl_tree.specs.Chips.{find_entry}
use Rattle.hdl_tree.specs.declared.library.Entry.{Entry}
use Rattle.hdl_tree.specs.declared.tree.Chip.{Chip}
use Rattle.hdl_parser.specs.Printed.{chip_text}
use Rattle.hdl_parser.specs.Spells.{TotalLaw as ChipLaw, Spells as SpellsChip}
use Rattle.hack_cpu.specs.Library.{shipped_chips}
use Rattle.jack_tree.specs.Syntax.{Class, ClassFile}
use Rattle.jack_parser.specs.PrintedClass.{printed_class}
use Rattle.jack_parser.specs.Spelled.{TotalLaw as ClassLaw, SpellsClass}
use Rattle.jack_parser.specs.Spells.{Refuses as RefusesTree}
use Rattle.jack_names.specs.Faults.{NameDiagnostic}
use Rattle.jack_names.specs.FaultOrder.{IsFirstFault}
use Rattle.jack_names.specs.NameFaults.{IsWellNamed}
use Rattle.jack_names.proofs.Found.{finds_first, finds_none}
use Rattle.jack_names.proofs.Searched.{all_faults}
use Rattle.jack_os.specs.System.{AreFilesOf, SystemLaw}
use Rattle.tower.specs.Sources.{system_beside}
use Rattle.tower.proofs.Beside.{some_beside}
use Rattle.jack_places.specs.Rising.{FirstLaw}
use Rattle.command_line.specs.Line.{Line, Source, asm, chip, compile, exec, of_classes, of_file, show, soak, test, vm}
use Rattle.command_line.specs.declared.request.SourceKind.{SourceKind}
use Rattle.command_line.specs.declared.request.SourceKind.TheVariants as kinds
use Rattle.nand_cli.specs.Answer.{Prints}
use Rattle.command_laws.specs.Answered.{AnsweredLaw, ChipAnsweredLaw, ClassesAnsweredLaw, FileAnsweredLaw, FolderAnsweredLaw, HasAnswer, IsWellFolder, SoakAnsweredLaw, VmAnsweredLaw}
use Rattle.nand_cli.specs.Commands.Chip.{unknown_chip}
use Rattle.nand_cli.specs.Commands.Exec.{form_of}
use Rattle.nand_cli.specs.Commands.Vm.{HasProgram, VmRefuses, unread as vm_unread, without_code}
use Rattle.nand_cli.specs.JackFolder.{FolderIsRefused, HasClasses, files_meant, meaningless, name_line, unread}
use Rattle.hack_asm.specs.Language.{MeansAs, RefusesWords, SpellsWords, wrong_message}
use Rattle.hdl_parser.specs.Language.{RefusesHdl}
use Rattle.jack_parser.specs.Language.{RefusesClass, SpellsFile}
use Rattle.vm_parser.specs.Language.{RefusesVm, SpellsVmFile}
use Rattle.hack_asm.specs.declared.language.Form.{Form}
use Rattle.hack_asm.specs.declared.language.Form.TheVariants.{Assembly, Image}
use Rattle.command_laws.proofs.FolderAnswered.{AllRead, at_path, folder_read}
use Rattle.command_laws.proofs.Linking.{IsLinkedOrTold, linked_or_told}
use Rattle.nand_cli.proofs.Spelling.{spelled_own}

-- ---- a line that reads one file

module _ {A : Type 0} (spells : List ℕ → List ℕ → A → Type 0) (refuses : List ℕ → Message → Type 0) (all : AllRead spells refuses) (there : List ℕ → Bool) (files : Files) (path : List ℕ) where
  -- it prints the source, or is refused as the text is, or its file is not there
  pub of_one_file : (line : Line) → ((a : A) → SpellsAt (spells []) (Some files) path a → (out err : List ℕ) × Prints (Some files) line out err)
      → ((told : List ℕ) → IsFaulty refuses (Some files) path told → HasAnswer there files line) → (file_at files path ≡ None → HasAnswer there files line) → HasAnswer there files line
  of_one_file line prints refused lacks = elim (at_path spells refuses all files [] path) [
    | inl (a, h) ↦ inl (prints a h)
    | inr (inl (told, h)) ↦ refused told h
    | inr (inr gone) ↦ lacks gone
  ]

-- what is reported of a fault
told_of : {X : Type 0} (spells : X → Type 0) (refuses : Fault → Type 0) → SomeReading X spells refuses → ((x : X) × spells x) ⊎ ((told : Message) × ((fault : Fault) × refuses fault × (told ≡ diagnostic_of fault)))
told_of spells refuses (inl h) = inl h
told_of spells refuses (inr (fault, h)) = inr (diagnostic_of fault, (fault, h, refl))

-- ---- programs of the instruction machine

words_by : (form : Form) (text : List ℕ) (r : Result (List ℕ) Wrong) → MeansAs form text r → ((ws : List ℕ) × SpellsWords form text ws) ⊎ ((told : Message) × RefusesWords form text told)
words_by form text (Ok ws) h = inl (ws, h)
words_by form text (Err wrong) h = inr (wrong_message wrong, (wrong, h, refl))

words_read : AssemblyLaw → ImageLaw → (form : Form) → AllRead (λ (name text words : List ℕ). SpellsWords form text words) (RefusesWords form)
words_read assembly image Assembly name text = let r = assembly text in words_by Assembly text r.0 r.1
words_read assembly image Image name text = let r = image text in words_by Image text r.0 r.1

asm_answered : AssemblyLaw → ImageLaw → (there : List ℕ → Bool) (files : Files) (path : List ℕ) → HasAnswer there files (of_file path asm)
asm_answered assembly image there files path =
    of_one_file (λ (name text words : List ℕ). SpellsWords Assembly text words) (RefusesWords Assembly) (words_read assembly image Assembly) there files path (of_file path asm)
    (λ ws h. (image_text ws, [], ((ws, h, refl), refl))) (λ told h. inr (inl ([], [], told, (refl, h, refl)))) (λ gone. inr (inr gone))

exec_answered : AssemblyLaw → ImageLaw → (there : List ℕ → Bool) (files : Files) (path : List ℕ) (cycles from to : ℕ) → HasAnswer there files (of_file path (exec cycles from to))
exec_answered assembly image there files path cycles from to =
    of_one_file (λ (name text words : List ℕ). SpellsWords (form_of path) text words) (RefusesWords (form_of path)) (words_read assembly image (form_of path)) there files path (of_file path (exec cycles from to))
    (λ ws h. (words_text (read (machine_at ws (λ _. 0) cycles).memory 0) true from to, [], ((ws, h, refl), refl))) (λ told h. inr (inl ([], [], told, (refl, h, refl)))) (λ gone. inr (inr gone))

-- ---- `show`

program_read : VmLaw → AllRead (λ (name text : List ℕ) (program : List File). SpellsProgram true [] text program) (RefusesVm true)
program_read law name text = told_of (SpellsProgram true [] text) (RefusesProgram true text) (law true [] text)

class_read : ClassLaw → AllRead (λ (name text : List ℕ) (c : Class). SpellsClass text c) RefusesClass
class_read law name text = told_of (SpellsClass text) (RefusesTree text) (law text)

chip_read : ChipLaw → AllRead (λ (name text : List ℕ) (c : Chip). SpellsChip text c) RefusesHdl
chip_read law name text = told_of (SpellsChip text) _ (law text)

show_answered : VmLaw → ClassLaw → ChipLaw → (there : List ℕ → Bool) (files : Files) (path : List ℕ) (kind : SourceKind) → HasAnswer there files (of_file path (show kind))
show_answered vm_law jack_law chip_law there files path kinds.Vm =
    of_one_file (λ (name text : List ℕ) (program : List File). SpellsProgram true [] text program) (RefusesVm true) (program_read vm_law) there files path (of_file path (show kinds.Vm))
    (λ program h. (program_text program, [], ((program, h, refl), refl))) (λ told h. inr (inl ([], [], told, (refl, h, refl)))) (λ gone. inr (inr gone))
show_answered vm_law jack_law chip_law there files path kinds.Jack =
    of_one_file (λ (name text : List ℕ) (c : Class). SpellsClass text c) RefusesClass (class_read jack_law) there files path (of_file path (show kinds.Jack))
    (λ c h. (printed_class c, [], ((c, h, refl), refl))) (λ told h. inr (inl ([], [], told, (refl, h, refl)))) (λ gone. inr (inr gone))
show_answered vm_law jack_law chip_law there files path kinds.Hdl =
    of_one_file (λ (name text : List ℕ) (c : Chip). SpellsChip text c) RefusesHdl (chip_read chip_law) there files path (of_file path (show kinds.Hdl))
    (λ c h. (chip_text c, [], ((c, h, refl), refl))) (λ told h. inr (inl ([], [], told, (refl, h, refl)))) (λ gone. inr (inr gone))

-- ---- one file

pub file_answered : AssemblyLaw → ImageLaw → VmLaw → ClassLaw → ChipLaw → FileAnsweredLaw
file_answered assembly image vm_law jack_law chip_law there files path asm = asm_answered assembly image there files path
file_answered assembly image vm_law jack_law chip_law there files path (exec cycles from to) = exec_answered assembly image there files path cycles from to
file_answered assembly image vm_law jack_law chip_law there files path (show kind) = show_answered vm_law jack_law chip_law there files path kind

-- ---- `chip`

chip_by : (there : List ℕ → Bool) (files : Files) (name : List ℕ) (o : Option Entry) → find_entry shipped_chips name ≡ o → HasAnswer there files (chip name)
chip_by there files name (Some entry) e = inl (chip_text entry.chip, [], ((entry, e, refl), refl))
chip_by there files name None e = inr (inl ([], [], message_line name (unknown_chip name), (refl, (e, refl), refl)))

pub chip_answered : ChipAnsweredLaw
chip_answered there files name = chip_by there files name (find_entry shipped_chips name) refl

-- ---- `vm`

module _ (within : (l : Linked) → length (image_of l) ≤ budget_of l) (there : List ℕ → Bool) (files : Files) (folder : List ℕ) (bare : Bool) where
  abbrev Answer : Type 0
  Answer = HasAnswer there files (vm folder bare)

  refused : (line : List ℕ) → VmRefuses (Some files) folder bare line → Answer
  refused line h = inr (inl ([], [], line, (refl, h, refl)))

  by_size : (program : List File) (l : Linked) → HasProgram bare (Some files) folder program → Links bare program (Ok l) → (b : Bool) → nat_le (length (image_of l)) image_words ≡ b → Answer
  by_size program l has links true e =
      let few : length (image_of l) ≤ image_words = grind (arith, nat_tests, e) in inl (asm_text (image_of l), [], ((program, l, has, links, few, refl), refl))
  by_size program l has links false e =
      let over : image_words < length (image_of l) = grind (arith, nat_tests, e) in
      let all = within l in
      let words = min (length (image_of l)) (2 ^ 64 - 1) in
      let large : IsTooLarge l words = record { words = refl; over = over; within = omega (arith, all) } in
      refused _ (without_code program has (_, inr (l, words, links, large, refl), refl))

  by_links : (program : List File) → HasProgram bare (Some files) folder program → IsLinkedOrTold bare program → Answer
  by_links program has (inl (l, links)) = by_size program l has links (nat_le (length (image_of l)) image_words) refl
  by_links program has (inr (fault, told, links, e)) = refused (message_line folder told) (without_code program has (told, inl (fault, links, e), refl))

  by_folder : ((program : List File) × HasProgram bare (Some files) folder program) ⊎ ((line : List ℕ) × IsUnread (SpellsVmFile bare) (RefusesVm bare) (codes ".vm") (Some files) folder line) → Answer
  by_folder (inl (program, has)) = by_links program has (linked_or_told bare program)
  by_folder (inr (line, h)) = refused line (vm_unread h)

-- each text spells a program of one file
one_file : (bare : Bool) (name text : List ℕ) → ((program : List File) × SpellsProgram bare name text program) ⊎ ((told : Message) × RefusesVm bare text told) → ((file : File) × SpellsProgram bare name text (file ∷ [])) ⊎ ((told : Message) × RefusesVm bare text told)
one_file bare name text (inl (program, (f, e, h))) = inl (_, (f, refl, h))
one_file bare name text (inr h) = inr h

vm_read : VmLaw → (bare : Bool) → AllRead (SpellsVmFile bare) (RefusesVm bare)
vm_read law bare name text =
    let own = stem_of (codes ".vm") name in one_file bare own text (told_of (SpellsProgram bare own text) (RefusesProgram bare text) (law bare own text))

pub vm_answered : ((l : Linked) → length (image_of l) ≤ budget_of l) → VmLaw → VmAnsweredLaw
vm_answered within law there files folder bare = by_folder within there files folder bare (folder_read (SpellsVmFile bare) (RefusesVm bare) (vm_read law bare) files (codes ".vm") folder)

-- ---- a folder of classes

file_by : (name text : List ℕ) → ((c : Class) × SpellsClass text c) ⊎ ((told : Message) × RefusesClass text told) → ((c : ClassFile) × SpellsFile name text c) ⊎ ((told : Message) × RefusesClass text told)
file_by name text (inl (c, h)) = inl (record { file = name; class = c }, (h, refl))
file_by name text (inr h) = inr h

file_read : ClassLaw → AllRead SpellsFile RefusesClass
file_read law name text = file_by name text (class_read law name text)

named_or_fault : (own os : List ClassFile) (o : Option NameDiagnostic) → all_faults own os ≡ o → IsWellNamed own os ⊎ ((told : NameDiagnostic) × IsFirstFault own os told)
named_or_fault own os None e = inl ((finds_none own os).0 e)
named_or_fault own os (Some told) e = inr (told, (finds_first own os told).0 e)

module _ (first : FirstLaw) (the_system : SystemLaw) (files : Files) (source : Source) where
  abbrev WellOrRefused : Type 0
  WellOrRefused = IsWellFolder files source ⊎ ((line : List ℕ) × FolderIsRefused (Some files) source line)

  by_names : (own os : List ClassFile) → HasClasses (Some files) source.folder own → AreFilesOf (system_beside source.replace own) os
      → IsWellNamed own os ⊎ ((told : NameDiagnostic) × IsFirstFault own os told) → WellOrRefused
  by_names own os has are (inl well) = inl (own, os, has, are, well)
  by_names own os has are (inr (told, h)) =
      inr (name_line source.folder told, meaningless own has (os, told, are, first own os told (spelled_own (Some files) source.folder own has) h, refl))

  by_classes : ((own : List ClassFile) × HasClasses (Some files) source.folder own) ⊎ ((line : List ℕ) × IsUnread SpellsFile RefusesClass (codes ".jack") (Some files) source.folder line) → WellOrRefused
  by_classes (inl (own, has)) =
      let beside = some_beside source.replace own the_system.classes the_system.are in
      by_names own beside.0 has beside.1 (named_or_fault own beside.0 (all_faults own beside.0) refl)
  by_classes (inr (line, h)) = inr (line, unread h)

pub folder_answered : FirstLaw → SystemLaw → ClassLaw → FolderAnsweredLaw
folder_answered first the_system law files source = by_classes first the_system files source (folder_read SpellsFile RefusesClass (file_read law) files (codes ".jack") source.folder)

pub compile_answered : FolderAnsweredLaw → (there : List ℕ → Bool) (files : Files) (source : Source) → HasAnswer there files (of_classes source compile)
compile_answered law there files source = elim (law files source) [
  | inl (own, os, has, are, well) ↦ inl (files_text (take (length own) (files_meant own os)), [], ((own, os, has, are, well, refl), refl))
  | inr (line, h) ↦ inr (inl ([], [], line, (refl, h, refl)))
]

-- ---- each line

pub answered : ClassesAnsweredLaw → FileAnsweredLaw → VmAnsweredLaw → ChipAnsweredLaw → SoakAnsweredLaw → AnsweredLaw
answered for_classes for_file for_vm for_chip for_soak there files (of_classes source work) other = for_classes there files source work
answered for_classes for_file for_vm for_chip for_soak there files (of_file path work) other = for_file there files path work
answered for_classes for_file for_vm for_chip for_soak there files (vm folder bare) other = for_vm there files folder bare
answered for_classes for_file for_vm for_chip for_soak there files (chip name) other = for_chip there files name
answered for_classes for_file for_vm for_chip for_soak there files (test path gates simplify) other = absurd other
answered for_classes for_file for_vm for_chip for_soak there files (soak seed count) other = for_soak there files seed count
