-- A line that reads one file, one of `chip` and one of `vm` prints one thing or is refused for one thing, and not both.
use Rattle.std.specs.Prelude.{min, ◌^◌}
use Rattle.std.proofs.Common.{◌≡◌, ◌≤◌, ◌-◌, ◌⊎◌, inl, inr, true, None, ℕ, Bool, List, [], Some, Result, Ok, Err, codes, length, sym, ◌∙◌, ap, subst, arith}
use Rattle.outer_world.specs.Files.{Files, LacksFolder, file_at}
use Rattle.outer_world.specs.Refusals.{Message, message_line}
use Rattle.hack_isa.specs.Machine.{image_words, machine_at, read}
use Rattle.hack_asm.specs.Image.{image_text}
use Rattle.hack_asm.specs.Written.{asm_text}
use Rattle.hack_asm.specs.Meaning.{ReadingLaw as AssemblyLaw}
use Rattle.hack_asm.specs.HackText.{ReadingLaw as ImageLaw}
use Rattle.machine_io.specs.Words.{words_text}
use Rattle.vm_tree.specs.Printed.{program_text}
use Rattle.vm_tree.specs.declared.program.File.{File}
use Rattle.vm_parser.specs.Trees.{ReadingLaw as VmLaw, Spells as SpellsProgram}
use Rattle.vm_link.specs.Links.{Links}
use Rattle.vm_link.specs.Messages.{link_message}
use Rattle.vm_link.specs.declared.fault.LinkFault.{LinkFault}
use Rattle.vm_link.specs.declared.fault.LinkFault.TheVariants.{Memory}
use Rattle.vm_link.specs.declared.linked.Linked.{Linked}
use Rattle.vm_link.proofs.Once.{linked_once}
use Rattle.vm_translator.specs.Image.{IsTooLarge, image_of}
use Rattle.vm_translator.specs.Messages.{code_message}
use Rattle.vm_translator.specs.declared.coded.CodeFault.TheVariants.{TooLarge}
use Rattle.jack_tree.specs.Syntax.{Class}
use Rattle.hdl_tree.specs.declared.tree.Chip.{Chip}
use Rattle.hdl_tree.specs.declared.library.Entry.{Entry}
use Rattle.hdl_parser.specs.Printed.{chip_text}
use Rattle.hdl_parser.specs.Spells.{ReadingLaw as ChipLaw, Spells as SpellsChip}
use Rattle.jack_parser.specs.PrintedClass.{printed_class}
use Rattle.jack_parser.specs.Spelled.{ClassLaw, SpellsClass}
use Rattle.command_line.specs.declared.request.SourceKind.TheVariants as kinds
use Rattle.source_files.proofs.Once.{never_both, never_unread, one_fault, one_folder, one_refusal, one_source}
use Rattle.source_files.specs.Sources.{IsFaulty, SpellsAt}
use Rattle.command_line.specs.Line.{Source, asm, exec, of_file, show}
use Rattle.command_line.specs.declared.request.SourceKind.{SourceKind}
use Rattle.command_laws.specs.Exact.{ChipExactLaw, FileExactLaw, IsExact, VmExactLaw}
use Rattle.hack_asm.specs.Language.{RefusesWords, SpellsWords}
use Rattle.hdl_parser.specs.Language.{RefusesHdl}
use Rattle.jack_parser.specs.Language.{RefusesClass}
use Rattle.vm_parser.specs.Language.{RefusesVm, SpellsVmFile}
use Rattle.nand_cli.specs.Commands.Chip.{ChipPrints, ChipRefuses}
use Rattle.nand_cli.specs.Commands.Exec.{form_of}
use Rattle.nand_cli.specs.Commands.Run.{LacksScript}
use Rattle.nand_cli.specs.Commands.Vm.{HasNoCode, HasProgram, VmPrints, VmRefuses, unread, without_code}
use Rattle.hack_asm.specs.declared.language.Form.{Form}
use Rattle.hack_asm.specs.declared.language.Form.TheVariants.{Assembly}
use Rattle.nand_cli.proofs.OneFolder.{same_list}
use Rattle.command_laws.proofs.TextsOnce.{chip_once, file_once, program_once, shown_once, words_once}

-- ---- what is not there

-- a file that is not there spells nothing and is not refused
pub no_source : {A : Type 0} (spells : List ℕ → A → Type 0) (files : Files) (path : List ℕ) (a : A) → file_at files path ≡ None → SpellsAt spells (Some files) path a → ⊥
no_source spells files path a gone (text, has, h) = let no : ⊥ = cc in no

pub none_refused : (refuses : List ℕ → Message → Type 0) (files : Files) (path line : List ℕ) → file_at files path ≡ None → IsFaulty refuses (Some files) path line → ⊥
none_refused refuses files path line gone (text, told, has, h, e) = let no : ⊥ = cc in no

pub not_missing : (there : List ℕ → Bool) (files : Files) (folder : List ℕ) → there folder ≡ true → LacksFolder (Some files) there folder → ⊥
not_missing there files folder is (gone, empty) = let no : ⊥ = cc in no

-- without a key script only the folder can be missing
pub not_lacking : (there : List ℕ → Bool) (files : Files) (source : Source) → there source.folder ≡ true → LacksFolder (Some files) there source.folder ⊎ LacksScript files source None → ⊥
not_lacking there files source has (inl gone) = not_missing there files source.folder has gone
not_lacking there files source has (inr (core, means, built, none)) = none

-- ---- `asm` and `exec`

abbrev spelled_in : Form → List ℕ → List ℕ → List ℕ → Type 0
spelled_in form = λ name text words. SpellsWords form text words

asm_exact : AssemblyLaw → ImageLaw → (files : Files) (path : List ℕ) → IsExact files (of_file path asm)
asm_exact assembly image files path =
    let once = words_once assembly image Assembly in record {
      prints = λ one out err out' err' h k. (
        h.0.2 ∙ ap image_text (one_source (spelled_in Assembly) (RefusesWords Assembly) (λ (ws : List ℕ). ws) once files [] path h.0.0 k.0.0 h.0.1 k.0.1) ∙ sym k.0.2,
        h.1 ∙ sym k.1,
      );
      refuses = λ out before told out' before' told' h k. (
        h.0 ∙ sym k.0,
        one_fault (spelled_in Assembly) (RefusesWords Assembly) (λ (ws : List ℕ). ws) once files path told told' h.1 k.1,
        h.2 ∙ sym k.2,
      );
      apart = λ out err out' before told h k. never_both (spelled_in Assembly) (RefusesWords Assembly) (λ (ws : List ℕ). ws) once files [] path h.0.0 told h.0.1 k.1;
      lacking = λ there has gone out before told. (λ h. no_source (SpellsWords Assembly) files path h.0.0 gone h.0.1, λ k. none_refused (RefusesWords Assembly) files path told gone k.1);
    }

exec_exact : AssemblyLaw → ImageLaw → (files : Files) (path : List ℕ) (cycles from to : ℕ) → IsExact files (of_file path (exec cycles from to))
exec_exact assembly image files path cycles from to =
    let form = form_of path in
    let once = words_once assembly image form in record {
      prints = λ one out err out' err' h k. (
        h.0.2
            ∙ ap (λ (ws : List ℕ). words_text (read (machine_at ws (λ _. 0) cycles).memory 0) true from to) (one_source (spelled_in form) (RefusesWords form) (λ (ws : List ℕ). ws) once files [] path h.0.0 k.0.0 h.0.1 k.0.1)
            ∙ sym k.0.2,
        h.1 ∙ sym k.1,
      );
      refuses = λ out before told out' before' told' h k. (
        h.0 ∙ sym k.0,
        one_fault (spelled_in form) (RefusesWords form) (λ (ws : List ℕ). ws) once files path told told' h.1 k.1,
        h.2 ∙ sym k.2,
      );
      apart = λ out err out' before told h k. never_both (spelled_in form) (RefusesWords form) (λ (ws : List ℕ). ws) once files [] path h.0.0 told h.0.1 k.1;
      lacking = λ there has gone out before told. (λ h. no_source (SpellsWords form) files path h.0.0 gone h.0.1, λ k. none_refused (RefusesWords form) files path told gone k.1);
    }

-- ---- `show`

abbrev program_in : List ℕ → List ℕ → List File → Type 0
program_in = λ name text program. SpellsProgram true [] text program

abbrev class_in : List ℕ → List ℕ → Class → Type 0
class_in = λ name text c. SpellsClass text c

abbrev chip_in : List ℕ → List ℕ → Chip → Type 0
chip_in = λ name text c. SpellsChip text c

show_exact : VmLaw → ClassLaw → ChipLaw → (files : Files) (path : List ℕ) (kind : SourceKind) → IsExact files (of_file path (show kind))
show_exact vm_law jack_law chip_law files path kinds.Vm =
    let once = program_once vm_law in record {
      prints = λ one out err out' err' h k. (
        h.0.2 ∙ ap program_text (one_source program_in (RefusesVm true) (λ (p : List File). p) once files [] path h.0.0 k.0.0 h.0.1 k.0.1) ∙ sym k.0.2,
        h.1 ∙ sym k.1,
      );
      refuses = λ out before told out' before' told' h k. (
        h.0 ∙ sym k.0,
        one_fault program_in (RefusesVm true) (λ (p : List File). p) once files path told told' h.1 k.1,
        h.2 ∙ sym k.2,
      );
      apart = λ out err out' before told h k. never_both program_in (RefusesVm true) (λ (p : List File). p) once files [] path h.0.0 told h.0.1 k.1;
      lacking = λ there has gone out before told. (λ h. no_source (program_in []) files path h.0.0 gone h.0.1, λ k. none_refused (RefusesVm true) files path told gone k.1);
    }
show_exact vm_law jack_law chip_law files path kinds.Jack =
    let once = shown_once jack_law in record {
      prints = λ one out err out' err' h k. (
        h.0.2 ∙ ap printed_class (one_source class_in RefusesClass (λ (c : Class). c) once files [] path h.0.0 k.0.0 h.0.1 k.0.1) ∙ sym k.0.2,
        h.1 ∙ sym k.1,
      );
      refuses = λ out before told out' before' told' h k. (
        h.0 ∙ sym k.0,
        one_fault class_in RefusesClass (λ (c : Class). c) once files path told told' h.1 k.1,
        h.2 ∙ sym k.2,
      );
      apart = λ out err out' before told h k. never_both class_in RefusesClass (λ (c : Class). c) once files [] path h.0.0 told h.0.1 k.1;
      lacking = λ there has gone out before told. (λ h. no_source (class_in []) files path h.0.0 gone h.0.1, λ k. none_refused RefusesClass files path told gone k.1);
    }
show_exact vm_law jack_law chip_law files path kinds.Hdl =
    let once = chip_once chip_law in record {
      prints = λ one out err out' err' h k. (
        h.0.2 ∙ ap chip_text (one_source chip_in RefusesHdl (λ (c : Chip). c) once files [] path h.0.0 k.0.0 h.0.1 k.0.1) ∙ sym k.0.2,
        h.1 ∙ sym k.1,
      );
      refuses = λ out before told out' before' told' h k. (
        h.0 ∙ sym k.0,
        one_fault chip_in RefusesHdl (λ (c : Chip). c) once files path told told' h.1 k.1,
        h.2 ∙ sym k.2,
      );
      apart = λ out err out' before told h k. never_both chip_in RefusesHdl (λ (c : Chip). c) once files [] path h.0.0 told h.0.1 k.1;
      lacking = λ there has gone out before told. (λ h. no_source (chip_in []) files path h.0.0 gone h.0.1, λ k. none_refused RefusesHdl files path told gone k.1);
    }

-- ---- one file

pub file_exact : AssemblyLaw → ImageLaw → VmLaw → ClassLaw → ChipLaw → FileExactLaw
file_exact assembly image vm_law jack_law chip_law files path asm = asm_exact assembly image files path
file_exact assembly image vm_law jack_law chip_law files path (exec cycles from to) = exec_exact assembly image files path cycles from to
file_exact assembly image vm_law jack_law chip_law files path (show kind) = show_exact vm_law jack_law chip_law files path kind

-- ---- `chip`

one_chip : (name out out' : List ℕ) → ChipPrints name out → ChipPrints name out' → out ≡ out'
one_chip name out out' (c, is, e) (d, also, f) = let same : c ≡ d = cc in e ∙ ap (λ (x : Entry). chip_text x.chip) same ∙ sym f

not_unknown : (name out line : List ℕ) → ChipPrints name out → ChipRefuses name line → ⊥
not_unknown name out line (c, is, e) (none, f) = let no : ⊥ = cc in no

pub chip_exact : ChipExactLaw
chip_exact files name = record {
  prints = λ one out err out' err' h k. (one_chip name out out' h.0 k.0, h.1 ∙ sym k.1);
  refuses = λ out before told out' before' told' h k. (h.0 ∙ sym k.0, h.1.1 ∙ sym k.1.1, h.2 ∙ sym k.2);
  apart = λ out err out' before told h k. not_unknown name out told h.0 k.1;
  lacking = λ there has gone out before told. absurd gone;
}

-- ---- `vm`

pub one_linked : (bare : Bool) (program : List File) (l m : Linked) → Links bare program (Ok l) → Links bare program (Ok m) → l ≡ m
one_linked bare program l m h k =
    let e = linked_once bare program (Ok l) (Ok m) h k (λ d. let no : ⊥ = cc in no) (λ d. let no : ⊥ = cc in no) in let same : l ≡ m = cc in same

abbrev unlinked : LinkFault → Result Linked LinkFault
unlinked fault = Err fault

told_not_memory : (fault : LinkFault) (told : Message) → link_message fault ≡ Some told → unlinked fault ≡ unlinked Memory → ⊥
told_not_memory fault told e d =
    let same : fault ≡ Memory = cc in let bad = sym e ∙ ap link_message same in let no : ⊥ = cc in no

pub one_link_fault : (bare : Bool) (program : List File) (f g : LinkFault) (s t : Message) → Links bare program (Err f) → Links bare program (Err g) → link_message f ≡ Some s → link_message g ≡ Some t → f ≡ g
one_link_fault bare program f g s t h k e d =
    let r = linked_once bare program (Err f) (Err g) h k (told_not_memory f s e) (told_not_memory g t d) in let same : f ≡ g = cc in same

pub not_linked : (bare : Bool) (program : List File) (l : Linked) (f : LinkFault) (t : Message) → Links bare program (Ok l) → Links bare program (Err f) → link_message f ≡ Some t → ⊥
not_linked bare program l f t h k e =
    let r = linked_once bare program (Ok l) (Err f) h k (λ d. let no : ⊥ = cc in no) (told_not_memory f t e) in let no : ⊥ = cc in no

pub one_size : (l m : Linked) (v w : ℕ) → l ≡ m → IsTooLarge l v → IsTooLarge m w → v ≡ w
one_size l m v w e h k = h.words ∙ ap (λ (x : Linked). min (length (image_of x)) (2 ^ 64 - 1)) e ∙ sym k.words

one_code : (bare : Bool) (program : List File) (s t : Message) → HasNoCode bare program s → HasNoCode bare program t → s ≡ t
one_code bare program s t (inl (f, h, e)) (inl (g, k, d)) =
    let same = ap link_message (one_link_fault bare program f g s t h k e d) in let r : s ≡ t = cc in r
one_code bare program s t (inl (f, h, e)) (inr (m, w, k, large, d)) = absurd (not_linked bare program m f s k h e)
one_code bare program s t (inr (l, v, h, large, e)) (inl (g, k, d)) = absurd (not_linked bare program l g t h k d)
one_code bare program s t (inr (l, v, h, large, e)) (inr (m, w, k, large', d)) =
    let same = ap (λ n. code_message (TooLarge n)) (one_size l m v w (one_linked bare program l m h k) large large') in let r : s ≡ t = cc in r

never_code : (bare : Bool) (program : List File) (l : Linked) (t : Message) → Links bare program (Ok l) → length (image_of l) ≤ image_words → HasNoCode bare program t → ⊥
never_code bare program l t h few (inl (g, k, d)) = not_linked bare program l g t h k d
never_code bare program l t h few (inr (m, w, k, large, d)) =
    let over = large.over in let e = ap (λ (x : Linked). length (image_of x)) (one_linked bare program l m h k) in omega (arith, few, over, e)

module _ (law : VmLaw) (files : Files) (folder : List ℕ) (bare : Bool) where
  one_program : (p q : List File) → HasProgram bare (Some files) folder p → HasProgram bare (Some files) folder q → p ≡ q
  one_program p q h k =
      sym (same_list p) ∙ one_folder (SpellsVmFile bare) (RefusesVm bare) (λ (f : File). f) (file_once law bare) files folder (codes ".vm") p q h k ∙ same_list q

  vm_prints : (out out' : List ℕ) → VmPrints (Some files) folder bare out → VmPrints (Some files) folder bare out' → out ≡ out'
  vm_prints out out' (p, l, has, links, few, e) (q, m, has', links', few', d) =
      let same = one_program p q has has' in
      e ∙ ap (λ (x : Linked). asm_text (image_of x)) (one_linked bare p l m links (subst (λ (x : List File). Links bare x (Ok m)) (sym same) links')) ∙ sym d

  vm_refuses : (line other : List ℕ) → VmRefuses (Some files) folder bare line → VmRefuses (Some files) folder bare other → line ≡ other
  vm_refuses line other (unread h) (unread k) = one_refusal (SpellsVmFile bare) (RefusesVm bare) (λ (f : File). f) (file_once law bare) files folder (codes ".vm") line other h k
  vm_refuses line other (unread h) (without_code q has' k) = absurd (never_unread (SpellsVmFile bare) (RefusesVm bare) (λ (f : File). f) (file_once law bare) files folder (codes ".vm") q line has' h)
  vm_refuses line other (without_code p has h) (unread k) = absurd (never_unread (SpellsVmFile bare) (RefusesVm bare) (λ (f : File). f) (file_once law bare) files folder (codes ".vm") p other has k)
  vm_refuses line other (without_code p has (s, h, e)) (without_code q has' (t, k, d)) =
      let same = one_program p q has has' in
      e ∙ ap (message_line folder) (one_code bare p s t h (subst (λ (x : List File). HasNoCode bare x t) (sym same) k)) ∙ sym d

  vm_apart : (out line : List ℕ) → VmPrints (Some files) folder bare out → VmRefuses (Some files) folder bare line → ⊥
  vm_apart out line (p, l, has, links, few, e) (unread k) = never_unread (SpellsVmFile bare) (RefusesVm bare) (λ (f : File). f) (file_once law bare) files folder (codes ".vm") p line has k
  vm_apart out line (p, l, has, links, few, e) (without_code q has' (t, k, d)) =
      let same = one_program p q has has' in never_code bare p l t links few (subst (λ (x : List File). HasNoCode bare x t) (sym same) k)

pub vm_exact : VmLaw → VmExactLaw
vm_exact law files folder bare = record {
  prints = λ one out err out' err' h k. (vm_prints law files folder bare out out' h.0 k.0, h.1 ∙ sym k.1);
  refuses = λ out before told out' before' told' h k. (h.0 ∙ sym k.0, vm_refuses law files folder bare told told' h.1 k.1, h.2 ∙ sym k.2);
  apart = λ out err out' before told h k. vm_apart law files folder bare out told h.0 k.1;
  lacking = λ there has gone out before told. absurd (not_missing there files folder has gone);
}
