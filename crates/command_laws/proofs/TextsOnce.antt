-- The other languages read a text in one way, too.
use Rattle.std.proofs.Common.{◌≡◌, ℕ, Bool, true, List, [], ◌∷◌, Result, Ok, Err, codes, sym, ◌∙◌, ap}
use Rattle.hack_asm.specs.Faults.{Wrong}
use Rattle.hack_asm.specs.Meaning.{ReadingLaw as AssemblyLaw}
use Rattle.hack_asm.specs.HackText.{ReadingLaw as ImageLaw}
use Rattle.vm_tree.specs.declared.program.File.{File}
use Rattle.vm_parser.specs.Trees.{ReadingLaw as VmLaw, Spells as SpellsProgram, Refuses as RefusesProgram}
use Rattle.hdl_tree.specs.declared.tree.Chip.{Chip}
use Rattle.hdl_parser.specs.Spells.{ReadingLaw as ChipLaw, Refuses as RefusesChip, Spells as SpellsChip}
use Rattle.jack_tree.specs.Syntax.{Class}
use Rattle.jack_parser.specs.Spelled.{ClassLaw, SpellsClass}
use Rattle.jack_parser.specs.Spells.{Refuses as RefusesTree}
use Rattle.source_files.proofs.Once.{ReadsOnce}
use Rattle.source_files.specs.Folder.{stem_of}
use Rattle.hack_asm.specs.Language.{MeansAs, RefusesWords, SpellsWords, wrong_message}
use Rattle.hdl_parser.specs.Language.{RefusesHdl}
use Rattle.jack_parser.specs.Language.{RefusesClass}
use Rattle.vm_parser.specs.Language.{RefusesVm, SpellsVmFile}
use Rattle.hack_asm.specs.declared.language.Form.{Form}
use Rattle.hack_asm.specs.declared.language.Form.TheVariants.{Assembly, Image}
use Rattle.nand_cli.proofs.ReadOnce.{one_told}

-- ---- programs of the instruction machine

one_saying : AssemblyLaw → ImageLaw → (form : Form) (text : List ℕ) (r q : Result (List ℕ) Wrong) → MeansAs form text r → MeansAs form text q → r ≡ q
one_saying assembly image Assembly text r q h k = assembly text r q h k
one_saying assembly image Image text r q h k = image text r q h k

-- the words of a text
pub words_once : AssemblyLaw → ImageLaw → (form : Form) → ReadsOnce (λ (name text words : List ℕ). SpellsWords form text words) (RefusesWords form) (λ (words : List ℕ). words)
words_once assembly image form = record {
  one = λ name text a b h k. let e = one_saying assembly image form text (Ok a) (Ok b) h k in let same : a ≡ b = cc in same;
  one_told = λ text s t h k. let e = one_saying assembly image form text (Err h.0) (Err k.0) h.1 k.1 in let same : h.0 ≡ k.0 = cc in h.2 ∙ ap wrong_message same ∙ sym k.2;
  not_both = λ name text a t h k. let e = one_saying assembly image form text (Ok a) (Err k.0) h k.1 in let no : ⊥ = cc in no;
}

-- ---- VM texts

pub program_once : VmLaw → ReadsOnce (λ (name text : List ℕ) (program : List File). SpellsProgram true [] text program) (RefusesVm true) (λ (program : List File). program)
program_once law = record {
  one = λ name text a b h k. (law true [] text).one a b h k;
  one_told = λ text s t h k. one_told (SpellsProgram true [] text) (RefusesProgram true) text s t (law true [] text) h k;
  not_both = λ name text a t h k. (law true [] text).not_both a k.0 h k.1;
}

pub file_once : VmLaw → (bare : Bool) → ReadsOnce (SpellsVmFile bare) (RefusesVm bare) (λ (file : File). file)
file_once law bare = record {
  one = λ name text a b h k. let e = (law bare (stem_of (codes ".vm") name) text).one (a ∷ []) (b ∷ []) h k in let same : a ≡ b = cc in same;
  one_told = λ text s t h k. one_told (SpellsProgram bare [] text) (RefusesProgram bare) text s t (law bare [] text) h k;
  not_both = λ name text a t h k. (law bare (stem_of (codes ".vm") name) text).not_both (a ∷ []) k.0 h k.1;
}

-- ---- classes

pub shown_once : ClassLaw → ReadsOnce (λ (name text : List ℕ) (c : Class). SpellsClass text c) RefusesClass (λ (c : Class). c)
shown_once law = record {
  one = λ name text a b h k. (law text).one a b h k;
  one_told = λ text s t h k. one_told (SpellsClass text) RefusesTree text s t (law text) h k;
  not_both = λ name text a t h k. (law text).not_both a k.0 h k.1;
}

-- ---- chips

pub chip_once : ChipLaw → ReadsOnce (λ (name text : List ℕ) (c : Chip). SpellsChip text c) RefusesHdl (λ (c : Chip). c)
chip_once law = record {
  one = λ name text a b h k. (law text).one a b h k;
  one_told = λ text s t h k. one_told (SpellsChip text) RefusesChip text s t (law text) h k;
  not_both = λ name text a t h k. (law text).not_both a k.0 h k.1;
}
