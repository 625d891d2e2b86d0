-- Why the text of a program is refused.
use Rattle.std.proofs.Common.{◌≡◌, ℕ, List, Option, Some, None, Result, Ok, Err, Vec, Global, refl, sym, ◌∙◌}
use Rattle.std.specs.Prelude.{option_map, IfOk, IfErr}
use Rattle.outer_world.specs.Files.{Files}
use Rattle.outer_world.specs.Refusals.{Message}
use Rattle.source_files.specs.Loads.{IsWhy, text_error}
use Rattle.source_files.specs.Sources.{IsFaulty}
use Rattle.source_files.specs.declared.error.TextError.{TextError}
use Rattle.source_files.proofs.Told.{why_told}
use Rattle.hack_asm.specs.Faults.{Wrong, wrong_of}
use Rattle.hack_asm.specs.HackText.{Holds, HoldsWrong, IsRefusal as IsNoImage}
use Rattle.hack_asm.specs.Inner.Texts.{ReadsWords}
use Rattle.hack_asm.specs.Language.{IsRefused, RefusesWords, TellsAsmFault, wrong_message}
use Rattle.hack_asm.specs.Meaning.{Means, MeansWrong, IsRefusal}
use Rattle.hack_asm.specs.Messages.{asm_message}
use Rattle.hack_asm.specs.declared.fault.AsmFault.{AsmFault}
use Rattle.hack_asm.specs.declared.fault.AsmFault.TheVariants as asm
use Rattle.hack_asm.specs.declared.language.Form.{Form}
use Rattle.hack_asm.specs.declared.language.Form.TheVariants.{Assembly, Image}

-- ---- what a reader answers

pub read_assembly : (text : List ℕ) (r : Result (Vec ℕ Global) AsmFault) → IfOk r (λ v. Means text (Ok v.items)) → IfErr r (IsRefusal text) → ReadsWords Assembly text r
read_assembly text (Ok v) h k = h
read_assembly text (Err e) h k = k

pub read_image : (text : List ℕ) (r : Result (Vec ℕ Global) AsmFault) → IfOk r (λ v. Holds text (Ok v.items)) → IfErr r (IsNoImage text) → ReadsWords Image text r
read_image text (Ok v) h k = h
read_image text (Err e) h k = k

-- what is reported of a text that is not that of a program
pub told_why : (form : Form) (text : List ℕ) (fault : AsmFault) (e : TextError) → IsRefused form text fault → e ≡ text_error (asm_message fault) → IsWhy (TellsAsmFault form text) e
told_why form text fault e h same = why_told (TellsAsmFault form text) (asm_message fault) e (λ t tells. (fault, h, tells)) same

-- ---- a fault of the code is one that the text has

told_by : (fault : AsmFault) → asm_message fault ≡ option_map wrong_message (wrong_of fault)
told_by (asm.Grammar at) = refl
told_by (asm.Range at value) = refl
told_by (asm.LabelTwice name at) = refl
told_by (asm.TooLarge words) = refl
told_by (asm.TooManyVariables count) = refl
told_by asm.Memory = refl

assembly_refused : (text : List ℕ) (o : Option Wrong) (told : Message) → MeansWrong text o → option_map wrong_message o ≡ Some told → RefusesWords Assembly text told
assembly_refused text None told h e = absurd (let no : ⊥ = cc in no)
assembly_refused text (Some w) told h e = (w, h, (let same : told ≡ wrong_message w = cc in same))

image_refused : (text : List ℕ) (o : Option Wrong) (told : Message) → HoldsWrong text o → option_map wrong_message o ≡ Some told → RefusesWords Image text told
image_refused text None told h e = absurd (let no : ⊥ = cc in no)
image_refused text (Some w) told h e = (w, h, (let same : told ≡ wrong_message w = cc in same))

pub refused_words : (form : Form) (text : List ℕ) (told : Message) → TellsAsmFault form text told → RefusesWords form text told
refused_words Assembly text told (fault, h, e) = assembly_refused text (wrong_of fault) told h (sym (told_by fault) ∙ e)
refused_words Image text told (fault, h, e) = image_refused text (wrong_of fault) told h (sym (told_by fault) ∙ e)

-- so of the text in a file
pub refused_in : (form : Form) (files : Option Files) (path line : List ℕ) → IsFaulty (TellsAsmFault form) files path line → IsFaulty (RefusesWords form) files path line
refused_in form files path line (text, told, has, h, is) = (text, told, has, refused_words form text told h, is)
