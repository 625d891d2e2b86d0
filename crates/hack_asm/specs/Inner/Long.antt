-- A text of more than 1,048,576 bytes is refused, without a place.
use Rattle.std.specs.Prelude.{◌<◌, ℕ, List, Err, length, refl}
use Rattle.std.proofs.Common.{inr}
use Rattle.scan_text.specs.Text.{nowhere}
use Rattle.grammar.specs.Cutting.{too_long}
use Rattle.source_files.specs.Inner.Long.{refused_long}
use Rattle.source_files.specs.Sources.{past_limit}
use Rattle.hack_asm.specs.Faults.{wrong}
use Rattle.hack_asm.specs.Grammar.{assembly, whole}
use Rattle.hack_asm.specs.HackText as image
use Rattle.hack_asm.specs.HackTokens as digits
use Rattle.hack_asm.specs.Language.{TellsAsmFault}
use Rattle.hack_asm.specs.Meaning.{Means}
use Rattle.hack_asm.specs.Tokens.{finish}
use Rattle.hack_asm.specs.declared.fault.AsmFault.TheVariants as asm
use Rattle.hack_asm.specs.declared.language.Form.{Form}
use Rattle.hack_asm.specs.declared.language.Form.TheVariants.{Assembly, Image}

no_assembly : (text : List ℕ) → 1048576 < length text → Means text (Err (wrong too_long))
no_assembly text long = inr (too_long, refused_long (assembly (finish text)) whole tt _ text long, refl)

no_image : (text : List ℕ) → 1048576 < length text → image.Holds text (Err (wrong too_long))
no_image text long = inr (too_long, refused_long (image.hack (digits.finish text)) image.whole tt _ text long, refl)

pub words_limited : (form : Form) (text : List ℕ) → 1048576 < length text → TellsAsmFault form text past_limit
words_limited Assembly text long = (asm.Range nowhere 1048577, no_assembly text long, refl)
words_limited Image text long = (asm.Range nowhere 1048577, no_image text long, refl)
