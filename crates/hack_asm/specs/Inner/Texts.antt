-- What reading the text of a program answers.
use Rattle.std.specs.Prelude.{ℕ, List, Result, Ok, Err, Vec}
use Rattle.std.specs.declared.alloc.Global.{Global}
use Rattle.hack_asm.specs.Language.{IsRefused, SpellsWords}
use Rattle.hack_asm.specs.declared.fault.AsmFault.{AsmFault}
use Rattle.hack_asm.specs.declared.language.Form.{Form}

-- The words of a text in a form, or for which fault it is refused, unless memory is wanting.
abbrev pub ReadsWords : Form → List ℕ → Result (Vec ℕ Global) AsmFault → Type 0
ReadsWords form text (Ok words) = SpellsWords form text words.items
ReadsWords form text (Err fault) = IsRefused form text fault
