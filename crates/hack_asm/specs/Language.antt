-- What the text of a program of the instruction machine spells, assembly or the text of an image, and the diagnostic of a refused
-- one. (The book, chapters 4 and 6.)
use Rattle.std.specs.Prelude.{◌≡◌, ℕ, List, [], Some, Result, Ok, Err, codes, decimal}
use Rattle.outer_world.specs.Refusals.{Message, message}
use Rattle.hack_asm.specs.Faults.{Wrong, Grammar, Range, LabelTwice, TooLarge, TooManyVariables}
use Rattle.hack_asm.specs.HackText.{Holds, IsRefusal as IsNoImage}
use Rattle.hack_asm.specs.Meaning.{Means, IsRefusal as IsNoAssembly}
use Rattle.hack_asm.specs.Messages.{asm_message}
use Rattle.hack_asm.specs.declared.fault.AsmFault.{AsmFault}
use Rattle.hack_asm.specs.declared.language.Form.{Form}
use Rattle.hack_asm.specs.declared.language.Form.TheVariants.{Assembly, Image}

-- what a text of this form means: words, `Ok words`, or what is wrong with it, `Err wrong`
abbrev pub MeansAs : Form → List ℕ → Result (List ℕ) Wrong → Type 0
MeansAs Assembly text r = Means text r
MeansAs Image text r = Holds text r

-- the diagnostic of what is wrong
abbrev pub wrong_message : Wrong → Message
wrong_message (Grammar at) = message at.line at.column (codes "Grammar") []
wrong_message (Range at value) = message at.line at.column (codes "Range") (decimal value)
wrong_message (LabelTwice name at) = message at.line at.column (codes "LabelTwice") name
wrong_message (TooLarge words) = message 0 0 (codes "TooLarge") (decimal words)
wrong_message (TooManyVariables count) = message 0 0 (codes "TooManyVariables") (decimal count)

abbrev pub SpellsWords : Form → List ℕ → List ℕ → Type 0
SpellsWords form text words = MeansAs form text (Ok words)

abbrev pub RefusesWords : Form → List ℕ → Message → Type 0
RefusesWords form text told = (wrong : Wrong) × MeansAs form text (Err wrong) × (told ≡ wrong_message wrong)

-- ---- the same of a fault of the code

-- a text of this form is refused for this fault, unless memory is wanting
abbrev pub IsRefused : Form → List ℕ → AsmFault → Type 0
IsRefused Assembly text fault = IsNoAssembly text fault
IsRefused Image text fault = IsNoImage text fault

-- Such a text is refused for a fault, and this is its diagnostic; so RefusesWords too.
abbrev pub TellsAsmFault : Form → List ℕ → Message → Type 0
TellsAsmFault form text told = (fault : AsmFault) × IsRefused form text fault × (asm_message fault ≡ Some told)
