-- The command `asm`: the words of an assembly text as binary digits, one a line, or why the text is refused. (The book,
-- chapter 6.)
use Rattle.std.specs.Prelude.{◌≡◌, ℕ, List, Option}
use Rattle.outer_world.specs.Files.{Files}
use Rattle.hack_asm.specs.Image.{image_text}
use Rattle.source_files.specs.Sources.{IsFaulty, SpellsAt}
use Rattle.hack_asm.specs.Language.{RefusesWords, SpellsWords}
use Rattle.hack_asm.specs.declared.language.Form.TheVariants.{Assembly}

-- The text of the file means a program as assembly, and these are its words.
abbrev pub AsmPrints : Option Files → List ℕ → List ℕ → Type 0
AsmPrints files path out = (program : List ℕ) × SpellsAt (SpellsWords Assembly) files path program × (out ≡ image_text program)

-- The text means no program, and this line says why.
abbrev pub AsmRefuses : Option Files → List ℕ → List ℕ → Type 0
AsmRefuses files path line = IsFaulty (RefusesWords Assembly) files path line
