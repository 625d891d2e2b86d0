-- What the parts of loading a file say. (The book, chapter 6, and appendix 3.)
use Rattle.std.specs.Prelude.{◌≡◌, ◌≤◌, ℕ, List, length, codes, decimal, if◌then◌else◌}
use Rattle.outer_world.specs.Files.{HasFile}
use Rattle.outer_world.specs.Refusals.{message, message_line}
use Rattle.hack_asm.specs.declared.language.Form.{Form}
use Rattle.hack_asm.specs.declared.language.Form.TheVariants.{Assembly, Image}
use Rattle.script_parser.specs.Numbers.{ends_in}
use Rattle.tst_runner.specs.Setting.{Setting, path_of}

-- the form of a program's text, by the ending of its file
abbrev pub form_of : List ℕ → Form
form_of file = if ends_in (codes ".hack") file then Image else Assembly

-- A text that lines are compared with: that of a file of the script's folder.
abbrev pub IsCompared : Setting → List ℕ → List ℕ → Type 0
IsCompared setting file text = HasFile setting.files (path_of setting file) text × (length text ≤ 1048576)

-- It is too long, as this line says.
abbrev pub IsTooLong : Setting → List ℕ → List ℕ → Type 0
IsTooLong setting file line =
    (text : List ℕ) × HasFile setting.files (path_of setting file) text × (1048577 ≤ length text) × (line ≡ message_line (path_of setting file) (message 0 0 (codes "Range") (decimal 1048577)))
