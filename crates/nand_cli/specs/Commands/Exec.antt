-- The command `exec`: words of the memory after a run of the instruction machine, or why its program is refused. (The
-- book, chapters 4 and 5.)
use Rattle.std.specs.Prelude.{◌≡◌, ℕ, true, List, Option, codes, nat_eq, if◌then◌else◌}
use Rattle.std.specs.List.{ends_with}
use Rattle.outer_world.specs.Files.{Files}
use Rattle.hack_isa.specs.Machine.{machine_at, read}
use Rattle.machine_io.specs.Words.{words_text}
use Rattle.source_files.specs.Sources.{IsFaulty, SpellsAt}
use Rattle.hack_asm.specs.Language.{RefusesWords, SpellsWords}
use Rattle.hack_asm.specs.declared.language.Form.{Form}
use Rattle.hack_asm.specs.declared.language.Form.TheVariants.{Assembly, Image}

-- A path that ends in `.hack` is that of an image, and each other one that of assembly.
abbrev pub form_of : List ℕ → Form
form_of path = if ends_with nat_eq path (codes ".hack") then Image else Assembly

-- The file is that of a program, and no key is pressed. These are the words from one address to another after this many
-- cycles, words that are 0 among them.
abbrev pub ExecPrints : Option Files → List ℕ → ℕ → ℕ → ℕ → List ℕ → Type 0
ExecPrints files path cycles from to out =
    (program : List ℕ) × SpellsAt (SpellsWords (form_of path)) files path program
    × (out ≡ words_text (read (machine_at program (λ _. 0) cycles).memory 0) true from to)

-- The file is that of no program, and this line says why.
abbrev pub ExecRefuses : Option Files → List ℕ → List ℕ → Type 0
ExecRefuses files path line = IsFaulty (RefusesWords (form_of path)) files path line
