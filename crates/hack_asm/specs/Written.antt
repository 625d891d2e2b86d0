-- How instructions are written in assembly. (The book, chapter 4: dest and jump.)
use Rattle.std.specs.Prelude.{◌≡◌, ◌<◌, ◌≤◌, true, List, [], ◌∷◌, ◌++◌, ℕ, Ok, codes, decimal, is_some, length, map}
use Rattle.std.specs.List.{flat_map}
use Rattle.hack_isa.specs.Machine.{image_words}
use Rattle.hack_isa.specs.Table.{WellFormed, word_of}
use Rattle.hack_isa.specs.declared.Instr.{Instr}
use Rattle.hack_isa.specs.declared.Instr.TheVariants as instr
use Rattle.hack_asm.specs.Comps.{Texts, computations, entry, text_in}
use Rattle.hack_asm.specs.Meaning.{Means}

-- the bits of a destination with the letters of A, D and M in this order, and `=`
abbrev pub destinations : Texts
destinations =
    (0b000, []) ∷ (0b001, codes "M=") ∷ (0b010, codes "D=") ∷ (0b011, codes "DM=") ∷ (0b100, codes "A=")
    ∷ (0b101, codes "AM=") ∷ (0b110, codes "AD=") ∷ (0b111, codes "ADM=") ∷ []

-- the bits of a jump with its word after `;`
abbrev pub jumps : Texts
jumps =
    (0b000, []) ∷ (0b001, codes ";JGT") ∷ (0b010, codes ";JEQ") ∷ (0b011, codes ";JGE") ∷ (0b100, codes ";JLT")
    ∷ (0b101, codes ";JNE") ∷ (0b110, codes ";JLE") ∷ (0b111, codes ";JMP") ∷ []

-- a computation with its destination and jump, by the word that it has without them
abbrev pub computed_text : ℕ → ℕ → ℕ → List ℕ
computed_text word dest jump = text_in destinations dest ++ (text_in computations word ++ (text_in jumps jump ++ 10 ∷ []))

-- the line of an instruction
abbrev pub instr_text : Instr → List ℕ
instr_text (instr.Address n) = 64 ∷ (decimal n ++ 10 ∷ [])
instr_text (instr.Compute m comp dest jump) = computed_text (word_of (instr.Compute m comp 0 0)) dest jump
instr_text (instr.Shift m left d dest jump) = computed_text (word_of (instr.Shift m left d 0 0)) dest jump

abbrev pub asm_text : List Instr → List ℕ
asm_text is = flat_map instr_text is

-- An instruction that assembly can spell: its numbers fit their fields, and its computation is one of the table's.
abbrev pub IsSpelled : Instr → Type 0
IsSpelled (instr.Address n) = n < 32768
IsSpelled (instr.Compute m comp dest jump) = WellFormed (instr.Compute m comp dest jump) × (is_some (entry computations (word_of (instr.Compute m comp 0 0))) ≡ true)
IsSpelled (instr.Shift m left d dest jump) = WellFormed (instr.Shift m left d dest jump)

abbrev pub AreSpelled : List Instr → Type 0
AreSpelled [] = Unit {0}
AreSpelled (i ∷ is) = IsSpelled i × AreSpelled is

-- The law of written assembly: it means the words of its instructions.
abbrev pub WrittenMeans : Type 0
WrittenMeans = (is : List Instr) → AreSpelled is → length is ≤ image_words → Means (asm_text is) (Ok (map word_of is))
