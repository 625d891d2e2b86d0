-- Instructions that a word has and that assembly spells. (The book, chapter 4.)
use Rattle.std.specs.Prelude.{◌≡◌, ◌<◌, ℕ, Bool, true, not, List, [], ◌∷◌, nat_eq, ◌&&◌, ◌||◌}
use Rattle.std.specs.List.{list_any}
use Rattle.hack_isa.specs.declared.Instr.{Instr}
use Rattle.hack_isa.specs.declared.Instr.TheVariants.{Address, Compute, Shift}
use Rattle.hack_isa.specs.Table.{WellFormed}

abbrev pub stands_among : List ℕ → ℕ → Bool
stands_among ns n = list_any (nat_eq n) ns

-- the ALU's bits of A, !A, -A, A+1, A-1, D+A, D-A, A-D, D&A and D|A, which stand with M too
abbrev pub comps_of_a : List ℕ
comps_of_a = 0b110000 ∷ 0b110001 ∷ 0b110011 ∷ 0b110111 ∷ 0b110010 ∷ 0b000010 ∷ 0b010011 ∷ 0b000111 ∷ 0b000000 ∷ 0b010101 ∷ []

-- those of 0, 1, -1, D, !D, -D, D+1 and D-1
abbrev pub comps_of_d : List ℕ
comps_of_d = 0b101010 ∷ 0b111111 ∷ 0b111010 ∷ 0b001100 ∷ 0b001101 ∷ 0b001111 ∷ 0b011111 ∷ 0b001110 ∷ []

-- a computation that assembly spells
abbrev pub is_spelled : Bool → ℕ → Bool
is_spelled memory comp = stands_among comps_of_a comp || (not memory && stands_among comps_of_d comp)

-- The instruction is well-formed and can be written as assembly.
abbrev pub IsPlain : Instr → Type 0
IsPlain (Address n) = n < 32768
IsPlain (Compute memory comp dest jump) = WellFormed (Compute memory comp dest jump) × (is_spelled memory comp ≡ true)
IsPlain (Shift memory left d dest jump) = WellFormed (Shift memory left d dest jump)
