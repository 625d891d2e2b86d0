-- What the CPU does in a cycle, in the words of its pins and of what its registers hold. (The book, chapter 5.)
use Rattle.std.specs.Prelude.{◌≡◌, ℕ, ◌+◌, ◌%◌, ◌<◌, ◌==◌, nat_lt, Bool, cond, not, ◌&&◌, ◌||◌, if◌then◌else◌, List, [], ◌∷◌, codes}
use Rattle.std.specs.Str.{bytes_eq}
use Rattle.word16.specs.Words.{word_add, word_shift}
use Rattle.hack_isa.specs.Table.{preset, combine}
use Rattle.hdl_tree.specs.Memory.{number, before}
use Rattle.hdl_tree.specs.declared.tree.Part.{Part}
use Rattle.hdl_tree.specs.Chips.{Chips, parts_of_body}
use Rattle.hdl_tree.specs.Behaviour.{Histories, World, IsBehaviour}
use Rattle.chip_basic.specs.Hdl.{shipped_entry}
use Rattle.chip_basic.specs.Laws.{bit, word}
use Rattle.hack_cpu.specs.Trees.{HasComputerChips, cpu_tree}

-- what the registers hold: A is the part 3 of the CPU, D the part 6, the program counter the part 17
abbrev pub a_held : (List ℕ → Histories) → ℕ → ℕ
a_held wires c = word (wires (3 ∷ [])) "out" c

abbrev pub d_held : (List ℕ → Histories) → ℕ → ℕ
d_held wires c = word (wires (6 ∷ [])) "out" c

abbrev pub pc_held : (List ℕ → Histories) → ℕ → ℕ
pc_held wires c = word (wires (17 ∷ [])) "out" c

-- bit k of the instruction
abbrev pub op : (List ℕ → Histories) → ℕ → ℕ → Bool
op wires c k = wires [] (codes "instruction") k c

-- A, or where bit 12 is 1 M
abbrev pub a_or_m : (List ℕ → Histories) → ℕ → ℕ
a_or_m wires c = cond (op wires c 12) (word (wires []) "inM" c) (a_held wires c)

-- what the ALU gives: of D, and of A or M
abbrev pub alu_output : (List ℕ → Histories) → ℕ → ℕ
alu_output wires c = combine (op wires c 7) (op wires c 6) (preset (op wires c 11) (op wires c 10) (d_held wires c)) (preset (op wires c 9) (op wires c 8) (a_or_m wires c))

-- what a shift gives: of D where bit 10 is 1, else of A or M, and to the left where bit 11 is 1
abbrev pub shift_output : (List ℕ → Histories) → ℕ → ℕ
shift_output wires c = word_shift (op wires c 11) (cond (op wires c 10) (d_held wires c) (a_or_m wires c))

-- bits 15, 14 and 13 are 1, 0 and 1: the instruction is a shift
abbrev pub is_shift : (List ℕ → Histories) → ℕ → Bool
is_shift wires c = op wires c 15 && (not (op wires c 14) && op wires c 13)

-- the result: what the shift gives where the instruction is one, else what the ALU gives
abbrev pub result : (List ℕ → Histories) → ℕ → ℕ
result wires c = cond (is_shift wires c) (shift_output wires c) (alu_output wires c)

-- whether the instruction jumps on this result
abbrev pub jumps_on : (List ℕ → Histories) → ℕ → ℕ → Bool
jumps_on wires c v = ((nat_lt 32767 v && op wires c 2) || (((v == 0) && op wires c 1) || (not ((v == 0) || nat_lt 32767 v) && op wires c 0))) && op wires c 15

pub record CpuWorks (wires : List ℕ → Histories) (c : ℕ) : Type 0 where
  pub out : word (wires []) "outM" c ≡ result wires c
  pub write : bit (wires []) "writeM" c ≡ (op wires c 15 && op wires c 3)
  pub address : number 15 (λ k. wires [] (codes "addressM") k c) ≡ a_held wires c % 32768
  pub pc : number 15 (λ k. wires [] (codes "pc") k c) ≡ pc_held wires c % 32768
  pub next_a : a_held wires c ≡ before 0 c (λ d. cond (not (op wires d 15) || op wires d 5)
      (cond (not (op wires d 15)) (word (wires []) "instruction" d) (result wires d))
      (a_held wires d))
  pub next_d : d_held wires c
      ≡ before 0 c (λ d. cond (op wires d 15 && op wires d 4) (result wires d) (d_held wires d))
  pub next_pc : pc_held wires c ≡ before 0 c (λ d. cond (bit (wires []) "reset" d) 0
      (cond (jumps_on wires d (result wires d)) (a_held wires d) (word_add (pc_held wires d) 1)))

abbrev pub CpuLaw : Type 0
CpuLaw = (world : World) (library : Chips) (n : ℕ) (wires : List ℕ → Histories) → HasComputerChips library → IsBehaviour world library (shipped_entry cpu_tree) n wires → (c : ℕ) → c < n → CpuWorks wires c

-- ---- which part is which

-- the places of the parts that are this chip, counted from n on
abbrev pub places : List ℕ → ℕ → List Part → List ℕ
places name n [] = []
places name n (part ∷ parts) = if bytes_eq part.chip name then n ∷ places name (n + 1) parts else places name (n + 1) parts

-- the CPU has exactly one ARegister, one DRegister and one PC
abbrev pub RegistersLaw : Type 0
RegistersLaw = (places (codes "ARegister") 0 (parts_of_body cpu_tree.body) ≡ 3 ∷ []) × (places (codes "DRegister") 0 (parts_of_body cpu_tree.body) ≡ 6 ∷ []) × (places (codes "PC") 0 (parts_of_body cpu_tree.body) ≡ 17 ∷ [])
