-- The Hack machine: its state, one step, and a run. (The book, chapters 4 and 5.)
use Rattle.std.specs.Prelude.{ℕ, zero, suc, ◌+◌, ◌%◌, Bool, nat_lt, nat_eq, if◌then◌else◌, ◌&&◌, List, [], ◌∷◌, slice_index}
use Rattle.word16.specs.Memory.{keyboard}
use Rattle.word16.specs.Words.{has_bit, word_shift}
use Rattle.hack_isa.specs.Table.{alu_out, instr_of}
use Rattle.hack_isa.specs.declared.Instr.{Instr}
use Rattle.hack_isa.specs.declared.Instr.TheVariants.{Address, Compute, Shift}

-- how many words instruction memory has: no image is longer
abbrev pub image_words : ℕ
image_words = 32768

-- A, D, the program counter, and the word at each data address below the keyboard's
pub record Machine : Type 0 where
  pub a : ℕ
  pub d : ℕ
  pub pc : ℕ
  pub memory : ℕ → ℕ

abbrev pub start : Machine
start = record { a = 0; d = 0; pc = 0; memory = λ k. 0 }

-- What M is: a word of memory, or, from the keyboard's address on, the key. Of A the lowest 15 bits address memory.
unfoldable pub read : (ℕ → ℕ) → ℕ → ℕ → ℕ
read memory key a = if nat_lt (a % 32768) keyboard then memory (a % 32768) else key

-- memory after a write, which changes nothing from the keyboard's address up
unfoldable pub write : (ℕ → ℕ) → ℕ → ℕ → ℕ → ℕ
write memory a v k = if nat_eq k (a % 32768) && nat_lt k keyboard then v else memory k

-- whether a jump's condition holds: less, equal, greater than 0
unfoldable pub jumps : ℕ → ℕ → Bool
jumps jump out =
    if nat_lt 32767 out then has_bit jump 2 else if nat_eq out 0 then has_bit jump 1 else has_bit jump 0

-- where a result goes: into A, D and M, as dest asks; and by the result the next instruction is that at A, or the one after
abbrev pub with_result : ℕ → ℕ → ℕ → Machine → Machine
with_result out dest jump s = record {
  a = if has_bit dest 2 then out else s.a;
  d = if has_bit dest 1 then out else s.d;
  pc = if jumps jump out then s.a % 32768 else (s.pc + 1) % 32768;
  memory = if has_bit dest 0 then write s.memory s.a out else s.memory;
}

-- one instruction: the result is what the ALU gives of D, and of A or M; or D, A or M one place to the left or the right
abbrev pub perform : Instr → ℕ → Machine → Machine
perform (Address n) key s = record s { a = n; pc = (s.pc + 1) % 32768 }
perform (Compute m comp dest jump) key s =
    with_result (alu_out comp s.d (if m then read s.memory key s.a else s.a)) dest jump s
perform (Shift m left d dest jump) key s =
    with_result (word_shift left (if d then s.d else (if m then read s.memory key s.a else s.a))) dest jump s

-- the instruction at the program counter; words past the image are 0
abbrev pub fetch : List ℕ → Machine → Instr
fetch image s = instr_of (slice_index image s.pc)

unfoldable pub step : List ℕ → ℕ → Machine → Machine
step image key s = perform (fetch image s) key s

-- a run under a list of keys, one for each step
abbrev pub run : List ℕ → List ℕ → Machine → Machine
run image [] s = s
run image (key ∷ keys) s = run image keys (step image key s)

-- the machine at cycle c from its start, where the key in cycle k is `keys k`
abbrev pub machine_at : List ℕ → (ℕ → ℕ) → ℕ → Machine
machine_at image keys zero = start
machine_at image keys (suc c) = step image (keys c) (machine_at image keys c)
