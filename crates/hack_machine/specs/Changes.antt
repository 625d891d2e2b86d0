-- A machine whose registers and words are also put from outside, between its moves.
use Rattle.std.specs.Prelude.{◌≡◌, ℕ, ◌+◌, ◌==◌, List, [], ◌∷◌, if◌then◌else◌}
use Rattle.hack_isa.specs.Machine.{Machine, start, step}
use Rattle.hack_machine.specs.Loaded.{LoadedMachine, machine_of}

-- a move under a key, or a value that is put into A, into D, into the program counter, or at an address
pub data Change : Type 0 where
  Press : (key : ℕ) → Change
  PutA : (value : ℕ) → Change
  PutD : (value : ℕ) → Change
  PutPc : (value : ℕ) → Change
  PutWord : (address value : ℕ) → Change

-- what is put is there, and the rest is as it was
abbrev pub after : List ℕ → Change → Machine → Machine
after image (Press key) s = step image key s
after image (PutA value) s = record { a = value; d = s.d; pc = s.pc; memory = s.memory }
after image (PutD value) s = record { a = s.a; d = value; pc = s.pc; memory = s.memory }
after image (PutPc value) s = record { a = s.a; d = s.d; pc = value; memory = s.memory }
after image (PutWord address value) s = record { a = s.a; d = s.d; pc = s.pc; memory = λ k. if k == address then value else s.memory k }

abbrev pub after_all : List ℕ → List Change → Machine → Machine
after_all image [] s = s
after_all image (change ∷ changes) s = after_all image changes (after image change s)

-- only a key is a move
abbrev pub moves_of : Change → ℕ
moves_of (Press key) = 1
moves_of (PutA value) = 0
moves_of (PutD value) = 0
moves_of (PutPc value) = 0
moves_of (PutWord address value) = 0

abbrev pub count_moves : List Change → ℕ
count_moves [] = 0
count_moves (change ∷ changes) = moves_of change + count_moves changes

-- the machine stands where its image leads from the start under these keys and puts
pub record HasChanged (h : LoadedMachine) (changes : List Change) : Type 0 where
  pub state : machine_of h ≡ after_all h.image changes start
  pub count : h.moves ≡ count_moves changes
