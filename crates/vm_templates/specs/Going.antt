-- How the computer goes through the instructions of a command, whatever the keys.
use Rattle.std.specs.Prelude.{◌≡◌, ℕ, suc, ◌%◌, true, ◌⊎◌, List}
use Rattle.word16.specs.Memory.{keyboard}
use Rattle.word16.specs.Words.{has_bit}
use Rattle.hack_isa.specs.Machine.{Machine, fetch, step}
use Rattle.hack_isa.specs.declared.Instr.{Instr}
use Rattle.hack_isa.specs.declared.Instr.TheVariants.{Address, Compute, Shift}
use Rattle.simulation.specs.System.{IsData, IsKey}

-- the instruction writes a word of heap or screen
abbrev pub IsDataWrite : Instr → Machine → Type 0
IsDataWrite (Address n) s = ⊥
IsDataWrite (Compute m comp dest jump) s = (has_bit dest 0 ≡ true) × IsData (s.a % 32768)
IsDataWrite (Shift m left d dest jump) s = (has_bit dest 0 ≡ true) × IsData (s.a % 32768)

-- the instruction reads M while A is 24,576: it reads the key
abbrev pub IsKeyRead : Instr → Machine → Type 0
IsKeyRead (Address n) s = ⊥
IsKeyRead (Compute m comp dest jump) s = (m ≡ true) × (s.a ≡ keyboard)
IsKeyRead (Shift m left d dest jump) s = (m ≡ true) × (s.a ≡ keyboard)

-- By its word alone the instruction may read the key. So does each that reads it, and a shift of D while A is 24,576, whose word may have the bit of
-- M.
abbrev pub MayReadKey : Instr → Machine → Type 0
MayReadKey (Address n) s = ⊥
MayReadKey (Compute m comp dest jump) s = IsKeyRead (Compute m comp dest jump) s
MayReadKey (Shift m left d dest jump) s = ((m ≡ true) ⊎ (d ≡ true)) × (s.a ≡ keyboard)

-- a step at one of these addresses, with no data write, and by its word with no key read
pub record Quiet (image : List ℕ) (inside : ℕ → Type 0) (s : Machine) : Type 0 where
  pub place : inside s.pc
  pub no_write : IsDataWrite (fetch image s) s → ⊥
  pub no_key : MayReadKey (fetch image s) s → ⊥

-- Whatever the keys, the machine comes to a goal in at most n steps, which are all quiet.
pub data Reaches (image : List ℕ) (quiet goal : Machine → Type 0) : ℕ → Machine → Type 0 where
  arrived : {n : ℕ} {s : Machine} → goal s → Reaches image quiet goal n s
  further : {n : ℕ} {s : Machine} → quiet s → ((key : ℕ) → IsKey key → Reaches image quiet goal n (step image key s)) → Reaches image quiet goal (suc n) s

-- The last instruction of a command: where it stands, and where it leads. It reads no key, and it writes data only if it may.
pub record Last (image : List ℕ) (last : ℕ) (may_write : Type 0) (goal : Machine → Type 0) (s : Machine) : Type 0 where
  pub place : s.pc ≡ last
  pub write : IsDataWrite (fetch image s) s → may_write
  pub no_key : MayReadKey (fetch image s) s → ⊥
  pub leads : (key : ℕ) → IsKey key → goal (step image key s)

-- The one step that reads the key, and what holds after it for each key that it may read.
pub record Hears (image : List ℕ) (inside : ℕ → Type 0) (rest : ℕ → Machine → Type 0) (s : Machine) : Type 0 where
  pub place : inside s.pc
  pub no_write : IsDataWrite (fetch image s) s → ⊥
  pub reads : IsKeyRead (fetch image s) s
  pub then : (key : ℕ) → IsKey key → rest key (step image key s)

module _ (image : List ℕ) (inside : ℕ → Type 0) (last : ℕ) (may_write : Type 0) where
  -- The machine goes by at most n quiet steps to the last instruction, and with it to the goal.
  abbrev pub Does : (Machine → Type 0) → ℕ → Machine → Type 0
  Does goal n s = Reaches image (Quiet image inside) (Last image last may_write goal) n s

  -- It goes by at most n quiet steps to where it reads the key. Then it goes by at most m to the last instruction, and with it to this key's
  -- goal.
  abbrev pub DoesHearing : (ℕ → Machine → Type 0) → ℕ → ℕ → Machine → Type 0
  DoesHearing goal n m s = Reaches image (Quiet image inside) (Hears image inside (λ key. Does (goal key) m)) n s
