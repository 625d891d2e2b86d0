-- What the instructions of a command change in memory, and that they change nothing else but SP and the words 13 to 15.
use Rattle.std.specs.Prelude.{◌≡◌, ◌≢◌, ◌⊎◌, ℕ, ◌+◌, ◌-◌, ◌<◌, ◌≤◌}
use Rattle.word16.specs.Words.{word_sub}
use Rattle.hack_isa.specs.Machine.{Machine}

-- neither SP nor one of the words 13 to 15
abbrev pub IsKept : ℕ → Type 0
IsKept k = (k ≢ 0) × (k ≢ 13) × (k ≢ 14) × (k ≢ 15)

-- one value more on the stack
pub record Pushed (m after : ℕ → ℕ) (v : ℕ) : Type 0 where
  pub sp : after 0 ≡ m 0 + 1
  pub top : after (m 0) ≡ v
  pub same : (k : ℕ) → IsKept k → k ≢ m 0 → after k ≡ m k

-- the two topmost values give way to one
pub record Joined (m after : ℕ → ℕ) (v : ℕ) : Type 0 where
  pub sp : after 0 ≡ m 0 - 1
  pub top : after (m 0 - 2) ≡ v
  pub same : (k : ℕ) → IsKept k → k ≢ m 0 - 2 → after k ≡ m k

-- the topmost value gives way to another
pub record Turned (m after : ℕ → ℕ) (v : ℕ) : Type 0 where
  pub top : after (m 0 - 1) ≡ v
  pub same : (k : ℕ) → k ≢ m 0 - 1 → after k ≡ m k

-- the topmost value goes to an address
pub record Stored (m after : ℕ → ℕ) (to : ℕ) : Type 0 where
  pub sp : after 0 ≡ m 0 - 1
  pub there : after to ≡ m (m 0 - 1)
  pub same : (k : ℕ) → IsKept k → k ≢ to → after k ≡ m k

-- the topmost value is taken away
pub record Dropped (m after : ℕ → ℕ) : Type 0 where
  pub sp : after 0 ≡ m 0 - 1
  pub same : (k : ℕ) → IsKept k → after k ≡ m k

-- A call: the return address and the four registers are on the stack, LCL is above them, and ARG is below the arguments.
pub record Called (m after : ℕ → ℕ) (back arguments : ℕ) : Type 0 where
  pub sp : after 0 ≡ m 0 + 5
  pub lcl : after 1 ≡ m 0 + 5
  pub arg : after 2 ≡ word_sub (m 0) arguments
  pub return_address : after (m 0) ≡ back
  pub saved_lcl : after (m 0 + 1) ≡ m 1
  pub saved_arg : after (m 0 + 2) ≡ m 2
  pub saved_this : after (m 0 + 3) ≡ m 3
  pub saved_that : after (m 0 + 4) ≡ m 4
  pub same : (k : ℕ) → IsKept k → k ≢ 1 → k ≢ 2 → (k < m 0) ⊎ (m 0 + 5 ≤ k) → after k ≡ m k

-- n values more on the stack: `word` gives each, the lowest first
pub record PushedAll (m after : ℕ → ℕ) (n : ℕ) (word : ℕ → ℕ) : Type 0 where
  pub sp : after 0 ≡ m 0 + n
  pub words : (k : ℕ) → k < n → after (m 0 + k) ≡ word k
  pub same : (k : ℕ) → IsKept k → (k < m 0) ⊎ (m 0 + n ≤ k) → after k ≡ m k

-- A return: the topmost value is where ARG pointed, SP is above it, and the four registers are those that were saved below LCL.
pub record Returned (m after : ℕ → ℕ) : Type 0 where
  pub sp : after 0 ≡ m 2 + 1
  pub result : after (m 2) ≡ m (m 0 - 1)
  pub lcl : after 1 ≡ m (m 1 - 4)
  pub arg : after 2 ≡ m (m 1 - 3)
  pub this : after 3 ≡ m (m 1 - 2)
  pub that : after 4 ≡ m (m 1 - 1)
  pub same : (k : ℕ) → IsKept k → k ≢ 1 → k ≢ 2 → k ≢ 3 → k ≢ 4 → k ≢ m 2 → after k ≡ m k

-- A, D and all words of memory are words.
pub record HasWords (s : Machine) : Type 0 where
  pub a_word : s.a < 65536
  pub d_word : s.d < 65536
  pub memory_words : (k : ℕ) → s.memory k < 65536
