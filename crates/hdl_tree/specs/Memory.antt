-- What stands in memory, cycle by cycle. (The book, chapter 3.)
use Rattle.std.specs.Prelude.{ℕ, zero, suc, ◌+◌, ◌^◌, Bool, cond, ◌&&◌, ◌==◌}

-- the number that the lowest n bits spell
abbrev pub number : ℕ → (ℕ → Bool) → ℕ
number zero bits = 0
number (suc n) bits = number n bits + cond (bits n) (2 ^ n) 0

-- what stood one cycle before, and in the first cycle what there is at the start
abbrev pub before : {X : Type 0} → X → ℕ → (ℕ → X) → X
before start zero history = start
before start (suc c) history = history c

-- the word at address a after a cycle in which a word came in, where old stood there: the word that came in, if it was loaded at this address
abbrev pub word_written : Bool → ℕ → ℕ → ℕ → ℕ → ℕ
word_written load address word a old = cond (load && (address == a)) word old

-- The word at address a at the start of cycle c: the last one that was loaded there in a cycle before, else the one at the start. Of each cycle
-- there is known whether a word is loaded, at which address, and which word comes in.
abbrev pub word_held : (ℕ → Bool) → (ℕ → ℕ) → (ℕ → ℕ) → (ℕ → ℕ) → ℕ → ℕ → ℕ
word_held load address word start zero a = start a
word_held load address word start (suc c) a = word_written (load c) (address c) (word c) a (word_held load address word start c a)
