-- The number that a string begins with (book, chapter 12).
use Rattle.std.specs.Prelude.{◌<◌, ◌+◌, ◌-◌, ◌*◌, ◌%◌, ◌^◌, Bool, false, nat_lt, nat_eq, if◌then◌else◌, ℕ, List, [], ◌∷◌, codes, length}
use Rattle.std.specs.List.{AllByRecursion}
use Rattle.word16.specs.Words.{word_neg}
use Rattle.jack_core.specs.declared.program.Core.{Core}
use Rattle.jack_meaning.specs.Meaning.{State}
use Rattle.os_laws.specs.Names.{IsShipped}
use Rattle.os_functions.specs.Calls.{Gives}
use Rattle.os_functions.specs.StringLaws.{CallsString}

-- the code of a digit: 48 to 57
abbrev pub is_digit : ℕ → Bool
is_digit k = if nat_lt k 48 then false else nat_lt k 58

-- The number whose digits go on after n, up to the first character that is none: a word, so modulo 65536.
abbrev pub number_behind : ℕ → List ℕ → ℕ
number_behind n [] = n
number_behind n (k ∷ ks) = if is_digit k then number_behind ((10 * n + (k - 48)) % 2 ^ 16) ks else n

-- the number that a text begins with; 45 is the code of the minus
abbrev pub number_in : List ℕ → ℕ
number_in [] = 0
number_in (k ∷ ks) = if nat_eq k 45 then word_neg (number_behind 0 ks) else number_behind 0 (k ∷ ks)

module _ {core : Core} (p : IsShipped core) (s : State) (o : ℕ) (text : List ℕ) (room : ℕ) where
  abbrev pub ValueLaw : Type 0
  ValueLaw = AllByRecursion (λ k. k < 2 ^ 16) text → (c : CallsString p s (codes "intValue") o [] text room) → Gives c.call (30 + 40 * length text) (number_in text)
