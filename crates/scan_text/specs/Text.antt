-- A text from left to right: places, and the longest front of some bytes.
use Rattle.std.specs.Prelude.{◌≡◌, ℕ, ◌+◌, ◌-◌, ◌*◌, ◌<◌, Bool, List, [], ◌∷◌, ◌==◌, if◌then◌else◌, Option, Some, None, nat_le, ◌&&◌, min}
use Rattle.scan_text.specs.declared.Place.{Place}

-- the place after a byte: a line feed ends a line
abbrev pub step : Place → ℕ → Place
step at byte = if byte == 10 then record { line = at.line + 1; column = 1 } else record { line = at.line; column = at.column + 1 }

-- the place after some bytes
abbrev pub walk : Place → List ℕ → Place
walk at [] = at
walk at (b ∷ bs) = walk (step at b) bs

-- the longest front whose bytes are kept, and what is after it
abbrev pub front : (ℕ → Bool) → List ℕ → List ℕ
front keep [] = []
front keep (b ∷ bs) = if keep b then b ∷ front keep bs else []

abbrev pub rest_behind : (ℕ → Bool) → List ℕ → List ℕ
rest_behind keep [] = []
rest_behind keep (b ∷ bs) = if keep b then rest_behind keep bs else b ∷ bs

-- each call of a closure answers the test
abbrev pub Computes : (ℕ → Bool → Type 0) → (ℕ → Bool) → Type 0
Computes post test = (b : ℕ) (r : Bool) → b < 256 → post b r → r ≡ test b

-- the first byte
abbrev pub first : List ℕ → Option ℕ
first [] = None
first (b ∷ bs) = Some b

abbrev pub is_digit : ℕ → Bool
is_digit b = nat_le 48 b && nat_le b 57

abbrev pub digits : List ℕ → List ℕ
digits = front is_digit

-- the number that decimal digits spell, from a number that stands before them
abbrev pub decimal : ℕ → List ℕ → ℕ
decimal n [] = n
decimal n (d ∷ ds) = decimal (n * 10 + (d - 48)) ds

-- a number, where one past 1,000,000,000 is 1,000,000,001
abbrev pub capped_count : ℕ → ℕ
capped_count n = min n 1000000001

abbrev pub start : Place
start = record { line = 1; column = 1 }

-- the place of what stands in no text
abbrev pub nowhere : Place
nowhere = record { line = 0; column = 0 }

abbrev pub number_at : List ℕ → Option ℕ
number_at [] = None
number_at (d ∷ ds) = Some (capped_count (decimal 0 (d ∷ ds)))

-- the number at the front, if a digit stands there
abbrev pub number_of : List ℕ → Option ℕ
number_of bs = number_at (digits bs)
