-- Line ends, blanks and comments.
use Rattle.std.specs.Prelude.{◌≡◌, ℕ, zero, suc, ◌<◌, Bool, true, false, List, [], ◌∷◌, ◌==◌, ◌||◌, ◌&&◌, if◌then◌else◌, Option, Some, None, length, Result, Ok, Err}
use Rattle.scan_text.specs.declared.Place.{Place}
use Rattle.scan_text.specs.declared.Blank.{Blank}
use Rattle.scan_text.specs.declared.Blank.TheVariants.{Over, Unclosed, Other}
use Rattle.scan_text.specs.Text.{step, front}

-- the first byte is this one
abbrev pub starts : ℕ → List ℕ → Bool
starts b [] = false
starts b (c ∷ bs) = c == b

-- The bytes of the line end at the front: a line feed, or a return and a line feed, which are one line end. 0 where none stands.
abbrev pub line_end : List ℕ → ℕ
line_end [] = 0
line_end (b ∷ bs) = if b == 10 then 1 else (if b == 13 && starts 10 bs then 2 else 0)

-- what is left of the line: the bytes before its line end
abbrev pub line : List ℕ → List ℕ
line [] = []
line (b ∷ bs) = if line_end (b ∷ bs) == 0 then b ∷ line bs else []

-- a blank of a text where line ends say nothing: space, tab, line feed, return
abbrev pub is_blank : ℕ → Bool
is_blank b = b == 32 || b == 9 || b == 10 || b == 13

-- one more byte
abbrev pub and_one : Option ℕ → Option ℕ
and_one None = None
and_one (Some n) = Some (suc n)

-- `*/` stands at the front
abbrev pub ends_block : List ℕ → Bool
ends_block [] = false
ends_block (b ∷ bs) = b == 42 && starts 47 bs

-- how many bytes there are up to the first `*/`, that with them
abbrev pub block : List ℕ → Option ℕ
block [] = None
block (b ∷ bs) = if ends_block (b ∷ bs) then Some 2 else and_one (block bs)

-- a comment of a byte and this many more, if it is closed
abbrev pub closed_comment : Option ℕ → Blank
closed_comment None = Unclosed
closed_comment (Some n) = Over n

abbrev pub in_line : ℕ → Bool
in_line b = if b == 10 then false else true

-- after a slash: `//` begins a comment up to the line's end, `/*` one up to the next `*/`
abbrev pub comment : List ℕ → Blank
comment [] = Other
comment (b ∷ bs) = if b == 47 then Over (length (front in_line (b ∷ bs))) else (if b == 42 then closed_comment (and_one (block bs)) else Other)

-- what begins at the front of a text: a blank, a comment, or something else
abbrev pub blank : List ℕ → Blank
blank [] = Other
blank (b ∷ bs) = if is_blank b then Over 0 else (if b == 47 then comment bs else Other)

abbrev pub blanks_by : Blank → Place → List ℕ → (ℕ → Result (Place × List ℕ) (Place × List ℕ)) → Result (Place × List ℕ) (Place × List ℕ)
blanks_by (Over n) at bs go = go n
blanks_by Unclosed at bs go = Err (at, bs)
blanks_by Other at bs go = Ok (at, bs)

-- What is left after all blanks and comments at the front, and its place. Err, where a comment is not closed: then what is left begins
-- with that comment. n bytes of what began before are still to come.
abbrev pub blanks : ℕ → Place → List ℕ → Result (Place × List ℕ) (Place × List ℕ)
blanks n at [] = Ok (at, [])
blanks (suc n) at (b ∷ bs) = blanks n (step at b) bs
blanks zero at (b ∷ bs) = blanks_by (blank (b ∷ bs)) at (b ∷ bs) (λ n. blanks n (step at b) bs)

-- a blank or comment of a byte and n more has at most as many bytes
abbrev pub IsWithin : Blank → ℕ → Type 0
IsWithin (Over n) len = n < len
IsWithin Unclosed len = Unit {0}
IsWithin Other len = Unit {0}

-- What is left after some bytes and its place come after the blanks, or are at the comment that is not closed, and that is the
-- place of the fault.
abbrev pub StandsBehind : Result (Place × List ℕ) (Place × List ℕ) → Result (Unit {0}) Place → Place → List ℕ → Type 0
StandsBehind found (Ok u) at left = found ≡ Ok (at, left)
StandsBehind found (Err p) at left = (found ≡ Err (at, left)) × (at ≡ p)
