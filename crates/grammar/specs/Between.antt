-- What may stand between tokens, without cutting: some bytes, and those that stand after them. (The book: blanks and comments of chapters
-- 6, 7 and 10 and of appendices 2 and 3.)
use Rattle.std.specs.Prelude.{◌≡◌, ℕ, List, [], ◌∷◌, ◌++◌, take}
use Rattle.std.specs.List.{All, Contains}

-- A line ends here: at a line feed, a return and a line feed, or the end of the text. A return alone ends none.
pub data EndsLine : List ℕ → Type 0 where
  AtEnd : EndsLine []
  AtFeed : {bs : List ℕ} → EndsLine (10 ∷ bs)
  AtReturnAndFeed : {bs : List ℕ} → EndsLine (13 ∷ 10 ∷ bs)

-- no line ends before the end of some bytes, where others stand after them
abbrev pub IsInLine : List ℕ → List ℕ → Type 0
IsInLine [] behind = Unit {0}
IsInLine (b ∷ bs) behind = (EndsLine (b ∷ (bs ++ behind)) → ⊥) × IsInLine bs behind

-- a language that is read by lines: a space, a tab, or a comment, which is two slashes and the rest of its line
pub data IsBetweenInLine : List ℕ → List ℕ → Type 0 where
  ASpace : {behind : List ℕ} → IsBetweenInLine (32 ∷ []) behind
  ATab : {behind : List ℕ} → IsBetweenInLine (9 ∷ []) behind
  AComment : {bs behind : List ℕ} → IsInLine bs behind → EndsLine behind → IsBetweenInLine (47 ∷ 47 ∷ bs) behind

-- a slash before these bytes begins a comment
pub data OpensComment : List ℕ → Type 0 where
  OfALine : {bs : List ℕ} → OpensComment (47 ∷ bs)
  OfABlock : {bs : List ℕ} → OpensComment (42 ∷ bs)

-- a comment of a line goes up to a line feed or the end of the text
pub data EndsAtFeed : List ℕ → Type 0 where
  AtEndOfText : EndsAtFeed []
  AtLineFeed : {bs : List ℕ} → EndsAtFeed (10 ∷ bs)

-- no `*/` stands in some bytes
abbrev pub HasNoEnd : List ℕ → Type 0
HasNoEnd [] = Unit {0}
HasNoEnd (b ∷ bs) = (take 2 (b ∷ bs) ≡ 42 ∷ 47 ∷ [] → ⊥) × HasNoEnd bs

-- a language where line ends say nothing: a blank (space, tab, line feed, return), a comment up to the end of its line, or one up to the
-- first `*/`
pub data IsBetween : List ℕ → List ℕ → Type 0 where
  ABlank : {b : ℕ} {behind : List ℕ} → Contains (32 ∷ 9 ∷ 10 ∷ 13 ∷ []) b → IsBetween (b ∷ []) behind
  ALineComment : {bs behind : List ℕ} → All (λ c. c ≡ 10 → ⊥) bs → EndsAtFeed behind → IsBetween (47 ∷ 47 ∷ bs) behind
  ABlockComment : (bs : List ℕ) {behind : List ℕ} → HasNoEnd (bs ++ 42 ∷ []) → IsBetween (47 ∷ 42 ∷ (bs ++ 42 ∷ 47 ∷ [])) behind
