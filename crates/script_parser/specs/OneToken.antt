-- What one token of a test script is, without cutting (book, appendix 3): a text in double quotes, a sign, or a word. Whether bytes are a
-- word depends on what stands after them too: a comment may begin with a word's last byte.
use Rattle.std.specs.Prelude.{◌≡◌, ℕ, List, [], ◌∷◌, ◌++◌, codes}
use Rattle.std.specs.List.{All, Contains}
use Rattle.grammar.specs.Between.{OpensComment}

-- the bytes that stand in no word: blanks, signs and the double quote
abbrev pub none_of_a_word : List ℕ
none_of_a_word = 32 ∷ 9 ∷ 10 ∷ 13 ∷ 34 ∷ codes ",;!{}"

-- each of some bytes may stand in a word, and none begins a comment, where others stand after them
abbrev pub IsInWord : List ℕ → List ℕ → Type 0
IsInWord [] behind = Unit {0}
IsInWord (b ∷ bs) behind = (Contains none_of_a_word b → ⊥) × (b ≡ 47 → OpensComment (bs ++ behind) → ⊥) × IsInWord bs behind

pub data IsOne : List ℕ → List ℕ → Type 0 where
  AText : (bs : List ℕ) {behind : List ℕ} → All (λ c. Contains (34 ∷ 10 ∷ 13 ∷ []) c → ⊥) bs → IsOne (34 ∷ (bs ++ 34 ∷ [])) behind
  ASign : {b : ℕ} {behind : List ℕ} → Contains (codes ",;!{}") b → IsOne (b ∷ []) behind
  AWord : {b : ℕ} {bs behind : List ℕ} → IsInWord (b ∷ bs) behind → IsOne (b ∷ bs) behind
