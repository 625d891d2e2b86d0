-- The line of a fault, as the part up to its word and the rest.
use Rattle.std.proofs.Common.{◌≡◌, ◌<◌, ◌++◌, ◌∷◌, [], ℕ, List, length, decimal, refl, sym, ◌∙◌, ap, append_assoc, arith}
use Rattle.outer_world.specs.Texts.{fault_text}
use Rattle.outer_world.specs.Inner.Parts.{front_of, rest_of}
use Rattle.outer_world.specs.Refusals.{Message, message_line}

after_word : (word d : List ℕ) → fault_text word d ++ 10 ∷ [] ≡ word ++ (fault_text [] d ++ 10 ∷ [])
after_word word [] = refl
after_word word (c ∷ d) = append_assoc word (32 ∷ c ∷ d) (10 ∷ [])

-- a detail that is there
pub with_detail : (d : List ℕ) → 0 < length d → 32 ∷ (d ++ 10 ∷ []) ≡ rest_of d
with_detail [] h = absurd (omega arith)
with_detail (c ∷ d) h = refl

joined : (path line column word rest : List ℕ)
    → (path ++ 58 ∷ (line ++ 58 ∷ (column ++ 58 ∷ 32 ∷ word))) ++ rest ≡ path ++ 58 ∷ (line ++ 58 ∷ (column ++ 58 ∷ 32 ∷ (word ++ rest)))
joined path line column word rest = simp append_assoc

pub line-parts : (path : List ℕ) (m : Message) → message_line path m ≡ front_of path m ++ rest_of m.detail
line-parts path m =
    ap (λ t. path ++ 58 ∷ (decimal m.line ++ 58 ∷ (decimal m.column ++ 58 ∷ 32 ∷ t))) (after_word m.word m.detail)
    ∙ sym (joined path (decimal m.line) (decimal m.column) m.word (rest_of m.detail))
