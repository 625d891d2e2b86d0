-- The text of an image: a line of sixteen binary digits for each word, the highest bit first.
use Rattle.std.specs.Prelude.{ℕ, List, [], ◌∷◌, ◌++◌}
use Rattle.std.specs.List.{flat_map}
use Rattle.word16.specs.Words.{binary_text}

abbrev pub word_line : ℕ → List ℕ
word_line w = binary_text w ++ 10 ∷ []

abbrev pub image_text : List ℕ → List ℕ
image_text ws = flat_map word_line ws
