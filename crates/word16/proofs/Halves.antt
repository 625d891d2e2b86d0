-- The right shift halves the signed reading, rounded down.
use Rattle.std.proofs.Common.{◌≡◌, ℕ, ◌<◌, arith}
use Rattle.std.proofs.lemmas.Grind.{common_steps}
use Rattle.word16.specs.Words.{word_shr, signed_value, IsHalf}

pub halved : (w : ℕ) → w < 65536 → IsHalf (signed_value (word_shr w)) (signed_value w)
halved w h = grind (arith, common_steps)
