-- Calls that are set up to fail.
use Rattle.std.proofs.Common.{◌≡◌, ℕ, true, false, Option, Some, None, is_some, sym}

pub planned_call : (found planned : Option ℕ) → is_some found ≡ true → found ≡ planned → (most : ℕ) × (planned ≡ Some most)
planned_call None planned h e = absurd (let bad : false ≡ true = h in let no : ⊥ = cc in no)
planned_call (Some most) planned h e = (most, sym e)
