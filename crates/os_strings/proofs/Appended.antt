-- A string with one character more has its characters where they were.
use Rattle.std.proofs.Common.{◌≡◌, ⊎_elim, ℕ, ◌+◌, ◌<◌, List, length, sym, ◌∙◌, arith}
use Rattle.os_laws.proofs.Storing.{other_word}
use Rattle.os_functions.specs.StringLaws.{StringAt, with_heap_word}
use Rattle.os_functions.proofs.StringFacts.{in_heap}

pub place_kept : (ws : List ℕ) (o : ℕ) (text : List ℕ) (room : ℕ) (t : StringAt ws o text room) (k : ℕ) → length text < room → (text' : List ℕ)
    → (t' : StringAt (with_heap_word (with_heap_word ws (t.place + length text) k) (o + 1) (length text + 1)) o text' room) → t'.place ≡ t.place
place_kept ws o text room t k h text' t' =
    let e = t.place + length text in
    let object = t.object in
    let near = in_heap ws o text room t (length text) h in
    let side = t.apart (omega (arith, h)) in
    sym t'.characters ∙ other_word (with_heap_word ws e k) (o + 1) o (length text + 1) (omega (arith, object)) (omega (arith, object)) (λ q. omega (arith, q))
    ∙ other_word ws e o k near.0 (omega (arith, object)) (λ q. ⊎_elim (λ l. omega (arith, l, q)) (λ r. omega (arith, r, q, h)) side) ∙ t.characters
