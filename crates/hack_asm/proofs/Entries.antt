-- The entries of the code's table, seen as a table.
use Rattle.std.proofs.Common.{◌≡◌, ℕ, Bool, true, false, cond, List, [], ◌∷◌, Option, Some, None, map, refl, ap}
use denote.Bor.{Bor}
use Rattle.std.specs.Str.{bytes_eq}
use Rattle.std.specs.Map.{lookup}
use Rattle.indexmap.specs.IndexMap.{insert_entry}
use Rattle.hack_asm.specs.Program.{Table, entry_of, with_entry}
use Rattle.hack_asm.specs.Entered.{seen_entry}

pub entry_at : (name : List ℕ) (es : List (Bor (List ℕ) × ℕ)) → lookup (λ (k : Bor (List ℕ)). bytes_eq name k.now) es ≡ entry_of (map seen_entry es) name
entry_at name [] = refl
entry_at name (e ∷ es) = ap (λ (o : Option ℕ). cond (bytes_eq name e.0.now) (Some e.1) o) (entry_at name es)

entered_by : (name : Bor (List ℕ)) (n : ℕ) (e : Bor (List ℕ) × ℕ) (es : List (Bor (List ℕ) × ℕ)) (b : Bool) → cond b (Some e.1) (entry_of (map seen_entry es) name.now) ≡ None
    → (entry_of (map seen_entry es) name.now ≡ None → map seen_entry (insert_entry (λ x y. bytes_eq x.now y.now) es name n) ≡ with_entry (map seen_entry es) name.now n)
    → map seen_entry (cond b ((e.0, n) ∷ es) (e ∷ insert_entry (λ x y. bytes_eq x.now y.now) es name n)) ≡ with_entry (map seen_entry (e ∷ es)) name.now n
entered_by name n e es true h go = absurd cc
entered_by name n e es false h go = ap (λ (t : Table). seen_entry e ∷ t) (go h)

pub entered_at : (name : Bor (List ℕ)) (n : ℕ) (es : List (Bor (List ℕ) × ℕ)) → entry_of (map seen_entry es) name.now ≡ None → map seen_entry (insert_entry (λ x y. bytes_eq x.now y.now) es name n) ≡ with_entry (map seen_entry es) name.now n
entered_at name n [] h = refl
entered_at name n (e ∷ es) h = entered_by name n e es (bytes_eq name.now e.0.now) h (entered_at name n es)
