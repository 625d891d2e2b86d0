-- The entries of the code's table, seen as a table.
use Rattle.std.proofs.Common.{◌≡◌, ℕ, Bool, true, false, cond, List, [], ◌∷◌, ◌++◌, Option, Some, None, is_some, map, refl, sym, ap, ◌∙◌}
use denote.Bor.{Bor}
use Rattle.std.specs.Str.{bytes_eq}
use Rattle.std.specs.Map.{lookup}
use Rattle.std.specs.Cmp.Lexicographic.{bytes_decides}
use Rattle.indexmap.specs.IndexMap.{insert_entry}
use Rattle.name_table.specs.Names.{find_value, first_of, with_new}
use Rattle.name_table.specs.Tables.{seen_entry}

pub entry_at : {V : Type 0} (name : List ℕ) (es : List (Bor (List ℕ) × V)) → lookup (λ (k : Bor (List ℕ)). bytes_eq name k.now) es ≡ find_value name (map seen_entry es)
entry_at name [] = refl
entry_at {V = V} name (e ∷ es) = ap (λ (o : Option V). cond (bytes_eq name e.0.now) (Some e.1) o) (entry_at name es)

entered_by : {V : Type 0} (name : Bor (List ℕ)) (v : V) (e : Bor (List ℕ) × V) (es : List (Bor (List ℕ) × V)) (b : Bool) → cond b (Some e.1) (find_value name.now (map seen_entry es)) ≡ None
    → (find_value name.now (map seen_entry es) ≡ None → map seen_entry (insert_entry (λ x y. bytes_eq x.now y.now) es name v) ≡ map seen_entry es ++ (name.now, v) ∷ [])
    → map seen_entry (cond b ((e.0, v) ∷ es) (e ∷ insert_entry (λ x y. bytes_eq x.now y.now) es name v)) ≡ seen_entry e ∷ (map seen_entry es ++ (name.now, v) ∷ [])
entered_by name v e es true h go = absurd cc
entered_by {V = V} name v e es false h go = ap (λ (t : List (List ℕ × V)). seen_entry e ∷ t) (go h)

pub entered_at : {V : Type 0} (name : Bor (List ℕ)) (v : V) (es : List (Bor (List ℕ) × V)) → find_value name.now (map seen_entry es) ≡ None → map seen_entry (insert_entry (λ x y. bytes_eq x.now y.now) es name v) ≡ map seen_entry es ++ (name.now, v) ∷ []
entered_at name v [] h = refl
entered_at name v (e ∷ es) h = entered_by name v e es (bytes_eq name.now e.0.now) h (entered_at name v es)

-- what is found in one table after another
found_by : {V : Type 0} (b : Bool) (v : V) (o p : Option V) → cond b (Some v) (first_of o p) ≡ first_of (cond b (Some v) o) p
found_by true v o p = refl
found_by false v o p = refl

pub found-append : {V : Type 0} (x : List ℕ) (es fs : List (List ℕ × V)) → find_value x (es ++ fs) ≡ first_of (find_value x es) (find_value x fs)
found-append x [] fs = refl
found-append {V = V} x (e ∷ es) fs = ap (λ (o : Option V). cond (bytes_eq x e.0) (Some e.1) o) (found-append x es fs) ∙ found_by (bytes_eq x e.0) e.1 (find_value x es) (find_value x fs)

-- the entries with one more, unless its name is there
pub stays : {V : Type 0} (x : List ℕ) (es : List (List ℕ × V)) (v : V) → is_some (find_value x es) ≡ true → es ≡ with_new es x v
stays {V = V} x es v h = ap (λ (b : Bool). cond b es (es ++ (x, v) ∷ [])) (sym h)

pub grows : {V : Type 0} (x : List ℕ) (es : List (List ℕ × V)) (v : V) → is_some (find_value x es) ≡ false → es ++ (x, v) ∷ [] ≡ with_new es x v
grows {V = V} x es v h = ap (λ (b : Bool). cond b es (es ++ (x, v) ∷ [])) (sym h)

-- what is found after one more name was entered, before others
first_some : {V : Type 0} (o a b : Option V) → is_some o ≡ true → first_of o a ≡ first_of o b
first_some None a b h = absurd cc
first_some (Some v) a b h = refl

append_assoc_one : {A : Type 0} (es rest : List A) (x : A) → (es ++ x ∷ []) ++ rest ≡ es ++ x ∷ rest
append_assoc_one [] rest x = refl
append_assoc_one (e ∷ es) rest x = ap (λ ys. e ∷ ys) (append_assoc_one es rest x)

entered_there : {V : Type 0} (x n : List ℕ) (es rest : List (List ℕ × V)) (v : V) (c : Bool) → bytes_eq x n ≡ c → is_some (find_value n es) ≡ true → first_of (find_value x es) (find_value x rest) ≡ first_of (find_value x es) (cond c (Some v) (find_value x rest))
entered_there x n es rest v false h k = refl
entered_there {V} x n es rest v true h k =
    let same : x ≡ n = (bytes_decides x n).0 h in
    first_some (find_value x es) (find_value x rest) (Some v) (ap (λ (y : List ℕ). is_some (find_value y es)) same ∙ k)

next_by : {V : Type 0} (x n : List ℕ) (es rest : List (List ℕ × V)) (v : V) (b : Bool) → is_some (find_value n es) ≡ b → find_value x (cond b es (es ++ (n, v) ∷ []) ++ rest) ≡ find_value x (es ++ (n, v) ∷ rest)
next_by x n es rest v true h = found-append x es rest ∙ entered_there x n es rest v (bytes_eq x n) refl h ∙ sym (found-append x es ((n, v) ∷ rest))
next_by x n es rest v false h = ap (find_value x) (append_assoc_one es rest (n, v))

pub entered_next : {V : Type 0} (x n : List ℕ) (es rest : List (List ℕ × V)) (v : V) → find_value x (with_new es n v ++ rest) ≡ find_value x (es ++ (n, v) ∷ rest)
entered_next x n es rest v = next_by x n es rest v (is_some (find_value n es)) refl

-- a table that finds the same, with others after it
pub found_front : {V : Type 0} (x : List ℕ) (es fs rest : List (List ℕ × V)) → find_value x es ≡ find_value x fs → find_value x (es ++ rest) ≡ find_value x (fs ++ rest)
found_front x es fs rest h = found-append x es rest ∙ ap (λ o. first_of o (find_value x rest)) h ∙ sym (found-append x fs rest)

-- a table after one more name, with others after it
pub front_next : {V : Type 0} (x n : List ℕ) (new es rest : List (List ℕ × V)) (v : V) → new ≡ with_new es n v → find_value x (new ++ rest) ≡ find_value x (es ++ (n, v) ∷ rest)
front_next x n new es rest v h = ap (λ t. find_value x (t ++ rest)) h ∙ entered_next x n es rest v

nil_after : {A : Type 0} (xs : List A) → xs ++ [] ≡ xs
nil_after [] = refl
nil_after (x ∷ xs) = ap (λ ys. x ∷ ys) (nil_after xs)

pub one_next : {V : Type 0} (x n : List ℕ) (new es : List (List ℕ × V)) (v : V) → new ≡ with_new es n v → find_value x new ≡ find_value x (es ++ (n, v) ∷ [])
one_next x n new es v h = sym (ap (find_value x) (nil_after new)) ∙ front_next x n new es [] v h
