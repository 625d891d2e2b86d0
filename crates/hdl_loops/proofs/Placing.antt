-- The place of the chip of a name.
use Rattle.std.proofs.Common.{◌≡◌, ℕ, suc, ◌+◌, Bool, true, false, cond, List, [], ◌∷◌, Option, Some, None, refl, ap, ◌∙◌, arith}
use Rattle.std.specs.Prelude.{slice_get}
use Rattle.std.specs.Str.{bytes_eq}
use Rattle.hdl_tree.specs.declared.library.Entry.{Entry}
use Rattle.hdl_tree.specs.Chips.{find_entry}
use Rattle.name_table.specs.Names.{find_value}
use Rattle.hdl_check.specs.Inner.Progress.{numbered_entries}
use Rattle.hdl_loops.specs.Inner.Knowing.{place_of, next_place}

-- the places as the table has them, from n on
moved : ℕ → Option ℕ → Option ℕ
moved n None = None
moved n (Some k) = Some (n + k)

moved_next : (n : ℕ) (o : Option ℕ) → moved (suc n) o ≡ moved n (next_place o)
unfolding moved
moved_next n None = refl
moved_next n (Some k) = let same : suc n + k ≡ n + suc k = omega arith in ap Some same

moved_by : (b : Bool) (n : ℕ) (o p : Option ℕ) → o ≡ moved (suc n) p → cond b (Some n) o ≡ moved n (cond b (Some 0) (next_place p))
unfolding moved
moved_by true n o p h = let same : n ≡ n + 0 = omega arith in ap Some same
moved_by false n o p h = h ∙ moved_next n p

numbered : (es : List Entry) (name : List ℕ) (n : ℕ) → find_value name (numbered_entries n es) ≡ moved n (place_of es name)
unfolding moved
numbered [] name n = refl
numbered (e ∷ es) name n = moved_by (bytes_eq name e.name) n (find_value name (numbered_entries (suc n) es)) (place_of es name) (numbered es name (suc n))

moved_none : (o : Option ℕ) → moved 0 o ≡ o
unfolding moved
moved_none None = refl
moved_none (Some k) = let same : 0 + k ≡ k = omega arith in ap Some same

pub place_numbered : (es : List Entry) (name : List ℕ) → find_value name (numbered_entries 0 es) ≡ place_of es name
place_numbered es name = numbered es name 0 ∙ moved_none (place_of es name)

next_by : (xs : List Entry) (x : Entry) (o p : Option ℕ) (found : Option Entry) (k : ℕ) → o ≡ p → next_place p ≡ Some k → ((j : ℕ) → o ≡ Some j → found ≡ slice_get xs j) → found ≡ slice_get (x ∷ xs) k
next_by xs x o None found k e h go = absurd cc
next_by xs x o (Some j) found k e h go = let same : suc j ≡ k = cc in go j e ∙ ap (slice_get (x ∷ xs)) same

found_by : (x : Entry) (xs : List Entry) (name : List ℕ) (k : ℕ) (b : Bool) → cond b (Some 0) (next_place (place_of xs name)) ≡ Some k → ((j : ℕ) → place_of xs name ≡ Some j → find_entry xs name ≡ slice_get xs j) → cond b (Some x) (find_entry xs name) ≡ slice_get (x ∷ xs) k
found_by x xs name k true h go = let same : 0 ≡ k = cc in ap (slice_get (x ∷ xs)) same
found_by x xs name k false h go = next_by xs x (place_of xs name) (place_of xs name) (find_entry xs name) k refl h go

-- the chip in the place is the one of the name
pub place_found : (es : List Entry) (name : List ℕ) (k : ℕ) → place_of es name ≡ Some k → find_entry es name ≡ slice_get es k
place_found [] name k h = absurd cc
place_found (x ∷ xs) name k h = found_by x xs name k (bytes_eq name x.name) h (place_found xs name)

there_by : (x : Entry) (xs : List Entry) (name : List ℕ) (e : Entry) (b : Bool) → cond b (Some x) (find_entry xs name) ≡ Some e → (find_entry xs name ≡ Some e → (k : ℕ) × (place_of xs name ≡ Some k)) → (k : ℕ) × (cond b (Some 0) (next_place (place_of xs name)) ≡ Some k)
there_by x xs name e true h go = (0, refl)
there_by x xs name e false h go = let r = go h in (suc r.0, ap next_place r.1)

-- a chip of the name has a place
pub place_there : (es : List Entry) (name : List ℕ) (e : Entry) → find_entry es name ≡ Some e → (k : ℕ) × (place_of es name ≡ Some k)
place_there [] name e h = absurd cc
place_there (x ∷ xs) name e h = there_by x xs name e (bytes_eq name x.name) h (place_there xs name e)
