-- The names of a table's entries.
use Rattle.std.proofs.Common.{◌≡◌, ℕ, Bool, true, false, cond, List, [], ◌∷◌, Option, Some, is_some, refl}
use Rattle.std.specs.Str.{bytes_eq}
use Rattle.jack_names.specs.Tables.{is_among}
use Rattle.name_table.specs.Names.{find_value, names_in}

-- a name that is entered is found
some_by : {V : Type 0} (b c : Bool) (v : V) (o : Option V) → is_some o ≡ c → is_some (cond b (Some v) o) ≡ cond b true c
some_by true c v o h = refl
some_by false c v o h = h

pub found_among : {V : Type 0} (x : List ℕ) (es : List (List ℕ × V)) → is_some (find_value x es) ≡ is_among x (names_in es)
found_among x [] = refl
found_among x (e ∷ es) = some_by (bytes_eq x e.0) (is_among x (names_in es)) e.1 (find_value x es) (found_among x es)
