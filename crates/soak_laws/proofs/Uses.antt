-- What a generated program uses.
use Rattle.std.proofs.Common.{◌<◌, ◌+◌, ℕ, List, [], ◌∷◌, ◌++◌, Some}
use Rattle.std.specs.Prelude.{codes}
use Rattle.scan_text.specs.declared.Place.{Place}
use Rattle.jack_tree.specs.Syntax as tree
use Rattle.jack_names.specs.Using.{OfVariable, OfFront, OfCall, OfMade, by_class, Use}

abbrev pub Each : {T : Type 0} → (T → Type 0) → List T → Type 0
Each P [] = Unit {0}
Each P (x ∷ xs) = P x × Each P xs

-- a name at a place
abbrev pub called : List ℕ → Place → tree.Name
called text at = record { text = text; place = at }

-- the variables a, b, c and d, the two calls that operators make, and the call of Array.new
pub data Usable : Use → Type 0 where
  AVariable : (n : ℕ) {at : Place} → n < 4 → Usable (OfVariable (called ((97 + n) ∷ []) at))
  AProduct : {at : Place} → Usable (OfMade (by_class (codes "Math") (codes "multiply") 2 at))
  AQuotient : {at : Place} → Usable (OfMade (by_class (codes "Math") (codes "divide") 2 at))
  AClass : {at : Place} → Usable (OfFront (called (codes "Array") at))
  ACall : {at there : Place} → Usable (OfCall (Some (called (codes "Array") at)) (called (codes "new") there) 1)

pub two : (xs ys : List Use) → Each Usable xs → Each Usable ys → Each Usable (xs ++ ys)
two [] ys h k = k
two (x ∷ xs) ys h k = (h.0, two xs ys h.1 k)
