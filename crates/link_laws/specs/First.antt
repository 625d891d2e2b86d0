-- The first item of a list of which something holds, after the items before it.
use Rattle.std.specs.Prelude.{◌≡◌, ℕ, ◌++◌, ◌⊎◌, List, [], ◌∷◌, Option, Some}

-- it is so of one item of a list
abbrev pub Any : {X : Type 0} → (X → Type 0) → List X → Type 0
Any P [] = ⊥
Any P (x ∷ xs) = P x ⊎ Any P xs

-- it is so of no item, after those before it
abbrev pub NoneIs : {X : Type 0} → (List X → X → Type 0) → List X → Type 0
NoneIs {X} P xs = (before behind : List X) (x : X) → xs ≡ before ++ x ∷ behind → P before x → ⊥

-- it is so of this item, after those before it, and of none of these
pub record IsFirst {X : Type 0} (P : List X → X → Type 0) (xs : List X) (x : X) : Type 0 where
  pub before : List X
  pub behind : List X
  pub here : xs ≡ before ++ x ∷ behind
  pub is : P before x
  pub none : NoneIs P before

-- one of the items before has the same name
abbrev pub IsNamedBefore : {X : Type 0} → (X → Option (List ℕ)) → List X → X → Type 0
IsNamedBefore {X} name before x = (n : List ℕ) × (name x ≡ Some n) × Any (λ (y : X). name y ≡ Some n) before
