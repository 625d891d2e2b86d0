-- Lists that are split at an item.
use Rattle.std.proofs.Common.{◌≡◌, ◌++◌, List, [], ◌∷◌, refl, sym, ap, subst}

pub no_split : {X : Type 0} (b c : List X) (x : X) → [] ≡ b ++ x ∷ c → ⊥
no_split [] c x e = cc
no_split (y ∷ b) c x e = cc

-- one of two lists that are split into one list begins with the other
pub data Splits {X : Type 0} (b : List X) (x : X) (b' : List X) (x' : X) : Type 0 where
  same : b ≡ b' → x ≡ x' → Splits b x b' x'
  first : (d : List X) → b' ≡ b ++ x ∷ d → Splits b x b' x'
  second : (d : List X) → b ≡ b' ++ x' ∷ d → Splits b x b' x'

further : {X : Type 0} (a : X) (b b' : List X) (x x' : X) → Splits b x b' x' → Splits (a ∷ b) x (a ∷ b') x'
further {X} a b b' x x' (same e f) = same (ap (λ (l : List X). a ∷ l) e) f
further {X} a b b' x x' (first d e) = first d (ap (λ (l : List X). a ∷ l) e)
further {X} a b b' x x' (second d e) = second d (ap (λ (l : List X). a ∷ l) e)

pub splits : {X : Type 0} (b c b' c' : List X) (x x' : X) → b ++ x ∷ c ≡ b' ++ x' ∷ c' → Splits b x b' x'
splits [] c [] c' x x' e = let h : x ≡ x' = cc in same refl h
splits {X} [] c (y ∷ b') c' x x' e = let h : x ≡ y = cc in first b' (ap (λ (z : X). z ∷ b') (sym h))
splits {X} (y ∷ b) c [] c' x x' e = let h : y ≡ x' = cc in second b (ap (λ (z : X). z ∷ b) h)
splits {X} (y ∷ b) c (z ∷ b') c' x x' e =
    let h : y ≡ z = cc in
    let t : b ++ x ∷ c ≡ b' ++ x' ∷ c' = cc in
    subst (λ (w : X). Splits (y ∷ b) x (w ∷ b') x') h (further y b b' x x' (splits b c b' c' x x' t))

-- with one more at the end
pub data SplitsLast {X : Type 0} (all : List X) (x : X) (b : List X) (y : X) : Type 0 where
  last : b ≡ all → y ≡ x → SplitsLast all x b y
  within : (d : List X) → all ≡ b ++ y ∷ d → SplitsLast all x b y

tail_of : {X : Type 0} → List X → List X
tail_of [] = []
tail_of (z ∷ zs) = zs

too_long : {X : Type 0} (ls b c d : List X) (x y : X) → ls ++ x ∷ [] ≡ b ++ y ∷ c → b ≡ ls ++ x ∷ d → ⊥
too_long [] [] c d x y e f = no_split [] d x f
too_long [] (z ∷ b) c d x y e f = let t : [] ≡ b ++ y ∷ c = cc in no_split b c y t
too_long (a ∷ ls) [] c d x y e f = no_split (a ∷ ls) d x f
too_long (a ∷ ls) (z ∷ b) c d x y e f =
    let s : ls ++ x ∷ [] ≡ b ++ y ∷ c = cc in
    let t : b ≡ ls ++ x ∷ d = cc in
    too_long ls b c d x y s t

pub split_last : {X : Type 0} (all b c : List X) (x y : X) → all ++ x ∷ [] ≡ b ++ y ∷ c → SplitsLast all x b y
split_last {X} all b c x y e = by (splits all [] b c x y e)
  where
    by : Splits all x b y → SplitsLast all x b y
    by (same e' f) = last (sym e') (sym f)
    by (first d f) = absurd (too_long all b c d x y e f)
    by (second d f) = within d f
