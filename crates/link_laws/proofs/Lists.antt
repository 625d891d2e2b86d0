-- The first item of a list that is so.
use Rattle.std.proofs.Common.{◌≡◌, ◌++◌, List, [], ◌∷◌, refl, sym, ap, subst, ◌∙◌}
use Rattle.outer_world.proofs.Splits.{first, last, no_split, same, second, split_last, splits, within}
use Rattle.link_laws.specs.First.{NoneIs, IsFirst}

pub one_first : {X : Type 0} (P : List X → X → Type 0) (xs : List X) (x y : X) → IsFirst P xs x → IsFirst P xs y → x ≡ y
one_first P xs x y f g = elim (splits f.before f.behind g.before g.behind x y (sym f.here ∙ g.here)) [
  | same e h ↦ h
  | first d e ↦ absurd (g.none f.before d x e f.is)
  | second d e ↦ absurd (f.none g.before d y e g.is)
]

pub not_none : {X : Type 0} (P : List X → X → Type 0) (xs : List X) (x : X) → IsFirst P xs x → NoneIs P xs → ⊥
not_none P xs x f n = n f.before f.behind x f.here f.is

pub none_begun : {X : Type 0} (P : List X → X → Type 0) → NoneIs P []
none_begun P before behind x e p = no_split before behind x e

pub none_more : {X : Type 0} (P : List X → X → Type 0) (all : List X) (x : X) → NoneIs P all → (P all x → ⊥) → NoneIs P (all ++ x ∷ [])
none_more {X} P all x n never before behind y e p = elim (split_last all before behind x y e) [
  | last b s ↦ never (subst (λ (z : X). P all z) s (subst (λ (l : List X). P l y) b p))
  | within d f ↦ n before d y f p
]
