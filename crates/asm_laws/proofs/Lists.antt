-- Items among others; how many names there are.
use Rattle.std.proofs.Common.{◌≡◌, ◌≤◌, ℕ, suc, ◌++◌, List, [], ◌∷◌, length, refl, sym, ap, subst, ◌∙◌, ◌⊎◌, inl, inr, arith, append_assoc}
use Rattle.asm_laws.specs.Symbols.{Any, IsAmong, AreDistinct}

-- ---- among

pub any_left : {X : Type 0} (P : X → Type 0) (xs ys : List X) → Any P xs → Any P (xs ++ ys)
any_left P [] ys h = absurd h
any_left P (x ∷ xs) ys (inl h) = inl h
any_left P (x ∷ xs) ys (inr h) = inr (any_left P xs ys h)

pub any_right : {X : Type 0} (P : X → Type 0) (xs ys : List X) → Any P ys → Any P (xs ++ ys)
any_right P [] ys h = h
any_right P (x ∷ xs) ys h = inr (any_right P xs ys h)

pub any_split : {X : Type 0} (P : X → Type 0) (xs ys : List X) → Any P (xs ++ ys) → Any P xs ⊎ Any P ys
any_split P [] ys h = inr h
any_split P (x ∷ xs) ys (inl h) = inl (inl h)
any_split P (x ∷ xs) ys (inr h) = elim (any_split P xs ys h) [ inl k ↦ inl (inr k) | inr k ↦ inr k ]

-- where it is
pub record Found {X : Type 0} (P : X → Type 0) (xs : List X) : Type 0 where
  pub before : List X
  pub behind : List X
  pub item : X
  pub here : xs ≡ before ++ item ∷ behind
  pub is : P item

pub find : {X : Type 0} (P : X → Type 0) (xs : List X) → Any P xs → Found P xs
find P [] h = absurd h
find P (x ∷ xs) (inl h) = record { before = []; behind = xs; item = x; here = refl; is = h }
find {X} P (x ∷ xs) (inr h) = let f = find P xs h in record { before = x ∷ f.before; behind = f.behind; item = f.item; here = ap (λ (l : List X). x ∷ l) f.here; is = f.is }

pub at : {X : Type 0} (P : X → Type 0) (xs b c : List X) (x : X) → xs ≡ b ++ x ∷ c → P x → Any P xs
at {X} P xs b c x e h = subst (λ (l : List X). Any P l) (sym e) (any_right P b (x ∷ c) (inl h))

-- the list goes on
pub longer : {X : Type 0} (all rest b c : List X) (x : X) → all ≡ b ++ x ∷ c → all ++ rest ≡ b ++ x ∷ (c ++ rest)
longer {X} all rest b c x e = ap (λ (l : List X). l ++ rest) e ∙ append_assoc b (x ∷ c) rest

-- ---- how many

-- the names without one of them
without : (n : List ℕ) (ns : List (List ℕ)) → IsAmong n ns → List (List ℕ)
without n [] h = absurd h
without n (m ∷ ns) (inl e) = ns
without n (m ∷ ns) (inr h) = m ∷ without n ns h

fewer : (n : List ℕ) (ns : List (List ℕ)) (h : IsAmong n ns) → length ns ≡ suc (length (without n ns h))
unfolding without
fewer n [] h = absurd h
fewer n (m ∷ ns) (inl e) = refl
fewer n (m ∷ ns) (inr h) = ap suc (fewer n ns h)

left : (n m : List ℕ) (ns : List (List ℕ)) (h : IsAmong n ns) → (n ≡ m → ⊥) → IsAmong m ns → IsAmong m (without n ns h)
unfolding without
left n m [] h other k = absurd h
left n m (k ∷ ns) (inl e) other (inl f) = absurd (other (e ∙ sym f))
left n m (k ∷ ns) (inl e) other (inr f) = f
left n m (k ∷ ns) (inr h) other (inl f) = inl f
left n m (k ∷ ns) (inr h) other (inr f) = inr (left n m ns h other f)

pub no_more : (ns ms : List (List ℕ)) → AreDistinct ns → ((n : List ℕ) → IsAmong n ns → IsAmong n ms) → length ns ≤ length ms
no_more [] ms d h = omega arith
no_more (n ∷ ns) ms d h =
    let here = h n (inl refl) in
    let rest = no_more ns (without n ms here) d.1 (λ m k. left n m ms here (λ e. d.0 (subst (λ (z : List ℕ). IsAmong z ns) (sym e) k)) (h m (inr k))) in
    let f = fewer n ms here in
    omega arith

pub as_many : (ns ms : List (List ℕ)) → AreDistinct ns → AreDistinct ms → ((n : List ℕ) → IsAmong n ns → IsAmong n ms) → ((n : List ℕ) → IsAmong n ms → IsAmong n ns) → length ns ≡ length ms
as_many ns ms d e f g = let a = no_more ns ms d f in let b = no_more ms ns e g in omega arith
