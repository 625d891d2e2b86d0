-- What a search finds among faults that stand in an order: the first of them.
use Rattle.std.proofs.Common.{◌≡◌, ◌<◌, ◌⊎◌, inl, inr, ℕ, zero, suc, Bool, true, false, List, [], ◌∷◌, Option, Some, None, slice_get, if◌then◌else◌, refl, sym, ap, subst, ◌∙◌, arith}
use Rattle.std.specs.Bool.{Decides}
use Rattle.name_table.specs.Names.{first_of}
use Rattle.jack_names.specs.Faults.{NameDiagnostic, first_in}
use Rattle.jack_names.specs.Faults.{kind_number}
use Rattle.jack_names.specs.FaultOrder.{IsLess}
use Rattle.jack_names.specs.declared.fault.NameKind.{NameKind}

-- faults with their order
abbrev pub Faults : Type 1
Faults = List ℕ → NameDiagnostic → Type 0

-- what is found: none, or the first
pub data Finds (F : List ℕ → NameDiagnostic → Type 0) : Option NameDiagnostic → Type 0 where
  FindsNone : ((k : List ℕ) (t : NameDiagnostic) → F k t → ⊥) → Finds F None
  FindsSome : {t : NameDiagnostic} (k : List ℕ) → F k t → ((k' : List ℕ) (t' : NameDiagnostic) → F k' t' → (t' ≡ t) ⊎ IsLess k k') → Finds F (Some t)

abbrev pub Either : Faults → Faults → Faults
Either F G k t = F k t ⊎ G k t

pub finds_either : {F G : Faults} {a b : Option NameDiagnostic} → Finds F a → Finds G b → ((k k' : List ℕ) (t t' : NameDiagnostic) → F k t → G k' t' → IsLess k k') → Finds (Either F G) (first_of a b)
finds_either (FindsNone h) (FindsNone g) less = FindsNone (λ k t. elim [ inl x ↦ h k t x | inr y ↦ g k t y ])
finds_either (FindsNone h) (FindsSome k x first) less = FindsSome k (inr x) (λ k' t'. elim [ inl y ↦ absurd (h k' t' y) | inr y ↦ first k' t' y ])
finds_either (FindsSome k x first) g less = FindsSome k (inl x) (λ k' t'. elim [ inl y ↦ first k' t' y | inr y ↦ inr (less k k' _ t' x y) ])

pub finds_as : {F G : Faults} {o : Option NameDiagnostic} → Finds F o → ((k : List ℕ) (t : NameDiagnostic) → F k t → G k t) → ((k : List ℕ) (t : NameDiagnostic) → G k t → F k t) → Finds G o
finds_as (FindsNone h) to back = FindsNone (λ k t x. h k t (back k t x))
finds_as (FindsSome k x first) to back = FindsSome k (to k _ x) (λ k' t' y. first k' t' (back k' t' y))

-- one number before the others
abbrev pub Under : ℕ → Faults → Faults
Under n F [] t = ⊥
Under n F (m ∷ k) t = (m ≡ n) × F k t

none_under : {F : Faults} (n : ℕ) → ((k : List ℕ) (t : NameDiagnostic) → F k t → ⊥) → (k : List ℕ) (t : NameDiagnostic) → Under n F k t → ⊥
none_under n h [] t x = x
none_under n h (m ∷ k) t x = h k t x.1

first_under : {F : Faults} (n : ℕ) (k : List ℕ) (t : NameDiagnostic) → ((k' : List ℕ) (t' : NameDiagnostic) → F k' t' → (t' ≡ t) ⊎ IsLess k k') → (k' : List ℕ) (t' : NameDiagnostic) → Under n F k' t' → (t' ≡ t) ⊎ IsLess (n ∷ k) k'
first_under n k t first [] t' x = absurd x
first_under n k t first (m ∷ k') t' x = elim (first k' t' x.1) [ inl e ↦ inl e | inr l ↦ inr (inr (sym x.0, l)) ]

pub finds_under : {F : Faults} {o : Option NameDiagnostic} (n : ℕ) → Finds F o → Finds (Under n F) o
finds_under n (FindsNone h) = FindsNone (none_under n h)
finds_under n (FindsSome k x first) = FindsSome (n ∷ k) (refl, x) (first_under n k _ first)

-- those at number 0, and then those at the next numbers
abbrev pub Cons : Faults → Faults → Faults
Cons A B [] t = ⊥
Cons A B (zero ∷ k) t = A k t
Cons A B (suc i ∷ k) t = B (i ∷ k) t

abbrev pub HasNumbers : Faults → Type 0
HasNumbers B = (t : NameDiagnostic) → B [] t → ⊥

none_cons : {A B : Faults} → ((k : List ℕ) (t : NameDiagnostic) → A k t → ⊥) → ((k : List ℕ) (t : NameDiagnostic) → B k t → ⊥) → (k : List ℕ) (t : NameDiagnostic) → Cons A B k t → ⊥
none_cons f g [] t x = x
none_cons f g (zero ∷ k) t x = f k t x
none_cons f g (suc i ∷ k) t x = g (i ∷ k) t x

first_head : {A : Faults} (B : Faults) (k : List ℕ) (t : NameDiagnostic) → ((k' : List ℕ) (t' : NameDiagnostic) → A k' t' → (t' ≡ t) ⊎ IsLess k k') → (k' : List ℕ) (t' : NameDiagnostic) → Cons A B k' t' → (t' ≡ t) ⊎ IsLess (0 ∷ k) k'
first_head B k t first [] t' x = absurd x
first_head B k t first (zero ∷ k') t' x = elim (first k' t' x) [ inl e ↦ inl e | inr l ↦ inr (inr (refl, l)) ]
first_head B k t first (suc i ∷ k') t' x = inr (inl (omega arith))

less_suc : (i j : ℕ) (k k' : List ℕ) → IsLess (i ∷ k) (j ∷ k') → IsLess (suc i ∷ k) (suc j ∷ k')
less_suc i j k k' (inl h) = inl (omega arith)
less_suc i j k k' (inr h) = inr (ap suc h.0, h.1)

first_tail : {A B : Faults} (i : ℕ) (k : List ℕ) (t : NameDiagnostic) → ((k' : List ℕ) (t' : NameDiagnostic) → A k' t' → ⊥) → ((k' : List ℕ) (t' : NameDiagnostic) → B k' t' → (t' ≡ t) ⊎ IsLess (i ∷ k) k') → (k' : List ℕ) (t' : NameDiagnostic) → Cons A B k' t' → (t' ≡ t) ⊎ IsLess (suc i ∷ k) k'
first_tail i k t none first [] t' x = absurd x
first_tail i k t none first (zero ∷ k') t' x = absurd (none k' t' x)
first_tail i k t none first (suc j ∷ k') t' x = elim (first (j ∷ k') t' x) [ inl e ↦ inl e | inr l ↦ inr (less_suc i j k k' l) ]

pub finds_cons : {A B : Faults} {a b : Option NameDiagnostic} → HasNumbers B → Finds A a → Finds B b → Finds (Cons A B) (first_of a b)
finds_cons has (FindsNone f) (FindsNone g) = FindsNone (none_cons f g)
finds_cons has (FindsNone f) (FindsSome [] x first) = absurd (has _ x)
finds_cons has (FindsNone f) (FindsSome (i ∷ k) x first) = FindsSome (suc i ∷ k) x (first_tail i k _ f first)
finds_cons {B = B} has (FindsSome k x first) g = FindsSome (0 ∷ k) x (first_head B k _ first)

-- those of each thing in a list, by its number
abbrev pub Each : {A : Type 0} → (ℕ → A → List ℕ → NameDiagnostic → Type 0) → List A → List ℕ → NameDiagnostic → Type 0
Each F [] = λ k t. ⊥
Each F (x ∷ xs) = Cons (F zero x) (Each (λ j. F (suc j)) xs)

pub each_numbers : {A : Type 0} (F : ℕ → A → List ℕ → NameDiagnostic → Type 0) (xs : List A) → HasNumbers (Each F xs)
each_numbers F [] t x = x
each_numbers F (y ∷ ys) t x = x

pub each_none : {A : Type 0} (F : ℕ → A → List ℕ → NameDiagnostic → Type 0) → Finds (Each F []) None
each_none F = FindsNone (λ k t x. x)

pub finds_each : {A : Type 0} (F : ℕ → A → List ℕ → NameDiagnostic → Type 0) (x : A) (xs : List A) {a b : Option NameDiagnostic} → Finds (F zero x) a → Finds (Each (λ j. F (suc j)) xs) b → Finds (Each F (x ∷ xs)) (first_of a b)
finds_each F x xs f g = finds_cons (each_numbers (λ j. F (suc j)) xs) f g

pub finds_all : {A : Type 0} (F : A → List ℕ → NameDiagnostic → Type 0) (search : A → Option NameDiagnostic) → ((x : A) → Finds (F x) (search x)) → (xs : List A) → Finds (Each (λ j. F) xs) (first_in search xs)
finds_all F search h [] = each_none (λ j. F)
finds_all F search h (x ∷ xs) = finds_each (λ j. F) x xs (h x) (finds_all F search h xs)

pub each_at : {A : Type 0} (F : ℕ → A → List ℕ → NameDiagnostic → Type 0) (xs : List A) (i : ℕ) (k : List ℕ) (t : NameDiagnostic) → Each F xs (i ∷ k) t → (x : A) × (slice_get xs i ≡ Some x) × F i x k t
each_at F [] i k t h = absurd h
each_at F (x ∷ xs) zero k t h = (x, refl, h)
each_at F (x ∷ xs) (suc i) k t h = each_at (λ j. F (suc j)) xs i k t h

pub at_each : {A : Type 0} (F : ℕ → A → List ℕ → NameDiagnostic → Type 0) (xs : List A) (i : ℕ) (x : A) (k : List ℕ) (t : NameDiagnostic) → slice_get xs i ≡ Some x → F i x k t → Each F xs (i ∷ k) t
at_each F [] i x k t e h = absurd cc
at_each {A = A} F (y ∷ ys) zero x k t e h = let q : x ≡ y = cc in subst (λ (z : A). F zero z k t) q h
at_each F (y ∷ ys) (suc i) x k t e h = at_each (λ j. F (suc j)) ys i x k t e h

-- one fault, which fails where this is so
abbrev pub One : NameKind → ℕ → NameDiagnostic → Type 0 → Faults
One kind call told P k t = (k ≡ kind_number kind ∷ call ∷ []) × (t ≡ told) × P

abbrev pub fails_if : Bool → NameDiagnostic → Option NameDiagnostic
fails_if b told = if b then Some told else None

pub finds_test : {P : Type 0} (kind : NameKind) (call : ℕ) (told : NameDiagnostic) (b : Bool) → Decides b P → Finds (One kind call told P) (fails_if b told)
finds_test kind call told true d = FindsSome (kind_number kind ∷ call ∷ []) (refl, refl, d.0 refl) (λ k t x. inl x.1)
finds_test kind call told false d = FindsNone (λ k t x. let e : false ≡ true = d.1 x.2 in absurd cc)

abbrev pub IsAbove : ℕ → List ℕ → Type 0
IsAbove n [] = ⊥
IsAbove n (m ∷ k) = n < m

-- faults of greater kinds
abbrev pub AreAbove : ℕ → Faults → Type 0
AreAbove n F = (k : List ℕ) (t : NameDiagnostic) → F k t → IsAbove n k

pub above_one : {P : Type 0} (n : ℕ) (kind : NameKind) (call : ℕ) (told : NameDiagnostic) → n < kind_number kind → AreAbove n (One kind call told P)
above_one n kind call told h k t x = subst (IsAbove n) (sym x.0) h

pub above_either : (n : ℕ) (F G : Faults) → AreAbove n F → AreAbove n G → AreAbove n (Either F G)
above_either n F G f g k t (inl x) = f k t x
above_either n F G f g k t (inr x) = g k t x

above_less : (n : ℕ) (k k' : List ℕ) → IsAbove n k' → IsLess (n ∷ k) k'
above_less n k [] h = absurd h
above_less n k (m ∷ k') h = inl h

-- one fault before those of greater kinds
pub finds_before : {P : Type 0} {G : Faults} {b : Option NameDiagnostic} (kind : NameKind) (call : ℕ) (told : NameDiagnostic) (test : Bool) → Decides test P → Finds G b → AreAbove (kind_number kind) G → Finds (Either (One kind call told P) G) (first_of (fails_if test told) b)
finds_before kind call told test d g above =
    finds_either (finds_test kind call told test d) g (λ k k' t t' x y. subst (λ (l : List ℕ). IsLess l k') (sym x.0) (above_less (kind_number kind) (call ∷ []) k' (above k' t' y)))

-- orders are transitive
pub less_trans : (a b c : List ℕ) → IsLess a b → IsLess b c → IsLess a c
less_trans [] b c h k = absurd h
less_trans (x ∷ a) [] c h k = absurd h
less_trans (x ∷ a) (y ∷ b) [] h k = absurd k
less_trans (x ∷ a) (y ∷ b) (z ∷ c) (inl h) (inl k) = inl (omega arith)
less_trans (x ∷ a) (y ∷ b) (z ∷ c) (inl h) (inr k) = let e = k.0 in inl (omega arith)
less_trans (x ∷ a) (y ∷ b) (z ∷ c) (inr h) (inl k) = let e = h.0 in inl (omega arith)
less_trans (x ∷ a) (y ∷ b) (z ∷ c) (inr h) (inr k) = inr (h.0 ∙ k.0, less_trans a b c h.1 k.1)
