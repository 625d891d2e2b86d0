-- In a walk that comes back there is a circle, which passes no bit twice.
use Rattle.std.proofs.Common.{◌≡◌, ℕ, zero, suc, ◌⊎◌, inl, inr, Bool, true, false, List, [], ◌∷◌, Some, refl, sym, ap, subst, ◌∙◌, arith}
use Rattle.std.specs.Prelude.{slice_get, nat_eq, not, ◌&&◌, ◌||◌}
use Rattle.std.proofs.lemmas.Bool.Decides.{Decides-eqb}
use Rattle.std.specs.Str.{bytes_eq}
use Rattle.std.specs.Cmp.Lexicographic.{bytes_decides}
use Rattle.hdl_plans.specs.Loops.{BitAt, bit_at, AreDistinctBits}
use Rattle.hdl_plans.specs.Ways.{Chain}

-- ---- equal or not

names_same : (x y : List ℕ) → (x ≡ y) ⊎ (x ≡ y → ⊥)
names_same x y = by (bytes_eq x y) refl
  where
    by : (b : Bool) → bytes_eq x y ≡ b → (x ≡ y) ⊎ (x ≡ y → ⊥)
    by true e = inl ((bytes_decides x y).0 e)
    by false e = inr (λ q. let f : true ≡ false = sym ((bytes_decides x y).1 q) ∙ e in absurd cc)

numbers_same : (a b : ℕ) → (a ≡ b) ⊎ (a ≡ b → ⊥)
numbers_same a b = grind arith

pub bits_same : (x y : BitAt) → (x ≡ y) ⊎ (x ≡ y → ⊥)
bits_same x y = by (names_same x.path y.path) (names_same x.name y.name) (numbers_same x.bit y.bit)
  where
    by : (x.path ≡ y.path) ⊎ (x.path ≡ y.path → ⊥) → (x.name ≡ y.name) ⊎ (x.name ≡ y.name → ⊥) → (x.bit ≡ y.bit) ⊎ (x.bit ≡ y.bit → ⊥) → (x ≡ y) ⊎ (x ≡ y → ⊥)
    by (inl p) (inl n) (inl b) = inl (ap (λ v. bit_at v x.name x.bit) p ∙ ap (λ v. bit_at y.path v x.bit) n ∙ ap (bit_at y.path y.name) b)
    by (inr p) n b = inr (λ e. p (ap (λ (v : BitAt). v.path) e))
    by (inl p) (inr n) b = inr (λ e. n (ap (λ (v : BitAt). v.name) e))
    by (inl p) (inl n) (inr b) = inr (λ e. b (ap (λ (v : BitAt). v.bit) e))

-- ---- lists of bits, each once

abbrev pub Among : BitAt → List BitAt → Type 0
Among x [] = ⊥
Among x (y ∷ ys) = (x ≡ y) ⊎ Among x ys

abbrev pub Once : List BitAt → Type 0
Once [] = Unit {0}
Once (x ∷ xs) = (Among x xs → ⊥) × Once xs

pub among_get : (xs : List BitAt) (x : BitAt) → Among x xs → (k : ℕ) × (slice_get xs k ≡ Some x)
among_get [] x h = absurd h
among_get (y ∷ ys) x (inl e) = (0, ap Some (sym e))
among_get (y ∷ ys) x (inr h) = let r = among_get ys x h in (suc r.0, r.1)

pub get_among : (xs : List BitAt) (k : ℕ) (x : BitAt) → slice_get xs k ≡ Some x → Among x xs
get_among [] k x e = absurd cc
get_among (y ∷ ys) zero x e = inl cc
get_among (y ∷ ys) (suc k) x e = inr (get_among ys k x e)

pub once_are : (xs : List BitAt) → Once xs → AreDistinctBits xs
once_are [] h i j x e f = absurd cc
once_are (y ∷ ys) h zero zero x e f = refl
once_are (y ∷ ys) h zero (suc j) x e f = let s : y ≡ x = cc in absurd (h.0 (subst (λ v. Among v ys) (sym s) (get_among ys j x f)))
once_are (y ∷ ys) h (suc i) zero x e f = let s : y ≡ x = cc in absurd (h.0 (subst (λ v. Among v ys) (sym s) (get_among ys i x e)))
once_are (y ∷ ys) h (suc i) (suc j) x e f = ap suc (once_are ys h.1 i j x e f)

pub are_once : (xs : List BitAt) → AreDistinctBits xs → Once xs
are_once [] h = tt
are_once (y ∷ ys) h = (
  (λ a. let r = among_get ys y a in let e : 0 ≡ suc r.0 = h 0 (suc r.0) y refl r.1 in absurd (omega (arith, e))),
  are_once ys (λ i j x e f. let g : suc i ≡ suc j = h (suc i) (suc j) x e f in omega (arith, g)),
)

pub among_or_not : (x : BitAt) (ys : List BitAt) → Among x ys ⊎ (Among x ys → ⊥)
among_or_not x [] = inr (λ h. h)
among_or_not x (y ∷ ys) = by (bits_same x y) (among_or_not x ys)
  where
    by : (x ≡ y) ⊎ (x ≡ y → ⊥) → Among x ys ⊎ (Among x ys → ⊥) → Among x (y ∷ ys) ⊎ (Among x (y ∷ ys) → ⊥)
    by (inl e) f = inl (inl e)
    by (inr n) (inl h) = inl (inr h)
    by (inr n) (inr m) = inr neither
      where
        neither : Among x (y ∷ ys) → ⊥
        neither (inl e) = n e
        neither (inr h) = m h

-- ---- a list whose bits stand once, by computation

abbrev same_bit : BitAt → BitAt → Bool
same_bit x y = bytes_eq x.path y.path && (bytes_eq x.name y.name && nat_eq x.bit y.bit)

abbrev stands_in : BitAt → List BitAt → Bool
stands_in x [] = false
stands_in x (y ∷ ys) = same_bit x y || stands_in x ys

abbrev pub stand_once : List BitAt → Bool
stand_once [] = true
stand_once (x ∷ xs) = not (stands_in x xs) && stand_once xs

all_three : (a b c : Bool) → a ≡ true → b ≡ true → c ≡ true → (a && (b && c)) ≡ true
all_three true true true e f g = refl
all_three false b c e f g = absurd cc
all_three true false c e f g = absurd cc
all_three true true false e f g = absurd cc

pub here_or : (a b : Bool) → a ≡ true → (a || b) ≡ true
here_or true b e = refl
here_or false b e = absurd cc

pub or_there : (a b : Bool) → b ≡ true → (a || b) ≡ true
or_there true b e = refl
or_there false b e = e

stands : (x : BitAt) (ys : List BitAt) → Among x ys → stands_in x ys ≡ true
stands x [] h = absurd h
stands x (y ∷ ys) (inl e) =
    here_or (same_bit x y) (stands_in x ys)
    (all_three (bytes_eq x.path y.path) (bytes_eq x.name y.name) (nat_eq x.bit y.bit)
    ((bytes_decides x.path y.path).1 (ap (λ (v : BitAt). v.path) e))
    ((bytes_decides x.name y.name).1 (ap (λ (v : BitAt). v.name) e))
    ((Decides-eqb x.bit y.bit).1 (ap (λ (v : BitAt). v.bit) e)))
stands x (y ∷ ys) (inr h) = or_there (same_bit x y) (stands_in x ys) (stands x ys h)

both_so : (a b : Bool) → (not a && b) ≡ true → (a ≡ false) × (b ≡ true)
both_so false b e = (refl, e)
both_so true b e = absurd cc

pub once_by : (xs : List BitAt) → stand_once xs ≡ true → Once xs
once_by [] e = tt
once_by (x ∷ xs) e =
    let p = both_so (stands_in x xs) (stand_once xs) e in
    ((λ a. let f : true ≡ false = sym (stands x xs a) ∙ p.0 in absurd cc), once_by xs p.1)

-- ---- the first part of a chain, up to a bit

module _ (R : BitAt → BitAt → Type 0) where
  record Upto (x z : BitAt) (ms : List BitAt) : Type 0 where
    over : List BitAt
    steps : Chain R x over z
    apart : Among z over → ⊥
    once : Once over
    among : (v : BitAt) → Among v over → Among v ms

  one_or_more : (x y : BitAt) (ys zs : List BitAt) → Among x (y ∷ ys) → ((v : BitAt) → Among v ys → Among v zs) → Among x (y ∷ zs)
  one_or_more x y ys zs (inl e) go = inl e
  one_or_more x y ys zs (inr h) go = inr (go x h)

  not_here : (z m : BitAt) (ms over : List BitAt) → Once (m ∷ ms) → Among z ms → (Among z over → ⊥) → Among z (m ∷ over) → ⊥
  not_here z m ms over o h apart (inl e) = o.0 (subst (λ v. Among v ms) e h)
  not_here z m ms over o h apart (inr g) = apart g

  upto : (ms : List BitAt) (x z y : BitAt) → Chain R x ms y → Once ms → Among z ms → Upto x z ms
  upto [] x z y f o h = absurd h
  upto (m ∷ ms) x z y f o (inl e) = record { over = []; steps = subst (R x) (sym e) f.0; apart = λ a. a; once = tt; among = λ v a. absurd a }
  upto (m ∷ ms) x z y f o (inr h) =
      let r = upto ms m z y f.1 o.1 h in
      record {
        over = m ∷ r.over;
        steps = (f.0, r.steps);
        apart = not_here z m ms r.over o h r.apart;
        once = ((λ a. o.0 (r.among m a)), r.once);
        among = λ v a. one_or_more v m r.over ms a r.among;
      }

  -- a way round that passes no bit twice
  pub record Simple (bits : List BitAt) : Type 0 where
    pub at : BitAt
    pub over : List BitAt
    pub steps : Chain R at over at
    pub once : Once (at ∷ over)
    pub among : (v : BitAt) → Among v (at ∷ over) → Among v bits

  further : (x : BitAt) (bits : List BitAt) → Simple bits → Simple (x ∷ bits)
  further x bits s = record { at = s.at; over = s.over; steps = s.steps; once = s.once; among = λ v a. inr (s.among v a) }

  -- a chain passes no bit twice, or comes back to one
  cut : (ms : List BitAt) (x y : BitAt) → Chain R x ms y → Once (x ∷ ms) ⊎ Simple (x ∷ ms)
  cut [] x y f = inl ((λ a. a), tt)
  cut (m ∷ ms) x y f = by (cut ms m y f.1) (among_or_not x (m ∷ ms))
    where
      by : Once (m ∷ ms) ⊎ Simple (m ∷ ms) → Among x (m ∷ ms) ⊎ (Among x (m ∷ ms) → ⊥) → Once (x ∷ m ∷ ms) ⊎ Simple (x ∷ m ∷ ms)
      by (inr s) a = inr (further x (m ∷ ms) s)
      by (inl o) (inr not) = inl (not, o)
      by (inl o) (inl a) =
          let u = upto (m ∷ ms) x x y f o a in
          inr (record { at = x; over = u.over; steps = u.steps; once = (u.apart, u.once); among = λ v b. one_or_more v x u.over (m ∷ ms) b u.among })

  pub simple_round : (ms : List BitAt) (x : BitAt) → Chain R x ms x → Simple (x ∷ ms)
  simple_round ms x f = by (cut ms x x f)
    where
      by : Once (x ∷ ms) ⊎ Simple (x ∷ ms) → Simple (x ∷ ms)
      by (inl o) = record { at = x; over = ms; steps = f; once = o; among = λ v a. a }
      by (inr s) = s
