-- A long way through few bits goes through one of them twice.
use Rattle.std.proofs.Common.{◌≡◌, ℕ, suc, ◌<◌, ◌⊎◌, inl, inr, List, [], ◌∷◌, length, Some, refl, sym, ap, subst, ◌∙◌, arith}
use Rattle.std.specs.Prelude.{slice_get}
use Rattle.hdl_tree.specs.declared.library.Entry.{Entry}
use Rattle.hdl_tree.specs.Chips.{Chips}
use Rattle.hdl_plans.specs.Loops.{BitAt, Feeds, IsLoop}
use Rattle.hdl_plans.specs.Ways.{Way}
use Rattle.hdl_plans.proofs.Walks.{join_ways}
use Rattle.hdl_plans.proofs.Circles.{circle_of}
use Rattle.hdl_plans.proofs.Simple.{bits_same, simple_round}
use Rattle.hdl_behaviours.specs.Inner.Feeding.{Among}
use Rattle.hdl_behaviours.specs.Reads.{HasLoop}

-- ---- lists of bits

abbrev pub AllAmong : List BitAt → List BitAt → Type 0
AllAmong [] those = Unit {0}
AllAmong (x ∷ xs) those = Among x those × AllAmong xs those

remove : (x : BitAt) (xs : List BitAt) → Among x xs → List BitAt
remove x [] h = []
remove x (y ∷ ys) (inl e) = ys
remove x (y ∷ ys) (inr h) = y ∷ remove x ys h

remove_length : (x : BitAt) (xs : List BitAt) (h : Among x xs) → suc (length (remove x xs h)) ≡ length xs
unfolding remove
remove_length x [] h = absurd h
remove_length x (y ∷ ys) (inl e) = refl
remove_length x (y ∷ ys) (inr h) = ap suc (remove_length x ys h)

still_among : (x z : BitAt) (xs : List BitAt) (h : Among x xs) → (z ≡ x → ⊥) → Among z xs → Among z (remove x xs h)
unfolding remove
still_among x z [] h ne g = absurd g
still_among x z (y ∷ ys) (inl e) ne (inl f) = absurd (ne (f ∙ sym e))
still_among x z (y ∷ ys) (inl e) ne (inr g) = g
still_among x z (y ∷ ys) (inr h) ne (inl f) = inl f
still_among x z (y ∷ ys) (inr h) ne (inr g) = inr (still_among x z ys h ne g)

all_still : (x : BitAt) (zs xs : List BitAt) (h : Among x xs) → (Among x zs → ⊥) → AllAmong zs xs → AllAmong zs (remove x xs h)
all_still x [] xs h not all = tt
all_still x (z ∷ zs) xs h not all = (still_among x z xs h (λ e. not (inl (sym e))) all.0, all_still x zs xs h (λ a. not (inr a)) all.1)

find : (x : BitAt) (ys : List BitAt) → Among x ys ⊎ (Among x ys → ⊥)
find x [] = inr (λ h. h)
find x (y ∷ ys) = by (bits_same x y) (find x ys)
  where
    by : (x ≡ y) ⊎ (x ≡ y → ⊥) → Among x ys ⊎ (Among x ys → ⊥) → Among x (y ∷ ys) ⊎ (Among x (y ∷ ys) → ⊥)
    by (inl e) f = inl (inl e)
    by (inr n) (inl h) = inl (inr h)
    by (inr n) (inr m) = inr neither
      where
        neither : Among x (y ∷ ys) → ⊥
        neither (inl e) = n e
        neither (inr h) = m h

-- ---- ways

module _ (chips : Chips) (top : Entry) where
  -- each of these feeds the one before it
  abbrev pub Linked : BitAt → List BitAt → Type 0
  Linked x [] = Unit {0}
  Linked x (y ∷ ys) = Way (Feeds chips top) y x × Linked y ys

  back : (x y : BitAt) (ys : List BitAt) → Linked y ys → Among x ys → Way (Feeds chips top) x y
  back x y [] l h = absurd h
  back x y (z ∷ zs) l (inl e) = subst (λ v. Way (Feeds chips top) v y) (sym e) l.0
  back x y (z ∷ zs) l (inr h) = join_ways x z y (back x z zs l.1 h) l.0

  record Round : Type 0 where
    at : BitAt
    way : Way (Feeds chips top) at at

  round_in : (x : BitAt) (ys xs : List BitAt) → Linked x ys → AllAmong ys xs → length xs < length ys → Round
  round_in x [] xs l all lt = absurd (omega arith)
  round_in x (y ∷ ys) xs l all lt = by (find y ys) (λ zs those less. round_in y ys zs l.1 those less)
    where
      by : Among y ys ⊎ (Among y ys → ⊥) → ((zs : List BitAt) → AllAmong ys zs → length zs < length ys → Round) → Round
      by (inl h) go = record { at = y; way = back y y ys l.1 h }
      by (inr not) go =
          let n = remove_length y xs all.0 in
          go (remove y xs all.0) (all_still y ys xs all.0 not all.1) (omega arith)

  record Last (xs : List BitAt) (n : ℕ) : Type 0 where
    last : BitAt
    there : slice_get xs n ≡ Some last

  last_of : (x : BitAt) (xs : List BitAt) → Last (x ∷ xs) (length xs)
  last_of x [] = record { last = x; there = refl }
  last_of x (y ∷ ys) = let r = last_of y ys in record { last = r.last; there = r.there }

  loop_of : Round → HasLoop chips top
  loop_of r =
      let s = simple_round (Feeds chips top) r.way.over r.at r.way.steps in
      let l = last_of s.at s.over in
      record { nets = _; is = record { first = s.at; rest = s.over; last = l.last; ends = l.there; circle = circle_of chips top s.over s.at s.steps s.once; named = refl } }

  -- a way through some bits that is longer than they are many has a loop
  pub loop_in : (x : BitAt) (ys xs : List BitAt) → Linked x ys → AllAmong ys xs → length xs < length ys → HasLoop chips top
  loop_in x ys xs l all lt = loop_of (round_in x ys xs l all lt)

  -- without a loop a way through some bits is no longer than they are many
  pub no_long_way : ((nets : List (List ℕ)) → IsLoop chips top nets → ⊥) → (x : BitAt) (ys xs : List BitAt) → Linked x ys → AllAmong ys xs → length xs < length ys → ⊥
  no_long_way no_loop x ys xs l all lt = let h = loop_in x ys xs l all lt in no_loop h.nets h.is
