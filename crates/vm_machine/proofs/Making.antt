-- A machine makes an outcome.
use Rattle.std.proofs.Common.{◌≡◌, ℕ, ◌+◌, ◌<◌, ◌≤◌, Bool, true, false, nat_lt, List, [], ◌∷◌, drop, length, arith, refl, ap, subst, sym, ◌∙◌}
use Rattle.std.specs.Prelude.{if◌then◌else◌, Some, None, slice_get}
use Rattle.machine_io.specs.declared.machine.Moved.{Moved}
use Rattle.machine_io.specs.declared.machine.Moved.TheVariants as moved
use Rattle.machine_io.specs.declared.machine.Stray.{Stray}
use Rattle.machine_io.specs.declared.machine.Stray.TheVariants as stray
use Rattle.vm_tree.specs.declared.command.Operation.{Operation}
use Rattle.vm_tree.specs.declared.command.Operation.TheVariants.{Add, Sub, Neg, Eq, Gt, Lt, And, Or, Not, ShiftLeft, ShiftRight}
use Rattle.vm_machine.specs.State.{Frame, State, words_in_use}
use Rattle.vm_machine.specs.Step.{Outcome, Acts, Strays, Full, after, goes, on_top, on_two, operate, fit_outcome}
use Rattle.vm_machine.specs.Moves.{Makes, Words, state_of}
use Rattle.vm_machine.specs.Inner.Performs.{takes_one, word_of}
use Rattle.vm_machine.specs.Calls.{Calls}
use Rattle.std.proofs.lemmas.Bool.Decides.{nat_tests}

acted_with : (full heard : Bool) (s s' : State) → full ≡ false → Makes (if full then Full (words_in_use s'.frames) else Acts heard s') s moved.Acted s'
acted_with true heard s s' e = absurd (cc e)
acted_with false heard s s' e = record { answer_is = refl; state_is = refl }

-- there is room
pub acted : (heard : Bool) (s s' : State) → words_in_use s'.frames ≤ 1792 → Makes (fit_outcome (Acts heard s')) s moved.Acted s'
acted heard s s' h = acted_with (nat_lt 1792 (words_in_use s'.frames)) heard s s' (grind (arith, nat_tests))

full_with : (full heard : Bool) (s s' : State) (w : ℕ) → full ≡ true → w ≡ words_in_use s'.frames → Makes (if full then Full (words_in_use s'.frames) else Acts heard s') s (moved.Full w) s
full_with true heard s s' w e h = record { answer_is = ap moved.Full h; state_is = refl }
full_with false heard s s' w e h = absurd (cc e)

-- there is none
pub filled : (heard : Bool) (s s' : State) (w : ℕ) → 1792 < w → w ≡ words_in_use s'.frames → Makes (fit_outcome (Acts heard s')) s (moved.Full w) s
filled heard s s' w h e = full_with (nat_lt 1792 (words_in_use s'.frames)) heard s s' w (grind (arith, nat_tests)) e

-- there is no step
pub strayed : (o : Outcome) (s : State) (why : Stray) → o ≡ Strays why → Makes (fit_outcome o) s (moved.Stray why) s
strayed o s why e = subst (λ x. Makes (fit_outcome x) s (moved.Stray why) s) (sym e) (record { answer_is = refl; state_is = refl })

-- the same outcome
pub as_outcome : (o o' : Outcome) (s : State) (answer : Moved) (s' : State) → o ≡ o' → Makes (fit_outcome o') s answer s' → Makes (fit_outcome o) s answer s'
as_outcome o o' s answer s' e h = subst (λ x. Makes (fit_outcome x) s answer s') (sym e) h

-- other values of the innermost frame
pub other_values : (f : Frame) (below : List Frame) (place : ℕ) (values : List ℕ)
    → words_in_use (record f { place = place; values = values } ∷ below) + length f.values ≡ words_in_use (f ∷ below) + length values
other_values f [] place values = omega arith
other_values f (g ∷ below) place values = omega arith

-- the calls have come to these frames, over these words
pub made : (heard : Bool) (s : State) (c : Calls) (w : Words) (f : Frame) (below : List Frame) → c.top ≡ f → c.below ≡ below → words_in_use (c.top ∷ c.below) ≤ 1792
    → Makes (fit_outcome (Acts heard (state_of (record { top = f; below = below }) w))) s moved.Acted (state_of c w)
made heard s c w f below e g h = subst (λ z. Makes (fit_outcome (Acts heard z)) s moved.Acted (state_of c w))
    (λ i. record { frames = e i ∷ g i; statics = w.statics; temps = w.temps; words = w.heap_and_screen }) (acted heard s (state_of c w) h)

pub top_none : (xs : List ℕ) (act : ℕ → List ℕ → Outcome) → None ≡ slice_get xs 0 → on_top xs act ≡ Strays stray.Values
top_none [] act e = refl
top_none (x ∷ xs) act e = absurd (cc e)

pub top_some : (xs : List ℕ) (w : ℕ) (act : ℕ → List ℕ → Outcome) → Some w ≡ slice_get xs 0 → on_top xs act ≡ act w (drop 1 xs)
top_some [] w act e = absurd (cc e)
top_some (x ∷ xs) w act e = let same : x ≡ w = cc e in ap (λ z. act z xs) same

pub two_none : (xs : List ℕ) (act : ℕ → ℕ → List ℕ → Outcome) → None ≡ slice_get xs 1 → on_two xs act ≡ Strays stray.Values
two_none [] act e = refl
two_none (y ∷ []) act e = refl
two_none (y ∷ x ∷ xs) act e = absurd (cc e)

none_first : (xs : List ℕ) (act : ℕ → ℕ → List ℕ → Outcome) → None ≡ slice_get xs 0 → on_two xs act ≡ Strays stray.Values
none_first [] act e = refl
none_first (x ∷ xs) act e = absurd (cc e)

pub two_some : (xs : List ℕ) (x y : ℕ) (act : ℕ → ℕ → List ℕ → Outcome) → Some y ≡ slice_get xs 0 → Some x ≡ slice_get xs 1 → on_two xs act ≡ act x y (drop 2 xs)
two_some [] x y act e e' = absurd (cc e)
two_some (v ∷ []) x y act e e' = absurd (cc e')
two_some (v ∷ u ∷ xs) x y act e e' =
    let first : v ≡ y = cc e in
    let second : u ≡ x = cc e' in
    ap (λ z. act z v xs) second ∙ ap (λ z. act x z xs) first

-- this many values are there
pub one_there : (xs : List ℕ) (w : ℕ) → Some w ≡ slice_get xs 0 → 1 ≤ length xs
one_there [] w e = absurd (cc e)
one_there (x ∷ xs) w e = omega arith

pub two_there : (xs : List ℕ) (w : ℕ) → Some w ≡ slice_get xs 1 → 2 ≤ length xs
two_there [] w e = absurd (cc e)
two_there (x ∷ []) w e = absurd (cc e)
two_there (y ∷ x ∷ xs) w e = omega arith

module _ (s : State) (f : Frame) (below : List Frame) where
  pub operates_none : (o : Operation) → None ≡ slice_get f.values 0 → operate o s f below ≡ Strays stray.Values
  operates_none Neg e = top_none f.values _ e
  operates_none Not e = top_none f.values _ e
  operates_none ShiftLeft e = top_none f.values _ e
  operates_none ShiftRight e = top_none f.values _ e
  operates_none Add e = none_first f.values _ e
  operates_none Sub e = none_first f.values _ e
  operates_none Eq e = none_first f.values _ e
  operates_none Gt e = none_first f.values _ e
  operates_none Lt e = none_first f.values _ e
  operates_none And e = none_first f.values _ e
  operates_none Or e = none_first f.values _ e

  pub operates_few : (o : Operation) → takes_one o ≡ false → None ≡ slice_get f.values 1 → operate o s f below ≡ Strays stray.Values
  operates_few Neg t e = absurd (cc t)
  operates_few Not t e = absurd (cc t)
  operates_few ShiftLeft t e = absurd (cc t)
  operates_few ShiftRight t e = absurd (cc t)
  operates_few Add t e = two_none f.values _ e
  operates_few Sub t e = two_none f.values _ e
  operates_few Eq t e = two_none f.values _ e
  operates_few Gt t e = two_none f.values _ e
  operates_few Lt t e = two_none f.values _ e
  operates_few And t e = two_none f.values _ e
  operates_few Or t e = two_none f.values _ e

  pub operates_one : (o : Operation) (x y : ℕ) → takes_one o ≡ true → Some y ≡ slice_get f.values 0 → operate o s f below ≡ goes s below (after f (word_of o x y ∷ drop 1 f.values))
  operates_one Neg x y t e = top_some f.values y _ e
  operates_one Not x y t e = top_some f.values y _ e
  operates_one ShiftLeft x y t e = top_some f.values y _ e
  operates_one ShiftRight x y t e = top_some f.values y _ e
  operates_one Add x y t e = absurd (cc t)
  operates_one Sub x y t e = absurd (cc t)
  operates_one Eq x y t e = absurd (cc t)
  operates_one Gt x y t e = absurd (cc t)
  operates_one Lt x y t e = absurd (cc t)
  operates_one And x y t e = absurd (cc t)
  operates_one Or x y t e = absurd (cc t)

  pub operates_two : (o : Operation) (x y : ℕ) → takes_one o ≡ false → Some y ≡ slice_get f.values 0 → Some x ≡ slice_get f.values 1
      → operate o s f below ≡ goes s below (after f (word_of o x y ∷ drop 2 f.values))
  operates_two Neg x y t e e' = absurd (cc t)
  operates_two Not x y t e e' = absurd (cc t)
  operates_two ShiftLeft x y t e e' = absurd (cc t)
  operates_two ShiftRight x y t e e' = absurd (cc t)
  operates_two Add x y t e e' = two_some f.values x y _ e e'
  operates_two Sub x y t e e' = two_some f.values x y _ e e'
  operates_two Eq x y t e e' = two_some f.values x y _ e e'
  operates_two Gt x y t e e' = two_some f.values x y _ e e'
  operates_two Lt x y t e e' = two_some f.values x y _ e e'
  operates_two And x y t e e' = two_some f.values x y _ e e'
  operates_two Or x y t e e' = two_some f.values x y _ e e'
