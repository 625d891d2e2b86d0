-- What a reader of one token knows where the code leaves it: no token is left, the next one is another, it is past a limit, or it is
-- taken. As a ruleset these lemmas close the exits of such a reader.
use Rattle.std.proofs.Common.{◌≡◌, Bool, true, false, List, [], ◌∷◌, length, map, Result, Ok, Err, refl, arith}
use Rattle.scan_text.specs.declared.Place.{Place}
use Rattle.grammar.specs.declared.Fault.{Fault}
use Rattle.grammar.specs.declared.Fault.TheVariants.{Grammar}
use Rattle.grammar.specs.declared.ReadError.TheVariants as errors
use Rattle.grammar.specs.Rules.{mark, word, end, Skip, Leaf, Rules, next, here, Reads, marked, worded, at_end, Stops, not_mark, not_word, not_end, past}
use Rattle.grammar.specs.Reading.{Halt, memory, fault}

-- the next token is another
module _ {T S N V : Type 0} {g : Rules T S N V} {s : S} {ts : List T} {at : Place} where
  pub not_mark_at : {v : V} {is : T → Bool} → next is ts ≡ false → at ≡ here g ts → Stops T S N V g s (mark v is) ts (Grammar at)
  not_mark_at i a = rw a (not_mark i)

  pub not_word_at : {is : T → Bool} {check : S → T → Result S Fault} {value : T → V} → next is ts ≡ false → at ≡ here g ts → Stops T S N V g s (word is check value) ts (Grammar at)
  not_word_at i a = rw a (not_word i)

some_left : {T S N V : Type 0} {g : Rules T S N V} {s : S} (ts : List T) → next (λ t. true) ts ≡ true → Stops T S N V g s end ts (Grammar (here g ts))
some_left [] i = absurd cc
some_left (t ∷ ts) i = not_end

module _ {T S N V : Type 0} {g : Rules T S N V} {s : S} {ts : List T} {at : Place} where
  pub not_end_at : next (λ t. true) ts ≡ true → at ≡ here g ts → Stops T S N V g s end ts (Grammar at)
  not_end_at i a = rw a (some_left ts i)

none_left : {C : Type 0} (ts : List C) → length ts ≡ 0 → ts ≡ []
none_left [] e = refl
none_left (t ∷ ts) e = absurd (omega (arith, e))

module _ {C T S N V : Type 0} (view : C → T) {g : Rules T S N V} {s : S} (ts : List C) where
  -- no token is left
  pub mark_absent : {v : V} {is : T → Bool} {at : Place} → length ts ≡ 0 → at ≡ g.ending → Stops T S N V g s (mark v is) (map view ts) (Grammar at)
  mark_absent e a = rw (none_left ts e, a) (not_mark refl)

  pub word_absent : {is : T → Bool} {check : S → T → Result S Fault} {value : T → V} {at : Place} → length ts ≡ 0 → at ≡ g.ending → Stops T S N V g s (word is check value) (map view ts) (Grammar at)
  word_absent e a = rw (none_left ts e, a) (not_word refl)

  pub end_found : length ts ≡ 0 → Reads T S N V g s end (map view ts) Skip s []
  end_found e = rw (none_left ts e) at_end

  -- the token is taken
  pub mark_found : {v : V} {is : T → Bool} (us : List C) {t : C} → ts ≡ t ∷ us → is (view t) ≡ true → Reads T S N V g s (mark v is) (map view ts) Skip s (map view us)
  mark_found us e i = rw e (marked i)

  pub word_found : {is : T → Bool} {check : S → T → Result S Fault} {value : T → V} (us : List C) {t : C} {s' : S} {v : V} → ts ≡ t ∷ us → is (view t) ≡ true → check s (view t) ≡ Ok s' → v ≡ value (view t) → Reads T S N V g s (word is check value) (map view ts) (Leaf v) s' (map view us)
  word_found us e i c w = rw (e, w) (worded i c)

  -- the token is past a limit
  pub word_past : {is : T → Bool} {check : S → T → Result S Fault} {value : T → V} {us : List C} {t : C} {f : Fault} → ts ≡ t ∷ us → is (view t) ≡ true → check s (view t) ≡ Err f → Halt (Stops T S N V g s (word is check value) (map view ts)) (errors.Fault f)
  word_past e i c = rw e (fault (past i c))

pub ruleset one_token = (memory, fault, not_mark_at, not_word_at, not_end_at, mark_absent, word_absent, end_found, mark_found, word_found, word_past)
