-- What it says of a command that it acts.
use Rattle.std.proofs.Common.{◌≡◌, ◌⊎◌, ⊎_elim, inl, inr, ℕ, Option, Some, None, ◌+◌, ◌<◌, ◌≤◌, Bool, true, false, List, [], ◌∷◌, length, refl, arith}
use Rattle.std.specs.Prelude.{nat_lt, nat_eq, if◌then◌else◌}
use Rattle.std.proofs.lemmas.Bool.Decides.{nat_tests}
use Rattle.machine_io.specs.declared.machine.Stray.{Stray}
use Rattle.vm_machine.specs.State.{Frame, State, words_in_use}
use Rattle.vm_machine.specs.Step.{Outcome, Acts, Strays, Full, fit_outcome, on_top, on_two, on_word}

chosen : (b : Bool) (n : ℕ) (h heard : Bool) (s v' : State) → (if b then Full n else Acts h s) ≡ Acts heard v' → (b ≡ false) × (h ≡ heard) × (s ≡ v')
chosen true n h heard s v' e = absurd (cc e)
chosen false n h heard s v' e = (refl, cc, cc)

pub goes_case : (h heard : Bool) (s v' : State) → fit_outcome (Acts h s) ≡ Acts heard v' → (s ≡ v') × (h ≡ heard) × (words_in_use s.frames ≤ 1792)
goes_case h heard s v' e =
    let c = chosen (nat_lt 1792 (words_in_use s.frames)) (words_in_use s.frames) h heard s v' e in
    let no = c.0 in
    (c.2, c.1, grind (arith, nat_tests))

pub top_case : (vs : List ℕ) (act : ℕ → List ℕ → Outcome) (heard : Bool) (v' : State) → fit_outcome (on_top vs act) ≡ Acts heard v' → (w : ℕ) × (values : List ℕ) × (vs ≡ w ∷ values) × (fit_outcome (act w values) ≡ Acts heard v')
top_case [] act heard v' e = absurd (cc e)
top_case (w ∷ values) act heard v' e = (w, values, refl, e)

pub two_case : (vs : List ℕ) (act : ℕ → ℕ → List ℕ → Outcome) (heard : Bool) (v' : State) → fit_outcome (on_two vs act) ≡ Acts heard v' → (y : ℕ) × (x : ℕ) × (values : List ℕ) × (vs ≡ y ∷ x ∷ values) × (fit_outcome (act x y values) ≡ Acts heard v')
two_case [] act heard v' e = absurd (cc e)
two_case (y ∷ []) act heard v' e = absurd (cc e)
two_case (y ∷ x ∷ values) act heard v' e = (y, x, values, refl, e)

pub word_case : (why : Stray) (o : Option ℕ) (act : ℕ → Outcome) (heard : Bool) (v' : State) → fit_outcome (on_word why o act) ≡ Acts heard v' → (w : ℕ) × (o ≡ Some w) × (fit_outcome (act w) ≡ Acts heard v')
word_case why None act heard v' e = absurd (cc e)
word_case why (Some w) act heard v' e = (w, refl, e)

picked : (b : Bool) (o : Outcome) (why : Stray) (heard : Bool) (v' : State) → fit_outcome (if b then o else Strays why) ≡ Acts heard v' → (b ≡ true) × (fit_outcome o ≡ Acts heard v')
picked true o why heard v' e = (refl, e)
picked false o why heard v' e = absurd (cc e)

pub less_case : (i n : ℕ) (o : Outcome) (why : Stray) (heard : Bool) (v' : State) → fit_outcome (if nat_lt i n then o else Strays why) ≡ Acts heard v' → (i < n) × (fit_outcome o ≡ Acts heard v')
less_case i n o why heard v' e =
    let p = picked (nat_lt i n) o why heard v' e in
    let yes = p.0 in
    (grind (arith, nat_tests), p.1)

other : (b : Bool) (o q : Outcome) (why : Stray) (heard : Bool) (v' : State) → fit_outcome (if b then Strays why else q) ≡ Acts heard v' → (b ≡ false) × (fit_outcome q ≡ Acts heard v')
other true o q why heard v' e = absurd (cc e)
other false o q why heard v' e = (refl, e)

pub not_less_case : (i n : ℕ) (q : Outcome) (why : Stray) (heard : Bool) (v' : State) → fit_outcome (if nat_lt i n then Strays why else q) ≡ Acts heard v' → (n ≤ i) × (fit_outcome q ≡ Acts heard v')
not_less_case i n q why heard v' e =
    let p = other (nat_lt i n) q q why heard v' e in
    let no = p.0 in
    (grind (arith, nat_tests), p.1)

either : (b : Bool) (o q : Outcome) (heard : Bool) (v' : State) → fit_outcome (if b then o else q) ≡ Acts heard v' → ((b ≡ true) × (fit_outcome o ≡ Acts heard v')) ⊎ ((b ≡ false) × (fit_outcome q ≡ Acts heard v'))
either true o q heard v' e = inl (refl, e)
either false o q heard v' e = inr (refl, e)

pub less_or : (i n : ℕ) (o q : Outcome) (heard : Bool) (v' : State) → fit_outcome (if nat_lt i n then o else q) ≡ Acts heard v' → ((i < n) × (fit_outcome o ≡ Acts heard v')) ⊎ ((n ≤ i) × (fit_outcome q ≡ Acts heard v'))
less_or i n o q heard v' e = ⊎_elim
    (λ p. let yes = p.0 in inl (grind (arith, nat_tests), p.1))
    (λ p. let no = p.0 in inr (grind (arith, nat_tests), p.1))
    (either (nat_lt i n) o q heard v' e)

pub same_or : (i n : ℕ) (o q : Outcome) (heard : Bool) (v' : State) → fit_outcome (if nat_eq i n then o else q) ≡ Acts heard v' → ((i ≡ n) × (fit_outcome o ≡ Acts heard v')) ⊎ (fit_outcome q ≡ Acts heard v')
same_or i n o q heard v' e = ⊎_elim
    (λ p. let yes = p.0 in inl (grind (arith, nat_tests), p.1))
    (λ p. inr p.1)
    (either (nat_eq i n) o q heard v' e)

-- the words in use go with the values
pub grown : (f g : Frame) (below : List Frame) → length g.arguments ≡ length f.arguments → length g.locals ≡ length f.locals → words_in_use (g ∷ below) + length f.values ≡ words_in_use (f ∷ below) + length g.values
grown f g [] a b = omega arith
grown f g (c ∷ below) a b = omega arith

pub values_in_use : (f : Frame) (below : List Frame) → length f.values ≤ words_in_use (f ∷ below)
values_in_use f [] = omega arith
values_in_use f (c ∷ below) = omega arith
