-- How texts pass to a sink in whole pieces.
use Rattle.std.proofs.Common.{◌≡◌, ◌≤◌, ◌+◌, ◌-◌, ◌%◌, ◌++◌, ℕ, List, Option, length, take, drop, refl, sym, ◌∙◌, ap, arith, inl, inr, length-take, length-drop, length-append}
use Rattle.std.proofs.lemmas.Bool.{cases_lt}
use Rattle.std.proofs.lemmas.List.{take_all, drop_all}
use Rattle.outer_world.specs.State.{SinkState}
use Rattle.outer_world.specs.Written.{Got, Passes}
use Rattle.outer_world.specs.declared.sink.Put.{Put}
use Rattle.outer_world.specs.declared.sink.Put.TheVariants as put
use Rattle.outer_world.proofs.Passing.{Got-then, Got-same, front_and_more, rest_and_more}
use Rattle.tst_runner.specs.Ends.{whole}
use Rattle.tst_runner.specs.Inner.Outlets.{HasPassed, PutsBehind, WentInPart}

-- ---- whole pieces

whole_most : (text : List ℕ) → length (take (whole text) text) ≡ whole text
whole_most text = omega (arith, length-take (whole text) text)

whole_then : (n m : ℕ) → (n - n % 4096) + ((n - (n - n % 4096) + m) - (n - (n - n % 4096) + m) % 4096) ≡ (n + m) - (n + m) % 4096
whole_then n m = omega arith

-- the whole pieces of a text, and then those of the rest and more
pub whole_more : (front text : List ℕ) (w : ℕ) → w ≡ whole (drop (whole front) front ++ text) → length (take (whole front) front) + w ≡ whole (front ++ text)
whole_more front text w w_is =
    let l : length (drop (whole front) front ++ text) ≡ length front - whole front + length text = length-append (drop (whole front) front) text ∙ ap (λ n. n + length text) (length-drop (whole front) front) in
    let k : whole (drop (whole front) front ++ text) ≡ (length front - whole front + length text) - (length front - whole front + length text) % 4096 = ap (λ n. n - n % 4096) l in
    let j : whole (front ++ text) ≡ (length front + length text) - (length front + length text) % 4096 = ap (λ n. n - n % 4096) (length-append front text) in
    ap (λ n. n + w) (whole_most front) ∙ ap (λ n. whole front + n) (w_is ∙ k) ∙ whole_then (length front) (length text) ∙ sym j

-- a text has passed, and then all whole pieces of the rest and of more
pub HasPassed-then : (a b c : Option (List ℕ)) (front text p p' : List ℕ) (w : ℕ)
    → HasPassed a b p front → w ≡ whole (p ++ text) → Got b c (take w (p ++ text)) → p' ≡ drop w (p ++ text) → HasPassed a c p' (front ++ text)
HasPassed-then a b c front text p p' w h w_is went rest =
    let e : length (take (whole front) front) + w ≡ whole (front ++ text) = whole_more front text w (w_is ∙ ap (λ y. whole (y ++ text)) h.rest) in
    record {
      went = Got-same a c _ _ (ap (λ y. take (whole front) front ++ take w (y ++ text)) h.rest ∙ front_and_more front text (whole front) w ∙ ap (λ n. take n (front ++ text)) e) (Got-then a b c _ _ h.went went);
      rest = rest ∙ ap (λ y. drop w (y ++ text)) h.rest ∙ rest_and_more front text (whole front) w ∙ ap (λ n. drop n (front ++ text)) e;
    }

-- or some of them alone
pub HasPassed-cut : (a b c : Option (List ℕ)) (front text p : List ℕ) (n : ℕ)
    → HasPassed a b p front → Got b c (take n (p ++ text)) → WentInPart a c front (front ++ text)
HasPassed-cut a b c front text p n h went = record {
  n = length (take (whole front) front) + n;
  from = omega (arith, whole_most front);
  went = Got-same a c _ _ (ap (λ y. take (whole front) front ++ take n (y ++ text)) h.rest ∙ front_and_more front text (whole front) n) (Got-then a b c _ _ h.went went);
}

-- Where this many bytes of a text are left as make no whole piece, all whole pieces went.
whole_went : (n : ℕ) (xs : List ℕ) → length (drop n xs) ≡ length xs % 4096 → (take n xs ≡ take (whole xs) xs) × (drop n xs ≡ drop (whole xs) xs)
whole_went n xs e = elim (cases_lt n (length xs)) [
  | inl h ↦ let same : n ≡ whole xs = omega (arith, e, length-drop n xs) in (ap (λ k. take k xs) same, ap (λ k. drop k xs) same)
  | inr h ↦ let none : length xs ≤ whole xs = omega (arith, e, length-drop n xs) in
      (take_all n xs h ∙ sym (take_all (whole xs) xs none), drop_all n xs h ∙ sym (drop_all (whole xs) xs none))
]

-- What a buffer that passes pieces on says of a text that it was handed.
pub PutsBehind-pieces : (a : Option (List ℕ)) (b c : SinkState) (front text p p' : List ℕ) (result : Put)
    → Passes b p c p' text result → (result ≡ put.Done → length p' ≡ (length p + length text) % 4096)
    → HasPassed a b.written p front → PutsBehind a c.written p' front text result
PutsBehind-pieces a b c front text p p' put.Done passes left h =
    let rest = passes.rest refl in
    let all = whole_went passes.n (p ++ text) (sym (ap length rest) ∙ left refl ∙ ap (λ k. k % 4096) (sym (length-append p text))) in
    HasPassed-then a b.written c.written front text p p' (whole (p ++ text)) h refl (Got-same b.written c.written _ _ all.0 passes.went) (rest ∙ all.1)
PutsBehind-pieces a b c front text p p' put.Failed passes left h = HasPassed-cut a b.written c.written front text p passes.n h passes.went
