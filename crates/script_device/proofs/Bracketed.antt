-- Brackets of a text, from the last that opens; and numbers, digit by digit.
use Rattle.std.proofs.Common.{◌≡◌, ◌<◌, ◌+◌, ◌-◌, ◌*◌, ℕ, zero, suc, min, List, [], ◌∷◌, ◌++◌, length, get_or, take, drop, refl, sym, ap, ◌∙◌, arith, add-one}
use Rattle.std.specs.Prelude.{slice_index}
use Rattle.std.specs.List.{All}
use Rattle.std.proofs.Math.Seq.{take-suc, append_snoc, get_or-append_seam, get_or-append_right}
use Rattle.std.proofs.lemmas.List.{take_at, drop_at, take_more, take-append-drop, length-append}
use Rattle.script_device.specs.Variables.{IsDigit, number_after}
use Rattle.script_device.specs.Inner.Brackets.{HasBrackets, IsClosed, OpensLast, OpensNowhere}

-- no digit opens a bracket, nor does what closes one
apart : (inside : List ℕ) (k : ℕ) → All IsDigit inside → get_or (inside ++ 93 ∷ []) k 0 ≡ 91 → ⊥
apart [] zero d e = absurd (omega (arith, e))
apart [] (suc k) d e = absurd (omega (arith, e))
apart (c ∷ inside) zero d e = let digit : IsDigit c = d 0 0 (omega arith) in absurd (omega (arith, e, digit.0, digit.1))
apart (c ∷ inside) (suc k) d e = apart inside k (λ j x h. d (suc j) x (omega (arith, h))) e

behind : (name inside : List ℕ) (k : ℕ) → All IsDigit inside → length name < k → slice_index (name ++ 91 ∷ (inside ++ 93 ∷ [])) k ≡ 91 → ⊥
behind name inside k d h e =
    let far = get_or-append_right name (91 ∷ (inside ++ 93 ∷ [])) k 0 (omega (arith, h)) in
    let one : k - length name ≡ suc (k - length name - 1) = omega (arith, h) in
    let step : get_or (91 ∷ (inside ++ 93 ∷ [])) (k - length name) 0 ≡ get_or (91 ∷ (inside ++ 93 ∷ [])) (suc (k - length name - 1)) 0 = ap (λ n. get_or (91 ∷ (inside ++ 93 ∷ [])) n 0) one in
    apart inside (k - length name - 1) d (sym step ∙ sym far ∙ e)

opens : (name rest : List ℕ) → slice_index (name ++ 91 ∷ rest) (length name) ≡ 91
opens name rest = get_or-append_seam name 91 rest 0

-- a text with such brackets has one that opens
pub some_opens : (text name inside : List ℕ) → HasBrackets text name inside → OpensNowhere text → ⊥
some_opens text name inside has none = none (length name) (ap (λ t. slice_index t (length name)) has.is ∙ opens name (inside ++ 93 ∷ []))

-- the last one stands after the name
place : (text name inside : List ℕ) (at : ℕ) → HasBrackets text name inside → OpensLast text at → length name ≡ at
place text name inside at has last =
    let not_behind : length name < at → ⊥ = λ h. behind name inside at has.digits h (ap (λ t. slice_index t at) (sym has.is) ∙ last.opens) in
    let not_before : at < length name → ⊥ = λ h. last.last (length name) h (ap (λ t. slice_index t (length name)) has.is ∙ opens name (inside ++ 93 ∷ [])) in
    omega (arith, not_behind, not_before)

-- so the name and the digits are what stands before it and after it
pub name_before : (text name inside : List ℕ) (at : ℕ) → HasBrackets text name inside → OpensLast text at → name ≡ take at text
name_before text name inside at has last = sym (take_at name (91 ∷ (inside ++ 93 ∷ [])) at (place text name inside at has last)) ∙ ap (take at) (sym has.is)

pub inside_behind : (text name inside : List ℕ) (at : ℕ) → HasBrackets text name inside → OpensLast text at → IsClosed (drop (at + 1) text) inside
inside_behind text name inside at has last =
    let e : text ≡ (name ++ 91 ∷ []) ++ (inside ++ 93 ∷ []) = has.is ∙ sym (append_snoc name 91 (inside ++ 93 ∷ [])) in
    record { digits = has.digits; is = ap (drop (at + 1)) e ∙ drop_at (name ++ 91 ∷ []) (inside ++ 93 ∷ []) (at + 1) (omega (arith, length-append name (91 ∷ []), place text name inside at has last)) }

-- and what stands there makes brackets
pub closed_has : (text inside : List ℕ) (at : ℕ) → OpensLast text at → IsClosed (drop (at + 1) text) inside → HasBrackets text (take at text) inside
closed_has text inside at last closed =
    let front : take (at + 1) text ≡ take at text ++ 91 ∷ [] = take_more text at 0 last.there ∙ ap (λ c. take at text ++ c ∷ []) last.opens in
    let e : text ≡ (take at text ++ 91 ∷ []) ++ (inside ++ 93 ∷ []) = sym (take-append-drop (at + 1) text) ∙ ap (λ t. t ++ drop (at + 1) text) front ∙ ap (λ t. (take at text ++ 91 ∷ []) ++ t) closed.is in
    record { digits = closed.digits; is = e ∙ append_snoc (take at text) 91 (inside ++ 93 ∷ []) }

-- the last of a text and what stands before it are its own
pub last_of : (a b : List ℕ) (x y : ℕ) → a ++ x ∷ [] ≡ b ++ y ∷ [] → (a ≡ b) × (x ≡ y)
last_of [] [] x y e = (refl, cc)
last_of [] (d ∷ b) x y e = absurd (omega (arith, ap length e, length-append b (y ∷ [])))
last_of (c ∷ a) [] x y e = absurd (omega (arith, ap length e, length-append a (x ∷ [])))
last_of (c ∷ a) (d ∷ b) x y e =
    let rest : a ++ x ∷ [] ≡ b ++ y ∷ [] = cc in
    let head : c ≡ d = cc in
    let r = last_of a b x y rest in
    let same : a ≡ b = r.0 in
    (cc, r.1)

-- a text has one name and one inside
opens_last : (text name inside : List ℕ) → HasBrackets text name inside → OpensLast text (length name)
opens_last text name inside has = record {
  there = omega (arith, ap length has.is, length-append name (91 ∷ (inside ++ 93 ∷ [])));
  opens = ap (λ t. slice_index t (length name)) has.is ∙ opens name (inside ++ 93 ∷ []);
  last = λ k h e. behind name inside k has.digits h (ap (λ t. slice_index t k) (sym has.is) ∙ e);
}

pub once : (text n i m j : List ℕ) → HasBrackets text n i → HasBrackets text m j → (n ≡ m) × (i ≡ j)
once text n i m j a b =
    let last = opens_last text n i a in
    let x = inside_behind text n i (length n) a last in
    let y = inside_behind text m j (length n) b last in
    (name_before text n i (length n) a last ∙ sym (name_before text m j (length n) b last), (last_of i j 93 93 (sym x.is ∙ y.is)).0)

-- ---- numbers

-- one more digit at the end
number_behind : (n c : ℕ) (digits : List ℕ) → number_after n (digits ++ c ∷ []) ≡ 10 * number_after n digits + (c - 48)
number_behind n c [] = refl
number_behind n c (x ∷ digits) = number_behind (10 * n + (x - 48)) c digits

pub number_more : (digits : List ℕ) (k : ℕ) → k < length digits → min (10 * min (number_after 0 (take k digits)) 4294967296 + (get_or digits k 0 - 48)) 4294967296 ≡ min (number_after 0 (take (k + 1) digits)) 4294967296
number_more digits k h =
    let cut : take (k + 1) digits ≡ take k digits ++ get_or digits k 0 ∷ [] = rw add-one (take-suc digits k 0 h) in
    let more : number_after 0 (take (k + 1) digits) ≡ 10 * number_after 0 (take k digits) + (get_or digits k 0 - 48) = ap (number_after 0) cut ∙ number_behind 0 (get_or digits k 0) (take k digits) in
    omega (arith, more)
