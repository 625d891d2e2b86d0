-- The first line of a text, and those after it.
use Rattle.std.proofs.Common.{◌≡◌, ℕ, zero, suc, ◌+◌, ◌<◌, ◌≤◌, Bool, true, false, List, [], ◌∷◌, length, get_or, take, drop, refl, sym, ap, arith, zero-add, drop-cons, nat_eq}
use Rattle.std.specs.Prelude.{◌&&◌}
use Rattle.std.proofs.Math.Seq.{drop-nil}
use Rattle.std.proofs.Math.ListN.{drop_of_length-le}
use Rattle.script_columns.specs.Comparison.{front, with_front, lines_of}
use Rattle.script_columns.specs.Inner.Cut.{ends_line, line_length, past_first}

either : (b : Bool) (P : Type 0) → (b ≡ true → P) → (b ≡ false → P) → P
either true P f g = f refl
either false P f g = g refl

-- the first line and the others, found by its length and by where the second begins
abbrev IsCut : List ℕ → Type 0
IsCut text = lines_of text ≡ take (line_length text) text ∷ lines_of (drop (past_first text) text)

at_feed : (c : ℕ) (rest : List ℕ) → nat_eq c 10 ≡ true → IsCut (c ∷ rest)
at_feed c rest e = rw e refl

at_return : (c : ℕ) (rest : List ℕ) → nat_eq c 10 ≡ false → (nat_eq c 13 && nat_eq (front rest) 10) ≡ true → IsCut (c ∷ rest)
at_return c [] e r = either (nat_eq c 13) (IsCut (c ∷ [])) (λ t. let no : (nat_eq c 13 && false) ≡ true = r in absurd (cc)) (λ t. let no : (nat_eq c 13 && false) ≡ true = r in absurd (cc))
at_return c (d ∷ rest) e r = either (nat_eq d 10) (IsCut (c ∷ d ∷ rest)) (λ t. rw (e, r, t) refl) (λ t. either (nat_eq c 13) (IsCut (c ∷ d ∷ rest)) (λ u. absurd (let no : (true && false) ≡ true = rw (u, t) at r in cc)) (λ u. absurd (let no : (false && nat_eq d 10) ≡ true = rw u at r in cc)))

at_other : (c : ℕ) (rest : List ℕ) → nat_eq c 10 ≡ false → (nat_eq c 13 && nat_eq (front rest) 10) ≡ false → IsCut rest → IsCut (c ∷ rest)
at_other c rest e r i = rw (e, r) (ap (with_front c) i)

at_last : (c : ℕ) → nat_eq c 10 ≡ false → (nat_eq c 13 && nat_eq (front []) 10) ≡ false → IsCut (c ∷ [])
at_last c e r = rw (e, r) refl

pub cut : (text : List ℕ) → 0 < length text → IsCut text
cut [] h = absurd (omega arith)
cut (c ∷ []) h = either (nat_eq c 10) (IsCut (c ∷ [])) (at_feed c []) (λ e. either (nat_eq c 13 && nat_eq (front []) 10) (IsCut (c ∷ [])) (at_return c [] e) (at_last c e))
cut (c ∷ d ∷ rest) h =
    let more : IsCut (d ∷ rest) = cut (d ∷ rest) (omega arith) in
    either (nat_eq c 10) (IsCut (c ∷ d ∷ rest)) (at_feed c (d ∷ rest)) (λ e. either (nat_eq c 13 && nat_eq (front (d ∷ rest)) 10) (IsCut (c ∷ d ∷ rest)) (at_return c (d ∷ rest) e) (λ r. at_other c (d ∷ rest) e r more))

-- the lines after the first
pub past_cut : (text : List ℕ) → lines_of (drop (past_first text) text) ≡ drop 1 (lines_of text)
past_cut [] = refl
past_cut (c ∷ rest) = sym (ap (drop 1) (cut (c ∷ rest) (omega arith)))

pub past_within : (text : List ℕ) → past_first text ≤ length text
past_within [] = omega arith
past_within (c ∷ rest) =
    let more = past_within rest in
    either (nat_eq c 10) (past_first (c ∷ rest) ≤ length (c ∷ rest)) (λ e. rw e (omega arith)) (λ e. rw e (omega arith))

pub length_within : (text : List ℕ) → line_length text ≤ length text
length_within [] = omega arith
length_within (c ∷ rest) =
    let more = length_within rest in
    either (ends_line c rest) (line_length (c ∷ rest) ≤ length (c ∷ rest)) (λ e. rw e (omega arith)) (λ e. rw e (omega arith))

-- where the second line begins, from a line feed or the end on
pub past_here : (text : List ℕ) (k : ℕ) → k < length text → get_or text k 0 ≡ 10 → past_first (drop k text) ≡ 1
past_here text k a e = rw (drop-cons text k 0 a, e) refl

pub past_end : (text : List ℕ) (k : ℕ) → length text ≤ k → past_first (drop k text) ≡ 0
past_end text k h = rw (drop_of_length-le text h) refl

-- elements that are left out in two turns
pub drop_twice : (m n : ℕ) (xs : List ℕ) → drop n (drop m xs) ≡ drop (m + n) xs
drop_twice m n [] = rw (drop-nil {A = ℕ} m, drop-nil {A = ℕ} n, drop-nil {A = ℕ} (m + n)) refl
drop_twice zero n (x ∷ xs) = rw zero-add refl
drop_twice (suc m) n (x ∷ xs) = let e : suc m + n ≡ suc (m + n) = omega arith in rw e (drop_twice m n xs)

pub drop_one_more : (k : ℕ) (ls : List (List ℕ)) → drop 1 (drop k ls) ≡ drop (k + 1) ls
drop_one_more k [] = rw (drop-nil {A = List ℕ} k, drop-nil {A = List ℕ} (k + 1)) refl
drop_one_more zero (l ∷ ls) = refl
drop_one_more (suc k) (l ∷ ls) = let e : suc k + 1 ≡ suc (k + 1) = omega arith in rw e (drop_one_more k ls)

-- where none is left, none is left further on
pub none_further : (k n : ℕ) (ls : List (List ℕ)) → k ≤ n → drop k ls ≡ [] → drop n ls ≡ []
none_further k n [] h e = drop-nil {A = List ℕ} n
none_further zero n (l ∷ ls) h e = absurd cc
none_further (suc k) zero (l ∷ ls) h e = absurd (omega arith)
none_further (suc k) (suc n) (l ∷ ls) h e = none_further k n ls (omega arith) e
