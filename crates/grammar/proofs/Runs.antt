-- A run of bytes that pass a test, which begins here.
use Rattle.std.proofs.Common.{◌≡◌, ℕ, suc, ◌-◌, ◌<◌, ◌≤◌, Bool, true, false, cond, List, [], ◌∷◌, length, take, drop, Some, Ok, refl, sym, ap, ◌∙◌, arith}
use Rattle.scan_text.specs.declared.Place.{Place}
use Rattle.scan_text.specs.declared.Scan.{Scan}
use Rattle.scan_text.specs.Text.{first, front, rest_behind, walk, is_digit, digits, decimal, capped_count, number_at, number_of}
use Rattle.scan_text.specs.Blanks.{line_end}
use Rattle.scan_text.specs.View.{left_bytes, place}
use Rattle.scan_text.proofs.Texts.{take_front, drop_front}
use Rattle.grammar.specs.Cutting.{Token, Moved, Next}

some_byte : (b : ℕ) (l : List ℕ) (t : Bool) → t ≡ true → 1 ≤ length (cond t (b ∷ l) [])
some_byte b l true e = omega arith
some_byte b l false e = absurd cc

pub run_stands : (test : ℕ → Bool) (bs : List ℕ) (b : ℕ) → first bs ≡ Some b → test b ≡ true → 1 ≤ length (front test bs)
run_stands test [] b e d = absurd cc
run_stands test (c ∷ bs) b e d = let same : c ≡ b = cc in some_byte c (front test bs) (test c) (ap test same ∙ d)

pub run_length : (test : ℕ → Bool) (bs : List ℕ) (b : ℕ) → first bs ≡ Some b → test b ≡ true → suc (length (front test bs) - 1) ≡ length (front test bs)
run_length test bs b e d = let some = run_stands test bs b e d in omega arith

pub run_text : (test : ℕ → Bool) (bs : List ℕ) (b : ℕ) → first bs ≡ Some b → test b ≡ true → take (suc (length (front test bs) - 1)) bs ≡ front test bs
run_text test bs b e d = ap (λ (k : ℕ). take k bs) (run_length test bs b e d) ∙ take_front test bs

pub run_moved : (test : ℕ → Bool) (old new : Scan) (b : ℕ) → first (left_bytes old) ≡ Some b → test b ≡ true → left_bytes new ≡ rest_behind test (left_bytes old) → place new ≡ walk (place old) (front test (left_bytes old)) → Moved old new (length (front test (left_bytes old)) - 1)
run_moved test old new b e d l p =
    let n = run_length test (left_bytes old) b e d in
    record {
      rest = l ∙ sym (drop_front test (left_bytes old)) ∙ ap (λ (k : ℕ). drop k (left_bytes old)) (sym n);
      at = p ∙ ap (walk (place old)) (sym (run_text test (left_bytes old) b e d));
    }

stands_at : (ds : List ℕ) → 1 ≤ length ds → number_at ds ≡ Some (capped_count (decimal 0 ds))
stands_at [] h = absurd (omega arith)
stands_at (d ∷ ds) h = refl

-- a digit begins a number
pub number_stands : (bs : List ℕ) (b : ℕ) → first bs ≡ Some b → is_digit b ≡ true → number_of bs ≡ Some (capped_count (decimal 0 (digits bs)))
number_stands bs b e d = stands_at (digits bs) (run_stands is_digit bs b e d)

-- a token of a whole run
pub run_token : {T : Type 0} (test : ℕ → Bool) (made : Place → T) (t : T) (old new : Scan) (b : ℕ) → first (left_bytes old) ≡ Some b → test b ≡ true → left_bytes new ≡ rest_behind test (left_bytes old) → place new ≡ walk (place old) (front test (left_bytes old)) → t ≡ made (place old) → Next (Token made (length (front test (left_bytes old)) - 1)) old (Ok (Some t)) new
run_token test made t old new b e d l p m = (ap (λ x. Ok (Some x)) m, run_moved test old new b e d l p)

-- a line end
pub end_moved : (old new : Scan) → 0 < line_end (left_bytes old) → left_bytes new ≡ drop (line_end (left_bytes old)) (left_bytes old) → place new ≡ walk (place old) (take (line_end (left_bytes old)) (left_bytes old)) → Moved old new (line_end (left_bytes old) - 1)
end_moved old new some l p =
    let n : line_end (left_bytes old) ≡ suc (line_end (left_bytes old) - 1) = omega arith in
    record {
      rest = l ∙ ap (λ (k : ℕ). drop k (left_bytes old)) n;
      at = p ∙ ap (λ (k : ℕ). walk (place old) (take k (left_bytes old))) n;
    }
