-- The pieces of a test script that are words and texts.
use Rattle.std.proofs.Common.{◌≡◌, ℕ, ◌+◌, ◌≤◌, Bool, true, false, cond, List, [], ◌∷◌, length, take, drop, Some, Ok, refl, ap, ◌∙◌, arith, length-drop}
use Rattle.std.specs.Prelude.{suc}
use Rattle.scan_text.specs.declared.Scan.{Scan}
use Rattle.scan_text.specs.Text.{first, front, rest_behind, walk}
use Rattle.scan_text.specs.View.{left_bytes, place}
use Rattle.grammar.specs.Cutting.{Next}
use Rattle.script_parser.specs.declared.token.Kind.TheVariants as kind
use Rattle.script_parser.specs.Tokens.{Word, role_of, word_front, word_piece}

pub word_taken : (old new : Scan) (w : Word) (more : ℕ) (rest : List ℕ) → rest ≡ drop 1 (left_bytes old) → more ≡ length (word_front rest) → left_bytes new ≡ drop (more + 1) (left_bytes old) → place new ≡ walk (place old) (take (more + 1) (left_bytes old)) → w.kind ≡ kind.Word (role_of w.text) → w.text ≡ take (more + 1) (left_bytes old) → w.place ≡ place old → Next (word_piece (left_bytes old)) old (Ok (Some w)) new
word_taken old new w more rest b m l p k t at =
    let goes_on : more ≡ length (word_front (drop 1 (left_bytes old))) = m ∙ ap (λ (bs : List ℕ). length (word_front bs)) b in
    let n : more + 1 ≡ suc (length (word_front (drop 1 (left_bytes old)))) = omega arith in
    let text = t ∙ ap (λ (j : ℕ). take j (left_bytes old)) n in
    let role = k ∙ ap (λ (x : List ℕ). kind.Word (role_of x)) text in
    ((λ i. Ok (Some (record { kind = role i; text = text i; place = at i }))), record { rest = l ∙ ap (λ (j : ℕ). drop j (left_bytes old)) n; at = p ∙ ap (λ (j : ℕ). walk (place old) (take j (left_bytes old))) n })

-- a front and what is after it are all bytes
parts : (test : ℕ → Bool) (bs : List ℕ) → length (front test bs) + length (rest_behind test bs) ≡ length bs
parts test [] = refl
parts test (b ∷ bs) =
    let rest : length (front test bs) + length (rest_behind test bs) ≡ length bs = parts test bs in
    elim (test b) as (λ t. length (cond t (b ∷ front test bs) []) + length (cond t (rest_behind test bs) (b ∷ bs)) ≡ length (b ∷ bs)) [ true ↦ omega arith | false ↦ omega arith ]

some_byte : (bs : List ℕ) (b : ℕ) → first bs ≡ Some b → 1 ≤ length bs
some_byte [] b e = absurd cc
some_byte (c ∷ bs) b e = omega arith

-- a text that is closed is within the bytes, with its quotes
pub closed_within : (test : ℕ → Bool) (bs text rest : List ℕ) (b d : ℕ) → first bs ≡ Some b → text ≡ front test (drop 1 bs) → rest ≡ rest_behind test (drop 1 bs) → first rest ≡ Some d → length text + 2 ≤ length bs
closed_within test bs text rest b d e t r q =
    let all = parts test (drop 1 bs) in
    let begun = some_byte bs b e in
    let closed = some_byte rest d q in
    let t_is : length text ≡ length (front test (drop 1 bs)) = ap length t in
    let r_is : length rest ≡ length (rest_behind test (drop 1 bs)) = ap length r in
    omega (arith, all, begun, closed, t_is, r_is, length-drop 1 bs)
