-- A program of lines that are all instructions and use no symbol.
use Rattle.std.proofs.Common.{◌≡◌, ℕ, ◌+◌, ◌≤◌, Bool, List, [], ◌∷◌, None, Some, Option, Result, Ok, Err, cond, map, length, refl, ap, ◌∙◌, arith, le-ltb}
use Rattle.scan_text.specs.declared.Place.{Place}
use Rattle.hack_asm.specs.declared.lines.Compute.{Compute}
use Rattle.hack_asm.specs.Faults.{Wrong, TooLarge}
use Rattle.hack_asm.specs.Trees.{Line, Item, number, address, compute}
use Rattle.hack_asm.specs.Program.{Table, compute_word, labels, label_values, size, first_past, if_near, variables, with_variables, words, program}

-- an instruction that uses no symbol
pub data Direct : Type 0 where
  constant : ℕ → Direct
  computed : Compute → Direct

abbrev pub direct_item : Direct → Item
direct_item (constant n) = address (number n)
direct_item (computed c) = compute c

abbrev pub direct_word : Direct → ℕ
direct_word (constant n) = n
direct_word (computed c) = compute_word c

abbrev pub direct_lines : List Direct → List Line
direct_lines xs = map (λ x. Some (direct_item x)) xs

no_labels : (xs : List Direct) (n : ℕ) (t : Table) → labels n t (direct_lines xs) ≡ Ok t
no_labels [] n t = refl
no_labels (constant k ∷ xs) n t = no_labels xs (n + 1) t
no_labels (computed c ∷ xs) n t = no_labels xs (n + 1) t

direct_size : (xs : List Direct) → size (direct_lines xs) ≡ length xs
direct_size [] = refl
direct_size (constant k ∷ xs) = omega (arith, direct_size xs)
direct_size (computed c ∷ xs) = omega (arith, direct_size xs)

none_past : (xs : List Direct) → first_past [] (direct_lines xs) ≡ None
none_past [] = refl
none_past (constant k ∷ xs) = none_past xs
none_past (computed c ∷ xs) = none_past xs

no_variables : (xs : List Direct) → variables 16 [] (direct_lines xs) ≡ []
no_variables [] = refl
no_variables (constant k ∷ xs) = no_variables xs
no_variables (computed c ∷ xs) = no_variables xs

direct_words : (xs : List Direct) → words [] (direct_lines xs) ≡ map direct_word xs
direct_words [] = refl
direct_words (constant k ∷ xs) = ap (λ (ws : List ℕ). k ∷ ws) (direct_words xs)
direct_words (computed c ∷ xs) = ap (λ (ws : List ℕ). compute_word c ∷ ws) (direct_words xs)

pub direct_program : (xs : List Direct) → length xs ≤ 32768 → program (direct_lines xs) ≡ Ok (map direct_word xs)
direct_program xs few =
    let ls : List Line = direct_lines xs in
    let size_is = direct_size xs in
    ap (λ (t : Result Table Wrong). label_values t ls) (no_labels xs 0 [])
    ∙ ap (λ (b : Bool). cond b (Err (TooLarge (size ls))) (if_near (first_past [] ls) [] ls)) (le-ltb 32768 (size ls) (omega (arith, size_is, few)))
    ∙ ap (λ (o : Option Place). if_near o [] ls) (none_past xs)
    ∙ ap (λ (t : Table). with_variables [] t ls) (no_variables xs)
    ∙ ap (λ (ws : List ℕ). Ok ws) (direct_words xs)
