-- A program of the instruction machine has at most 32,768 words.
use Rattle.std.proofs.Common.{◌≡◌, ◌≤◌, ◌-◌, ℕ, Bool, true, false, List, [], ◌∷◌, Option, Some, None, Result, Ok, Err, length, refl, sym, ◌∙◌, ap, inl, inr, arith, if◌then◌else◌}
use Rattle.std.specs.Prelude.{nat_lt}
use Rattle.std.proofs.lemmas.Bool.Decides.{nat_tests}
use Rattle.scan_text.specs.declared.Place.{Place}
use Rattle.hack_asm.specs.Faults.{Wrong, TooLarge, TooManyVariables}
use Rattle.hack_asm.specs.HackText.{Holds, words_of}
use Rattle.hack_asm.specs.Language.{SpellsWords}
use Rattle.hack_asm.specs.Meaning.{Means}
use Rattle.hack_asm.specs.Program.{Table, first_past, if_near, label_values, labels, size, variables, words}
use Rattle.hack_asm.specs.Trees.{Line, number, symbol, label, address, compute}
use Rattle.hack_asm.specs.declared.language.Form.{Form}
use Rattle.hack_asm.specs.declared.language.Form.TheVariants.{Assembly, Image}

size_words : (table : Table) (ls : List Line) → length (words table ls) ≡ size ls
size_words table [] = refl
size_words table (None ∷ ls) = let h = size_words table ls in omega arith
size_words table (Some (label s) ∷ ls) = let h = size_words table ls in omega arith
size_words table (Some (address (number n)) ∷ ls) = let h = size_words table ls in omega arith
size_words table (Some (address (symbol s)) ∷ ls) = let h = size_words table ls in omega arith
size_words table (Some (compute c) ∷ ls) = let h = size_words table ls in omega arith

with_variables_few : (b : Bool) (w : Wrong) (all : Table) (ls : List Line) (ws : List ℕ) → (if b then Err w else Ok (words all ls)) ≡ Ok ws → length ws ≡ size ls
with_variables_few true w all ls ws e = absurd (let bad : ⊥ = cc in bad)
with_variables_few false w all ls ws e = let same : words all ls ≡ ws = cc in ap length (sym same) ∙ size_words all ls

if_near_few : (past : Option Place) (table : Table) (ls : List Line) (ws : List ℕ) → if_near past table ls ≡ Ok ws → length ws ≡ size ls
if_near_few (Some at) table ls ws e = absurd (let bad : ⊥ = cc in bad)
if_near_few None table ls ws e =
    let all = variables 16 table ls in
    with_variables_few (nat_lt 16368 (length all - length table)) (TooManyVariables (length all - length table)) all ls ws e

sized_few : (n : ℕ) (b : Bool) (r : Result (List ℕ) Wrong) (ws : List ℕ) → nat_lt 32768 n ≡ b → (r ≡ Ok ws → length ws ≡ n) → (if b then Err (TooLarge n) else r) ≡ Ok ws → length ws ≤ 32768
sized_few n true r ws test few e = absurd (let bad : ⊥ = cc in bad)
sized_few n false r ws test few e = let same = few e in grind (arith, nat_tests, test, same)

labelled_few : (r : Result Table Wrong) (ls : List Line) (ws : List ℕ) → label_values r ls ≡ Ok ws → length ws ≤ 32768
labelled_few (Err w) ls ws e = absurd (let bad : ⊥ = cc in bad)
labelled_few (Ok table) ls ws e =
    sized_few (size ls) (nat_lt 32768 (size ls)) (if_near (first_past table ls) table ls) ws refl (if_near_few (first_past table ls) table ls ws) e

no_words : (w : Wrong) (ws : List ℕ) → Ok ws ≡ Err w → ⊥
no_words w ws e = cc

pub few : (text ws : List ℕ) → Means text (Ok ws) → length ws ≤ 32768
few text ws (inl (ls, spelled, e)) = labelled_few (labels 0 [] ls) ls ws (sym e)
few text ws (inr (f, refused, e)) = absurd (no_words _ ws e)

-- ---- nor has an image

limited_few : (n : ℕ) (b : Bool) (vs ws : List ℕ) → length vs ≡ n → nat_lt 32768 n ≡ b → Ok ws ≡ (if b then Err (TooLarge n) else Ok vs) → length ws ≤ 32768
limited_few n true vs ws same test e = absurd (let bad : ⊥ = cc in bad)
limited_few n false vs ws same test e = let eq : vs ≡ ws = cc in let len : length ws ≡ n = ap length (sym eq) ∙ same in grind (arith, nat_tests, test, len)

pub few_held : (text ws : List ℕ) → Holds text (Ok ws) → length ws ≤ 32768
few_held text ws (inl (ls, spelled, e)) = limited_few (length (words_of ls)) (nat_lt 32768 (length (words_of ls))) (words_of ls) ws refl refl e
few_held text ws (inr (f, refused, e)) = absurd (no_words _ ws e)

pub few_words : (form : Form) (text ws : List ℕ) → SpellsWords form text ws → length ws ≤ 32768
few_words Assembly text ws h = few text ws h
few_words Image text ws h = few_held text ws h
