-- How lines that are put are compared with those of a compare file.
use Rattle.std.proofs.Common.{◌≡◌, ◌+◌, ◌≤◌, ℕ, zero, suc, true, false, List, [], ◌∷◌, Option, Some, None, length, drop, refl, sym, ap, ◌∙◌, arith, length-drop}
use Rattle.std.proofs.lemmas.Bool.{false≢true}
use Rattle.std.proofs.lemmas.List.{drop-drop}
use Rattle.std.specs.Prelude.{IfSome, slice_get}
use Rattle.script_columns.specs.Comparison.{agrees, agrees_first, lines_of}
use Rattle.tst_runner.specs.declared.standing.CompareFile.{CompareFile}
use Rattle.tst_runner.specs.Standing.{Compared}
use Rattle.tst_runner.specs.Inner.States.{AreFiles}

-- the line after this many is there, and agrees
abbrev pub AgreesAt : List (List ℕ) → ℕ → List ℕ → Type 0
AgreesAt lines n line = (compared : List ℕ) × (slice_get lines n ≡ Some compared) × (agrees compared line ≡ true)

pub AgreesAt-first : (lines : List (List ℕ)) (n : ℕ) (line : List ℕ) → agrees_first (drop n lines) line ≡ true → AgreesAt lines n line
AgreesAt-first [] zero line h = absurd (false≢true h)
AgreesAt-first [] (suc n) line h = absurd (false≢true h)
AgreesAt-first (compared ∷ lines) zero line h = (compared, refl, h)
AgreesAt-first (compared ∷ lines) (suc n) line h = AgreesAt-first lines n line h

pub first-AgreesAt : (lines : List (List ℕ)) (n : ℕ) (line : List ℕ) → AgreesAt lines n line → agrees_first (drop n lines) line ≡ true
first-AgreesAt [] zero line h = absurd (let bad : ⊥ = cc (h.1) in bad)
first-AgreesAt [] (suc n) line h = absurd (let bad : ⊥ = cc (h.1) in bad)
first-AgreesAt (compared ∷ lines) zero line h = let e : Some compared ≡ Some h.0 = h.1 in let f : compared ≡ h.0 = cc (e) in ap (λ x. agrees x line) f ∙ h.2
first-AgreesAt (compared ∷ lines) (suc n) line h = first-AgreesAt lines n line h

-- the line agrees with what is left of the file
pub file-agrees : (compared : Option Compared) (file : CompareFile) (lines n : ℕ) (line : List ℕ)
    → AreFiles (Some file) lines compared → lines ≡ n → agrees_first (lines_of (drop file.at file.text.items)) line ≡ true → IfSome compared (λ c. AgreesAt c.lines n line)
file-agrees None file lines n line h e a = absurd h
file-agrees (Some c) file lines n line h e a = AgreesAt-first c.lines n line (sym (ap (λ ls. agrees_first ls line) (h.left ∙ ap (λ k. drop k c.lines) e)) ∙ a)

-- or it does not
pub file-differs : (compared : Option Compared) (file : CompareFile) (lines n : ℕ) (line : List ℕ)
    → AreFiles (Some file) lines compared → lines ≡ n → agrees_first (lines_of (drop file.at file.text.items)) line ≡ false
    → (c : Compared) × (compared ≡ Some c) × (IfSome compared (λ c. AgreesAt c.lines n line) → ⊥) × (file.path ≡ c.path)
file-differs None file lines n line h e a = absurd h
file-differs (Some c) file lines n line h e a =
    (c, refl, λ k. false≢true (sym a ∙ ap (λ ls. agrees_first ls line) (h.left ∙ ap (λ m. drop m c.lines) e) ∙ first-AgreesAt c.lines n line k), h.path)

-- the file after its next line
pub AreFiles-next : (compared : Option Compared) (file : CompareFile) (lines k : ℕ)
    → AreFiles (Some file) lines compared → k ≤ length (drop file.at file.text.items) → lines_of (drop k (drop file.at file.text.items)) ≡ drop 1 (lines_of (drop file.at file.text.items))
    → AreFiles (Some (record file { at = file.at + k })) (lines + 1) compared
AreFiles-next None file lines k h within rest = absurd h
AreFiles-next (Some c) file lines k h within rest = record {
  path = h.path;
  within = omega (arith, h.within, length-drop file.at file.text.items);
  left = ap lines_of (sym (drop-drop k file.at file.text.items)) ∙ rest ∙ ap (λ ls. drop 1 ls) h.left ∙ drop-drop 1 lines c.lines;
}
