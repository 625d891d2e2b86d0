-- Too many static words are more than 240.
use Rattle.std.proofs.Common.{◌≡◌, ◌<◌, ◌-◌, ◌^◌, ℕ, min, Bool, true, false, List, ◌∷◌, Option, Some, None, Err, length, refl, ap, arith, option_map}
use Rattle.std.specs.Prelude.{nat_lt, if◌then◌else◌}
use Rattle.std.specs.Option.{option_or}
use Rattle.std.proofs.lemmas.Bool.Decides.{nat_tests}
use Rattle.vm_tree.specs.declared.program.File.{File}
use Rattle.vm_link.specs.declared.fault.LinkFault.TheVariants.{LabelTwice, NoFunction, NoLabel, NoSysInit, TooManyStatics, TwiceDefined}
use Rattle.vm_link.specs.Faults.{first_of, no_function, too_many, words_before}
use Rattle.vm_link.specs.Reached.{Keeps, Reached, dropped, kept, none}
use Rattle.vm_link.specs.Sections.{Section, sections}
use Rattle.vm_link.specs.Links.{Links, faulty, kept_faulty}
use Rattle.nand_cli.specs.Complete.{HasStatics}

-- what is kept is one list
kept_once : (P : ℕ → Type 0) {i : ℕ} {ss ks ls : List Section} → Keeps P i ss ks → Keeps P i ss ls → ks ≡ ls
kept_once P none none = refl
kept_once P (kept {s = s} p r) (kept q t) = ap (λ z. s ∷ z) (kept_once P r t)
kept_once P (kept p r) (dropped n t) = absurd (n p)
kept_once P (dropped n r) (kept q t) = absurd (n q)
kept_once P (dropped n r) (dropped m t) = kept_once P r t

over_by : (n w : ℕ) (b : Bool) → nat_lt 240 n ≡ b → (if b then Some (TooManyStatics (min n (2 ^ 64 - 1))) else None) ≡ Some (TooManyStatics w) → 240 < n
over_by n w true e h = grind (arith, nat_tests, e)
over_by n w false e h = absurd (let no : ⊥ = cc in no)

-- the fault of what is kept
kept_over : (called : Option (List ℕ)) (n w : ℕ) → option_or (option_map NoFunction called) (too_many n) ≡ Some (TooManyStatics w) → 240 < n
kept_over (Some name) n w e = absurd (let no : ⊥ = cc in no)
kept_over None n w e = over_by n w (nat_lt 240 n) refl e

-- no fault of a text is one of statics
pub not_of_text : (twice label goto : Option (List ℕ)) (starts : Bool) (w : ℕ)
    → option_or (option_map TwiceDefined twice) (option_or (option_map LabelTwice label) (option_or (option_map NoLabel goto) (if starts then None else Some NoSysInit))) ≡ Some (TooManyStatics w) → ⊥
not_of_text (Some name) label goto starts w e = let no : ⊥ = cc in no
not_of_text None (Some name) goto starts w e = let no : ⊥ = cc in no
not_of_text None None (Some name) starts w e = let no : ⊥ = cc in no
not_of_text None None None true w e = let no : ⊥ = cc in no
not_of_text None None None false w e = let no : ⊥ = cc in no

pub statics_over : (files : List File) (w words : ℕ) → Links false files (Err (TooManyStatics w)) → HasStatics files words → 240 < words
statics_over files w words (faulty e) has = absurd (not_of_text _ _ _ _ w e)
statics_over files w words (kept_faulty ks text are e) (ls, also, same) =
    let one = kept_once (Reached (sections false files)) are also in
    let over = kept_over (first_of (no_function (sections false files)) ks) (words_before ks (length files)) w e in
    omega (arith, same, over, ap (λ k. words_before k (length files)) one)
