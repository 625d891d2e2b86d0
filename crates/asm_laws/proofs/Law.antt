-- The two passes, and what they give.
use Rattle.std.proofs.Common.{◌≡◌, ◌<◌, ◌≤◌, ℕ, ◌+◌, ◌-◌, ◌++◌, Bool, true, false, List, [], ◌∷◌, Option, Some, None, Result, Ok, Err, length, refl, sym, ap, subst, ◌∙◌, ◌⊎◌, inl, inr, arith, if◌then◌else◌}
use Rattle.std.specs.Prelude.{nat_lt}
use Rattle.std.proofs.lemmas.Bool.{lt-ltb, ltb-true, ltb-false}
use Rattle.std.proofs.lemmas.Bool.Decides.{nat_tests}
use Rattle.scan_text.specs.declared.Place.{Place}
use Rattle.grammar.specs.declared.Fault.{Fault}
use Rattle.hack_isa.specs.Machine.{image_words}
use Rattle.hack_asm.specs.Faults.{Wrong, LabelTwice, TooLarge, TooManyVariables, wrong}
use Rattle.hack_asm.specs.Meaning.{Means}
use Rattle.hack_asm.specs.Program.{Table, first_past, if_near, label_values, labels, program, size, variables, with_variables, words}
use Rattle.hack_asm.specs.Trees.{Line, Spells, Refuses, label}
use Rattle.asm_laws.specs.Symbols.{AreVariables, label_line}
use Rattle.asm_laws.specs.Assembly.{AreWords, Assembles, AssemblyLaw, IsTaken, LabelsAreNew, NoneIsPast, TextLaw, label_twice, past, too_large, too_many, words as has_words}
use Rattle.outer_world.proofs.Splits.{first, same, second, splits}
use Rattle.asm_laws.proofs.Labels.{Entered, Walked, entered, repeated, same_label, walked}
use Rattle.asm_laws.proofs.Past.{PastUse, a_use, no_use, none_past, one_past, past_uses}
use Rattle.asm_laws.proofs.Variables.{Assigned, assigned}
use Rattle.asm_laws.proofs.Words.{are_words, as_many_variables, same_words}

not_above : (a n : ℕ) → n ≤ a → nat_lt a n ≡ false
not_above a n h = grind (arith, nat_tests)

-- what is more than the labels
more_by : (a b c : ℕ) → a ≡ b + c → a - b ≡ c
more_by a b c e = omega arith

-- ---- what the passes give is so

module _ (ls : List Line) (t : Table) (h : Entered ls t) (fits : size ls ≤ image_words) where
  with_all : (n : ℕ) (all : Table) → Assigned ls ls t all n → NoneIsPast ls ls → Assembles ls (with_variables t all ls)
  with_all n all k near =
      let more = more_by (length all) (length t) (length k.names) k.count in
      subst (λ (j : ℕ). Assembles ls (if nat_lt 16368 j then Err (TooManyVariables j) else Ok (words all ls))) (sym more) (by (nat_lt 16368 (length k.names)) refl)
    where
      by : (b : Bool) → nat_lt 16368 (length k.names) ≡ b → Assembles ls (if b then Err (TooManyVariables (length k.names)) else Ok (words all ls))
      by true e = too_many k.names h.new fits near k.are (ltb-true 16368 (length k.names) e)
      by false e =
          let few : length k.names ≤ 16368 = ltb-false 16368 (length k.names) e in
          has_words k.names h.new fits near k.are few (are_words ls t all n k fits near few ls (λ m u. u))

  nearly : (o : Option Place) → PastUse ls ls o → Assembles ls (if_near o t ls)
  nearly None (no_use near) = let k = assigned ls t h in with_all k.0 (variables 16 t ls) k.1 near
  nearly (Some p) (a_use before behind name q here s none) = past before behind name q h.new fits here s none

pub gives : (ls : List Line) → Assembles ls (program ls)
gives ls = by (labels 0 [] ls) (walked ls)
  where
    by : (r : Result Table Wrong) → Walked ls r → Assembles ls (label_values r ls)
    by (Err w) (repeated before behind name p here new taken) = label_twice before behind name p here new taken
    by (Ok t) (entered h) = test (nat_lt image_words (size ls)) refl
      where
        test : (b : Bool) → nat_lt image_words (size ls) ≡ b → Assembles ls (if b then Err (TooLarge (size ls)) else if_near (first_past t ls) t ls)
        test true e = too_large h.new (ltb-true image_words (size ls) e)
        test false e = nearly ls t h (ltb-false image_words (size ls) e) (first_past t ls) (past_uses ls t h ls)

-- ---- and nothing else

-- what holds of the labels where they are new
pub record Labelled (ls : List Line) : Type 0 where
  pub table : Table
  pub is : Entered ls table
  pub given : labels 0 [] ls ≡ Ok table

labelled : (ls : List Line) → LabelsAreNew ls → Labelled ls
labelled ls new = by (labels 0 [] ls) refl (walked ls)
  where
    by : (r : Result Table Wrong) → labels 0 [] ls ≡ r → Walked ls r → Labelled ls
    by (Err w) e (repeated before behind name p here k taken) = absurd (new before behind name p here taken)
    by (Ok t) e (entered h) = record { table = t; is = h; given = e }

twice : (ls before behind : List Line) (name : List ℕ) (at : Place) → ls ≡ before ++ label_line name at ∷ behind → LabelsAreNew before → IsTaken before name → Err (LabelTwice name at) ≡ program ls
twice ls before behind name p here new taken = by (labels 0 [] ls) (walked ls)
  where
    place_of : Line → Place
    place_of (Some (label s)) = s.place
    place_of _ = p

    told : List ℕ → Place → Result (List ℕ) Wrong
    told n q = Err (LabelTwice n q)

    by : (r : Result Table Wrong) → Walked ls r → Err (LabelTwice name p) ≡ label_values r ls
    by (Ok t) (entered h) = absurd (h.new before behind name p here taken)
    by (Err w) (repeated b c m q here' new' taken') = elim (splits before behind b c (label_line name p) (label_line m q) (sym here ∙ here')) [
      | same e f ↦ ap (λ (n : List ℕ). told n p) (same_label name m p q f) ∙ ap (λ (z : Place). told m z) (ap place_of f)
      | first d e ↦ absurd (new' before d name p e taken)
      | second d e ↦ absurd (new b d m q e taken')
    ]

module _ (ls : List Line) (k : Labelled ls) where
  large : image_words < size ls → Err (TooLarge (size ls)) ≡ program ls
  large h = sym (ap (λ (r : Result Table Wrong). label_values r ls) k.given ∙ ap (λ (b : Bool). if b then Err (TooLarge (size ls)) else if_near (first_past k.table ls) k.table ls) (lt-ltb image_words (size ls) h))

  small : size ls ≤ image_words → program ls ≡ if_near (first_past k.table ls) k.table ls
  small h = ap (λ (r : Result Table Wrong). label_values r ls) k.given ∙ ap (λ (b : Bool). if b then Err (TooLarge (size ls)) else if_near (first_past k.table ls) k.table ls) (not_above image_words (size ls) h)

  near : size ls ≤ image_words → NoneIsPast ls ls → program ls ≡ with_variables k.table (variables 16 k.table ls) ls
  near h none = small h ∙ ap (λ (o : Option Place). if_near o k.table ls) (none_past ls k.table k.is none)

  module _ (fits : size ls ≤ image_words) (none : NoneIsPast ls ls) (names : List (List ℕ)) (are : AreVariables ls ls names) where
    counted : length (variables 16 k.table ls) - length k.table ≡ length names
    counted =
        let a = (assigned ls k.table k.is).1 in
        more_by (length (variables 16 k.table ls)) (length k.table) (length a.names) a.count ∙ as_many_variables ls k.is.new ls a.names names a.are are

    by_count : program ls ≡ (if nat_lt 16368 (length names) then Err (TooManyVariables (length names)) else Ok (words (variables 16 k.table ls) ls))
    by_count = near fits none ∙ ap (λ (n : ℕ). if nat_lt 16368 n then Err (TooManyVariables n) else Ok (words (variables 16 k.table ls) ls)) counted

    many : 16368 < length names → Err (TooManyVariables (length names)) ≡ program ls
    many h = sym (by_count ∙ ap (λ (b : Bool). if b then Err (TooManyVariables (length names)) else Ok (words (variables 16 k.table ls) ls)) (lt-ltb 16368 (length names) h))

    few : (ws : List ℕ) → length names ≤ 16368 → AreWords ls ls ws → Ok ws ≡ program ls
    few ws h w =
        let a = assigned ls k.table k.is in
        let same_count = as_many_variables ls k.is.new ls a.1.names names a.1.are are in
        let less : length a.1.names ≤ 16368 = subst (λ (n : ℕ). n ≤ 16368) (sym same_count) h in
        ap Ok (same_words ls k.table (variables 16 k.table ls) a.0 a.1 fits none less k.is.new ls ws w (λ m u. u))
        ∙ sym (by_count ∙ ap (λ (b : Bool). if b then Err (TooManyVariables (length names)) else Ok (words (variables 16 k.table ls) ls)) (not_above 16368 (length names) h))

pub exact : (ls : List Line) (r : Result (List ℕ) Wrong) → Assembles ls r → r ≡ program ls
exact ls r (label_twice before behind name p here new taken) = twice ls before behind name p here new taken
exact ls r (too_large new large_size) = large ls (labelled ls new) large_size
exact ls r (past before behind name p new fits here s none) =
    let k = labelled ls new in
    sym (small ls k fits ∙ ap (λ (o : Option Place). if_near o k.table ls) (one_past ls k.table k.is before behind name p here s none))
exact ls r (too_many names new fits none are h) = many ls (labelled ls new) fits none names are h
exact ls r (has_words names {ws = ws} new fits none are h w) = few ls (labelled ls new) fits none names are ws h w

pub law : AssemblyLaw
law ls r = (exact ls r, λ e. subst (Assembles ls) (sym e) (gives ls))

pub text_law : TextLaw
text_law text r = (there, back)
  where
    there : Means text r → ((lines : List Line) × Spells text lines × Assembles lines r) ⊎ ((f : Fault) × Refuses text f × (r ≡ Err (wrong f)))
    there (inl k) = inl (k.0, k.1, (law k.0 r).1 k.2)
    there (inr k) = inr k

    back : ((lines : List Line) × Spells text lines × Assembles lines r) ⊎ ((f : Fault) × Refuses text f × (r ≡ Err (wrong f))) → Means text r
    back (inl k) = inl (k.0, k.1, (law k.0 r).0 k.2)
    back (inr k) = inr k
