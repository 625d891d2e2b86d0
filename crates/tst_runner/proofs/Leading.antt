-- Names are taken one after another.
use Rattle.std.proofs.Common.{◌≡◌, ◌++◌, ℕ, Bool, true, false, List, [], ◌∷◌, Option, Some, None, Bor, refl, sym, ap, subst, ◌∙◌, inl, inr, length, append-nil}
use Rattle.std.specs.Prelude.{codes, is_some, reverse, MatchOption}
use Rattle.std.specs.Str.{bytes_eq}
use Rattle.std.proofs.lemmas.Bool.Decides.{same_from_decides}
use Rattle.std.proofs.lemmas.List.{append_cancel_right, nil_from_length, reverse-append}
use Rattle.std.proofs.lemmas.Slice.Eq.{bytes_eq-Decides}
use Rattle.hdl_tree.specs.declared.library.Entry.{Entry}
use Rattle.hdl_tree.specs.Chips.{find_entry}
use Rattle.tst_runner.specs.Gathering.{Sources, IsFound, IsTaken, file_of, needed_names, one_more, later}
use Rattle.tst_runner.specs.Inner.Gathered.{IsNowhere, Leads}

-- ---- the file of a chip

not_true : (b : Bool) → (b ≡ true → ⊥) → false ≡ b
not_true true h = absurd (h refl)
not_true false h = refl

pub other_file : (name file : List ℕ) → ((front : List ℕ) → file ≡ front ++ codes ".hdl" → ⊥) → false ≡ bytes_eq (file_of name) file
other_file name file other = not_true _ (λ same. other name (sym ((bytes_eq-Decides (file_of name) file).0 same)))

pub same_file : (name stem file : List ℕ) → file ≡ stem ++ codes ".hdl" → bytes_eq name stem ≡ bytes_eq (file_of name) file
same_file name stem file is =
    let names = bytes_eq-Decides name stem in
    let files = bytes_eq-Decides (file_of name) file in
    same_from_decides (bytes_eq name stem) (bytes_eq (file_of name) file) names (λ e. append_cancel_right name stem (codes ".hdl") (files.0 e ∙ is), λ e. files.1 (ap file_of e ∙ sym is))

-- ---- from names to names

module _ {from : Sources} {first : List (List ℕ)} {before : List Entry} where
  -- a name that nothing is found for any more
  passed : {name : List ℕ} {names : List (List ℕ)} {entries : List Entry} → IsTaken from name entries [] entries → Leads from first before (name ∷ names) entries → Leads from first before names entries
  passed taken leads = record { gathers = λ all g. leads.gathers all (one_more [] taken g); fails = λ line g. leads.fails line (later [] taken g) }

  pub past_known : {name : List ℕ} {names : List (List ℕ)} {entries : List Entry} (entry : Entry) → find_entry entries name ≡ Some entry → Leads from first before (name ∷ names) entries → Leads from first before names entries
  past_known entry known leads = passed (inl (entry, known, refl, refl)) leads

  pub past_nowhere : {name : List ℕ} {names : List (List ℕ)} {entries : List Entry} → find_entry entries name ≡ None → IsNowhere from name → Leads from first before (name ∷ names) entries → Leads from first before names entries
  past_nowhere new nowhere leads = passed (inr (inr (new, nowhere.0, nowhere.1, refl, refl))) leads

  -- a name whose chip is found
  pub past_found : {name : List ℕ} {names : List (List ℕ)} {entries : List Entry} (entry : Entry) → find_entry entries name ≡ None → IsFound from name entry → Leads from first before (name ∷ names) entries → Leads from first before (needed_names from.memories entry ++ names) (entries ++ entry ∷ [])
  past_found {name} {names} {entries} entry new found leads =
      let taken : IsTaken from name entries (needed_names from.memories entry) (entries ++ entry ∷ []) = inr (inl (new, (entry, found, refl, refl))) in
      record { gathers = λ all g. leads.gathers all (one_more (needed_names from.memories entry) taken g); fails = λ line g. leads.fails line (later (needed_names from.memories entry) taken g) }

pub leads_nowhere_else : (from : Sources) (names : List (List ℕ)) (entries : List Entry) → Leads from names entries names entries
leads_nowhere_else from names entries = record { gathers = λ all g. g; fails = λ line g. g }

-- ---- stacks of names

pub on_pop : (from : Sources) (first : List (List ℕ)) (before entries : List Entry) (old new : List (List ℕ)) (name : List ℕ) → old ≡ new ++ name ∷ [] → Leads from first before (reverse old) entries → Leads from first before (name ∷ reverse new) entries
on_pop from first before entries old new name e leads =
    subst (λ (names : List (List ℕ)). Leads from first before names entries) (ap reverse e ∙ reverse-append new (name ∷ [])) leads

pub at_bottom : (from : Sources) (first : List (List ℕ)) (before entries : List Entry) (old new : List (List ℕ)) → old ≡ new ++ [] → length new ≡ 0 → Leads from first before (reverse old) entries → Leads from first before [] entries
at_bottom from first before entries old new e none leads =
    let empty : old ≡ [] = e ∙ (append-nil new ∙ nil_from_length new none) in
    subst (λ (names : List (List ℕ)). Leads from first before names entries) (ap reverse empty) leads
