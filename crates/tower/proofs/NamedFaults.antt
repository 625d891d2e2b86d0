-- Where the first fault of a list is none, none of its parts has one.
use Rattle.std.proofs.Common.{◌≡◌, ℕ, Bool, true, false, List, [], ◌∷◌, ◌++◌, Option, Some, None, refl, ap, ◌∙◌}
use Rattle.scan_text.specs.declared.Place.{Place}
use Rattle.name_table.specs.Names.{first_of}
use Rattle.jack_names.specs.Faults.{NameDiagnostic, Source, diagnostic_if}
use Rattle.jack_names.specs.Inner.Uses.{Use}
use Rattle.jack_names.specs.Inner.Scopes.{Scope, use_fault, first_fault, kind_if}
use Rattle.jack_names.specs.declared.fault.NameKind.{NameKind}

pub none_both : {A : Type 0} (a b : Option A) → first_of a b ≡ None → (a ≡ None) × (b ≡ None)
none_both None b h = (refl, h)
none_both (Some a) b h = absurd cc

pub uses_both : (s : Scope) (xs ys : List Use) → first_fault s (xs ++ ys) ≡ None → (first_fault s xs ≡ None) × (first_fault s ys ≡ None)
uses_both s [] ys h = (refl, h)
uses_both s (x ∷ xs) ys h =
    let a = none_both (use_fault s x) (first_fault s (xs ++ ys)) h in
    let b = uses_both s xs ys a.1 in
    (ap (λ (o : Option NameDiagnostic). first_of o (first_fault s xs)) a.0 ∙ b.0, b.1)

-- one use before others
pub first_use : (s : Scope) (x : Use) (xs : List Use) → first_fault s (x ∷ xs) ≡ None → (use_fault s x ≡ None) × (first_fault s xs ≡ None)
first_use s x xs h = none_both (use_fault s x) (first_fault s xs) h

pub told_none : (source : Source) (name : List ℕ) (at : Place) (k : Option NameKind) → diagnostic_if source name at k ≡ None → k ≡ None
told_none source name at None h = refl
told_none source name at (Some k) h = absurd cc

pub kind_none : (b : Bool) (k : NameKind) → kind_if b k ≡ None → b ≡ false
kind_none true k h = absurd cc
kind_none false k h = refl
