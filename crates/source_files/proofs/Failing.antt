-- A fault of the shelf comes of a call that is needed.
use Rattle.std.proofs.Common.{◌≡◌, ◌+◌, ◌++◌, ℕ, suc, Bool, List, ◌∷◌, Option, Result, Ok, Err, length, subst, inl, inr, arith}
use Rattle.outer_world.specs.Files.{Files, LacksFile, LacksFolder, path_in}
use Rattle.source_files.specs.Folder.{AreSources}
use Rattle.source_files.specs.Loads.{FailsFor, SpendsOne}
use Rattle.source_files.specs.Sources.{FailsAtOne, FailsInOrder, SpellEach}
use Rattle.source_files.specs.declared.error.LoadError.{LoadError}
use Rattle.source_files.specs.declared.error.LoadError.TheVariants as errors

-- the calls left after one more
pub one_more : (first now later : ℕ → Type 0) (at : ℕ) → ((n : ℕ) → first (at + n) → now n) → ((n : ℕ) → now (suc n) → later n) → (n : ℕ) → first (at + 1 + n) → later n
one_more first now later at left spends n few = let e : at + 1 + n ≡ at + suc n = omega arith in spends n (left (suc n) (subst first e few))

-- the first text that the shelf does not give
pub text_failed : {A : Type 0} (spells : List ℕ → List ℕ → A → Type 0) (files : Option Files) (first now : ℕ → Type 0) (folder : List ℕ) (names before after : List (List ℕ)) (name : List ℕ) (sources : List A)
    (e : LoadError) → names ≡ before ++ name ∷ after → SpellEach spells files folder before sources → ((n : ℕ) → first (length before + n) → now n)
    → SpendsOne {A = Unit {0}} now now (LacksFile files (path_in folder name)) (Err e) → FailsFor {A = Unit {0}} (FailsAtOne spells first files folder names) (Err e)
text_failed spells files first now folder names before after name sources (errors.Refused r) is spelled left h = tt
text_failed spells files first now folder names before after name sources errors.Failed is spelled left h = (before, name, after, sources, is, spelled, λ few. h (left 1 few))
text_failed spells files first now folder names before after name sources errors.Memory is spelled left h = tt

module _ {A : Type 0} (spells : List ℕ → List ℕ → A → Type 0) (ending : List ℕ) (unfailing : ℕ → Type 0) (files : Option Files) (there : List ℕ → Bool) (folder : List ℕ) where
  -- the listing fails
  pub listing_failed : (e : LoadError) → SpendsOne {A = Unit {0}} unfailing unfailing (LacksFolder files there folder) (Err e) → FailsFor {A = Unit {0}} (FailsInOrder spells ending unfailing files there folder) (Err e)
  listing_failed (errors.Refused r) h = tt
  listing_failed errors.Failed h = inl h
  listing_failed errors.Memory h = tt

  -- a file of those that are listed is not given
  pub listed_failed : {B : Type 0} (now : ℕ → Type 0) (names : List (List ℕ)) (r : Result B LoadError) → AreSources files folder ending names → ((n : ℕ) → unfailing (suc n) → now n)
      → FailsFor (FailsAtOne spells now files folder names) r → FailsFor (FailsInOrder spells ending unfailing files there folder) r
  listed_failed now names (Ok b) are left h = tt
  listed_failed now names (Err (errors.Refused r)) are left h = tt
  listed_failed now names (Err errors.Failed) are left (before, name, after, sources, is, spelled, lacks) = inr (names, are, (before, name, after, sources, is, spelled, λ few. lacks (left (length before + 1) few)))
  listed_failed now names (Err errors.Memory) are left h = tt
