-- The names of a folder.
use Rattle.std.proofs.Common.{◌≡◌, ◌≤◌, ◌<◌, ◌-◌, ◌++◌, ℕ, true, false, List, [], ◌∷◌, Option, Some, None, length, take, refl, ◌∙◌, ap, arith}
use Rattle.std.specs.Prelude.{IfSome}
use Rattle.std.specs.List.Sorted.{IsPermutation, IsSorted}
use Rattle.std.specs.Ordering.{nat_cmp}
use Rattle.std.specs.Cmp.Lexicographic.{slice_cmp}
use Rattle.std.specs.Str.Pattern.{FindsTextSuffix, StripsSuffix}
use Rattle.std.proofs.lemmas.Str.Pattern.{ends_text}
use Rattle.outer_world.specs.Files.{Files, IsListing, path_in}
use Rattle.source_files.specs.Folder.{AreNames, ending_in, stem_of}

-- the path of a name, by whether the folder is the present one
pub path_here : (folder : List ℕ) → length folder ≡ 0 → (name : List ℕ) → folder ++ ([] ++ name) ≡ path_in folder name
path_here [] h name = refl
path_here (c ∷ folder) h name = absurd (omega (arith, h))

pub path_there : (folder : List ℕ) → 0 < length folder → (name : List ℕ) → folder ++ ((47 ∷ []) ++ name) ≡ path_in folder name
path_there [] h name = absurd (omega (arith, h))
path_there (c ∷ folder) h name = refl

-- names that end so, in order, of a listing
pub names_of : (told : Option Files) (folder ending : List ℕ) (all names : List (List ℕ)) → IfSome told (λ files. IsListing files folder all)
    → IsPermutation (ending_in ending all) names → IsSorted (slice_cmp nat_cmp) names → AreNames told folder ending names
names_of None folder ending all names listing moved sorted = (tt, sorted)
names_of (Some files) folder ending all names listing moved sorted = ((all, listing, moved), sorted)

-- ---- a name without its ending

pub stem_left : (name ending : List ℕ) → FindsTextSuffix ending name None → name ≡ stem_of ending name
stem_left name ending none = let test = ends_text false ending name none in rw (← test) refl

pub stem_cut : (name ending stem : List ℕ) → StripsSuffix (FindsTextSuffix ending) name stem → stem ≡ stem_of ending name
stem_cut name ending stem (n, found, cut, long) =
    let test = ends_text true ending name (n, found, (let below : n ≤ length name = omega (arith, long) in below), rw (found.0) found.2) in
    rw (← test) (cut ∙ ap (λ k. take (length name - k) name) found.0)
