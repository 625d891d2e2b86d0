-- The folder of a generated program has its class alone.
use Rattle.std.proofs.Common.{◌≡◌, ◌≤◌, ℕ, Bool, true, false, cond, List, [], ◌∷◌, Some, None, refl, sym, ap, ◌∙◌, codes, map, arith, lit≤}
use Rattle.std.specs.Prelude.{◌||◌, is_some}
use Rattle.std.specs.Str.{bytes_eq}
use Rattle.std.proofs.lemmas.List.Sorted.{IsPermutation-refl}
use Rattle.std.proofs.lemmas.Slice.Eq.{bytes_eq-Decides}
use Rattle.outer_world.specs.Files.{IsListing, file_at, has_name, has_slash, path_in}
use Rattle.jack_tree.specs.Syntax.{Class}
use Rattle.jack_tree.specs.Seen.{the_file}
use Rattle.jack_parser.specs.Spelled.{ClassLaw, SpellsClass}
use Rattle.jack_core.specs.declared.program.Core.{Core}
use Rattle.tower.specs.Existence.{FilesMean}
use Rattle.soak_laws.specs.Named.{folder_of}
use Rattle.nand_cli.specs.Commands.Soak.{soak_files, soak_folder, soak_source}
use Rattle.nand_cli.specs.JackFolder.{FolderMeans, HasClasses}
use Rattle.nand_cli.proofs.OneFolder.{one_list_of_classes}

abbrev main : List ℕ
main = codes "Main.jack"

-- a test of two texts, either way round
turned : (a b : List ℕ) (x : Bool) → bytes_eq a b ≡ x → bytes_eq b a ≡ x
turned a b true e = (bytes_eq-Decides b a).1 (sym ((bytes_eq-Decides a b).0 e))
turned a b false e = by (bytes_eq b a) refl
  where
    by : (y : Bool) → bytes_eq b a ≡ y → y ≡ false
    by false d = refl
    by true d = let both : bytes_eq a b ≡ true = (bytes_eq-Decides a b).1 (sym ((bytes_eq-Decides b a).0 d)) in let no : ⊥ = cc in absurd no

module _ (text : List ℕ) where
  there_by : (b : Bool) → is_some (cond b (Some text) None) ≡ b
  there_by true = refl
  there_by false = refl

  or_none : (b : Bool) → (b || false) ≡ b
  or_none true = refl
  or_none false = refl

  each_name : (name : List ℕ) → has_name (main ∷ []) name ≡ is_some (file_at (soak_files text) (path_in soak_folder name))
  each_name name = or_none (bytes_eq name main) ∙ turned main name (bytes_eq main name) refl ∙ sym (there_by (bytes_eq main name))

  no_slash_by : (name : List ℕ) → has_name (main ∷ []) name ≡ true → has_slash name ≡ false
  no_slash_by name h =
      let same : name ≡ main = (bytes_eq-Decides name main).0 (sym (or_none (bytes_eq name main)) ∙ h) in ap has_slash same

  pub listing : IsListing (soak_files text) soak_folder (main ∷ [])
  listing = record { each = λ name other. each_name name; no_slash = no_slash_by; once = (refl, tt) }

  pub has_classes : (c : Class) → SpellsClass text c → HasClasses (Some (soak_files text)) soak_folder (folder_of c)
  has_classes c spells = (
    main ∷ [],
    (((main ∷ [], listing, IsPermutation-refl (main ∷ [])), λ k d from_on below. absurd (omega (arith, below))), lit≤ tt),
    ((text, refl, (spells, refl)), tt),
  )

  pub files_mean : ClassLaw → (c : Class) (core : Core) → SpellsClass text c → FolderMeans (Some (soak_files text)) soak_source core → FilesMean false (folder_of c) core
  files_mean law c core spells (classes, has, means) =
      (classes, one_list_of_classes law (soak_files text) soak_folder (map the_file classes) (folder_of c) has (has_classes c spells), means)
