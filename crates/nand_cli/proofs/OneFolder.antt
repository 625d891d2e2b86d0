-- The classes of a folder are one list: where they are well named the folder is not refused. And a key script that spells lines is not refused.
use Rattle.std.proofs.Common.{◌≡◌, ℕ, List, [], ◌∷◌, Option, Some, None, codes, map, refl, sym, ◌∙◌, ap}
use Rattle.outer_world.specs.Files.{Files}
use Rattle.key_script.specs.Grammar.{ReadingLaw as KeyLaw, Spells as SpellsLines}
use Rattle.key_script.specs.declared.lines.Line.{Line}
use Rattle.jack_tree.specs.Syntax.{ClassFile}
use Rattle.jack_parser.specs.Spelled.{ClassLaw}
use Rattle.jack_names.specs.NameFaults.{IsWellNamed}
use Rattle.jack_os.specs.System.{AreFilesOf}
use Rattle.tower.specs.Sources.{system_beside}
use Rattle.tower.proofs.Beside.{one_beside}
use Rattle.command_line.specs.Line.{Source}
use Rattle.source_files.specs.Sources.{IsUnread}
use Rattle.source_files.proofs.Once.{never_both, never_unread, one_folder}
use Rattle.jack_parser.specs.Language.{RefusesClass, SpellsFile}
use Rattle.key_script.specs.Language.{RefusesKeys}
use Rattle.nand_cli.specs.JackFolder.{FolderIsRefused, HasClasses, IsMeaningless, meaningless, unread}
use Rattle.nand_cli.specs.Commands.Run.{HasKeys, ScriptIsRefused}
use Rattle.nand_cli.proofs.FirstPlace.{none_by_place}
use Rattle.nand_cli.proofs.ReadOnce.{class_once, keys_once}

pub same_list : {A : Type 0} (xs : List A) → map (λ (x : A). x) xs ≡ xs
same_list [] = refl
same_list (x ∷ xs) = ap (λ ys. x ∷ ys) (same_list xs)

-- ---- the program of classes

module _ (own own' : List ClassFile) (same : own ≡ own') where
  pub never_wrong : (source : Source) (line : List ℕ) (os : List ClassFile) → AreFilesOf (system_beside source.replace own) os → IsWellNamed own os → IsMeaningless source own' line → ⊥
  never_wrong source line os are well (os', t, are', first, e) = none_by_place own own' os os' t same (one_beside source.replace own own' os os' same are are') first well

-- ---- the classes of a folder

module _ (law : ClassLaw) (files : Files) (folder : List ℕ) where
  pub one_list_of_classes : (own own' : List ClassFile) → HasClasses (Some files) folder own → HasClasses (Some files) folder own' → own ≡ own'
  one_list_of_classes own own' h k =
      sym (same_list own) ∙ one_folder SpellsFile RefusesClass (λ (c : ClassFile). c) (class_once law) files folder (codes ".jack") own own' h k ∙ same_list own'

  pub never_unread_classes : (own : List ClassFile) (line : List ℕ) → HasClasses (Some files) folder own → IsUnread SpellsFile RefusesClass (codes ".jack") (Some files) folder line → ⊥
  never_unread_classes own line has h = never_unread SpellsFile RefusesClass (λ (c : ClassFile). c) (class_once law) files folder (codes ".jack") own line has h

module _ (law : ClassLaw) (files : Files) (source : Source) where
  pub never_meaningless : (own os : List ClassFile) (line : List ℕ) → HasClasses (Some files) source.folder own → AreFilesOf (system_beside source.replace own) os → IsWellNamed own os
      → FolderIsRefused (Some files) source line → ⊥
  never_meaningless own os line has are well (unread k) = never_unread_classes law files source.folder own line has k
  never_meaningless own os line has are well (meaningless own' has' k) =
      never_wrong own own' (one_list_of_classes law files source.folder own own' has has') source line os are well k

-- ---- keys

module _ (law : KeyLaw) (files : Files) where
  pub never_scripted : (path : Option (List ℕ)) (ls : List Line) (line : List ℕ) → HasKeys (Some files) path ls → ScriptIsRefused (Some files) path line → ⊥
  never_scripted None ls line h k = k
  never_scripted (Some path) ls line h k = never_both (λ (name text : List ℕ) (keys : List Line). SpellsLines text keys) RefusesKeys (λ (keys : List Line). keys) (keys_once law) files [] path ls line h k
