-- The classes of a folder: the trees that the code reads, and what is seen of them.
use Rattle.std.proofs.Common.{◌≡◌, ◌≤◌, ℕ, zero, suc, List, [], ◌∷◌, Option, Some, length, map, codes, sym, ap, subst, refl, inl, inr}
use Rattle.outer_world.specs.Files.{Files}
use Rattle.jack_tree.specs.declared.tree.Class.{Class}
use Rattle.jack_tree.specs.Syntax.{ClassFile}
use Rattle.jack_tree.specs.Seen.{the_file}
use Rattle.jack_parser.specs.Spelled as spelled
use Rattle.jack_places.specs.Rising as places
use Rattle.tower.specs.Spelled.{AreSpelled}
use Rattle.jack_os.specs.System.{SpellsClass}
use Rattle.source_files.specs.Sources.{FolderSpells, IsUnread, SpellEach}
use Rattle.nand_cli.specs.JackFolder.{HasClasses}
use Rattle.jack_parser.specs.Language.{RefusesClass, SpellsFile}

-- the trees that the Jack files of the folder spell
abbrev pub HasTrees : Option Files → List ℕ → List Class → Type 0
HasTrees files folder classes = FolderSpells SpellsClass (codes ".jack") files folder classes

as_many : {A : Type 0} (spells : List ℕ → List ℕ → A → Type 0) (files : Option Files) (folder : List ℕ) (names : List (List ℕ)) (sources : List A) → SpellEach spells files folder names sources → length sources ≡ length names
as_many spells files folder [] [] h = refl
as_many spells files folder (n ∷ names) (s ∷ sources) h = ap suc (as_many spells files folder names sources h.1)
as_many spells files folder [] (s ∷ sources) h = absurd h
as_many spells files folder (n ∷ names) [] h = absurd h

pub few_classes : (files : Option Files) (folder : List ℕ) (classes : List Class) → HasTrees files folder classes → length classes ≤ 256
few_classes files folder classes (names, are, spelled) = subst (λ n. n ≤ 256) (sym (as_many SpellsClass files folder names classes spelled)) are.1

-- ---- what is seen of the trees

seen_each : (files : Option Files) (folder : List ℕ) (names : List (List ℕ)) (classes : List Class) → SpellEach SpellsClass files folder names classes → SpellEach SpellsFile files folder names (map the_file classes)
seen_each files folder [] [] h = tt
seen_each files folder (n ∷ names) (c ∷ classes) h = (h.0, seen_each files folder names classes h.1)
seen_each files folder [] (c ∷ classes) h = absurd h
seen_each files folder (n ∷ names) [] h = absurd h

pub seen_classes : (files : Option Files) (folder : List ℕ) (classes : List Class) → HasTrees files folder classes → HasClasses files folder (map the_file classes)
seen_classes files folder classes (names, are, spelled) = (names, are, seen_each files folder names classes spelled)

pub seen_unread : (files : Option Files) (folder line : List ℕ) → IsUnread SpellsClass RefusesClass (codes ".jack") files folder line → IsUnread SpellsFile RefusesClass (codes ".jack") files folder line
seen_unread files folder line (inl h) = inl h
seen_unread files folder line (inr (names, are, (before, name, after, sources, e, spelled, faulty))) =
    inr (names, are, (before, name, after, map the_file sources, e, seen_each files folder before sources spelled, faulty))

-- ---- each is spelled

each_spelled : (files : Option Files) (folder : List ℕ) (names : List (List ℕ)) (classes : List Class) → SpellEach SpellsFile files folder names (map the_file classes) → AreSpelled classes
each_spelled files folder [] [] h = tt
each_spelled files folder (n ∷ names) (c ∷ classes) ((text, has, spelled), rest) = ((text, spelled.0), each_spelled files folder names classes rest)
each_spelled files folder [] (c ∷ classes) h = absurd h
each_spelled files folder (n ∷ names) [] h = absurd h

pub spelled_classes : (files : Option Files) (folder : List ℕ) (classes : List Class) → HasClasses files folder (map the_file classes) → AreSpelled classes
spelled_classes files folder classes (names, are, spelled) = each_spelled files folder names classes spelled

same_file : (c d : ClassFile) → ◌≡◌ {A = Option ClassFile} (Some c) (Some d) → c ≡ d
same_file c d e = cc

-- so each place in the list has a text
pub placed : (classes : List Class) → AreSpelled classes → places.AreSpelled (map the_file classes)
placed [] h i c e = absurd cc
placed (d ∷ classes) h zero c e = subst (λ (x : ClassFile). (text : List ℕ) × spelled.SpellsClass text x.class) (same_file (the_file d) c e) h.0
placed (d ∷ classes) h (suc i) c e = placed classes h.1 i c e

-- ---- so of the classes themselves

each_own : (files : Option Files) (folder : List ℕ) (names : List (List ℕ)) (own : List ClassFile) → SpellEach SpellsFile files folder names own → places.AreSpelled own
each_own files folder [] [] h i d e = absurd cc
each_own files folder (n ∷ names) [] h i d e = absurd h
each_own files folder [] (c ∷ own) h i d e = absurd h
each_own files folder (n ∷ names) (c ∷ own) h zero d e = (h.0.0, subst (λ (z : ClassFile). spelled.SpellsClass h.0.0 z.class) (same_file c d e) h.0.2.0)
each_own files folder (n ∷ names) (c ∷ own) h (suc i) d e = each_own files folder names own h.1 i d e

pub spelled_own : (files : Option Files) (folder : List ℕ) (own : List ClassFile) → HasClasses files folder own → places.AreSpelled own
spelled_own files folder own (names, are, h) = each_own files folder names own h
