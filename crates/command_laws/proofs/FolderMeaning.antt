-- A folder with well named classes means a program.
use Rattle.std.proofs.Common.{◌≡◌, ◌≤◌, ℕ, suc, List, [], ◌∷◌, Option, Some, length, refl, sym, ap, subst}
use Rattle.outer_world.specs.Files.{Files}
use Rattle.jack_tree.specs.Syntax.{ClassFile}
use Rattle.source_files.specs.Sources.{SpellEach}
use Rattle.tower.specs.Existence.{HaveTexts, ProgramLaw}
use Rattle.command_laws.specs.Answered.{FolderMeansLaw}
use Rattle.nand_cli.specs.JackFolder.{HasClasses}
use Rattle.jack_parser.specs.Language.{SpellsFile}

as_many : (files : Option Files) (folder : List ℕ) (names : List (List ℕ)) (own : List ClassFile) → SpellEach SpellsFile files folder names own → length own ≡ length names
as_many files folder [] [] h = refl
as_many files folder (n ∷ names) (c ∷ own) h = ap suc (as_many files folder names own h.1)
as_many files folder [] (c ∷ own) h = absurd h
as_many files folder (n ∷ names) [] h = absurd h

each_text : (files : Option Files) (folder : List ℕ) (names : List (List ℕ)) (own : List ClassFile) → SpellEach SpellsFile files folder names own → HaveTexts own
each_text files folder [] [] h = tt
each_text files folder (n ∷ names) (c ∷ own) ((text, has, spelled), rest) = ((text, spelled.0), each_text files folder names own rest)
each_text files folder [] (c ∷ own) h = absurd h
each_text files folder (n ∷ names) [] h = absurd h

pub folder_means : ProgramLaw → FolderMeansLaw
folder_means law files source (own, os, (names, are, spelled), system_is, well) =
    let folder = source.folder in
    let few : length own ≤ 256 = subst (λ (n : ℕ). n ≤ 256) (sym (as_many (Some files) folder names own spelled)) are.1 in
    let p = law source.replace own os few (each_text (Some files) folder names own spelled) system_is well in
    let has : HasClasses (Some files) folder own = (names, are, spelled) in
    (p.0, (p.1.0, subst (λ (cs : List ClassFile). HasClasses (Some files) folder cs) (sym p.1.1) has, p.1.2))
