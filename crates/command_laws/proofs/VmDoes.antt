-- The image of a program that is read from VM texts does what the program does: none of its commands is a commit.
use Rattle.std.proofs.Common.{◌≡◌, ◌++◌, ◌+◌, ℕ, Bool, true, false, List, [], ◌∷◌, Option, Some, None, Ok, length, map, codes, refl, sym, ap, subst, ◌∙◌}
use Rattle.std.specs.Prelude.{◌||◌}
use Rattle.std.specs.List.{list_any}
use Rattle.std.proofs.lemmas.Bool.{or_parts}
use Rattle.outer_world.specs.Files.{Files}
use Rattle.source_files.specs.Folder.{stem_of}
use Rattle.source_files.specs.Sources.{SpellEach}
use Rattle.vm_tree.specs.declared.command.Command.{Command}
use Rattle.vm_tree.specs.declared.command.Line.{Line}
use Rattle.vm_tree.specs.declared.program.File.{File}
use Rattle.vm_link.specs.declared.linked.Linked.{Linked}
use Rattle.vm_link.specs.Links.{Links, whole}
use Rattle.vm_link.specs.Reached.{AreKept, Keeps, dropped, kept, none}
use Rattle.vm_link.specs.Resolved.{is_marked}
use Rattle.vm_link.specs.Sections.{Section, file_sections, functions_from, sections, sections_from}
use Rattle.vm_link.proofs.SoundLemmas.{sound_if}
use Rattle.vm_link.proofs.Unmarked.{unmarked_are_uniform}
use Rattle.vm_parser.specs.Trees.{WrittenFile, WrittenFunction, commands, file_of, function_of}
use Rattle.vm_translator.proofs.Instructed.{translated}
use Rattle.tower.proofs.Computers.{linked_bare}
use Rattle.nand_cli.specs.Commands.Vm.{HasProgram}
use Rattle.command_laws.specs.VmDoes.{VmDoesLaw}
use Rattle.vm_parser.specs.Language.{SpellsVmFile}

neither : (a b : Bool) → a ≡ false → b ≡ false → (a || b) ≡ false
neither a b h k = rw (h, k) refl

no_commit : (ls : List (Option Command)) → list_any (λ (x : Line). x.commit) (commands ls) ≡ false
no_commit [] = refl
no_commit (None ∷ ls) = no_commit ls
no_commit (Some c ∷ ls) = no_commit ls

in_both : (xs ys : List Section) → is_marked xs ≡ false → is_marked ys ≡ false → is_marked (xs ++ ys) ≡ false
in_both [] ys h k = k
in_both (x ∷ xs) ys h k = let parts = or_parts _ _ h in neither _ _ parts.0 (in_both xs ys parts.1 k)

in_functions : (k n : ℕ) (fs : List WrittenFunction) → is_marked (functions_from k n (map function_of fs)) ≡ false
in_functions k n [] = refl
in_functions k n (f ∷ fs) = neither _ _ (no_commit f.lines) (in_functions k (n + 1) fs)

in_file : (bare : Bool) (k n : ℕ) (name : List ℕ) (f : WrittenFile bare) → is_marked (file_sections bare k n (file_of bare name f)) ≡ false
in_file true k n name f = neither _ _ (no_commit f.opening) (in_functions k (n + 1) f.functions)
in_file false k n name f = in_functions k n f.functions

in_files : (bare : Bool) (told : Option Files) (folder : List ℕ) (names : List (List ℕ)) (files : List File) (k n : ℕ)
    → SpellEach (SpellsVmFile bare) told folder names files → is_marked (sections_from bare k n files) ≡ false
in_files bare told folder [] [] k n h = refl
in_files bare told folder [] (file ∷ files) k n h = absurd h
in_files bare told folder (name ∷ names) [] k n h = refl
in_files bare told folder (name ∷ names) (file ∷ files) k n h =
    let own = stem_of (codes ".vm") name in
    let spells = h.0.2 in
    let f = spells.0 in
    let same = spells.1 in
    let is : file ≡ file_of bare own f = cc same in
    let rest = sections_from bare (k + 1) (n + length (file_sections bare k n file)) files in
    in_both (file_sections bare k n file) rest (subst (λ (z : File). is_marked (file_sections bare k n z) ≡ false) (sym is) (in_file bare k n own f))
    (in_files bare told folder names files (k + 1) (n + length (file_sections bare k n file)) h.1)

in_kept : {P : ℕ → Type 0} {i : ℕ} {ss ks : List Section} → Keeps P i ss ks → is_marked ss ≡ false → is_marked ks ≡ false
in_kept none h = refl
in_kept (kept p more) h = let parts = or_parts _ _ h in neither _ _ parts.0 (in_kept more parts.1)
in_kept (dropped p more) h = let parts = or_parts _ _ h in in_kept more parts.1

in_sections : (bare : Bool) (ss ks : List Section) → AreKept bare ss ks → is_marked ss ≡ false → is_marked ks ≡ false
in_sections true ss ks are h = ap is_marked are ∙ h
in_sections false ss ks are h = in_kept are h

unmarked : (bare : Bool) (told : Option Files) (folder : List ℕ) (files : List File) (l : Linked) → HasProgram bare told folder files → Links bare files (Ok l) → l.marked ≡ false
unmarked bare told folder files l has links = by_links links
  where
    by_links : Links bare files (Ok l) → l.marked ≡ false
    by_links (whole ks text are fault is) =
        ap (λ (z : Linked). z.marked) is ∙ in_sections bare (sections bare files) ks are (in_files bare told folder has.0 files 0 1 has.2)

pub vm_does : VmDoesLaw
vm_does told folder files l has links few =
    translated l (sound_if false files l links) (unmarked_are_uniform false files l links (unmarked false told folder files l has links)) (linked_bare false files l links) few
