-- The files of a folder's classes come first, and are named as the classes.
use Rattle.std.proofs.Common.{◌≡◌, ◌≤◌, ◌+◌, ◌++◌, ℕ, suc, Bool, List, [], ◌∷◌, Ok, length, map, take, drop, get_or, refl, sym, ap, ◌∙◌, subst, arith, add-one, length-append}
use Rattle.std.proofs.Math.Seq.{drop-cons, take-append_seam, take-length}
use Rattle.std.proofs.lemmas.List.{length-map, take-map}
use Rattle.vm_tree.specs.declared.program.File.{File}
use Rattle.jack_tree.specs.declared.tree.Class.{Class}
use Rattle.jack_meaning.specs.Text.{Class as AClass, Program}
use Rattle.jack_core.specs.declared.program.Core.{Core}
use Rattle.jack_core.specs.Texts.{class_names_of, names_of, the_class, the_program}
use Rattle.jack_tree.specs.Seen.{the_file}
use Rattle.jack_compiler.specs.Files.{files_from, files_of}
use Rattle.tower.specs.Compiled.{AreCompiled, AreNamed}
use Rattle.tower.specs.Program.{Means, class_names}

abbrev file_names : List File → List (List ℕ)
file_names files = map (λ f. f.name) files

-- the names of the files from the one of number k
names_from : (program : Program) (names class_names : List (List ℕ)) (k : ℕ) (cs : List AClass) → k + length cs ≤ length class_names
    → file_names (files_from program names class_names k cs) ≡ take (length cs) (drop k class_names)
names_from program names class_names k [] few = refl
names_from program names class_names k (c ∷ cs) few =
    ap (λ ns. get_or class_names k [] ∷ ns) (names_from program names class_names (k + 1) cs (omega (arith, few)) ∙ ap (λ i. take (length cs) (drop i class_names)) (add-one k))
    ∙ sym (ap (take (suc (length cs))) (drop-cons class_names k [] (omega (arith, few))))

-- each file has the name of its class
files_named : (core : Core) → file_names (files_of core) ≡ class_names_of core
files_named core =
    let classes = map the_class core.classes.items in
    let count : length classes ≡ length (class_names_of core) = length-map core.classes.items the_class ∙ sym (length-map core.classes.items (λ c. c.name)) in
    names_from (the_program core) (names_of core) (class_names_of core) 0 classes (omega (arith, count))
    ∙ ap (λ n. take n (class_names_of core)) count ∙ take-length (class_names_of core)

module _ (replace : Bool) (own : List Class) (core : Core) (means : Means replace own (Ok core)) where
  -- those of the folder's own classes come first
  in_order : file_names (files_of core) ≡ class_names (map the_file own) ++ class_names (map the_file means.0)
  in_order = files_named core ∙ means.2.classes

  as_many : length own ≡ length (class_names (map the_file own))
  as_many = sym (length-map own the_file) ∙ sym (length-map (map the_file own) (λ c. c.class.name.text))

  own_named : AreNamed own (files_of core)
  own_named = record {
    all = omega (arith, as_many, ap length in_order, length-append (class_names (map the_file own)) (class_names (map the_file means.0)), length-map (files_of core) (λ f. f.name));
    names = sym (take-map (λ f. f.name) (length own) (files_of core)) ∙ ap (take (length own)) in_order
        ∙ ap (λ n. take n (class_names (map the_file own) ++ class_names (map the_file means.0))) as_many ∙ take-append_seam (class_names (map the_file own)) (class_names (map the_file means.0));
  }

pub named : (replace : Bool) (own : List Class) (files : List File) → AreCompiled replace own files → AreNamed own files
named replace own files (core, means, same) = subst (AreNamed own) (sym same) (own_named replace own core means)
