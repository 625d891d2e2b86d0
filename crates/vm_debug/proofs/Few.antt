-- Linked files have few static words, what is linked has no fault, and its places are those of its classes.
use Rattle.std.proofs.Common.{◌≡◌, ◌≢◌, ◌+◌, ◌-◌, ◌≤◌, ℕ, suc, Bool, false, List, [], ◌∷◌, Ok, Err, option_map, length, refl, sym, ap, subst, arith, add-one}
use Rattle.std.specs.Prelude.{IfOk, Result, sum_by}
use Rattle.std.proofs.lemmas.List.Sums.{sum_by-cons}
use Rattle.image_map.specs.declared.map.ImageMap.{ImageMap}
use Rattle.jack_tree.specs.declared.tree.Class.{Class}
use Rattle.vm_tree.specs.declared.program.File.{File}
use Rattle.vm_link.proofs.LinkLemmas.{words_few, last_none}
use Rattle.vm_link.proofs.Once.{linked_once}
use Rattle.vm_link.specs.declared.fault.LinkFault.{LinkFault}
use Rattle.vm_link.specs.declared.fault.LinkFault.TheVariants.{Memory, NoFunction}
use Rattle.vm_link.specs.declared.linked.Linked.{Linked}
use Rattle.vm_link.specs.declared.linked.LinkedFile.{LinkedFile}
use Rattle.vm_link.specs.Faults.{file_words, first_of, no_function, words_before}
use Rattle.vm_link.specs.Links.{Links, whole}
use Rattle.vm_link.specs.Resolved.{files_from}
use Rattle.vm_link.specs.Sections.{Section, sections}
use Rattle.jack_core.specs.declared.program.Core.{Core}
use Rattle.jack_compiler.specs.Files.{files_of}
use Rattle.jack_debug.specs.declared.places.Places.{Places}
use Rattle.vm_debug.specs.Places.{the_places}
use Rattle.vm_debug.specs.Program.{ArePlacesOfClasses}

-- the words of linked files, the first of which has number k, come after those of the files before
files_sum : (kept : List Section) (k : ℕ) (fs : List File) → words_before kept k + sum_by (λ f. f.statics) (files_from kept k fs) ≡ words_before kept (k + length fs)
files_sum kept k [] =
    let same : k ≡ k + 0 = omega arith in
    let sum : words_before kept k + 0 ≡ words_before kept k = omega arith in
    subst (λ z. words_before kept k + 0 ≡ words_before kept z) same sum
files_sum kept k (f ∷ fs) =
    let more = files_sum kept (k + 1) fs in
    let all : sum_by (λ (z : LinkedFile). z.statics) (files_from kept k (f ∷ fs)) ≡ file_words kept k + sum_by (λ (z : LinkedFile). z.statics) (files_from kept (k + 1) fs) =
    sum_by-cons (λ (z : LinkedFile). z.statics) (record { name = f.name; statics = file_words kept k }) (files_from kept (k + 1) fs) in
    let next : words_before kept (k + 1) ≡ words_before kept k + file_words kept k = rw add-one refl in
    let same : k + 1 + length fs ≡ k + suc (length fs) = omega arith in
    let sum : words_before kept k + sum_by (λ (z : LinkedFile). z.statics) (files_from kept k (f ∷ fs)) ≡ words_before kept (k + 1 + length fs) = omega (arith, more, all, next) in
    subst (λ z. words_before kept k + sum_by (λ (y : LinkedFile). y.statics) (files_from kept k (f ∷ fs)) ≡ words_before kept z) same sum

-- what is linked has at most 240 static words
pub few_statics : (bare : Bool) (files : List File) (linked : Linked) → Links bare files (Ok linked) → sum_by (λ f. f.statics) linked.files ≤ 240
few_statics bare files linked (whole kept text keeps fault is) =
    let few : words_before kept (length files) ≤ 240 = words_few (words_before kept (length files)) (last_none (option_map NoFunction (first_of (no_function (sections bare files)) kept)) _ fault) in
    let sum = files_sum kept 0 files in
    let start : 0 + length files ≡ length files = omega arith in
    let same = ap (words_before kept) start in
    let none : words_before kept 0 ≡ 0 = refl in
    let own : sum_by (λ f. f.statics) (files_from kept 0 files) ≤ 240 = omega (arith, few, sum, same, none) in
    subst (λ (z : Linked). sum_by (λ f. f.statics) z.files ≤ 240) (sym is) own

-- linking has no fault once more
pub no_fault : (bare : Bool) (files : List File) (linked : Linked) (fault : LinkFault) → Links bare files (Ok linked) → Links bare files (Err fault) → fault ≢ Memory → ⊥
no_fault bare files linked fault links refused other =
    let same : Ok linked ≡ Err fault = linked_once bare files (Ok linked) (Err fault) links refused (λ e. let no : ⊥ = cc in no) (λ e. other (let is : fault ≡ Memory = cc in is)) in
    let no : ⊥ = cc in no

-- the places of what is linked
pub placed_if : {E : Type 0} (own system : List Class) (core : Core) (m : ImageMap) (linked : Linked) (r : Result Places E) → Links false (files_of core) (Ok linked)
    → IfOk r (λ places. places ≡ the_places own system linked m) → IfOk r (ArePlacesOfClasses own system core m)
placed_if own system core m linked (Ok places) links e = (linked, links, e)
placed_if own system core m linked (Err x) links e = tt
