-- Well named classes that texts spell mean a program.
use Rattle.std.proofs.Common.{◌≡◌, ℕ, ◌+◌, ◌*◌, ◌≤◌, ◌<◌, ◌^◌, Bool, true, false, List, [], ◌∷◌, ◌++◌, length, map, codes, refl, sym, ap, subst, ◌∙◌, arith}
use Rattle.std.proofs.lemmas.Bool.{leb-true}
use Rattle.std.proofs.lemmas.List.{map-append}
use Rattle.std.specs.Prelude.{if◌then◌else◌}
use Rattle.std.specs.Str.{bytes_eq}
use Rattle.jack_tree.specs.declared.tree.Class.{Class}
use Rattle.jack_tree.specs.Syntax as syntax
use Rattle.jack_tree.specs.Syntax.{ClassFile}
use Rattle.jack_tree.specs.Seen.{the_file}
use Rattle.jack_parser.specs.Spelled as spelling
use Rattle.jack_names.specs.Existence.{ExistenceLaw}
use Rattle.jack_names.specs.Lengths.{total, subroutine_length, class_length, classes_length}
use Rattle.jack_os.specs.System.{Texts, SpellsClass, IsClassOf, AreClassesOf, IsFileOf, AreFilesOf, added_to, with_added}
use Rattle.jack_os.specs.Routines.{multiply, divide, init, alloc, deAlloc}
use Rattle.tower.specs.Existence.{HaveTexts, ProgramLaw}
use Rattle.tower.specs.Program.{IsProgramOf}
use Rattle.tower.specs.Sources.{system_beside}
use Rattle.tower.proofs.Long.{spelled_long}
use Rattle.tower.proofs.Beside.{few_beside}

-- ---- how long they are

total-append : {A : Type 0} (f : A → ℕ) (xs ys : List A) → total f (xs ++ ys) ≡ total f xs + total f ys
total-append f [] ys = omega arith
total-append f (x ∷ xs) ys = let h = total-append f xs ys in omega (arith, h)

products : total subroutine_length (multiply ∷ divide ∷ []) ≤ 10000
products = leb-true _ 10000 refl

heap : total subroutine_length (init ∷ alloc ∷ deAlloc ∷ []) ≤ 10000
heap = leb-true _ 10000 refl

by_file : (a b : Bool) → total subroutine_length (if a then multiply ∷ divide ∷ [] else (if b then init ∷ alloc ∷ deAlloc ∷ [] else [])) ≤ 10000
by_file true b = products
by_file false true = heap
by_file false false = omega arith

added_few : (file : List ℕ) → total subroutine_length (added_to file) ≤ 10000
added_few file = by_file (bytes_eq file (codes "Math.jack")) (bytes_eq file (codes "Memory.jack"))

-- a number above the length of each class
abbrev most : ℕ
most = 40000 * 1048576 + 10000

file_long : (file text : List ℕ) (c : ClassFile) → IsFileOf file text c → class_length c.class ≤ most
file_long file text c (read, spelled, is) =
    let long = spelled_long text read spelled in
    let few = added_few file in
    let more = total-append subroutine_length read.subroutines (added_to file) in
    let at : class_length (with_added (added_to file) (record { file = file; class = read })).class ≤ most = omega (arith, long, few, more) in
    subst (λ (d : ClassFile). class_length d.class ≤ most) (sym is) at

own_long : (own : List ClassFile) → HaveTexts own → classes_length own ≤ (most + 1) * length own
own_long [] h = omega arith
own_long (c ∷ own) h = let p = spelled_long h.0.0 c.class h.0.1 in let q = own_long own h.1 in omega (arith, p, q)

files_long : (files : Texts) (os : List ClassFile) → AreFilesOf files os → classes_length os ≤ (most + 1) * length files
files_long [] [] h = omega arith
files_long [] (c ∷ os) h = absurd h
files_long (f ∷ files) [] h = absurd h
files_long (f ∷ files) (c ∷ os) h = let p = file_long f.0 f.1 c h.0 in let q = files_long files os h.1 in omega (arith, p, q)

all_long : (replace : Bool) (own os : List ClassFile) → length own ≤ 256 → HaveTexts own → AreFilesOf (system_beside replace own) os → classes_length (own ++ os) < 2 ^ 62
all_long replace own os few texts are =
    let p = own_long own texts in
    let q = files_long (system_beside replace own) os are in
    omega (arith, few, p, q, few_beside replace own, total-append (λ (c : ClassFile). class_length c.class) own os)

-- ---- their trees

module _ (law : ExistenceLaw) where
  tree_of : (c : ClassFile) → class_length c.class ≤ most → (t : Class) × (the_file t ≡ c)
  tree_of c long = law.tree c (omega (arith, long))

  own_trees : (own : List ClassFile) → HaveTexts own → (ts : List Class) × (map the_file ts ≡ own)
  own_trees [] h = ([], refl)
  own_trees (c ∷ own) h =
      let p = spelled_long h.0.0 c.class h.0.1 in
      let t = tree_of c (omega (arith, p)) in
      let ts = own_trees own h.1 in
      (t.0 ∷ ts.0, λ i. t.1 i ∷ ts.1 i)

  system_tree : (file text : List ℕ) (c : ClassFile) → IsFileOf file text c → (t : Class) × (the_file t ≡ c) × IsClassOf file text t
  system_tree file text c (read, spelled, is) =
      let p = spelled_long text read spelled in
      let t = tree_of c (file_long file text c (read, spelled, is)) in
      let r = tree_of (record { file = file; class = read }) (omega (arith, p)) in
      let seen : SpellsClass file text r.0 = (subst (λ (d : syntax.Class). spelling.SpellsClass text d) (sym (ap (λ (d : ClassFile). d.class) r.1)) spelled, ap (λ (d : ClassFile). d.file) r.1) in
      (t.0, t.1, (r.0, seen, t.1 ∙ is ∙ ap (with_added (added_to file)) (sym r.1)))

  system_trees : (files : Texts) (os : List ClassFile) → AreFilesOf files os → (ts : List Class) × (map the_file ts ≡ os) × AreClassesOf files ts
  system_trees [] [] h = ([], refl, tt)
  system_trees [] (c ∷ os) h = absurd h
  system_trees (f ∷ files) [] h = absurd h
  system_trees (f ∷ files) (c ∷ os) h =
      let t = system_tree f.0 f.1 c h.0 in
      let ts = system_trees files os h.1 in
      (t.0 ∷ ts.0, λ i. t.1 i ∷ ts.1 i, (t.2, ts.2))

  pub means_program : ProgramLaw
  means_program replace own os few texts are well =
      let c = law.core own os (all_long replace own os few texts are) in
      let own_ts = own_trees own texts in
      let os_ts = system_trees (system_beside replace own) os are in
      let is : IsProgramOf own os c.0 = record {
        well_named = well;
        program = c.1.program;
        names = c.1.names;
        classes = c.1.classes ∙ map-append (λ (d : ClassFile). d.class.name.text) own os;
      } in
      let same : IsProgramOf (map the_file own_ts.0) (map the_file os_ts.0) c.0 = subst (λ (ds : List ClassFile). IsProgramOf ds (map the_file os_ts.0) c.0) (sym own_ts.1) (subst (λ (ds : List ClassFile). IsProgramOf own ds c.0) (sym os_ts.1) is) in
      let beside : AreClassesOf (system_beside replace (map the_file own_ts.0)) os_ts.0 =
      subst (λ (ds : List ClassFile). AreClassesOf (system_beside replace ds) os_ts.0) (sym own_ts.1) os_ts.2 in
      (c.0, (own_ts.0, own_ts.1, (os_ts.0, beside, same)))
