-- The places of a program are those of its image, and name its subroutines and statics.
use Rattle.std.proofs.Common.{◌≡◌, ◌+◌, ◌-◌, ◌<◌, ◌≤◌, ◌++◌, ◌&&◌, ℕ, zero, suc, Bool, true, false, List, [], ◌∷◌, Option, Some, None, nat_le, nat_lt, slice_get, get_or, length, map, option_map, refl, sym, ap, subst, ◌∙◌, arith, if◌then◌else◌, length-append}
use Rattle.std.specs.Prelude.{sum_by}
use Rattle.std.proofs.lemmas.Bool.Decides.{nat_tests}
use Rattle.std.proofs.lemmas.List.{length-map, map-append}
use Rattle.std.proofs.lemmas.List.Sums.{sum_by-cons}
use Rattle.std.proofs.lemmas.Option.{get_or_from_slice_get}
use Rattle.outer_world.specs.declared.point.Point.{Point}
use Rattle.jack_tree.specs.Seen.{the_class, the_file, the_form, the_locals, the_name, the_names, the_parameter, the_scope, the_subroutine, the_variables}
use Rattle.jack_tree.specs.Syntax.{ClassFile}
use Rattle.jack_tree.specs.declared.tree.Class.{Class}
use Rattle.jack_tree.specs.declared.tree.ClassVariables.{ClassVariables}
use Rattle.jack_tree.specs.declared.tree.Form.{Form}
use Rattle.jack_tree.specs.declared.tree.Form.TheVariants as form
use Rattle.jack_tree.specs.declared.tree.Locals.{Locals}
use Rattle.jack_tree.specs.declared.tree.Name.{Name as TreeName}
use Rattle.jack_tree.specs.declared.tree.Names.{Names}
use Rattle.jack_tree.specs.declared.tree.Parameter.{Parameter}
use Rattle.jack_tree.specs.declared.tree.Scope.{Scope}
use Rattle.jack_tree.specs.declared.tree.Scope.TheVariants as scope
use Rattle.jack_tree.specs.declared.tree.Subroutine as trees
use Rattle.vm_link.specs.declared.linked.Linked.{Linked}
use Rattle.vm_link.specs.declared.linked.LinkedFile.{LinkedFile}
use Rattle.vm_link.specs.declared.linked.LinkedFunction.{LinkedFunction}
use Rattle.image_map.specs.declared.map.PointRange.{PointRange}
use Rattle.vm_translator.specs.Places.{address_of}
use Rattle.vm_translator.specs.Image.{entries_of, image_map_of, points_of}
use Rattle.image_map.specs.Map as image
use Rattle.jack_meaning.specs.Text.{Function, Subroutine, End, Program}
use Rattle.jack_meaning.specs.Text.{Class as MeantClass}
use Rattle.jack_meaning.specs.Meaning.{subroutine_at, statics_of}
use Rattle.jack_names.specs.Meaning.{class_meaning, kind_meaning, meaning_of, subroutine_meaning, subroutines_meaning}
use Rattle.jack_names.specs.Numbers.{field_count, local_count, object_count, standing, static_count, statics_in}
use Rattle.jack_names.specs.Using.{all_names}
use Rattle.jack_compiler.specs.Files.{statics_before}
use Rattle.jack_compiler.specs.Statics.{class_of, place_of, words_in, words_until}
use Rattle.jack_compiler.specs.Fits.{IsClosed}
use Rattle.jack_compiler.specs.Linked.{IsLinkedProgram}
use Rattle.jack_compiler.proofs.Numbering.{class_is}
use Rattle.jack_debug.specs.declared.places.Places.{Places}
use Rattle.jack_debug.specs.declared.places.SubPlaces.{SubPlaces}
use Rattle.jack_debug.specs.Walk.{first_named, point_in, sub_at}
use Rattle.jack_debug.specs.Walk as debug
use Rattle.vm_debug.specs.Meanings.{kind_of, Names as NamesOf, AreStaticsOf, HaveWords}
use Rattle.vm_debug.specs.Places.{class_subs, entry_of, local_names, names_in, names_of_statics, placed_class, placed_classes, placed_range, placed_statics, placed_subs, static_names, the_places, trees_of}
use Rattle.vm_debug.specs.Views.{IsSubOf}
use Rattle.vm_debug.specs.Program.{ArePlacesOf, PlacesLaw}
use Rattle.vm_debug.proofs.Adding.{subs_long}
use Rattle.vm_debug.proofs.Entries.{entry_is}

some_is : {A : Type 0} {a b : A} → Some a ≡ Some b → a ≡ b
some_is {A} {a} {b} e = cc e

-- counts of names
form_kind : (f : Form) → kind_meaning (the_form f) ≡ kind_of f
form_kind form.Constructor = refl
form_kind form.Function = refl
form_kind form.Method = refl

objects : (f : Form) → first_named f ≡ object_count (the_form f)
objects form.Constructor = refl
objects form.Function = refl
objects form.Method = refl

names_alike : (ns : Names) → length (names_in ns) ≡ length (all_names (the_names ns))
names_alike ns = ap suc (length-map ns.more.items (λ (n : TreeName). n.text) ∙ sym (length-map ns.more.items the_name))

locals_alike : (ls : List Locals) → length (local_names ls) ≡ local_count (map the_locals ls)
locals_alike [] = refl
locals_alike (l ∷ ls) =
    let here = names_alike l.names in
    let rest = locals_alike ls in
    length-append (names_in l.names) (local_names ls) ∙ omega arith

statics_one : (s : Scope) (v : ClassVariables) → length (names_of_statics s v.names) ≡ statics_in (the_scope s) (the_variables v)
statics_one scope.Static v = names_alike v.names
statics_one scope.Field v = refl

statics_alike : (vs : List ClassVariables) → length (static_names vs) ≡ static_count (map the_variables vs)
statics_alike [] = refl
statics_alike (v ∷ vs) =
    let here = statics_one v.scope v in
    let rest = statics_alike vs in
    length-append (names_of_statics v.scope v.names) (static_names vs) ∙ omega arith

module _ (fs : List LinkedFunction) (es : List (ℕ × ℕ)) (all : List Class) where
  -- the places of the subroutine of a number, and what it means
  record Alike (n : ℕ) (x : SubPlaces) (m : Subroutine) : Type 0 where
    names : NamesOf x m
    class : x.class ≡ m.class
    tree : Class
    there : slice_get all m.class ≡ Some tree
    from : x.from ≡ (entry_of fs es n).0
    to : x.to ≡ (entry_of fs es n).1

  abbrev AreAlike : ℕ → List SubPlaces → List Subroutine → Type 0
  AreAlike n [] [] = Unit {0}
  AreAlike n (x ∷ xs) (m ∷ ms) = Alike n x m × AreAlike (n + 1) xs ms
  AreAlike n _ _ = ⊥

  both_alike : (n : ℕ) (xs ys : List SubPlaces) (ms ns : List Subroutine) → AreAlike n xs ms → AreAlike (n + length xs) ys ns → AreAlike n (xs ++ ys) (ms ++ ns)
  both_alike n [] ys [] ns h k = let e : n + 0 ≡ n = omega arith in subst (λ z. AreAlike z ys ns) e k
  both_alike n [] ys (m ∷ ms) ns h k = absurd h
  both_alike n (x ∷ xs) ys [] ns h k = absurd h
  both_alike n (x ∷ xs) ys (m ∷ ms) ns h k =
      let e : n + suc (length xs) ≡ n + 1 + length xs = omega arith in
      (h.0, both_alike (n + 1) xs ys ms ns h.1 (subst (λ z. AreAlike z ys ns) e k))

  subs_alike : (statics class n : ℕ) (c : Class) → slice_get all class ≡ Some c → (ts : List trees.Subroutine)
      → AreAlike n (class_subs fs es class c.name.text n ts) (map (λ t. subroutine_meaning (standing (map the_file all) class statics (the_class c) t) (field_count (the_class c).variables) t) (map the_subroutine ts))
  subs_alike statics class n c there [] = tt
  subs_alike statics class n c there (t ∷ ts) = (
    record {
      names = record {
        kind = form_kind t.form;
        arguments = (let a = objects t.form in let b : length (map (λ (p : Parameter). p.name.text) t.parameters.items) ≡ length (map the_parameter t.parameters.items) = length-map t.parameters.items (λ (p : Parameter). p.name.text) ∙ sym (length-map t.parameters.items the_parameter) in omega arith);
        locals = locals_alike t.locals.items;
      };
      class = refl;
      tree = c;
      there = there;
      from = refl;
      to = refl;
    },
    subs_alike statics class (n + 1) c there ts,
  )

  placed_alike : (statics class n : ℕ) (cs : List Class) → ((i : ℕ) → slice_get cs i ≡ slice_get all (class + i))
      → AreAlike n (placed_subs fs es class n cs) (subroutines_meaning (map the_file all) class statics (map the_file cs))
  placed_alike statics class n [] h = tt
  placed_alike statics class n (c ∷ cs) h =
      let here : class + 0 ≡ class = omega arith in
      let there : slice_get all class ≡ Some c = ap (slice_get all) (sym here) ∙ sym (h 0) in
      let size = subs_long fs es class c.name.text n c.subroutines.items in
      let next : n + length c.subroutines.items ≡ n + length (class_subs fs es class c.name.text n c.subroutines.items) = omega arith in
      let others : (i : ℕ) → slice_get cs i ≡ slice_get all (class + 1 + i) = λ i. h (suc i) ∙ ap (slice_get all) (let e : class + suc i ≡ class + 1 + i = omega arith in e) in
      both_alike n _ _ _ _ (subs_alike statics class n c there c.subroutines.items)
      (subst (λ z. AreAlike z (placed_subs fs es (class + 1) (n + length c.subroutines.items) cs) (subroutines_meaning (map the_file all) (class + 1) (statics + static_count (the_class c).variables) (map the_file cs))) next
      (placed_alike (statics + static_count (the_class c).variables) (class + 1) (n + length c.subroutines.items) cs others))

  -- one of them, by its places and by its meaning
  meant_at : (n : ℕ) (xs : List SubPlaces) (ms : List Subroutine) → AreAlike n xs ms → (g : ℕ) (x : SubPlaces) → slice_get xs g ≡ Some x → (m : Subroutine) × (slice_get ms g ≡ Some m) × Alike (n + g) x m
  meant_at n [] [] h g x e = absurd (cc e)
  meant_at n [] (m ∷ ms) h g x e = absurd h
  meant_at n (y ∷ xs) [] h g x e = absurd h
  meant_at n (y ∷ xs) (m ∷ ms) h zero x e =
      let same : y ≡ x = some_is e in
      let z : n ≡ n + 0 = omega arith in
      (m, refl, subst (λ k. Alike k x m) z (subst (λ y. Alike n y m) same h.0))
  meant_at n (y ∷ xs) (m ∷ ms) h (suc g) x e =
      let r = meant_at (n + 1) xs ms h.1 g x e in
      let z : n + 1 + g ≡ n + suc g = omega arith in
      (r.0, r.1, subst (λ k. Alike k x r.0) z r.2)

  placed_at : (n : ℕ) (xs : List SubPlaces) (ms : List Subroutine) → AreAlike n xs ms → (g : ℕ) (m : Subroutine) → slice_get ms g ≡ Some m → (x : SubPlaces) × (slice_get xs g ≡ Some x) × Alike (n + g) x m
  placed_at n [] [] h g m e = absurd (cc e)
  placed_at n [] (k ∷ ms) h g m e = absurd h
  placed_at n (x ∷ xs) [] h g m e = absurd h
  placed_at n (x ∷ xs) (k ∷ ms) h zero m e =
      let same : k ≡ m = some_is e in
      let z : n ≡ n + 0 = omega arith in
      (x, refl, subst (λ i. Alike i x m) z (subst (λ y. Alike n x y) same h.0))
  placed_at n (x ∷ xs) (k ∷ ms) h (suc g) m e =
      let r = placed_at (n + 1) xs ms h.1 g m e in
      let z : n + 1 + g ≡ n + suc g = omega arith in
      (r.0, r.1, subst (λ i. Alike i r.0 m) z r.2)

-- the points of the ranges
ranges_same : (ts : List trees.Subroutine) (rs : List PointRange) (a : ℕ) → point_in (map (placed_range ts) rs) a ≡ option_map (λ (p : Point). record { sub = p.sub; number = p.number }) (image.point_in rs a)
ranges_same ts [] a = refl
ranges_same ts (r ∷ rs) a = by_test (nat_le r.from a && nat_lt a r.to) (ranges_same ts rs a)
  where
    by_test : (b : Bool) → point_in (map (placed_range ts) rs) a ≡ option_map (λ (p : Point). record { sub = p.sub; number = p.number }) (image.point_in rs a)
        → (if b then Some r.point else point_in (map (placed_range ts) rs) a) ≡ option_map (λ (p : Point). record { sub = p.sub; number = p.number }) (if b then Some r.point else image.point_in rs a)
    by_test true e = refl
    by_test false e = e

-- what stands where there is no subroutine
abbrev nothing : Subroutine
nothing = record { kind = Function; class = 0; arguments = 0; locals = 0; body = End }

get_none : (ms : List Subroutine) (g : ℕ) (d : Subroutine) → slice_get ms g ≡ None → get_or ms g d ≡ d
get_none [] g d e = refl
get_none (m ∷ ms) zero d e = absurd (cc e)
get_none (m ∷ ms) (suc g) d e = get_none ms g d e

-- classes by their numbers
classes_at : (files : List LinkedFile) (owns k : ℕ) (cs : List Class) (i : ℕ) (c : Class) → slice_get cs i ≡ Some c → slice_get (placed_classes files owns k cs) i ≡ Some (placed_class files owns (k + i) c)
classes_at files owns k [] i c e = absurd (cc e)
classes_at files owns k (d ∷ cs) zero c e =
    let same : d ≡ c = some_is e in
    let z : k ≡ k + 0 = omega arith in
    ap (λ (n : ℕ). Some (placed_class files owns n d)) z ∙ ap (λ (x : Class). Some (placed_class files owns (k + 0) x)) same
classes_at files owns k (d ∷ cs) (suc i) c e =
    let z : k + 1 + i ≡ k + suc i = omega arith in
    classes_at files owns (k + 1) cs i c e ∙ ap (λ (n : ℕ). Some (placed_class files owns n c)) z

meant_class : (cs : List Class) (i : ℕ) (c : Class) → slice_get cs i ≡ Some c → slice_get (map class_meaning (map the_file cs)) i ≡ Some (class_meaning (the_file c))
meant_class [] i c e = absurd (cc e)
meant_class (d ∷ cs) zero c e = ap (λ (x : Class). Some (class_meaning (the_file x))) (some_is e)
meant_class (d ∷ cs) (suc i) c e = meant_class cs i c e

none_before : (cs : List MeantClass) → statics_before cs 0 ≡ 0
none_before [] = refl
none_before (c ∷ cs) = refl

before_next : (cs : List MeantClass) (c : ℕ) (d : MeantClass) → slice_get cs c ≡ Some d → statics_before cs (suc c) ≡ statics_before cs c + d.statics
before_next [] c d e = absurd (cc e)
before_next (x ∷ cs) zero d e =
    let same = ap (λ (z : MeantClass). z.statics) (some_is e) in
    let none = none_before cs in
    omega arith
before_next (x ∷ cs) (suc c) d e = let ih = before_next cs c d e in omega arith

before_all : (cs : List MeantClass) (k : ℕ) → statics_before cs k ≤ sum_by (λ c. c.statics) cs
before_all [] k = omega arith
before_all (c ∷ cs) zero = omega arith
before_all (c ∷ cs) (suc k) = let ih = before_all cs k in let e = sum_by-cons (λ (z : MeantClass). z.statics) c cs in omega arith

placed_long : (first words k : ℕ) (ns : List (List ℕ)) → length (placed_statics first words k ns) ≡ length ns
placed_long first words k [] = refl
placed_long first words k (n ∷ ns) = ap suc (placed_long first words (k + 1) ns)

-- the statics of the class of number c, from its static i on
have_words : (program : Program) (linked : Linked) (c count : ℕ) → statics_before program.classes (suc c) ≡ statics_before program.classes c + count → (i : ℕ) (ns : List (List ℕ)) → i + length ns ≡ count
    → HaveWords program linked (statics_before program.classes c + i) (placed_statics (16 + words_until linked.files c) (words_in linked.files c) i ns)
have_words program linked c count next i [] e = tt
have_words program linked c count next i (n ∷ ns) e =
    let k = statics_before program.classes c + i in
    let whole = before_all program.classes (suc c) in
    let own : class_of program.classes k ≡ c = class_is program.classes c k (omega arith) (omega arith) in
    let place : k - statics_before program.classes c ≡ i = omega arith in
    let inside : nat_lt k (statics_of program) ≡ true = (let b : k < statics_of program = omega arith in grind (arith, nat_tests)) in
    let word : 16 + words_until linked.files c + i ≡ 16 + (words_until linked.files c + i) = omega arith in
    let goal : ℕ → ℕ → Bool → Type 0 = λ d p b. (if nat_lt i (words_in linked.files c) then Some (16 + words_until linked.files c + i) else None) ≡ (if b && nat_lt p (words_in linked.files d) then Some (16 + (words_until linked.files d + p)) else None) in
    let plain : goal c i true = ap (λ (w : ℕ). if nat_lt i (words_in linked.files c) then Some w else None) word in
    let placed : goal c (k - statics_before program.classes c) true = subst (λ p. goal c p true) (sym place) plain in
    let classed : goal (class_of program.classes k) (place_of program.classes k) true = subst (λ d. goal d (k - statics_before program.classes d) true) (sym own) placed in
    let head : goal (class_of program.classes k) (place_of program.classes k) (nat_lt k (statics_of program)) = subst (λ b. goal (class_of program.classes k) (place_of program.classes k) b) (sym inside) classed in
    let step : statics_before program.classes c + (i + 1) ≡ k + 1 = omega arith in (
      head,
      subst (λ z. HaveWords program linked z (placed_statics (16 + words_until linked.files c) (words_in linked.files c) (i + 1) ns)) step (have_words program linked c count next (i + 1) ns (omega arith)),
    )

module _ (own system : List Class) (program : Program) (is : program ≡ meaning_of (map the_file (own ++ system))) (linked : Linked) (h : IsLinkedProgram program linked) where
  abbrev classes : List Class
  classes = own ++ system

  abbrev places : Places
  places = the_places own system linked (image_map_of linked)

  abbrev files : List ClassFile
  files = map the_file classes

  alike : AreAlike linked.functions (entries_of linked) classes 1 places.subs (subroutines_meaning files 0 0 files)
  alike = placed_alike linked.functions (entries_of linked) classes 0 0 1 classes (λ i. let e : i ≡ 0 + i = omega arith in ap (slice_get classes) e)

  subroutines_are : (g : ℕ) (m : Subroutine) → slice_get (subroutines_meaning files 0 0 files) g ≡ Some m → subroutine_at program.subroutines (suc g) ≡ m
  subroutines_are g m e = ap (λ (p : Program). subroutine_at p.subroutines (suc g)) is ∙ get_or_from_slice_get (subroutines_meaning files 0 0 files) g m nothing e

  -- what a subroutine that the places have means
  meant : (g : ℕ) (sub : SubPlaces) → sub_at places g ≡ Some sub → Alike linked.functions (entries_of linked) classes g sub (subroutine_at program.subroutines g)
  meant zero sub e = absurd (cc e)
  meant (suc g) sub e =
      let r = meant_at linked.functions (entries_of linked) classes 1 places.subs (subroutines_meaning files 0 0 files) alike g sub e in
      let z : 1 + g ≡ suc g = omega arith in
      subst (λ m. Alike linked.functions (entries_of linked) classes (suc g) sub m) (sym (subroutines_are g r.0 r.1)) (subst (λ n. Alike linked.functions (entries_of linked) classes n sub r.0) z r.2)

  statics : (g : ℕ) (sub : SubPlaces) → sub_at places g ≡ Some sub
      → AreStaticsOf program linked (subroutine_at program.subroutines g).class (debug.statics_of (slice_get places.classes sub.class))
  statics g sub e =
      let a = meant g sub e in
      let c = (subroutine_at program.subroutines g).class in
      let there : slice_get places.classes sub.class ≡ Some (placed_class linked.files (length own) c a.tree) =
      ap (slice_get places.classes) a.class ∙ classes_at linked.files (length own) 0 classes c a.tree a.there ∙ ap (λ (n : ℕ). Some (placed_class linked.files (length own) n a.tree)) (let z : 0 + c ≡ c = omega arith in z) in
      let class : slice_get program.classes c ≡ Some (class_meaning (the_file a.tree)) = ap (λ (p : Program). slice_get p.classes c) is ∙ meant_class classes c a.tree a.there in
      let names = static_names a.tree.variables.items in
      let count = statics_alike a.tree.variables.items in
      let long = placed_long (16 + words_until linked.files c) (words_in linked.files c) 0 names in
      let next = before_next program.classes c (class_meaning (the_file a.tree)) class in
      let zero_is : statics_before program.classes c + 0 ≡ statics_before program.classes c = omega arith in
      let start : 0 + length names ≡ length names = omega arith in
      let first : 0 + length names ≡ static_count (the_class a.tree).variables = start ∙ count in
      subst (λ o. AreStaticsOf program linked c (debug.statics_of o)) (sym there) (record {
        all = ap (option_map (λ (m : MeantClass). m.statics)) class ∙ ap Some (sym count ∙ sym long);
        words = subst (λ z. HaveWords program linked z (placed_statics (16 + words_until linked.files c) (words_in linked.files c) 0 names)) zero_is (have_words program linked c (static_count (the_class a.tree).variables) next 0 names first);
      })

  -- a linked function is a subroutine that has places
  function_placed : (k n : ℕ) (f : LinkedFunction) → f.number ≡ n → slice_get linked.functions k ≡ Some f → IsClosed (subroutine_at program.subroutines n).body → IsSubOf linked places k n
  function_placed k zero f e g closed = absurd (subst (λ (p : Program). IsClosed (subroutine_at p.subroutines 0).body) is closed)
  function_placed k (suc n) f e g closed = by_meaning (slice_get (subroutines_meaning files 0 0 files) n) refl
    where
      by_meaning : (o : Option Subroutine) → slice_get (subroutines_meaning files 0 0 files) n ≡ o → IsSubOf linked places k (suc n)
      by_meaning None d =
          let gone = subst (λ (p : Program). IsClosed (subroutine_at p.subroutines (suc n)).body) is closed in
          absurd (subst (λ (m : Subroutine). IsClosed m.body) (get_none (subroutines_meaning files 0 0 files) n nothing d) gone)
      by_meaning (Some m) d =
          let r = placed_at linked.functions (entries_of linked) classes 1 places.subs (subroutines_meaning files 0 0 files) alike n m d in
          let z : 1 + n ≡ suc n = omega arith in
          let entry : entry_of linked.functions (entries_of linked) (1 + n) ≡ (address_of linked k 0, address_of linked k 1) = ap (entry_of linked.functions (entries_of linked)) (z ∙ sym e) ∙ entry_is program linked h k f g in
          record { sub = r.0; there = r.1; from = r.2.from ∙ ap (λ (p : ℕ × ℕ). p.0) entry; to = r.2.to ∙ ap (λ (p : ℕ × ℕ). p.1) entry }

  pub are_places : ArePlacesOf program linked places
  are_places = record {
    image = record {
      start = refl;
      ranges = ranges_same (trees_of classes) (points_of linked);
      subs = λ k f g. function_placed k f.number f refl g (h.fits.each f.number (h.all f.number (h.only k f g))).closed;
    };
    names = λ g sub e. (meant g sub e).names;
    statics = statics;
  }

pub places_are : PlacesLaw
places_are own system program linked is h =
    are_places own system program (is ∙ ap meaning_of (sym (map-append the_file own system))) linked h
