-- What loops over files and classes have done.
use Rattle.std.proofs.Common.{◌≡◌, ◌+◌, ◌-◌, ◌≤◌, ◌++◌, ℕ, zero, suc, List, [], ◌∷◌, Option, Some, None, option_map, map, length, drop, refl, ap, ◌∙◌, arith, append_assoc, length-append, sym}
use Rattle.std.proofs.lemmas.List.{map-append}
use Rattle.std.proofs.lemmas.Grind.{flat_map-append}
use Rattle.std.proofs.lemmas.Option.{slice_get-map}
use Rattle.scan_text.specs.declared.Place.{Place}
use Rattle.image_map.specs.declared.map.PointRange.{PointRange}
use Rattle.vm_link.specs.declared.linked.LinkedFile.{LinkedFile}
use Rattle.vm_link.specs.declared.linked.LinkedFunction.{LinkedFunction}
use Rattle.jack_tree.specs.declared.tree.Class.{Class}
use Rattle.jack_tree.specs.declared.tree.Subroutine.{Subroutine}
use Rattle.jack_compiler.specs.Statics.{words_until}
use Rattle.jack_debug.specs.declared.places.ClassPlaces.{ClassPlaces}
use Rattle.jack_debug.specs.declared.places.SubPlaces.{SubPlaces}
use Rattle.vm_debug.specs.Places.{class_subs, place_in, placed_class, placed_classes, placed_range, placed_subs, tree_at, trees_of}
use Rattle.vm_debug.specs.Inner.Tables.{place_at, range_by, table_at, table_of}

gone : (files : List LinkedFile) (i : ℕ) → length files ≤ i → drop i files ≡ []
gone [] zero h = refl
gone [] (suc i) h = refl
gone (f ∷ files) zero h = absurd (omega arith)
gone (f ∷ files) (suc i) h = gone files i (omega arith)

until_none : (k : ℕ) → words_until [] k ≡ 0
until_none zero = refl
until_none (suc k) = refl

-- past the last file
pub before_done : (files : List LinkedFile) (i k before : ℕ) → length files ≤ i → before + words_until (drop i files) (k - i) ≡ words_until files k → before ≡ words_until files k
before_done files i k before h e =
    let none : words_until (drop i files) (k - i) ≡ 0 = ap (λ (z : List LinkedFile). words_until z (k - i)) (gone files i h) ∙ until_none (k - i) in
    omega arith

module _ (fs : List LinkedFunction) (es : List (ℕ × ℕ)) where
  pub subs_long : (class : ℕ) (name : List ℕ) (n : ℕ) (ts : List Subroutine) → length (class_subs fs es class name n ts) ≡ length ts
  subs_long class name n [] = refl
  subs_long class name n (t ∷ ts) = ap suc (subs_long class name (n + 1) ts)

  -- the subroutines of one more class
  pub class_more : (class : ℕ) (subs more : List SubPlaces) (c : Class) (cs : List Class) → more ≡ subs ++ class_subs fs es class c.name.text (length subs + 1) c.subroutines.items
      → more ++ placed_subs fs es (class + 1) (length more + 1) cs ≡ subs ++ placed_subs fs es class (length subs + 1) (c ∷ cs)
  class_more class subs more c cs e =
      let own = class_subs fs es class c.name.text (length subs + 1) c.subroutines.items in
      let size = subs_long class c.name.text (length subs + 1) c.subroutines.items in
      let both = length-append subs own in
      let whole : length more ≡ length (subs ++ own) = ap length e in
      let long : length more + 1 ≡ length subs + 1 + length c.subroutines.items = omega arith in
      ap (λ (z : List SubPlaces). z ++ placed_subs fs es (class + 1) (length more + 1) cs) e ∙ append_assoc subs own (placed_subs fs es (class + 1) (length more + 1) cs)
      ∙ ap (λ (n : ℕ). subs ++ (own ++ placed_subs fs es (class + 1) n cs)) long

  -- the subroutines of classes, and of others after them
  subs_both : (class n : ℕ) (xs ys : List Class) → placed_subs fs es class n (xs ++ ys) ≡ placed_subs fs es class n xs ++ placed_subs fs es (class + length xs) (n + length (placed_subs fs es class n xs)) ys
  subs_both class n [] ys =
      let e : class ≡ class + 0 = omega arith in
      let f : n ≡ n + 0 = omega arith in
      λ i. placed_subs fs es (e i) (f i) ys
  subs_both class n (x ∷ xs) ys =
      let own = class_subs fs es class x.name.text n x.subroutines.items in
      let next = n + length x.subroutines.items in
      let rest = placed_subs fs es (class + 1) next xs in
      let size = subs_long class x.name.text n x.subroutines.items in
      let both = length-append own rest in
      let e : class + 1 + length xs ≡ class + suc (length xs) = omega arith in
      let f : n + length x.subroutines.items + length rest ≡ n + length (own ++ rest) = omega arith in
      ap (λ (z : List SubPlaces). own ++ z) (subs_both (class + 1) next xs ys) ∙ sym (append_assoc own rest (placed_subs fs es (class + 1 + length xs) (next + length rest) ys))
      ∙ (λ i. (own ++ rest) ++ placed_subs fs es (e i) (f i) ys)

  pub all_subs : (own system : List Class) (none first all : List SubPlaces) → none ≡ [] → first ≡ none ++ placed_subs fs es 0 (length none + 1) own
      → all ≡ first ++ placed_subs fs es (length own) (length first + 1) system → all ≡ placed_subs fs es 0 1 (own ++ system)
  all_subs own system none first all z e f =
      let first_is : first ≡ placed_subs fs es 0 1 own = e ∙ ap (λ (x : List SubPlaces). x ++ placed_subs fs es 0 (length x + 1) own) z in
      let here : length own ≡ 0 + length own = omega arith in
      let next : length (placed_subs fs es 0 1 own) + 1 ≡ 1 + length (placed_subs fs es 0 1 own) = omega arith in
      f ∙ ap (λ (x : List SubPlaces). x ++ placed_subs fs es (length own) (length x + 1) system) first_is
      ∙ (λ i. placed_subs fs es 0 1 own ++ placed_subs fs es (here i) (next i) system) ∙ sym (subs_both 0 1 own system)

module _ (files : List LinkedFile) (owns : ℕ) where
  pub classes_long : (k : ℕ) (cs : List Class) → length (placed_classes files owns k cs) ≡ length cs
  classes_long k [] = refl
  classes_long k (c ∷ cs) = ap suc (classes_long (k + 1) cs)

  classes_both : (k : ℕ) (xs ys : List Class) → placed_classes files owns k (xs ++ ys) ≡ placed_classes files owns k xs ++ placed_classes files owns (k + length xs) ys
  classes_both k [] ys = let e : k ≡ k + 0 = omega arith in ap (λ (n : ℕ). placed_classes files owns n ys) e
  classes_both k (x ∷ xs) ys =
      let e : k + 1 + length xs ≡ k + suc (length xs) = omega arith in
      ap (λ (z : List ClassPlaces). placed_class files owns k x ∷ z) (classes_both (k + 1) xs ys ∙ ap (λ (n : ℕ). placed_classes files owns (k + 1) xs ++ placed_classes files owns n ys) e)

  pub all_classes : (own system : List Class) (none first all : List ClassPlaces) → none ≡ [] → first ≡ none ++ placed_classes files owns (length none) own
      → all ≡ first ++ placed_classes files owns (length first) system → all ≡ placed_classes files owns 0 (own ++ system)
  all_classes own system none first all z e f =
      let first_is : first ≡ placed_classes files owns 0 own = e ∙ ap (λ (x : List ClassPlaces). x ++ placed_classes files owns (length x) own) z in
      let long = classes_long 0 own in
      let here : length (placed_classes files owns 0 own) ≡ 0 + length own = omega arith in
      f ∙ ap (λ (x : List ClassPlaces). x ++ placed_classes files owns (length x) system) first_is
      ∙ ap (λ (n : ℕ). placed_classes files owns 0 own ++ placed_classes files owns n system) here ∙ sym (classes_both 0 own system)

-- the tables of the subroutines of classes, and of others after them
tables_both : (xs ys : List Class) → map table_of (trees_of (xs ++ ys)) ≡ map table_of (trees_of xs) ++ map table_of (trees_of ys)
tables_both xs ys = ap (map table_of) (flat_map-append (λ (c : Class). c.subroutines.items) xs ys) ∙ map-append table_of (trees_of xs) (trees_of ys)

pub all_tables : (own system : List Class) (none first all : List (List Place)) → none ≡ [] → first ≡ none ++ map table_of (trees_of own) → all ≡ first ++ map table_of (trees_of system)
    → all ≡ map table_of (trees_of (own ++ system))
all_tables own system none first all z e f =
    f ∙ ap (λ (x : List (List Place)). x ++ map table_of (trees_of system)) (e ∙ ap (λ (x : List (List Place)). x ++ map table_of (trees_of own)) z) ∙ sym (tables_both own system)

-- a range by tables is the range by the trees
table_is : (ts : List Subroutine) (k : ℕ) → table_at (map table_of ts) k ≡ option_map table_of (tree_at ts k)
table_is ts zero = refl
table_is ts (suc k) = slice_get-map table_of ts k

place_is : (t : Option Subroutine) (n : ℕ) → place_at (option_map table_of t) n ≡ place_in t n
place_is None n = refl
place_is (Some t) n = refl

range_is : (ts : List Subroutine) (r : PointRange) → range_by (map table_of ts) r ≡ placed_range ts r
range_is ts r =
    let e = ap (λ t. place_at t r.point.number) (table_is ts r.point.sub) ∙ place_is (tree_at ts r.point.sub) r.point.number in
    λ i. record { from = r.from; to = r.to; point = r.point; place = e i }

pub ranges_are : (ts : List Subroutine) (rs : List PointRange) → map (range_by (map table_of ts)) rs ≡ map (placed_range ts) rs
ranges_are ts [] = refl
ranges_are ts (r ∷ rs) = λ i. range_is ts r i ∷ ranges_are ts rs i
