-- The places of classes are given by their abstract syntax.
use Rattle.std.proofs.Common.{◌≡◌, ◌+◌, ◌++◌, ℕ, zero, suc, List, [], ◌∷◌, Option, Some, None, codes, slice_get, length, map, refl, sym, ap, ◌∙◌}
use Rattle.std.proofs.lemmas.List.{length-map, map-append}
use Rattle.scan_text.specs.declared.Place.{Place}
use Rattle.image_map.specs.declared.map.ImageMap.{ImageMap}
use Rattle.image_map.specs.declared.map.PointRange.{PointRange}
use Rattle.jack_tree.specs.Seen.{the_file, the_form, the_locals, the_name, the_names, the_parameter, the_scope, the_subroutine, the_variables}
use Rattle.jack_tree.specs.Syntax as syntax
use Rattle.jack_tree.specs.declared.tree.Class.{Class}
use Rattle.jack_tree.specs.declared.tree.ClassVariables.{ClassVariables}
use Rattle.jack_tree.specs.declared.tree.Form.{Form}
use Rattle.jack_tree.specs.declared.tree.Form.TheVariants as form
use Rattle.jack_tree.specs.declared.tree.Locals.{Locals}
use Rattle.jack_tree.specs.declared.tree.Name.{Name}
use Rattle.jack_tree.specs.declared.tree.Names.{Names}
use Rattle.jack_tree.specs.declared.tree.Parameter.{Parameter}
use Rattle.jack_tree.specs.declared.tree.Scope.{Scope}
use Rattle.jack_tree.specs.declared.tree.Scope.TheVariants as scope
use Rattle.jack_tree.specs.declared.tree.Subroutine as trees
use Rattle.vm_link.specs.declared.linked.Linked.{Linked}
use Rattle.vm_link.specs.declared.linked.LinkedFile.{LinkedFile}
use Rattle.vm_link.specs.declared.linked.LinkedFunction.{LinkedFunction}
use Rattle.jack_compiler.specs.Statics.{words_in, words_until}
use Rattle.jack_debug.specs.Order.{classes_by_name}
use Rattle.jack_debug.specs.Statements.{no_place, place_of}
use Rattle.jack_debug.specs.declared.places.ClassPlaces.{ClassPlaces}
use Rattle.jack_debug.specs.declared.places.PlacedRange.{PlacedRange}
use Rattle.jack_debug.specs.declared.places.Places.{Places}
use Rattle.jack_debug.specs.declared.places.SubPlaces.{SubPlaces}
use Rattle.vm_debug.specs.Places.{argument_names, class_subs, entry_of, field_names, file_name, linked_numbers, local_names, names_in, names_of_fields, names_of_statics, place_in, placed_class, placed_classes, placed_range, placed_statics, placed_subs, static_names, sub_with, the_places, tree_at, trees_of}

-- ---- names

seen_names : syntax.Names → List (List ℕ)
seen_names ns = ns.first.text ∷ map (λ n. n.text) ns.more

texts_seen : (ns : List Name) → map (λ n. n.text) ns ≡ map (λ n. n.text) (map the_name ns)
texts_seen [] = refl
texts_seen (n ∷ ns) = ap (λ z. n.text ∷ z) (texts_seen ns)

names_seen : (ns : Names) → names_in ns ≡ seen_names (the_names ns)
unfolding seen_names
names_seen ns = ap (λ z. ns.first.text ∷ z) (texts_seen ns.more.items)

seen_arguments : List syntax.Parameter → List (List ℕ)
seen_arguments ps = map (λ p. p.name.text) ps

arguments_seen : (ps : List Parameter) → argument_names ps ≡ seen_arguments (map the_parameter ps)
unfolding seen_arguments
arguments_seen [] = refl
arguments_seen (p ∷ ps) = ap (λ z. p.name.text ∷ z) (arguments_seen ps)

seen_locals : List syntax.Locals → List (List ℕ)
seen_locals [] = []
seen_locals (l ∷ ls) = seen_names l.names ++ seen_locals ls

locals_seen : (ls : List Locals) → local_names ls ≡ seen_locals (map the_locals ls)
unfolding seen_locals
locals_seen [] = refl
locals_seen (l ∷ ls) = λ i. names_seen l.names i ++ locals_seen ls i

statics_in : syntax.Scope → syntax.Names → List (List ℕ)
statics_in syntax.Static ns = seen_names ns
statics_in syntax.Field ns = []

statics_one : (s : Scope) (ns : Names) → names_of_statics s ns ≡ statics_in (the_scope s) (the_names ns)
unfolding statics_in
statics_one scope.Static ns = names_seen ns
statics_one scope.Field ns = refl

seen_statics : List syntax.ClassVariables → List (List ℕ)
seen_statics [] = []
seen_statics (v ∷ vs) = statics_in v.scope v.names ++ seen_statics vs

statics_seen : (vs : List ClassVariables) → static_names vs ≡ seen_statics (map the_variables vs)
unfolding seen_statics
statics_seen [] = refl
statics_seen (v ∷ vs) = λ i. statics_one v.scope v.names i ++ statics_seen vs i

fields_in : syntax.Scope → syntax.Names → List (List ℕ)
fields_in syntax.Static ns = []
fields_in syntax.Field ns = seen_names ns

fields_one : (s : Scope) (ns : Names) → names_of_fields s ns ≡ fields_in (the_scope s) (the_names ns)
unfolding fields_in
fields_one scope.Static ns = refl
fields_one scope.Field ns = names_seen ns

seen_fields : List syntax.ClassVariables → List (List ℕ)
seen_fields [] = []
seen_fields (v ∷ vs) = fields_in v.scope v.names ++ seen_fields vs

fields_seen : (vs : List ClassVariables) → field_names vs ≡ seen_fields (map the_variables vs)
unfolding seen_fields
fields_seen [] = refl
fields_seen (v ∷ vs) = λ i. fields_one v.scope v.names i ++ fields_seen vs i

form_in : syntax.Form → Form
form_in syntax.Constructor = form.Constructor
form_in syntax.Function = form.Function
form_in syntax.Method = form.Method

form_seen : (f : Form) → f ≡ form_in (the_form f)
unfolding form_in
form_seen form.Constructor = refl
form_seen form.Function = refl
form_seen form.Method = refl

-- ---- classes

module _ (files : List LinkedFile) (own : ℕ) where
  seen_class : ℕ → syntax.ClassFile → ClassPlaces
  seen_class k c = record {
    name = c.class.name.text;
    file = file_name own k c.file;
    fields = seen_fields c.class.variables;
    statics = placed_statics (16 + words_until files k) (words_in files k) 0 (seen_statics c.class.variables);
  }

  class_seen : (k : ℕ) (c : Class) → placed_class files own k c ≡ seen_class k (the_file c)
  unfolding seen_class
  class_seen k c = λ i. record {
    name = c.name.text;
    file = file_name own k c.file;
    fields = fields_seen c.variables.items i;
    statics = placed_statics (16 + words_until files k) (words_in files k) 0 (statics_seen c.variables.items i);
  }

  seen_classes : ℕ → List syntax.ClassFile → List ClassPlaces
  seen_classes k [] = []
  seen_classes k (c ∷ cs) = seen_class k c ∷ seen_classes (k + 1) cs

  classes_seen : (k : ℕ) (cs : List Class) → placed_classes files own k cs ≡ seen_classes k (map the_file cs)
  unfolding seen_classes
  classes_seen k [] = refl
  classes_seen k (c ∷ cs) = λ i. class_seen k c i ∷ classes_seen (k + 1) cs i

-- ---- subroutines

seen_sub : ℕ → List ℕ → ℕ × ℕ → syntax.Subroutine → SubPlaces
seen_sub class name entry t = record {
  name = name ++ (codes "." ++ t.name.text);
  form = form_in t.form;
  class = class;
  arguments = seen_arguments t.parameters;
  locals = seen_locals t.locals;
  from = entry.0;
  to = entry.1;
}

sub_seen : (class : ℕ) (name : List ℕ) (entry : ℕ × ℕ) (t : trees.Subroutine) → sub_with class name entry t ≡ seen_sub class name entry (the_subroutine t)
unfolding seen_sub
sub_seen class name entry t = λ i. record {
  name = name ++ (codes "." ++ t.name.text);
  form = form_seen t.form i;
  class = class;
  arguments = arguments_seen t.parameters.items i;
  locals = locals_seen t.locals.items i;
  from = entry.0;
  to = entry.1;
}

module _ (fs : List LinkedFunction) (es : List (ℕ × ℕ)) where
  seen_class_subs : ℕ → List ℕ → ℕ → List syntax.Subroutine → List SubPlaces
  seen_class_subs class name n [] = []
  seen_class_subs class name n (t ∷ ts) = seen_sub class name (entry_of fs es n) t ∷ seen_class_subs class name (n + 1) ts

  class_subs_seen : (class : ℕ) (name : List ℕ) (n : ℕ) (ts : List trees.Subroutine) → class_subs fs es class name n ts ≡ seen_class_subs class name n (map the_subroutine ts)
  unfolding seen_class_subs
  class_subs_seen class name n [] = refl
  class_subs_seen class name n (t ∷ ts) = λ i. sub_seen class name (entry_of fs es n) t i ∷ class_subs_seen class name (n + 1) ts i

  seen_subs : ℕ → ℕ → List syntax.ClassFile → List SubPlaces
  seen_subs class n [] = []
  seen_subs class n (c ∷ cs) = seen_class_subs class c.class.name.text n c.class.subroutines ++ seen_subs (class + 1) (n + length c.class.subroutines) cs

  subs_seen : (class n : ℕ) (cs : List Class) → placed_subs fs es class n cs ≡ seen_subs class n (map the_file cs)
  unfolding seen_subs
  subs_seen class n [] = refl
  subs_seen class n (c ∷ cs) =
      let long : length c.subroutines.items ≡ length (map the_subroutine c.subroutines.items) = sym (length-map c.subroutines.items the_subroutine) in
      (λ i. class_subs_seen class c.name.text n c.subroutines.items i ++ subs_seen (class + 1) (n + length c.subroutines.items) cs i)
      ∙ (λ i. seen_class_subs class c.name.text n (map the_subroutine c.subroutines.items) ++ seen_subs (class + 1) (n + long i) (map the_file cs))

-- ---- ranges

seen_trees : List syntax.ClassFile → List syntax.Subroutine
seen_trees [] = []
seen_trees (c ∷ cs) = c.class.subroutines ++ seen_trees cs

trees_seen : (cs : List Class) → map the_subroutine (trees_of cs) ≡ seen_trees (map the_file cs)
unfolding seen_trees
trees_seen [] = refl
trees_seen (c ∷ cs) = map-append the_subroutine c.subroutines.items (trees_of cs) ∙ ap (λ z. map the_subroutine c.subroutines.items ++ z) (trees_seen cs)

seen_place : Option syntax.Subroutine → ℕ → Place
seen_place None n = no_place
seen_place (Some t) n = place_of t n

seen_tree : List syntax.Subroutine → ℕ → Option syntax.Subroutine
seen_tree ts zero = None
seen_tree ts (suc k) = slice_get ts k

place_at_seen : (ts : List trees.Subroutine) (k n : ℕ) → place_in (slice_get ts k) n ≡ seen_place (slice_get (map the_subroutine ts) k) n
unfolding seen_place
place_at_seen [] k n = refl
place_at_seen (t ∷ ts) zero n = refl
place_at_seen (t ∷ ts) (suc k) n = place_at_seen ts k n

place_seen : (ts : List trees.Subroutine) (k n : ℕ) → place_in (tree_at ts k) n ≡ seen_place (seen_tree (map the_subroutine ts) k) n
unfolding seen_place seen_tree
place_seen ts zero n = refl
place_seen ts (suc k) n = place_at_seen ts k n

seen_range : List syntax.Subroutine → PointRange → PlacedRange
seen_range ts r = record { from = r.from; to = r.to; point = r.point; place = seen_place (seen_tree ts r.point.sub) r.point.number }

range_seen : (ts : List trees.Subroutine) (r : PointRange) → placed_range ts r ≡ seen_range (map the_subroutine ts) r
unfolding seen_range
range_seen ts r = λ i. record { from = r.from; to = r.to; point = r.point; place = place_seen ts r.point.sub r.point.number i }

ranges_seen : (ts : List trees.Subroutine) (rs : List PointRange) → map (placed_range ts) rs ≡ map (seen_range (map the_subroutine ts)) rs
ranges_seen ts [] = refl
ranges_seen ts (r ∷ rs) = λ i. range_seen ts r i ∷ ranges_seen ts rs i

-- ---- the whole

seen_places : ℕ → List syntax.ClassFile → Linked → ImageMap → Places
seen_places own all linked m =
    let subs = seen_subs linked.functions m.entries 0 1 all in
    let classes = seen_classes linked.files own 0 all in
    let numbers = linked_numbers linked.functions in
    record {
      ranges = map (seen_range (seen_trees all)) m.points;
      commits = m.commits;
      shared = m.shared;
      subs = subs;
      classes = classes;
      linked = numbers;
      by_name = classes_by_name classes subs numbers;
    }

places_seen : (own system : List Class) (linked : Linked) (m : ImageMap) → the_places own system linked m ≡ seen_places (length own) (map the_file (own ++ system)) linked m
unfolding seen_places
places_seen own system linked m =
    let all = own ++ system in
    let subs = subs_seen linked.functions m.entries 0 1 all in
    let classes = classes_seen linked.files (length own) 0 all in
    let ranges : map (placed_range (trees_of all)) m.points ≡ map (seen_range (seen_trees (map the_file all))) m.points =
    ranges_seen (trees_of all) m.points ∙ ap (λ ts. map (seen_range ts) m.points) (trees_seen all) in
    λ i. record {
      ranges = ranges i;
      commits = m.commits;
      shared = m.shared;
      subs = subs i;
      classes = classes i;
      linked = linked_numbers linked.functions;
      by_name = classes_by_name (classes i) (subs i) (linked_numbers linked.functions);
    }

pub same_places : (own own' system system' : List Class) (linked : Linked) (m : ImageMap) → map the_file own ≡ map the_file own' → map the_file system ≡ map the_file system'
    → the_places own system linked m ≡ the_places own' system' linked m
same_places own own' system system' linked m e d =
    let long : length own ≡ length own' = sym (length-map own the_file) ∙ ap length e ∙ length-map own' the_file in
    let all : map the_file (own ++ system) ≡ map the_file (own' ++ system') = map-append the_file own system ∙ (λ i. e i ++ d i) ∙ sym (map-append the_file own' system') in
    places_seen own system linked m ∙ (λ i. seen_places (long i) (all i) linked m) ∙ sym (places_seen own' system' linked m)
