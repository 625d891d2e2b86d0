-- The places of a program: its subroutines and classes as their trees declare them, with the addresses that the image gives them. (The book, chapters
-- 9 and 11: what is declared; chapters 7 and 8: where static words stand.)
use Rattle.std.specs.Prelude.{ℕ, zero, suc, ◌+◌, nat_eq, nat_lt, if◌then◌else◌, List, [], ◌∷◌, ◌++◌, map, length, codes, Option, Some, None, slice_get, unwrap_or}
use Rattle.std.specs.List.{flat_map}
use Rattle.scan_text.specs.declared.Place.{Place}
use Rattle.jack_tree.specs.Seen.{the_subroutine}
use Rattle.jack_tree.specs.declared.tree.Class.{Class}
use Rattle.jack_tree.specs.declared.tree.ClassVariables.{ClassVariables}
use Rattle.jack_tree.specs.declared.tree.Locals.{Locals}
use Rattle.jack_tree.specs.declared.tree.Names.{Names}
use Rattle.jack_tree.specs.declared.tree.Parameter.{Parameter}
use Rattle.jack_tree.specs.declared.tree.Scope.{Scope}
use Rattle.jack_tree.specs.declared.tree.Scope.TheVariants.{Static, Field}
use Rattle.jack_tree.specs.declared.tree.Subroutine.{Subroutine}
use Rattle.vm_link.specs.declared.linked.Linked.{Linked}
use Rattle.vm_link.specs.declared.linked.LinkedFile.{LinkedFile}
use Rattle.vm_link.specs.declared.linked.LinkedFunction.{LinkedFunction}
use Rattle.image_map.specs.declared.map.ImageMap.{ImageMap}
use Rattle.image_map.specs.declared.map.PointRange.{PointRange}
use Rattle.jack_compiler.specs.Statics.{words_in, words_until}
use Rattle.jack_debug.specs.declared.places.ClassPlaces.{ClassPlaces}
use Rattle.jack_debug.specs.declared.places.PlacedRange.{PlacedRange}
use Rattle.jack_debug.specs.declared.places.PlacedStatic.{PlacedStatic}
use Rattle.jack_debug.specs.declared.places.Places.{Places}
use Rattle.jack_debug.specs.declared.places.SubPlaces.{SubPlaces}
use Rattle.jack_debug.specs.Order.{classes_by_name}
use Rattle.jack_debug.specs.Statements.{no_place, place_of}

-- the names of a declaration, in order
abbrev pub names_in : Names → List (List ℕ)
names_in ns = ns.first.text ∷ map (λ n. n.text) ns.more.items

abbrev pub argument_names : List Parameter → List (List ℕ)
argument_names ps = map (λ p. p.name.text) ps

abbrev pub local_names : List Locals → List (List ℕ)
local_names ls = flat_map (λ l. names_in l.names) ls

abbrev pub names_of_statics : Scope → Names → List (List ℕ)
names_of_statics Static ns = names_in ns
names_of_statics Field ns = []

abbrev pub static_names : List ClassVariables → List (List ℕ)
static_names vs = flat_map (λ v. names_of_statics v.scope v.names) vs

abbrev pub names_of_fields : Scope → Names → List (List ℕ)
names_of_fields Static ns = []
names_of_fields Field ns = names_in ns

abbrev pub field_names : List ClassVariables → List (List ℕ)
field_names vs = flat_map (λ v. names_of_fields v.scope v.names) vs

-- The name of the file of the class of number k. The first `own` classes are the folder's own, and those after them are the operating
-- system's.
abbrev pub file_name : ℕ → ℕ → List ℕ → List ℕ
file_name own k file = if nat_lt k own then file else (codes "os/" ++ file)

-- The entry code of the function of this number, where it is linked: the entries come in the order of the functions.
abbrev pub entry_in : List (ℕ × ℕ) → ℕ → ℕ × ℕ
entry_in es k = unwrap_or (slice_get es k) (0, 0)

abbrev pub entry_from : ℕ → List LinkedFunction → List (ℕ × ℕ) → ℕ → ℕ × ℕ
entry_from k [] es n = (0, 0)
entry_from k (f ∷ fs) es n = if nat_eq f.number n then entry_in es k else entry_from (k + 1) fs es n

abbrev pub entry_of : List LinkedFunction → List (ℕ × ℕ) → ℕ → ℕ × ℕ
entry_of fs es n = entry_from 0 fs es n

-- Statics whose words begin at an address. This many of them have a word, and the first is number k of its
-- class.
abbrev pub placed_statics : ℕ → ℕ → ℕ → List (List ℕ) → List PlacedStatic
placed_statics first words k [] = []
placed_statics first words k (n ∷ ns) = record { name = n; address = if nat_lt k words then Some (first + k) else None } ∷ placed_statics first words (k + 1) ns

-- the class of number k
abbrev pub placed_class : List LinkedFile → ℕ → ℕ → Class → ClassPlaces
placed_class files own k c = record {
  name = c.name.text;
  file = file_name own k c.file;
  fields = field_names c.variables.items;
  statics = placed_statics (16 + words_until files k) (words_in files k) 0 (static_names c.variables.items);
}

-- classes, the first of which has number k
abbrev pub placed_classes : List LinkedFile → ℕ → ℕ → List Class → List ClassPlaces
placed_classes files own k [] = []
placed_classes files own k (c ∷ cs) = placed_class files own k c ∷ placed_classes files own (k + 1) cs

-- a subroutine of the class of this number and name, with its entry code
abbrev pub sub_with : ℕ → List ℕ → ℕ × ℕ → Subroutine → SubPlaces
sub_with class name entry t = record {
  name = name ++ (codes "." ++ t.name.text);
  form = t.form;
  class = class;
  arguments = argument_names t.parameters.items;
  locals = local_names t.locals.items;
  from = entry.0;
  to = entry.1;
}

-- The subroutines of a class, and of classes: the numbers of the first class and of the first subroutine are given.
module _ (fs : List LinkedFunction) (es : List (ℕ × ℕ)) where
  abbrev pub class_subs : ℕ → List ℕ → ℕ → List Subroutine → List SubPlaces
  class_subs class name n [] = []
  class_subs class name n (t ∷ ts) = sub_with class name (entry_of fs es n) t ∷ class_subs class name (n + 1) ts

  abbrev pub placed_subs : ℕ → ℕ → List Class → List SubPlaces
  placed_subs class n [] = []
  placed_subs class n (c ∷ cs) = class_subs class c.name.text n c.subroutines.items ++ placed_subs (class + 1) (n + length c.subroutines.items) cs

-- the subroutines of classes, in order of their numbers from 1
abbrev pub trees_of : List Class → List Subroutine
trees_of cs = flat_map (λ (c : Class). c.subroutines.items) cs

-- the subroutine of a number; `start`, which is 0, has no text
abbrev pub tree_at : List Subroutine → ℕ → Option Subroutine
tree_at ts zero = None
tree_at ts (suc k) = slice_get ts k

abbrev pub place_in : Option Subroutine → ℕ → Place
place_in None n = no_place
place_in (Some t) n = place_of (the_subroutine t) n

-- A range is at the place of its point's statement.
abbrev pub placed_range : List Subroutine → PointRange → PlacedRange
placed_range ts r = record { from = r.from; to = r.to; point = r.point; place = place_in (tree_at ts r.point.sub) r.point.number }

abbrev pub linked_numbers : List LinkedFunction → List ℕ
linked_numbers fs = map (λ (f : LinkedFunction). f.number) fs

-- The places of a program of a folder's own classes and the operating system's, and of their linked code, whose image has this map. Subroutines are
-- numbered as in the program, in the order of the text from 1; functions are linked in order of address.
abbrev pub the_places : List Class → List Class → Linked → ImageMap → Places
the_places own system linked m =
    let all = own ++ system in
    let subs = placed_subs linked.functions m.entries 0 1 all in
    let classes = placed_classes linked.files (length own) 0 all in
    let numbers = linked_numbers linked.functions in
    record {
      ranges = map (placed_range (trees_of all)) m.points;
      commits = m.commits;
      shared = m.shared;
      subs = subs;
      classes = classes;
      linked = numbers;
      by_name = classes_by_name classes subs numbers;
    }
