-- What the tables of the code stand for: the names of a program, and those of a class.
use Rattle.std.specs.Prelude.{ℕ, List, [], ◌∷◌, slice_get, map}
use Rattle.jack_tree.specs.declared.tree.Class.{Class}
use Rattle.name_table.specs.Names.{find_value, with_new}
use Rattle.name_table.specs.Tables.{table_of}
use Rattle.jack_names.specs.Inner.Filed.{the_file}
use Rattle.jack_names.specs.Inner.Scoped.{found_in}
use Rattle.jack_names.specs.Symbols.{Symbols}
use Rattle.jack_names.specs.Symbols.{ClassScope as AClassScope}
use Rattle.jack_names.specs.declared.scope.Slot.{Slot}
use Rattle.jack_names.specs.declared.scope.Slot.TheVariants as slot
use Rattle.jack_names.specs.declared.scope.Names.{Names}
use Rattle.jack_names.specs.declared.scope.ClassScope.{ClassScope}
use Rattle.jack_names.specs.declared.variables.Sort.{Sort}
use Rattle.jack_names.specs.declared.variables.Sort.TheVariants as sort

-- the entries with others, each of them unless its name is there
abbrev pub with_all : {V : Type 0} → List (List ℕ × V) → List (List ℕ × V) → List (List ℕ × V)
with_all es [] = es
with_all es (x ∷ xs) = with_all (with_new es x.0 x.1) xs

abbrev pub the_symbols : Names → Symbols
the_symbols n = record { class = λ x. find_value x (table_of n.classes); subroutine = λ k f. found_in (slice_get n.subroutines.items k) f }

abbrev pub the_class_scope : ClassScope → AClassScope
the_class_scope c = record {
  symbols = the_symbols c.names.now;
  member = λ x. find_value x (table_of c.members.now);
  own = c.own;
  source = the_file c.file;
}

-- the variable of a number among those of its sort
abbrev pub slot_at : Sort → ℕ → Slot
slot_at sort.Local k = slot.Local k
slot_at sort.Field k = slot.Field k
slot_at sort.Static k = slot.Static k

-- the numbers that variables of a sort can have are below this one
abbrev pub most : Sort → ℕ
most sort.Field = 65536
most _ = 4294967296

-- the names of classes, as entries of a table that only says which are there
abbrev pub marks : List Class → List (List ℕ × Unit {0})
marks cs = map (λ c. (c.name.text, tt)) cs
