-- The numbers of what classes declare (the symbol tables of the book's chapter 11), over the abstract syntax.
use Rattle.std.specs.Prelude.{ℕ, ◌+◌, List, [], ◌∷◌, ◌++◌, Option, Some, None, length, slice_get}
use Rattle.jack_tree.specs.Syntax as tree
use Rattle.name_table.specs.Names.{find_value, first_of}
use Rattle.jack_names.specs.Using.{all_names}
use Rattle.jack_names.specs.declared.scope.Slot.{Slot}
use Rattle.jack_names.specs.declared.scope.Slot.TheVariants as slot
use Rattle.jack_names.specs.declared.scope.Declared.{Declared}

-- each class by its number, in order from this one on
abbrev pub class_numbers : ℕ → List tree.ClassFile → List (List ℕ × ℕ)
class_numbers n [] = []
class_numbers n (c ∷ cs) = (c.class.name.text, n) ∷ class_numbers (n + 1) cs

-- the subroutines of a class, numbered from this one on
abbrev pub subroutine_numbers : ℕ → List tree.Subroutine → List (List ℕ × ℕ)
subroutine_numbers n [] = []
subroutine_numbers n (s ∷ ss) = (s.name.text, n) ∷ subroutine_numbers (n + 1) ss

-- for each class its subroutines, which are numbered through all classes
abbrev pub all_subroutine_numbers : ℕ → List tree.ClassFile → List (List (List ℕ × ℕ))
all_subroutine_numbers n [] = []
all_subroutine_numbers n (c ∷ cs) = subroutine_numbers n c.class.subroutines ∷ all_subroutine_numbers (n + length c.class.subroutines) cs

-- Here and below, where there is no number, any will do: there is a fault then.
abbrev pub number : Option ℕ → ℕ
number None = 0
number (Some n) = n

abbrev pub found_in : Option (List (List ℕ × ℕ)) → List ℕ → ℕ
found_in None f = 0
found_in (Some es) f = number (find_value f es)

-- the number of a subroutine of a class
abbrev pub in_class : (ℕ → List ℕ → ℕ) → Option ℕ → List ℕ → ℕ
in_class subroutine None f = 0
in_class subroutine (Some k) f = subroutine k f

abbrev pub class_number : List tree.ClassFile → List ℕ → Option ℕ
class_number all x = find_value x (class_numbers 0 all)

abbrev pub subroutine_number : List tree.ClassFile → ℕ → List ℕ → ℕ
subroutine_number all k f = found_in (slice_get (all_subroutine_numbers 1 all) k) f

-- What names stand for in a subroutine: a variable, the number of a class, a subroutine of the class of a number, and the number of its own class.
pub record Standing : Type 0 where
  pub variable : List ℕ → Option Declared
  pub class : List ℕ → Option ℕ
  pub subroutine : ℕ → List ℕ → ℕ
  pub own : ℕ

-- the number of the class that is a type
abbrev pub type_number : (List ℕ → Option ℕ) → tree.ValueType → Option ℕ
type_number class (tree.Object n) = class n.text
type_number class _ = None

-- names of one declaration, numbered from this one on
abbrev pub line : (ℕ → Slot) → Option ℕ → ℕ → List tree.Name → List (List ℕ × Declared)
line at class k [] = []
line at class k (x ∷ xs) = (x.text, record { slot = at k; class = class }) ∷ line at class (k + 1) xs

-- Fields and statics are numbered apart, in order of declaration; f fields and s statics come before.
abbrev pub member_line : (List ℕ → Option ℕ) → ℕ → ℕ → tree.ClassVariables → tree.Scope → List (List ℕ × Declared)
member_line class f s v tree.Field = line slot.Field (type_number class v.type) f (all_names v.names)
member_line class f s v tree.Static = line slot.Static (type_number class v.type) s (all_names v.names)

abbrev pub fields_in : tree.Scope → tree.ClassVariables → ℕ
fields_in tree.Field v = length (all_names v.names)
fields_in tree.Static v = 0

abbrev pub statics_in : tree.Scope → tree.ClassVariables → ℕ
statics_in tree.Field v = 0
statics_in tree.Static v = length (all_names v.names)

-- how many fields and statics there are
abbrev pub field_count : List tree.ClassVariables → ℕ
field_count [] = 0
field_count (v ∷ vs) = fields_in v.scope v + field_count vs

abbrev pub static_count : List tree.ClassVariables → ℕ
static_count [] = 0
static_count (v ∷ vs) = statics_in v.scope v + static_count vs

abbrev pub member_slots : (List ℕ → Option ℕ) → ℕ → ℕ → List tree.ClassVariables → List (List ℕ × Declared)
member_slots class f s [] = []
member_slots class f s (v ∷ vs) = member_line class f s v v.scope ++ member_slots class (f + fields_in v.scope v) (s + statics_in v.scope v) vs

abbrev pub parameter_slots : (List ℕ → Option ℕ) → ℕ → List tree.Parameter → List (List ℕ × Declared)
parameter_slots class k [] = []
parameter_slots class k (p ∷ ps) = (p.name.text, record { slot = slot.Argument k; class = type_number class p.type }) ∷ parameter_slots class (k + 1) ps

abbrev pub local_slots : (List ℕ → Option ℕ) → ℕ → List tree.Locals → List (List ℕ × Declared)
local_slots class k [] = []
local_slots class k (v ∷ vs) = line slot.Local (type_number class v.type) k (all_names v.names) ++ local_slots class (k + length (all_names v.names)) vs

abbrev pub local_count : List tree.Locals → ℕ
local_count [] = 0
local_count (v ∷ vs) = length (all_names v.names) + local_count vs

-- a method's object is its argument 0
abbrev pub object_count : tree.Form → ℕ
object_count tree.Method = 1
object_count _ = 0

-- parameters and locals come before fields and statics
abbrev pub inner_slots : (List ℕ → Option ℕ) → tree.Subroutine → List (List ℕ × Declared)
inner_slots class s = parameter_slots class (object_count s.form) s.parameters ++ local_slots class 0 s.locals

-- in a subroutine of the class of a number, before whose statics come others
abbrev pub standing : List tree.ClassFile → ℕ → ℕ → tree.Class → tree.Subroutine → Standing
standing all own statics c s = record {
  variable = λ x. first_of (find_value x (inner_slots (class_number all) s)) (find_value x (member_slots (class_number all) 0 statics c.variables));
  class = class_number all;
  subroutine = subroutine_number all;
  own = own;
}
