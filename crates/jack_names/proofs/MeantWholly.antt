-- The program that trees mean is the one that their abstract syntax means: whole programs.
use Rattle.std.proofs.Common.{◌≡◌, ℕ, ◌+◌, zero, suc, max, Bool, true, false, if◌then◌else◌, List, [], ◌∷◌, ◌++◌, map, Option, Some, None, length, slice_get, codes, refl, sym, ap, ◌∙◌, append_assoc, arith}
use Rattle.std.proofs.lemmas.List.{map-append, length-map}
use Rattle.std.specs.Str.{bytes_eq}
use Rattle.jack_meaning.specs.Text as meaning
use Rattle.jack_tree.specs.Syntax as tree
use Rattle.jack_tree.specs.Seen.{the_name, the_scope, the_type, the_form, the_variables, the_locals, the_parameter, the_subroutine, the_statements, the_class, the_file}
use Rattle.jack_tree.specs.declared.tree.Name.{Name}
use Rattle.jack_tree.specs.declared.tree.Type as types
use Rattle.jack_tree.specs.declared.tree.Type.TheVariants as type
use Rattle.jack_tree.specs.declared.tree.Scope as scopes
use Rattle.jack_tree.specs.declared.tree.Scope.TheVariants as scope
use Rattle.jack_tree.specs.declared.tree.Form.{Form}
use Rattle.jack_tree.specs.declared.tree.Form.TheVariants as form
use Rattle.jack_tree.specs.declared.tree.ClassVariables.{ClassVariables}
use Rattle.jack_tree.specs.declared.tree.Locals.{Locals}
use Rattle.jack_tree.specs.declared.tree.Parameter.{Parameter}
use Rattle.jack_tree.specs.declared.tree.Subroutine.{Subroutine}
use Rattle.jack_tree.specs.declared.tree.Class.{Class}
use Rattle.name_table.specs.Names.{find_value, first_of}
use Rattle.jack_names.specs.Inner.Scopes.{Scope}
use Rattle.jack_names.specs.Sizes.{sizes}
use Rattle.jack_names.specs.Inner.Twice.{names_of}
use Rattle.jack_names.specs.Symbols as symbol
use Rattle.jack_names.specs.Inner.Meant as meant
use Rattle.jack_names.specs.Made as shared
use Rattle.jack_names.specs.Inner.Whole as whole
use Rattle.jack_names.specs.Numbers as numbers
use Rattle.jack_names.specs.Meaning as plain
use Rattle.jack_names.specs.declared.scope.Slot.{Slot}
use Rattle.jack_names.specs.declared.scope.Slot.TheVariants as slot
use Rattle.jack_names.specs.declared.scope.Declared.{Declared}
use Rattle.jack_names.specs.declared.scope.Signature.{Signature}
use Rattle.jack_names.proofs.Meaningful.{the_standing, made_same, statements_same, sizes_same, returns_same}

classes_same : (n : ℕ) (cs : List Class) → symbol.class_numbers n cs ≡ numbers.class_numbers n (map the_file cs)
classes_same n [] = refl
classes_same n (c ∷ cs) = ap (λ (l : List (List ℕ × ℕ)). (c.name.text, n) ∷ l) (classes_same (n + 1) cs)

number_either : (b : Bool) (g : Signature) (o : Option Signature) (p : Option ℕ) → meant.number_by o ≡ numbers.number p → meant.number_by (if b then Some g else o) ≡ numbers.number (if b then Some g.number else p)
number_either true g o p h = refl
number_either false g o p h = h

subroutines_same : (n : ℕ) (ss : List Subroutine) (f : List ℕ) → meant.number_by (find_value f (symbol.signatures n ss)) ≡ numbers.number (find_value f (numbers.subroutine_numbers n (map the_subroutine ss)))
subroutines_same n [] f = refl
subroutines_same n (s ∷ ss) f =
    number_either (bytes_eq f s.name.text) (record { number = n; form = s.form; parameters = length s.parameters.items }) (find_value f (symbol.signatures (n + 1) ss)) (find_value f (numbers.subroutine_numbers (n + 1) (map the_subroutine ss)))
    (subroutines_same (n + 1) ss f)

numbers_same : (n : ℕ) (cs : List Class) (k : ℕ) (f : List ℕ) → meant.number_by (symbol.found_at (slice_get (symbol.all_signatures n cs) k) f) ≡ numbers.found_in (slice_get (numbers.all_subroutine_numbers n (map the_file cs)) k) f
numbers_same n [] k f = refl
numbers_same n (c ∷ cs) zero f = subroutines_same n c.subroutines.items f
numbers_same n (c ∷ cs) (suc k) f =
    numbers_same (n + length c.subroutines.items) cs k f
    ∙ ap (λ (m : ℕ). numbers.found_in (slice_get (numbers.all_subroutine_numbers (n + m) (map the_file cs)) k) f) (sym (length-map c.subroutines.items the_subroutine))

names_count : (xs : List Name) → length xs ≡ length (map the_name xs)
names_count xs = sym (length-map xs the_name)

fields_same : (c : scopes.Scope) (v : ClassVariables) → symbol.fields_in c v ≡ numbers.fields_in (the_scope c) (the_variables v)
fields_same scope.Field v = names_count (names_of v.names)
fields_same scope.Static v = refl

statics_same : (c : scopes.Scope) (v : ClassVariables) → symbol.statics_in c v ≡ numbers.statics_in (the_scope c) (the_variables v)
statics_same scope.Field v = refl
statics_same scope.Static v = names_count (names_of v.names)

field_count_same : (vs : List ClassVariables) → symbol.fields_of vs ≡ numbers.field_count (map the_variables vs)
field_count_same [] = refl
field_count_same (v ∷ vs) = λ i. fields_same v.scope v i + field_count_same vs i

static_count_same : (vs : List ClassVariables) → symbol.statics_of vs ≡ numbers.static_count (map the_variables vs)
static_count_same [] = refl
static_count_same (v ∷ vs) = λ i. statics_same v.scope v i + static_count_same vs i

local_count_same : (vs : List Locals) → symbol.locals_of vs ≡ numbers.local_count (map the_locals vs)
local_count_same [] = refl
local_count_same (v ∷ vs) = λ i. names_count (names_of v.names) i + local_count_same vs i

objects_same : (f : Form) → symbol.objects f ≡ numbers.object_count (the_form f)
objects_same form.Constructor = refl
objects_same form.Function = refl
objects_same form.Method = refl

kind_same : (f : Form) → whole.kind_meant f ≡ plain.kind_meaning (the_form f)
kind_same form.Constructor = refl
kind_same form.Function = refl
kind_same form.Method = refl

module _ (sy : symbol.Symbols) where
  type_same : (t : types.Type) → symbol.type_class sy t ≡ numbers.type_number sy.class (the_type t)
  type_same type.Int = refl
  type_same type.Char = refl
  type_same type.Boolean = refl
  type_same (type.Class n) = refl

  line_same : (at : ℕ → Slot) (class : Option ℕ) (k : ℕ) (xs : List Name) → symbol.line_entries at class k xs ≡ numbers.line at class k (map the_name xs)
  line_same at class k [] = refl
  line_same at class k (x ∷ xs) = ap (λ (l : List (List ℕ × Declared)). (x.text, record { slot = at k; class = class }) ∷ l) (line_same at class (k + 1) xs)

  typed_same : (at : ℕ → Slot) (t : types.Type) (k : ℕ) (xs : List Name) → symbol.line_entries at (symbol.type_class sy t) k xs ≡ numbers.line at (numbers.type_number sy.class (the_type t)) k (map the_name xs)
  typed_same at t k xs = ap (λ (c : Option ℕ). symbol.line_entries at c k xs) (type_same t) ∙ line_same at (numbers.type_number sy.class (the_type t)) k xs

  member_same : (f s : ℕ) (v : ClassVariables) (c : scopes.Scope) → symbol.member_line sy f s v c ≡ numbers.member_line sy.class f s (the_variables v) (the_scope c)
  member_same f s v scope.Field = typed_same slot.Field v.kind f (names_of v.names)
  member_same f s v scope.Static = typed_same slot.Static v.kind s (names_of v.names)

  members_same : (f s : ℕ) (vs : List ClassVariables) → symbol.member_entries sy f s vs ≡ numbers.member_slots sy.class f s (map the_variables vs)
  members_same f s [] = refl
  members_same f s (v ∷ vs) =
      λ i. member_same f s v v.scope i
      ++ (members_same (f + symbol.fields_in v.scope v) (s + symbol.statics_in v.scope v) vs
      ∙ (λ j. numbers.member_slots sy.class (f + fields_same v.scope v j) (s + statics_same v.scope v j) (map the_variables vs))) i

  parameters_same : (k : ℕ) (ps : List Parameter) → symbol.parameter_entries sy k ps ≡ numbers.parameter_slots sy.class k (map the_parameter ps)
  parameters_same k [] = refl
  parameters_same k (p ∷ ps) = λ i. (p.name.text, record { slot = slot.Argument k; class = type_same p.kind i }) ∷ parameters_same (k + 1) ps i

  locals_same : (k : ℕ) (vs : List Locals) → symbol.local_entries sy k vs ≡ numbers.local_slots sy.class k (map the_locals vs)
  locals_same k [] = refl
  locals_same k (v ∷ vs) =
      λ i. typed_same slot.Local v.kind k (names_of v.names) i
      ++ (locals_same (k + length (names_of v.names)) vs ∙ ap (λ (n : ℕ). numbers.local_slots sy.class (k + n) (map the_locals vs)) (names_count (names_of v.names))) i

  inner_same : (s : Subroutine) → symbol.variable_entries sy s ≡ numbers.inner_slots sy.class (the_subroutine s)
  inner_same s =
      λ i. (parameters_same (symbol.objects s.form) s.parameters.items ∙ ap (λ (k : ℕ). numbers.parameter_slots sy.class k (map the_parameter s.parameters.items)) (objects_same s.form)) i
      ++ locals_same 0 s.locals.items i

text_of-append : (xs ys : List meaning.Statement) → meaning.text_of (xs ++ ys) ≡ meaning.joined_text (meaning.text_of xs) (meaning.text_of ys)
text_of-append [] ys = refl
text_of-append (x ∷ xs) ys = ap (λ (t : meaning.Text). meaning.Next x t) (text_of-append xs ys)

added_same : (b : Bool) (n : ℕ) → meaning.text_of (whole.added_return b n) ≡ plain.return_added b n
added_same true n = refl
added_same false n = refl

-- the statements of a body, with the return that they lack
rest_same : (s : Scope) (t : Subroutine) → meaning.text_of (meant.statements_meant s 1 t.statements.items ++ whole.added_return (whole.returns t.statements.items) (1 + sizes t.statements.items))
    ≡ meaning.joined_text (plain.block_meaning (the_standing s) 1 (the_statements t.statements.items)) (plain.return_added (plain.returns (the_statements t.statements.items)) (1 + plain.sizes (the_statements t.statements.items)))
rest_same s t =
    let ts = t.statements.items in
    text_of-append (meant.statements_meant s 1 ts) (whole.added_return (whole.returns ts) (1 + sizes ts))
    ∙ (λ i. meaning.joined_text (statements_same s 1 ts i) (added_same (whole.returns ts) (1 + sizes ts) i))
    ∙ (λ i. meaning.joined_text (plain.block_meaning (the_standing s) 1 (the_statements ts)) (plain.return_added (returns_same ts i) (1 + sizes_same ts i)))

body_by : (s : Scope) (fields : ℕ) (f : Form) (xs ys : List meaning.Statement) (rest : meaning.Text) → meaning.text_of (xs ++ ys) ≡ rest → meaning.text_of (whole.first_statements s f fields ++ xs ++ ys) ≡ plain.begin_text (the_standing s) (the_form f) fields rest
body_by s fields form.Constructor xs ys rest e = λ i. meaning.Next (meaning.LetThis 0 (meaning.Call (made_same s (codes "Memory") (codes "alloc") i) (shared.one (meaning.Literal (max 1 fields))))) (e i)
body_by s fields form.Function xs ys rest e = e
body_by s fields form.Method xs ys rest e = e

subroutine_same : (s : Scope) (fields : ℕ) (t : Subroutine) → whole.subroutine_meant s fields t ≡ plain.subroutine_meaning (the_standing s) fields (the_subroutine t)
subroutine_same s fields t =
    let ts = t.statements.items in
    λ i. record {
      kind = kind_same t.form i;
      class = s.own;
      arguments = objects_same t.form i + sym (length-map t.parameters.items the_parameter) i;
      locals = local_count_same t.locals.items i;
      body = body_by s fields t.form (meant.statements_meant s 1 ts) (whole.added_return (whole.returns ts) (1 + sizes ts))
          (meaning.joined_text (plain.block_meaning (the_standing s) 1 (the_statements ts)) (plain.return_added (plain.returns (the_statements ts)) (1 + plain.sizes (the_statements ts)))) (rest_same s t) i;
    }

module _ (all : List Class) where
  abbrev sy : symbol.Symbols
  sy = symbol.symbols_of all

  abbrev plain_all : List tree.ClassFile
  plain_all = map the_file all

  class_same : sy.class ≡ numbers.class_number plain_all
  class_same = λ i x. find_value x (classes_same 0 all i)

  standing_same : (shipped : Bool) (own statics : ℕ) (c : Class) (t : Subroutine) → the_standing (symbol.scope_in (symbol.class_scope sy shipped own statics c) t) ≡ numbers.standing plain_all own statics (the_class c) (the_subroutine t)
  standing_same shipped own statics c t =
      let inner = inner_same sy t ∙ ap (λ (g : List ℕ → Option ℕ). numbers.inner_slots g (the_subroutine t)) class_same in
      let members = members_same sy 0 statics c.variables.items ∙ ap (λ (g : List ℕ → Option ℕ). numbers.member_slots g 0 statics (map the_variables c.variables.items)) class_same in
      λ i. record { variable = λ x. first_of (find_value x (inner i)) (find_value x (members i)); class = class_same i; subroutine = λ k f. numbers_same 1 all k f i; own = own }

  class_subroutines : (shipped : Bool) (own statics fields : ℕ) (c : Class) (ss : List Subroutine)
      → whole.class_subroutines (symbol.class_scope sy shipped own statics c) fields ss ≡ map (λ t. plain.subroutine_meaning (numbers.standing plain_all own statics (the_class c) t) fields t) (map the_subroutine ss)
  class_subroutines shipped own statics fields c [] = refl
  class_subroutines shipped own statics fields c (s ∷ ss) =
      λ i. (subroutine_same (symbol.scope_in (symbol.class_scope sy shipped own statics c) s) fields s ∙ ap (λ (z : numbers.Standing). plain.subroutine_meaning z fields (the_subroutine s)) (standing_same shipped own statics c s)) i
      ∷ class_subroutines shipped own statics fields c ss i

  one_class : (shipped : Bool) (own statics : ℕ) (c : Class) → whole.class_subroutines (symbol.class_scope sy shipped own statics c) (symbol.fields_of c.variables.items) c.subroutines.items
      ≡ map (λ t. plain.subroutine_meaning (numbers.standing plain_all own statics (the_class c) t) (numbers.field_count (map the_variables c.variables.items)) t) (map the_subroutine c.subroutines.items)
  one_class shipped own statics c =
      class_subroutines shipped own statics (symbol.fields_of c.variables.items) c c.subroutines.items
      ∙ ap (λ (n : ℕ). map (λ t. plain.subroutine_meaning (numbers.standing plain_all own statics (the_class c) t) n t) (map the_subroutine c.subroutines.items)) (field_count_same c.variables.items)

  shipped_same : (own statics : ℕ) (cs : List Class) → whole.subroutines_meant sy true own statics cs ≡ plain.subroutines_meaning plain_all own statics (map the_file cs)
  shipped_same own statics [] = refl
  shipped_same own statics (c ∷ cs) =
      λ i. one_class true own statics c i
      ++ (shipped_same (own + 1) (statics + symbol.statics_of c.variables.items) cs ∙ ap (λ (n : ℕ). plain.subroutines_meaning plain_all (own + 1) (statics + n) (map the_file cs)) (static_count_same c.variables.items)) i

  joined_same : (own statics : ℕ) (cs ds : List Class) (own' statics' : ℕ) → own' ≡ own + length cs → statics' ≡ statics + whole.all_statics cs
      → whole.subroutines_meant sy false own statics cs ++ whole.subroutines_meant sy true own' statics' ds ≡ plain.subroutines_meaning plain_all own statics (map the_file (cs ++ ds))
  joined_same own statics [] ds own' statics' e f =
      let p : own' ≡ own = omega arith in
      let q : statics' ≡ statics = omega arith in
      (λ i. whole.subroutines_meant sy true (p i) (q i) ds) ∙ shipped_same own statics ds
  joined_same own statics (c ∷ cs) ds own' statics' e f =
      let more : ℕ = symbol.statics_of c.variables.items in
      append_assoc (whole.class_subroutines (symbol.class_scope sy false own statics c) (symbol.fields_of c.variables.items) c.subroutines.items) (whole.subroutines_meant sy false (own + 1) (statics + more) cs) (whole.subroutines_meant sy true own' statics' ds)
      ∙ (λ i. one_class false own statics c i
      ++ (joined_same (own + 1) (statics + more) cs ds own' statics' (omega arith) (omega arith) ∙ ap (λ (n : ℕ). plain.subroutines_meaning plain_all (own + 1) (statics + n) (map the_file (cs ++ ds))) (static_count_same c.variables.items)) i)

  init_by : (f : List ℕ) (o : Option ℕ) → meant.number_by (whole.found_by sy f o) ≡ numbers.in_class (λ k g. meant.number_by (sy.subroutine k g)) o f
  init_by f None = refl
  init_by f (Some k) = refl

  init_same : meant.number_by (whole.found_subroutine sy (codes "Sys") (codes "init")) ≡ numbers.in_class (numbers.subroutine_number plain_all) (numbers.class_number plain_all (codes "Sys")) (codes "init")
  init_same = init_by (codes "init") (sy.class (codes "Sys")) ∙ (λ i. numbers.in_class (λ k g. numbers_same 1 all k g i) (class_same i (codes "Sys")) (codes "init"))

class_meant_same : (cs : List Class) → map whole.class_meant cs ≡ map plain.class_meaning (map the_file cs)
class_meant_same [] = refl
class_meant_same (c ∷ cs) = λ i. record { fields = field_count_same c.variables.items i; statics = static_count_same c.variables.items i } ∷ class_meant_same cs i

pub program_same : (own os : List Class) → whole.program_meant own os ≡ plain.program_meaning (map the_file own) (map the_file os)
program_same own os =
    let all : List Class = own ++ os in
    let classes : map whole.class_meant own ++ map whole.class_meant os ≡ map plain.class_meaning (map the_file all) = sym (map-append whole.class_meant own os) ∙ class_meant_same all in
    let subroutines : whole.all_subroutines_meant (symbol.symbols_of all) own os ≡ plain.subroutines_meaning (map the_file all) 0 0 (map the_file all) = joined_same all 0 0 own os (length own) (whole.all_statics own) (omega arith) (omega arith) in
    let whole_same : whole.program_meant own os ≡ plain.meaning_of (map the_file all) = λ i. record { classes = classes i; subroutines = whole.start_subroutine ∷ subroutines i; init = init_same all i } in
    whole_same ∙ ap plain.meaning_of (map-append the_file own os)

title_names : (class : List ℕ) (ss : List Subroutine) → map (whole.subroutine_name class) ss ≡ map (plain.full_name class) (map the_subroutine ss)
title_names class [] = refl
title_names class (s ∷ ss) = ap (λ (l : List (List ℕ)). whole.subroutine_name class s ∷ l) (title_names class ss)

full_names_same : (cs ds : List Class) → whole.names_meant cs ++ whole.names_meant ds ≡ plain.full_names (map the_file (cs ++ ds))
full_names_same [] [] = refl
full_names_same [] (d ∷ ds) = λ i. title_names d.name.text d.subroutines.items i ++ full_names_same [] ds i
full_names_same (c ∷ cs) ds =
    append_assoc (map (whole.subroutine_name c.name.text) c.subroutines.items) (whole.names_meant cs) (whole.names_meant ds)
    ∙ (λ i. title_names c.name.text c.subroutines.items i ++ full_names_same cs ds i)

pub names_are : (own os : List Class) → whole.all_names_meant own os ≡ plain.program_names (map the_file own) (map the_file os)
names_are own os = ap (λ (l : List (List ℕ)). codes "start" ∷ l) (full_names_same own os ∙ ap plain.full_names (map-append the_file own os))
