-- The search of the code and the search over abstract syntax are one: uses.
use Rattle.std.proofs.Common.{◌≡◌, ℕ, ◌+◌, Bool, true, false, not, ◌&&◌, ◌==◌, if◌then◌else◌, List, [], ◌∷◌, ◌++◌, map, Option, Some, None, is_none, length, codes, refl, sym, ap, subst, ◌∙◌}
use Rattle.std.specs.Str.{bytes_eq}
use Rattle.scan_text.specs.declared.Place.{Place}
use Rattle.jack_tree.specs.Syntax as tree
use Rattle.jack_tree.specs.Seen.{the_name, the_names, the_scope, the_type, the_form, the_variables, the_locals, the_parameter, the_subroutine, the_class}
use Rattle.jack_tree.specs.declared.tree.Name.{Name}
use Rattle.jack_tree.specs.declared.tree.Type as types
use Rattle.jack_tree.specs.declared.tree.Type.TheVariants as type
use Rattle.jack_tree.specs.declared.tree.Scope as scopes
use Rattle.jack_tree.specs.declared.tree.Scope.TheVariants as scope
use Rattle.jack_tree.specs.declared.tree.Form.{Form}
use Rattle.jack_tree.specs.declared.tree.Form.TheVariants as form
use Rattle.jack_tree.specs.declared.tree.ClassVariables.{ClassVariables}
use Rattle.jack_tree.specs.declared.tree.Locals.{Locals}
use Rattle.jack_tree.specs.declared.tree.Parameter.{Parameter}
use Rattle.jack_tree.specs.declared.tree.Subroutine.{Subroutine}
use Rattle.jack_tree.specs.declared.tree.Class.{Class}
use Rattle.name_table.specs.Names.{find_value, first_of}
use Rattle.jack_names.specs.Faults.{NameDiagnostic, Source, diagnostic_in, diagnostic_if, first_in}
use Rattle.jack_names.specs.Inner.Uses as code
use Rattle.jack_names.specs.Using as plain
use Rattle.jack_names.specs.Inner.Scopes as scoped
use Rattle.jack_names.specs.Symbols as symbol
use Rattle.jack_names.specs.Inner.Twice.{names_of}
use Rattle.jack_names.specs.NameFaults.{Target, told_at, class_of, type_class, variable_of, target, front_target, through}
use Rattle.jack_names.specs.declared.fault.NameKind.{NameKind}
use Rattle.jack_names.specs.declared.fault.NameKind.TheVariants as kinds
use Rattle.jack_names.specs.declared.scope.Slot.{Slot}
use Rattle.jack_names.specs.declared.scope.Slot.TheVariants as slot
use Rattle.jack_names.specs.declared.scope.Way.{Way}
use Rattle.jack_names.specs.declared.scope.Way.TheVariants as way
use Rattle.jack_names.specs.declared.scope.Declared.{Declared}
use Rattle.jack_names.specs.declared.scope.Signature.{Signature}
use Rattle.jack_names.specs.declared.scope.Callee.{Callee}
use Rattle.name_table.proofs.Entries.{found-append}
use Rattle.jack_names.proofs.Naming.{first_assoc, first_none}
use Rattle.jack_names.proofs.Finding.{fails_if}
use Rattle.jack_names.proofs.Searched.{is_function, is_method, miscounts, wrong_method, wrong_function, called, called_at, field_in, lesser_of, kind_of, lesser, this_at, made, all_made, point, body_faults}
use Rattle.jack_names.proofs.Plainly.{points, all_points, uses_same}

abbrev pub title : tree.Subroutine → List ℕ
title s = s.name.text

abbrev pub class_title : tree.ClassFile → List ℕ
class_title c = c.class.name.text

abbrev variable_title : plain.Variable → List ℕ
variable_title v = v.name.text

-- a subroutine, as the code's tables have it
abbrev pub IsSignature : Option Signature → Option tree.Subroutine → Type 0
IsSignature None None = Unit {0}
IsSignature (Some g) (Some s) = (the_form g.form ≡ s.form) × (g.parameters ≡ length s.parameters)
IsSignature _ _ = ⊥

-- a class, by the subroutines that the number of it leads to
abbrev pub IsClass : (ℕ → List ℕ → Option Signature) → Option ℕ → Option tree.ClassFile → Type 0
IsClass sub None None = Unit {0}
IsClass sub (Some k) (Some c) = (f : List ℕ) → IsSignature (sub k f) (plain.find_named title f c.class.subroutines)
IsClass sub _ _ = ⊥

pub function_same : (f : Form) → scoped.is_function f ≡ is_function (the_form f)
function_same form.Constructor = refl
function_same form.Function = refl
function_same form.Method = refl

method_same : (f : Form) → scoped.is_method f ≡ is_method (the_form f)
method_same form.Constructor = refl
method_same form.Function = refl
method_same form.Method = refl

told_kind : (b : Bool) (kind : NameKind) (from : Source) (name : List ℕ) (at : Place) → diagnostic_if from name at (scoped.kind_if b kind) ≡ fails_if b (diagnostic_in from name at kind)
told_kind true kind from name at = refl
told_kind false kind from name at = refl

told_first : (from : Source) (name : List ℕ) (at : Place) (a b : Option NameKind) → diagnostic_if from name at (first_of a b) ≡ first_of (diagnostic_if from name at a) (diagnostic_if from name at b)
told_first from name at None b = refl
told_first from name at (Some k) b = refl

way_told : (from : Source) (f : tree.Name) (w : Way) (g : Form) (s : tree.Subroutine) → the_form g ≡ s.form
    → diagnostic_if from f.text f.place (scoped.way_kind w g) ≡ first_of (fails_if (wrong_method w (Some s)) (told_at from kinds.MethodByClass f)) (fails_if (wrong_function w (Some s)) (told_at from kinds.FunctionByObject f))
way_told from f way.ByClass g s e =
    told_kind (scoped.is_method g) kinds.MethodByClass from f.text f.place ∙ ap (λ (b : Bool). fails_if b (told_at from kinds.MethodByClass f)) (method_same g ∙ ap is_method e)
    ∙ sym (first_none (fails_if (is_method s.form) (told_at from kinds.MethodByClass f)))
way_told from f way.ByObject g s e =
    told_kind (not (scoped.is_method g)) kinds.FunctionByObject from f.text f.place ∙ ap (λ (b : Bool). fails_if (not b) (told_at from kinds.FunctionByObject f)) (method_same g ∙ ap is_method e)
way_told from f way.Own g s e =
    told_kind (not (scoped.is_method g)) kinds.FunctionByObject from f.text f.place ∙ ap (λ (b : Bool). fails_if (not b) (told_at from kinds.FunctionByObject f)) (method_same g ∙ ap is_method e)

-- a call of a subroutine, and then what is wrong with a call without class or variable
called_told : (from : Source) (f : tree.Name) (n : ℕ) (w : Way) (form : Form) (o : Option Signature) (p : Option tree.Subroutine) → IsSignature o p
    → diagnostic_if from f.text f.place (scoped.signature_kind form w n o) ≡ first_of (called from f n w p) (diagnostic_if from f.text f.place (scoped.own_kind w form))
called_told from f n w form None None h = refl
called_told from f n w form None (Some s) h = absurd h
called_told from f n w form (Some g) None h = absurd h
called_told from f n w form (Some g) (Some s) h =
    let own : Option NameKind = scoped.own_kind w form in
    let t : Option NameKind → Option NameDiagnostic = diagnostic_if from f.text f.place in
    let a : Option NameDiagnostic = fails_if (miscounts n (Some s)) (told_at from kinds.ArgumentCount f) in
    let b : Option NameDiagnostic = first_of (fails_if (wrong_method w (Some s)) (told_at from kinds.MethodByClass f)) (fails_if (wrong_function w (Some s)) (told_at from kinds.FunctionByObject f)) in
    let count : t (scoped.count_kind n g) ≡ a =
    told_kind (not (g.parameters == n)) kinds.ArgumentCount from f.text f.place ∙ ap (λ (k : ℕ). fails_if (not (k == n)) (told_at from kinds.ArgumentCount f)) h.1 in
    told_first from f.text f.place (scoped.count_kind n g) (first_of (scoped.way_kind w g.form) own)
    ∙ (λ i. first_of (count i) (told_first from f.text f.place (scoped.way_kind w g.form) own i)) ∙ (λ i. first_of a (first_of (way_told from f w g.form s h.0 i) (t own)))
    ∙ sym (first_assoc a b (t own))

-- a call that the text does not write: its name is the subroutine's, where the class is there
abbrev IsKept : Source → List ℕ → List ℕ → Place → Option NameKind → Type 0
IsKept from c f at o = scoped.made_diagnostic from c f at o ≡ diagnostic_if from f at o

kept_if : (from : Source) (c f : List ℕ) (at : Place) (b : Bool) (kind : NameKind) → scoped.made_name c f kind ≡ f → IsKept from c f at (scoped.kind_if b kind)
kept_if from c f at true kind e = ap (λ (z : List ℕ). Some (diagnostic_in from z at kind)) e
kept_if from c f at false kind e = refl

kept_first : (from : Source) (c f : List ℕ) (at : Place) (a b : Option NameKind) → IsKept from c f at a → IsKept from c f at b → IsKept from c f at (first_of a b)
kept_first from c f at None b h k = k
kept_first from c f at (Some a) b h k = h

kept_way : (from : Source) (c f : List ℕ) (at : Place) (w : Way) (g : Form) → IsKept from c f at (scoped.way_kind w g)
kept_way from c f at way.ByClass g = kept_if from c f at (scoped.is_method g) kinds.MethodByClass refl
kept_way from c f at way.ByObject g = kept_if from c f at (not (scoped.is_method g)) kinds.FunctionByObject refl
kept_way from c f at way.Own g = kept_if from c f at (not (scoped.is_method g)) kinds.FunctionByObject refl

kept_own : (from : Source) (c f : List ℕ) (at : Place) (w : Way) (g : Form) → IsKept from c f at (scoped.own_kind w g)
kept_own from c f at way.ByClass g = refl
kept_own from c f at way.ByObject g = refl
kept_own from c f at way.Own g = kept_if from c f at (scoped.is_function g) kinds.OwnInFunction refl

kept_call : (from : Source) (c f : List ℕ) (at : Place) (n : ℕ) (w : Way) (form : Form) (o : Option Signature) → IsKept from c f at (scoped.signature_kind form w n o)
kept_call from c f at n w form None = refl
kept_call from c f at n w form (Some g) =
    kept_first from c f at (scoped.count_kind n g) (first_of (scoped.way_kind w g.form) (scoped.own_kind w form)) (kept_if from c f at (not (g.parameters == n)) kinds.ArgumentCount refl)
    (kept_first from c f at (scoped.way_kind w g.form) (scoped.own_kind w form) (kept_way from c f at w g.form) (kept_own from c f at w form))

abbrev not_own : Way → Type 0
not_own w = (form : Form) → scoped.own_kind w form ≡ None

-- a call through a class or an object has nothing more
plain_call : (from : Source) (f : tree.Name) (n : ℕ) (w : Way) (form : Form) (o : Option Signature) (p : Option tree.Subroutine) → not_own w → IsSignature o p
    → diagnostic_if from f.text f.place (scoped.signature_kind form w n o) ≡ called from f n w p
plain_call from f n w form o p other h =
    called_told from f n w form o p h ∙ ap (λ (k : Option NameKind). first_of (called from f n w p) (diagnostic_if from f.text f.place k)) (other form) ∙ first_none (called from f n w p)

module _ (own os : List tree.ClassFile) where
  -- a call that is made by itself
  pub made_same : (from : Source) (m : plain.Made) (s : scoped.Scope) → ((form : Form) → scoped.own_kind m.way form ≡ None) → (o : Option ℕ) (p : Option tree.ClassFile) → class_of own os m.class ≡ p → IsClass s.subroutine o p
      → scoped.made_diagnostic from m.class m.name m.place (scoped.made_kind s m.way m.name m.arguments o) ≡ made own os from m
  made_same from m s other None None e h =
      let name : tree.Name = record { text = m.class; place = m.place } in
      let f : tree.Name = record { text = m.name; place = m.place } in
      ap (λ (z : Option tree.ClassFile). first_of (fails_if (is_none z) (told_at from kinds.UnknownClass name)) (called_at from f m.arguments (through m.way z))) (sym e)
  made_same from m s other None (Some c) e h = absurd h
  made_same from m s other (Some k) None e h = absurd h
  made_same from m s other (Some k) (Some c) e h =
      let name : tree.Name = record { text = m.class; place = m.place } in
      let f : tree.Name = record { text = m.name; place = m.place } in
      kept_call from m.class m.name m.place m.arguments m.way s.form (s.subroutine k m.name)
      ∙ plain_call from f m.arguments m.way s.form (s.subroutine k m.name) (plain.find_named title m.name c.class.subroutines) other (h m.name)
      ∙ ap (λ (z : Option tree.ClassFile). first_of (fails_if (is_none z) (told_at from kinds.UnknownClass name)) (called_at from f m.arguments (through m.way z))) (sym e)

  -- a variable, as the code's tables have it
  abbrev pub IsVariable : (ℕ → List ℕ → Option Signature) → Option Declared → Option plain.Variable → Type 0
  IsVariable sub None None = Unit {0}
  IsVariable sub (Some v) (Some w) = (scoped.is_field v.slot ≡ w.is_field) × IsClass sub v.class (type_class own os w.type)
  IsVariable sub _ _ = ⊥

  -- a body, as the code's scope has it
  pub record IsBody (s : scoped.Scope) (b : plain.Body) : Type 0 where
    pub form : the_form s.form ≡ b.form
    pub variable : (x : List ℕ) → IsVariable s.subroutine (s.variable x) (plain.find_named variable_title x b.variables)
    pub class : (x : List ℕ) → IsClass s.subroutine (s.class x) (class_of own os x)
    pub own_class : (f : List ℕ) → IsSignature (s.subroutine s.own f) (plain.find_named title f b.siblings)

  -- a field in a function
  field_told : (from : Source) (x : Name) (c d : Bool) → diagnostic_if from x.text x.place (if c then scoped.kind_if d kinds.FieldInFunction else None) ≡ fails_if (c && d) (told_at from kinds.FieldInFunction (the_name x))
  field_told from x true true = refl
  field_told from x true false = refl
  field_told from x false d = refl

  field_same : (from : Source) (x : Name) (s : scoped.Scope) (b : plain.Body) → the_form s.form ≡ b.form → (v : Declared) (w : plain.Variable) → scoped.is_field v.slot ≡ w.is_field
      → diagnostic_if from x.text x.place (scoped.field_kind s.form v) ≡ fails_if (field_in b (Some w)) (told_at from kinds.FieldInFunction (the_name x))
  field_same from x s b f v w e =
      field_told from x (scoped.is_function s.form) (scoped.is_field v.slot)
      ∙ (λ i. fails_if ((function_same s.form ∙ ap is_function f) i && e i) (told_at from kinds.FieldInFunction (the_name x)))

  no_field : (c : Bool) (t : NameDiagnostic) → fails_if (c && false) t ≡ None
  no_field true t = refl
  no_field false t = refl

  variable_same : (from : Source) (x : Name) (s : scoped.Scope) (b : plain.Body) → the_form s.form ≡ b.form → (o : Option Declared) (p : Option plain.Variable) → IsVariable s.subroutine o p
      → diagnostic_if from x.text x.place (scoped.variable_kind s.form o) ≡ first_of (fails_if (is_none p) (told_at from kinds.UnknownVariable (the_name x))) (fails_if (field_in b p) (told_at from kinds.FieldInFunction (the_name x)))
  variable_same from x s b f None None h = refl
  variable_same from x s b f None (Some w) h = absurd h
  variable_same from x s b f (Some v) None h = absurd h
  variable_same from x s b f (Some v) (Some w) h = field_same from x s b f v w h.0

  -- a call through a front
  abbrev front_points : Source → plain.Body → tree.Name → tree.Name → ℕ → Option plain.Variable → Option Target → Option NameDiagnostic
  front_points from b x f n p t =
      first_of (first_of (fails_if (is_none t) (told_at from kinds.UnknownClass x)) (fails_if (field_in b p) (told_at from kinds.FieldInFunction x))) (called_at from f n t)

  abbrev front_code : Source → scoped.Scope → Name → Name → ℕ → Option Declared → Option Callee → Option NameDiagnostic
  front_code from s x f n o c = first_of (diagnostic_if from x.text x.place (scoped.front_by s.form o c)) (diagnostic_if from f.text f.place (scoped.called_kind s f.text n c))

  by_class_same : (from : Source) (x f : Name) (n : ℕ) (s : scoped.Scope) (b : plain.Body) (k : Option ℕ) (c : Option tree.ClassFile) → IsClass s.subroutine k c
      → front_code from s x f n None (scoped.through way.ByClass k) ≡ front_points from b (the_name x) (the_name f) n None (through way.ByClass c)
  by_class_same from x f n s b None None h = refl
  by_class_same from x f n s b None (Some c) h = absurd h
  by_class_same from x f n s b (Some k) None h = absurd h
  by_class_same from x f n s b (Some k) (Some c) h =
      plain_call from (the_name f) n way.ByClass s.form (s.subroutine k f.text) (plain.find_named title f.text c.class.subroutines) (λ g. refl) (h f.text)
      ∙ ap (λ (o : Option NameDiagnostic). first_of o (called from (the_name f) n way.ByClass (plain.find_named title f.text c.class.subroutines))) (sym (no_field (is_function b.form) (told_at from kinds.FieldInFunction (the_name x))))

  by_object_same : (from : Source) (x f : Name) (n : ℕ) (s : scoped.Scope) (b : plain.Body) → the_form s.form ≡ b.form → (v : Declared) (w : plain.Variable) → scoped.is_field v.slot ≡ w.is_field
      → (k : Option ℕ) (c : Option tree.ClassFile) → IsClass s.subroutine k c
      → front_code from s x f n (Some v) (scoped.through way.ByObject k) ≡ front_points from b (the_name x) (the_name f) n (Some w) (through way.ByObject c)
  by_object_same from x f n s b g v w e None None h = refl
  by_object_same from x f n s b g v w e None (Some c) h = absurd h
  by_object_same from x f n s b g v w e (Some k) None h = absurd h
  by_object_same from x f n s b g v w e (Some k) (Some c) h =
      λ i. first_of (field_same from x s b g v w e i)
      (plain_call from (the_name f) n way.ByObject s.form (s.subroutine k f.text) (plain.find_named title f.text c.class.subroutines) (λ g. refl) (h f.text) i)

  front_same : (from : Source) (x f : Name) (n : ℕ) (s : scoped.Scope) (b : plain.Body) → IsBody s b → (o : Option Declared) (p : Option plain.Variable) → IsVariable s.subroutine o p
      → front_code from s x f n o (scoped.callee_by o (s.class x.text)) ≡ front_points from b (the_name x) (the_name f) n p (front_target own os p (the_name x))
  front_same from x f n s b is None None h = by_class_same from x f n s b (s.class x.text) (class_of own os x.text) (is.class x.text)
  front_same from x f n s b is None (Some w) h = absurd h
  front_same from x f n s b is (Some v) None h = absurd h
  front_same from x f n s b is (Some v) (Some w) h = by_object_same from x f n s b is.form v w h.0 v.class (type_class own os w.type) h.1

  kind_told : (from : Source) (c f : List ℕ) (at : Place) (o : Option NameKind) → kind_of (scoped.made_diagnostic from c f at o) ≡ o
  kind_told from c f at None = refl
  kind_told from c f at (Some k) = refl

  if_lesser : (b : Bool) (n a : Option NameDiagnostic) → (if b then a else n) ≡ lesser_of b n a
  if_lesser true n a = refl
  if_lesser false n a = refl

  -- the calls that fill a string
  filled_same : (s : scoped.Scope) (b : plain.Body) → IsBody s b → (text : List ℕ) (at : Place) → scoped.made_diagnostic s.source (codes "String") (codes "appendChar") at (scoped.append_kind s text) ≡ all_made own os s.source (plain.filled_parts text at)
  filled_same s b is [] at = refl
  filled_same s b is (c ∷ text) at =
      let m : plain.Made = record { way = way.ByObject; class = codes "String"; name = codes "appendChar"; arguments = 1; place = at } in
      made_same s.source m s (λ g. refl) (s.class (codes "String")) (class_of own os (codes "String")) refl (is.class (codes "String"))

  string_same : (s : scoped.Scope) (b : plain.Body) → IsBody s b → (t : Name) → scoped.string_fault s t.text t.place ≡ point own os s.source b (plain.OfString (the_name t))
  string_same s b is t =
      let m : plain.Made = plain.by_class (codes "String") (codes "new") 1 t.place in
      let n : Option NameDiagnostic = scoped.made_diagnostic s.source (codes "String") (codes "new") t.place (scoped.new_kind s) in
      let a : Option NameDiagnostic = scoped.made_diagnostic s.source (codes "String") (codes "appendChar") t.place (scoped.append_kind s t.text) in
      let first : n ≡ made own os s.source m = made_same s.source m s (λ g. refl) (s.class (codes "String")) (class_of own os (codes "String")) refl (is.class (codes "String")) in
      let second : a ≡ all_made own os s.source (plain.filled_parts t.text t.place) = filled_same s b is t.text t.place in
      if_lesser (scoped.is_lesser (scoped.new_kind s) (scoped.append_kind s t.text)) n a
      ∙ (λ i. lesser_of (scoped.is_lesser (sym (kind_told s.source (codes "String") (codes "new") t.place (scoped.new_kind s)) i) (sym (kind_told s.source (codes "String") (codes "appendChar") t.place (scoped.append_kind s t.text)) i)) n a)
      ∙ (λ i. lesser (first i) (second i))

  pub use_same : (s : scoped.Scope) (b : plain.Body) → IsBody s b → (u : code.Use) → scoped.use_fault s u ≡ first_in (point own os s.source b) (points u)
  use_same s b is (code.Variable x) =
      variable_same s.source x s b is.form (s.variable x.text) (variable_of b (the_name x)) (is.variable x.text) ∙ sym (first_none (point own os s.source b (plain.OfVariable (the_name x))))
  use_same s b is (code.This at) =
      told_kind (scoped.is_function s.form) kinds.ThisInFunction s.source (codes "this") at
      ∙ ap (λ (c : Bool). fails_if c (told_at s.source kinds.ThisInFunction (this_at at))) (function_same s.form ∙ ap is_function is.form)
      ∙ sym (first_none (point own os s.source b (plain.OfThis at)))
  use_same s b is (code.Calls None f n) =
      let p : Option tree.Subroutine = plain.find_named title f.text b.siblings in
      called_told s.source (the_name f) n way.Own s.form (s.subroutine s.own f.text) p (is.own_class f.text)
      ∙ ap (λ (o : Option NameDiagnostic). first_of (called s.source (the_name f) n way.Own p) o)
      (told_kind (scoped.is_function s.form) kinds.OwnInFunction s.source f.text f.place ∙ ap (λ (c : Bool). fails_if c (told_at s.source kinds.OwnInFunction (the_name f))) (function_same s.form ∙ ap is_function is.form))
      ∙ sym (first_none (point own os s.source b (plain.OfCall None (the_name f) n)))
  use_same s b is (code.Calls (Some x) f n) =
      let c : Option NameDiagnostic = called_at s.source (the_name f) n (target own os b (Some (the_name x))) in
      front_same s.source x f n s b is (s.variable x.text) (variable_of b (the_name x)) (is.variable x.text)
      ∙ ap (λ (o : Option NameDiagnostic). first_of (point own os s.source b (plain.OfFront (the_name x))) o) (sym (first_none c) ∙ sym (first_none (first_of c None)))
  use_same s b is (code.Makes c f n at) =
      let m : plain.Made = plain.by_class c f n at in
      made_same s.source m s (λ g. refl) (s.class c) (class_of own os c) refl (is.class c) ∙ sym (first_none (made own os s.source m))
  use_same s b is (code.Text t) = string_same s b is t ∙ sym (first_none (point own os s.source b (plain.OfString (the_name t))))

  first_in-append : {A : Type 0} (f : A → Option NameDiagnostic) (xs ys : List A) → first_in f (xs ++ ys) ≡ first_of (first_in f xs) (first_in f ys)
  first_in-append f [] ys = refl
  first_in-append f (x ∷ xs) ys = ap (λ (o : Option NameDiagnostic). first_of (f x) o) (first_in-append f xs ys) ∙ sym (first_assoc (f x) (first_in f xs) (first_in f ys))

  points_same : (s : scoped.Scope) (b : plain.Body) → IsBody s b → (us : List code.Use) → scoped.first_fault s us ≡ first_in (point own os s.source b) (all_points us)
  points_same s b is [] = refl
  points_same s b is (u ∷ us) =
      (λ i. first_of (use_same s b is u i) (points_same s b is us i)) ∙ sym (first_in-append (point own os s.source b) (points u) (all_points us))

  pub body_same : (s : scoped.Scope) (b : plain.Body) → IsBody s b → (t : Subroutine) → b.uses ≡ plain.subroutine_uses (the_subroutine t) → scoped.first_fault s (code.subroutine_uses t) ≡ body_faults own os s.source b
  body_same s b is t e = points_same s b is (code.subroutine_uses t) ∙ ap (first_in (point own os s.source b)) (sym (uses_same t) ∙ sym e)

  module _ (sy : symbol.Symbols) (classes : (x : List ℕ) → IsClass sy.subroutine (sy.class x) (class_of own os x)) where
    type_same : (t : types.Type) → IsClass sy.subroutine (symbol.type_class sy t) (type_class own os (the_type t))
    type_same type.Int = tt
    type_same type.Char = tt
    type_same type.Boolean = tt
    type_same (type.Class n) = classes n.text

    -- entries of variables, one for each
    abbrev Entered : List (List ℕ × Declared) → List plain.Variable → Type 0
    Entered [] [] = Unit {0}
    Entered (e ∷ es) (v ∷ vs) = (e.0 ≡ v.name.text) × ((scoped.is_field e.1.slot ≡ v.is_field) × IsClass sy.subroutine e.1.class (type_class own os v.type)) × Entered es vs
    Entered _ _ = ⊥

    either_by : (b : Bool) (v : Declared) (w : plain.Variable) (o : Option Declared) (p : Option plain.Variable) → IsVariable sy.subroutine (Some v) (Some w) → IsVariable sy.subroutine o p
        → IsVariable sy.subroutine (if b then Some v else o) (if b then Some w else p)
    either_by true v w o p h k = h
    either_by false v w o p h k = k

    entered_found : (es : List (List ℕ × Declared)) (vs : List plain.Variable) → Entered es vs → (x : List ℕ) → IsVariable sy.subroutine (find_value x es) (plain.find_named variable_title x vs)
    entered_found [] [] h x = tt
    entered_found [] (v ∷ vs) h x = absurd h
    entered_found (e ∷ es) [] h x = absurd h
    entered_found (e ∷ es) (v ∷ vs) h x =
        subst (λ (z : List ℕ). IsVariable sy.subroutine (find_value x (e ∷ es)) (if bytes_eq x z then Some v else plain.find_named variable_title x vs)) h.0
        (either_by (bytes_eq x e.0) e.1 v (find_value x es) (plain.find_named variable_title x vs) h.1 (entered_found es vs h.2 x))

    entered-append : (es fs : List (List ℕ × Declared)) (vs ws : List plain.Variable) → Entered es vs → Entered fs ws → Entered (es ++ fs) (vs ++ ws)
    entered-append [] fs [] ws h k = k
    entered-append [] fs (v ∷ vs) ws h k = absurd h
    entered-append (e ∷ es) fs [] ws h k = absurd h
    entered-append (e ∷ es) fs (v ∷ vs) ws h k = (h.0, h.1, entered-append es fs vs ws h.2 k)

    line_entered : (at : ℕ → Slot) (flag : Bool) → ((k : ℕ) → scoped.is_field (at k) ≡ flag) → (t : types.Type) (k : ℕ) (xs : List Name)
        → Entered (symbol.line_entries at (symbol.type_class sy t) k xs) (map (plain.variable flag (the_type t)) (map the_name xs))
    line_entered at flag h t k [] = tt
    line_entered at flag h t k (x ∷ xs) = (refl, (h k, type_same t), line_entered at flag h t (k + 1) xs)

    member_entered : (f s : ℕ) (v : ClassVariables) (c : scopes.Scope) → Entered (symbol.member_line sy f s v c) (map (plain.variable (plain.is_field (the_scope c)) (the_type v.kind)) (plain.all_names (the_names v.names)))
    member_entered f s v scope.Field = line_entered slot.Field true (λ k. refl) v.kind f (names_of v.names)
    member_entered f s v scope.Static = line_entered slot.Static false (λ k. refl) v.kind s (names_of v.names)

    members_entered : (f s : ℕ) (vs : List ClassVariables) → Entered (symbol.member_entries sy f s vs) (plain.members (map the_variables vs))
    members_entered f s [] = tt
    members_entered f s (v ∷ vs) =
        entered-append (symbol.member_line sy f s v v.scope) (symbol.member_entries sy (f + symbol.fields_in v.scope v) (s + symbol.statics_in v.scope v) vs)
        (map (plain.variable (plain.is_field (the_scope v.scope)) (the_type v.kind)) (plain.all_names (the_names v.names))) (plain.members (map the_variables vs))
        (member_entered f s v v.scope) (members_entered (f + symbol.fields_in v.scope v) (s + symbol.statics_in v.scope v) vs)

    parameters_entered : (k : ℕ) (ps : List Parameter) → Entered (symbol.parameter_entries sy k ps) (plain.parameters (map the_parameter ps))
    parameters_entered k [] = tt
    parameters_entered k (p ∷ ps) = (refl, (refl, type_same p.kind), parameters_entered (k + 1) ps)

    locals_entered : (k : ℕ) (vs : List Locals) → Entered (symbol.local_entries sy k vs) (plain.locals (map the_locals vs))
    locals_entered k [] = tt
    locals_entered k (v ∷ vs) =
        entered-append (symbol.line_entries slot.Local (symbol.type_class sy v.kind) k (names_of v.names)) (symbol.local_entries sy (k + length (names_of v.names)) vs)
        (map (plain.variable false (the_type v.kind)) (plain.all_names (the_names v.names))) (plain.locals (map the_locals vs))
        (line_entered slot.Local false (λ k. refl) v.kind k (names_of v.names)) (locals_entered (k + length (names_of v.names)) vs)

    pub body_is : (shipped : Bool) (number statics : ℕ) (c : Class) → ((f : List ℕ) → IsSignature (sy.subroutine number f) (plain.find_named title f (map the_subroutine c.subroutines.items)))
        → (t : Subroutine) → IsBody (symbol.scope_in (symbol.class_scope sy shipped number statics c) t) (plain.body (the_class c) (the_subroutine t))
    body_is shipped number statics c h t =
        let es : List (List ℕ × Declared) = symbol.variable_entries sy t in
        let fs : List (List ℕ × Declared) = symbol.member_entries sy 0 statics c.variables.items in
        let vs : List plain.Variable = plain.inner (the_subroutine t) in
        let ws : List plain.Variable = plain.members (map the_variables c.variables.items) in
        let all : Entered (es ++ fs) (vs ++ ws) =
        entered-append es fs vs ws
        (entered-append (symbol.parameter_entries sy (symbol.objects t.form) t.parameters.items) (symbol.local_entries sy 0 t.locals.items) (plain.parameters (map the_parameter t.parameters.items))
        (plain.locals (map the_locals t.locals.items)) (parameters_entered (symbol.objects t.form) t.parameters.items) (locals_entered 0 t.locals.items))
        (members_entered 0 statics c.variables.items) in
        record {
          form = refl;
          variable = λ x. subst (λ (o : Option Declared). IsVariable sy.subroutine o (plain.find_named variable_title x (vs ++ ws))) (found-append x es fs) (entered_found (es ++ fs) (vs ++ ws) all x);
          class = classes;
          own_class = h;
        }
