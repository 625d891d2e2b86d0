-- The program that the code has for what classes mean.
use Rattle.std.proofs.Common.{◌≡◌, ℕ, ◌+◌, ◌<◌, ◌≤◌, ◌^◌, List, [], ◌∷◌, ◌++◌, length, map, codes, refl, ap, ◌∙◌, arith}
use Rattle.std.proofs.lemmas.List.{length-append, map-append}
use Rattle.jack_meaning.specs.Text as meaning
use Rattle.jack_core.specs.declared.program.Subroutine.{Subroutine}
use Rattle.jack_core.specs.declared.program.Class.{Class}
use Rattle.jack_core.specs.declared.program.Core.{Core}
use Rattle.jack_core.specs.declared.program.Kind.{Kind}
use Rattle.jack_core.specs.Texts.{the_kind, the_subroutine, the_class}
use Rattle.jack_tree.specs.Syntax as tree
use Rattle.jack_names.specs.Existence.{IsCoreOf}
use Rattle.jack_names.specs.Lengths.{total, subroutine_length, classes_length}
use Rattle.jack_names.specs.Meaning as plain
use Rattle.jack_names.specs.Numbers.{Standing, standing, field_count, static_count, object_count, local_count, in_class, class_number, subroutine_number}
use Rattle.jack_names.specs.Resolved.{the_name, the_class_name}
use Rattle.jack_names.proofs.Held.{held}
use Rattle.jack_names.proofs.Bodied.{body_made}

kind_of : tree.Form → Kind
kind_of tree.Constructor = Kind.Constructor
kind_of tree.Function = Kind.Function
kind_of tree.Method = Kind.Method

kind_is : (f : tree.Form) → the_kind (kind_of f) ≡ plain.kind_meaning f
unfolding kind_of
kind_is tree.Constructor = refl
kind_is tree.Function = refl
kind_is tree.Method = refl

-- a subroutine of the code that is this one, of this name
abbrev HasSubroutine : meaning.Subroutine → List ℕ → Type 0
HasSubroutine x name = (t : Subroutine) × (the_subroutine t ≡ x) × (the_name t ≡ name)

subroutine_made : (s : Standing) (fields : ℕ) (name : List ℕ) (t : tree.Subroutine) → subroutine_length t < 2 ^ 62 → HasSubroutine (plain.subroutine_meaning s fields t) name
subroutine_made s fields name t small =
    let b = body_made s fields t (omega (arith, small)) in
    let kind = kind_is t.form in
    let arguments = object_count t.form + length t.parameters in
    let locals = local_count t.locals in (
      record { name = name; kind = kind_of t.form; class = s.own; arguments = arguments; locals = locals; body = held b.all (omega (arith, small, b.few)) },
      λ i. record { kind = kind i; class = s.own; arguments = arguments; locals = locals; body = b.is i },
      refl,
    )

-- subroutines of the code that are these, with these names
record HasSubroutines (xs : List meaning.Subroutine) (names : List (List ℕ)) (n : ℕ) : Type 0 where
  all : List Subroutine
  are : map the_subroutine all ≡ xs
  names_are : map the_name all ≡ names
  few : length all ≤ n

own_made : (f : tree.Subroutine → Standing) (fields : ℕ) (name : tree.Subroutine → List ℕ) (ts : List tree.Subroutine) → total subroutine_length ts < 2 ^ 62
    → HasSubroutines (map (λ t. plain.subroutine_meaning (f t) fields t) ts) (map name ts) (total subroutine_length ts)
own_made f fields name [] small = record { all = []; are = refl; names_are = refl; few = omega arith }
own_made f fields name (t ∷ ts) small =
    let first = subroutine_made (f t) fields (name t) t (omega (arith, small)) in
    let rest = own_made f fields name ts (omega (arith, small)) in
    record {
      all = first.0 ∷ rest.all;
      are = λ i. first.1 i ∷ rest.are i;
      names_are = λ i. first.2 i ∷ rest.names_are i;
      few = omega (arith, rest.few);
    }

all_made : (all : List tree.ClassFile) (own statics : ℕ) (cs : List tree.ClassFile) → classes_length cs < 2 ^ 62
    → HasSubroutines (plain.subroutines_meaning all own statics cs) (plain.full_names cs) (classes_length cs)
all_made all own statics [] small = record { all = []; are = refl; names_are = refl; few = omega arith }
all_made all own statics (c ∷ cs) small =
    let first = own_made (standing all own statics c.class) (field_count c.class.variables) (plain.full_name c.class.name.text) c.class.subroutines (omega (arith, small)) in
    let rest = all_made all (own + 1) (statics + static_count c.class.variables) cs (omega (arith, small)) in
    record {
      all = first.all ++ rest.all;
      are = map-append the_subroutine first.all rest.all ∙ (λ i. first.are i ++ rest.are i);
      names_are = map-append the_name first.all rest.all ∙ (λ i. first.names_are i ++ rest.names_are i);
      few = omega (arith, first.few, rest.few, length-append first.all rest.all);
    }

class_of : tree.ClassFile → Class
class_of c = record { name = c.class.name.text; fields = field_count c.class.variables; statics = static_count c.class.variables }

classes_are : (cs : List tree.ClassFile) → map the_class (map class_of cs) ≡ map plain.class_meaning cs
unfolding class_of
classes_are [] = refl
classes_are (c ∷ cs) = ap (λ (l : List meaning.Class). plain.class_meaning c ∷ l) (classes_are cs)

titles_are : (cs : List tree.ClassFile) → map the_class_name (map class_of cs) ≡ map (λ c. c.class.name.text) cs
unfolding class_of
titles_are [] = refl
titles_are (c ∷ cs) = ap (λ (l : List (List ℕ)). c.class.name.text ∷ l) (titles_are cs)

classes_few : (cs : List tree.ClassFile) → length (map class_of cs) ≤ classes_length cs
classes_few [] = omega arith
classes_few (c ∷ cs) = omega (arith, classes_few cs)

-- subroutine 0
start : Subroutine
start = record { name = codes "start"; kind = Kind.Function; class = 0; arguments = 0; locals = 0; body = held [] (omega arith) }

module _ (own os : List tree.ClassFile) (small : classes_length (own ++ os) < 2 ^ 62) where
  subs : HasSubroutines (plain.subroutines_meaning (own ++ os) 0 0 (own ++ os)) (plain.full_names (own ++ os)) (classes_length (own ++ os))
  subs = all_made (own ++ os) 0 0 (own ++ os) small

  core : Core
  core = record {
    classes = held (map class_of (own ++ os)) (omega (arith, small, classes_few (own ++ os)));
    subroutines = held (start ∷ subs.all) (let few = subs.few in omega (arith, small, few));
    init = in_class (subroutine_number (own ++ os)) (class_number (own ++ os) (codes "Sys")) (codes "init");
  }

  is_core : IsCoreOf own os core
  unfolding core start
  is_core = record {
    program = λ i. record {
      classes = classes_are (own ++ os) i;
      subroutines = plain.no_subroutine ∷ subs.are i;
      init = in_class (subroutine_number (own ++ os)) (class_number (own ++ os) (codes "Sys")) (codes "init");
    };
    names = ap (λ (l : List (List ℕ)). codes "start" ∷ l) subs.names_are;
    classes = titles_are (own ++ os);
  }

  pub core_made : (core : Core) × IsCoreOf own os core
  core_made = (core, is_core)
