-- What stands at each number: the arguments and the name of a subroutine. Classes stand in order.
use Rattle.std.proofs.Common.{◌≡◌, ◌<◌, ◌≤◌, ℕ, zero, suc, ◌+◌, Bool, List, [], ◌∷◌, ◌++◌, map, length, get_or, Some, refl, sym, ap, subst, ◌∙◌, arith, append_assoc}
use Rattle.std.specs.Prelude.{slice_get}
use Rattle.std.proofs.lemmas.List.{map-append}
use Rattle.jack_meaning.specs.Text.{Subroutine as Meant, Class as MeantClass}
use Rattle.jack_compiler.specs.Files.{statics_before}
use Rattle.jack_compiler.specs.Resolved.{AreInOrder}
use Rattle.jack_tree.specs.declared.tree.Subroutine.{Subroutine}
use Rattle.jack_tree.specs.declared.tree.Class.{Class}
use Rattle.jack_names.specs.Symbols.{Symbols, ClassScope, class_scope, fields_of, statics_of, objects}
use Rattle.jack_names.specs.Inner.Whole.{all_statics, class_subroutines, subroutines_meant, class_meant, subroutine_name, names_meant}
use Rattle.tower.specs.Read.{AreReadClasses}
use Rattle.tower.proofs.NamedFlat.{Owned, owned, flat}

abbrev pub arity : Owned → ℕ
arity o = objects o.subroutine.form + length o.subroutine.parameters.items

abbrev pub named : Owned → List ℕ
named o = subroutine_name o.class.name.text o.subroutine

abbrev pub taken : List Meant → List ℕ
taken xs = map (λ s. s.arguments) xs

-- what stands in lists that are mapped to one another
pub taken_at : (xs : List Meant) (i a : ℕ) (d : Meant) → slice_get (taken xs) i ≡ Some a → (i < length xs) × ((get_or xs i d).arguments ≡ a)
taken_at [] i a d h = absurd cc
taken_at (x ∷ xs) zero a d h = let e : x.arguments ≡ a = cc in (omega arith, e)
taken_at (x ∷ xs) (suc i) a d h = let r = taken_at xs i a d h in let l = r.0 in (omega arith, r.1)

pub mapped_at : {A B : Type 0} (f : A → B) (xs : List A) (i : ℕ) (x : A) → slice_get xs i ≡ Some x → slice_get (map f xs) i ≡ Some (f x)
mapped_at f [] i x h = absurd cc
mapped_at {A} {B} f (y ∷ xs) zero x h = let e : y ≡ x = cc in ap (λ (z : A). Some (f z)) e
mapped_at f (y ∷ xs) (suc i) x h = mapped_at f xs i x h

pub name_at : (xs : List (List ℕ)) (i : ℕ) (x : List ℕ) → slice_get xs i ≡ Some x → get_or xs i [] ≡ x
name_at [] i x h = absurd cc
name_at (y ∷ xs) zero x h = cc
name_at (y ∷ xs) (suc i) x h = name_at xs i x h

class_taken : (scope : ClassScope) (fields : ℕ) (c : Class) (ss : List Subroutine) → taken (class_subroutines scope fields ss) ≡ map arity (map (owned c) ss)
class_taken scope fields c [] = refl
class_taken scope fields c (t ∷ ss) = ap (λ (l : List ℕ). (objects t.form + length t.parameters.items) ∷ l) (class_taken scope fields c ss)

pub all_taken : (symbols : Symbols) (shipped : Bool) (own statics : ℕ) (cs : List Class) → taken (subroutines_meant symbols shipped own statics cs) ≡ map arity (flat cs)
all_taken symbols shipped own statics [] = refl
all_taken symbols shipped own statics (c ∷ cs) =
    let scope = class_scope symbols shipped own statics c in
    let fields = fields_of c.variables.items in
    let rest = subroutines_meant symbols shipped (own + 1) (statics + statics_of c.variables.items) cs in
    let p = class_taken scope fields c c.subroutines.items in
    let q = all_taken symbols shipped (own + 1) (statics + statics_of c.variables.items) cs in
    map-append (λ s. s.arguments) (class_subroutines scope fields c.subroutines.items) rest ∙ (λ i. p i ++ q i) ∙ sym (map-append arity (map (owned c) c.subroutines.items) (flat cs))

class_named : (c : Class) (ss : List Subroutine) → map (subroutine_name c.name.text) ss ≡ map named (map (owned c) ss)
class_named c [] = refl
class_named c (t ∷ ss) = ap (λ (l : List (List ℕ)). subroutine_name c.name.text t ∷ l) (class_named c ss)

pub all_named : (cs : List Class) → names_meant cs ≡ map named (flat cs)
all_named [] = refl
all_named (c ∷ cs) =
    let p = class_named c c.subroutines.items in
    let q = all_named cs in
    (λ i. p i ++ q i) ∙ sym (map-append named (map (owned c) c.subroutines.items) (flat cs))

-- the classes of subroutines are in order
module _ (scope : ClassScope) (fields : ℕ) (more : List Meant) (behind : (b : ℕ) → b ≤ scope.own → AreInOrder b more) where
  class_order : (a : ℕ) (ss : List Subroutine) → a ≤ scope.own → AreInOrder a (class_subroutines scope fields ss ++ more)
  class_order a [] h = behind a h
  class_order a (t ∷ ss) h = (h, class_order scope.own ss (omega arith))

pub in_order : (symbols : Symbols) (shipped : Bool) (own statics a : ℕ) (cs : List Class) (more : List Meant) → ((b : ℕ) → b ≤ own + length cs → AreInOrder b more) → a ≤ own
    → AreInOrder a (subroutines_meant symbols shipped own statics cs ++ more)
in_order symbols shipped own statics a [] more h k = h a (omega arith)
in_order symbols shipped own statics a (c ∷ cs) more h k =
    let scope = class_scope symbols shipped own statics c in
    let fields = fields_of c.variables.items in
    let rest = subroutines_meant symbols shipped (own + 1) (statics + statics_of c.variables.items) cs in
    subst (AreInOrder a) (sym (append_assoc (class_subroutines scope fields c.subroutines.items) rest more))
    (class_order scope fields (rest ++ more)
    (λ b l. in_order symbols shipped (own + 1) (statics + statics_of c.variables.items) b cs more (λ d m. h d (omega arith)) (omega arith)) a c.subroutines.items k)

-- statics of the classes before one
pub before_none : (cs : List MeantClass) → statics_before cs 0 ≡ 0
before_none [] = refl
before_none (c ∷ cs) = refl

pub before_first : (c : MeantClass) (cs : List MeantClass) → statics_before (c ∷ cs) 1 ≡ c.statics
before_first c cs = let h = before_none cs in omega (arith, h)

pub before_more : (c : MeantClass) (cs : List MeantClass) (j : ℕ) → statics_before (c ∷ cs) (j + 1) ≡ c.statics + statics_before cs j
before_more c cs j = let e : j + 1 ≡ suc j = omega arith in ap (statics_before (c ∷ cs)) e

pub before_front : (xs ys : List MeantClass) (j : ℕ) → j ≤ length xs → statics_before (xs ++ ys) j ≡ statics_before xs j
before_front [] ys j h = let e : j ≡ 0 = omega arith in ap (statics_before ys) e ∙ before_none ys
before_front (x ∷ xs) ys zero h = refl
before_front (x ∷ xs) ys (suc j) h = ap (λ (n : ℕ). x.statics + n) (before_front xs ys j (omega arith))

pub before_behind : (own : List Class) (ys : List MeantClass) (j : ℕ) → statics_before (map class_meant own ++ ys) (length own + j) ≡ all_statics own + statics_before ys j
before_behind [] ys j = let e : 0 + j ≡ j = omega arith in ap (statics_before ys) e ∙ omega arith
before_behind (c ∷ own) ys j =
    let e : suc (length own) + j ≡ suc (length own + j) = omega arith in
    let h = before_behind own ys j in
    ap (statics_before (map class_meant (c ∷ own) ++ ys)) e ∙ omega (arith, h)

pub statics_few : (cs : List Class) (ys : List MeantClass) → AreReadClasses cs → ((k : ℕ) → statics_before ys (suc k) ≤ statics_before ys k + 65535) → (k : ℕ)
    → statics_before (map class_meant cs ++ ys) (suc k) ≤ statics_before (map class_meant cs ++ ys) k + 65535
statics_few [] ys r h k = h k
statics_few (c ∷ cs) ys r h zero = let z = before_none (map class_meant cs ++ ys) in let s = r.0.statics in omega (arith, z, s)
statics_few (c ∷ cs) ys r h (suc k) = let i = statics_few cs ys r.1 h k in omega (arith, i)
