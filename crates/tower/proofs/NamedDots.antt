-- The names of a program's subroutines are apart, since those of classes have no dot.
use Rattle.std.proofs.Common.{◌≡◌, ℕ, Bool, true, false, cond, List, [], ◌∷◌, ◌++◌, map, codes, None, refl, sym, ap, subst, ◌∙◌, arith}
use Rattle.std.specs.Str.{bytes_eq}
use Rattle.std.proofs.lemmas.Bool.{false≢true}
use Rattle.std.proofs.lemmas.List.{append_cancel_left}
use Rattle.std.proofs.lemmas.List.Elements.{All-head, All-tail}
use Rattle.std.proofs.lemmas.Slice.Eq.{bytes_eq-Decides}
use Rattle.grammar.specs.Words.{is_name_byte}
use Rattle.jack_tree.specs.declared.tree.Subroutine.{Subroutine}
use Rattle.jack_tree.specs.declared.tree.Class.{Class}
use Rattle.jack_names.specs.Tables.{is_among}
use Rattle.jack_names.specs.Inner.Twice.{declarations_fault}
use Rattle.jack_names.specs.Inner.Whole.{class_names, subroutine_name, names_meant, declared_fault}
use Rattle.tower.specs.Read.{IsName, AreReadClasses}
use Rattle.tower.proofs.NamedFaults.{none_both}
use Rattle.tower.proofs.NamedApart.{IsNew, AreApart, AreNew, new_both, apart_both, texts, Declared, later_classes, all_declared}

-- no dot
abbrev pub IsPlain : List ℕ → Type 0
IsPlain [] = Unit {0}
IsPlain (b ∷ bs) = (b ≡ 46 → ⊥) × IsPlain bs

pub plain : (text : List ℕ) → IsName text → IsPlain text
plain [] h = tt
plain (b ∷ bs) h = (
  λ e. false≢true (let k : is_name_byte 46 ≡ true = subst (λ (c : ℕ). is_name_byte c ≡ true) e (All-head (λ c. is_name_byte c ≡ true) b bs h) in k),
  plain bs (All-tail (λ c. is_name_byte c ≡ true) b bs h),
)

-- what stands before the first dot
before_dot : (a b s t : List ℕ) → IsPlain a → IsPlain b → a ++ (46 ∷ s) ≡ b ++ (46 ∷ t) → a ≡ b
before_dot [] [] s t p q e = refl
before_dot [] (y ∷ b) s t p q e = let k : 46 ≡ y = cc in absurd (q.0 (sym k))
before_dot (x ∷ a) [] s t p q e = let k : x ≡ 46 = cc in absurd (p.0 k)
before_dot (x ∷ a) (y ∷ b) s t p q e =
    let k : x ≡ y = cc in
    let l : a ++ (46 ∷ s) ≡ b ++ (46 ∷ t) = cc in
    let m : a ≡ b = before_dot a b s t p.1 q.1 l in
    λ i. k i ∷ m i

dotted : (a b t : List ℕ) → IsPlain a → a ≡ b ++ (46 ∷ t) → ⊥
dotted [] [] t p e = absurd cc
dotted [] (y ∷ b) t p e = absurd cc
dotted (x ∷ a) [] t p e = let k : x ≡ 46 = cc in p.0 k
dotted (x ∷ a) (y ∷ b) t p e = let k : a ≡ b ++ (46 ∷ t) = cc in dotted a b t p.1 k

class_new : (a s d : List ℕ) (ss : List Subroutine) → IsPlain a → IsPlain d → (a ≡ d → ⊥) → IsNew (a ++ (46 ∷ s)) (map (subroutine_name d) ss)
class_new a s d [] p q n = tt
class_new a s d (t ∷ ss) p q n = (λ e. n (before_dot a d s t.name.text p q e), class_new a s d ss p q n)

names_new : (a s : List ℕ) (cs : List Class) → IsPlain a → AreReadClasses cs → IsNew a (class_names cs) → IsNew (a ++ (46 ∷ s)) (names_meant cs)
names_new a s [] p r n = tt
names_new a s (c ∷ cs) p r n =
    new_both (a ++ (46 ∷ s)) (map (subroutine_name c.name.text) c.subroutines.items) (names_meant cs)
    (class_new a s c.name.text c.subroutines.items p (plain c.name.text r.0.name) n.0) (names_new a s cs p r.1 n.1)

all_new : (a : List ℕ) (ss : List Subroutine) (cs : List Class) → IsPlain a → AreReadClasses cs → IsNew a (class_names cs) → AreNew (map (subroutine_name a) ss) (names_meant cs)
all_new a [] cs p r n = tt
all_new a (t ∷ ss) cs p r n = (names_new a t.name.text cs p r n, all_new a ss cs p r n)

member_new : (a t : List ℕ) (ss : List Subroutine) → IsNew t (texts ss) → IsNew (a ++ (46 ∷ t)) (map (subroutine_name a) ss)
member_new a t [] n = tt
member_new a t (s ∷ ss) n =
    (λ e. n.0 (let k : 46 ∷ t ≡ 46 ∷ s.name.text = append_cancel_left a (46 ∷ t) (46 ∷ s.name.text) e in cc), member_new a t ss n.1)

members_apart : (a : List ℕ) (ss : List Subroutine) → AreApart (texts ss) → AreApart (map (subroutine_name a) ss)
members_apart a [] n = tt
members_apart a (s ∷ ss) n = (member_new a s.name.text ss n.0, members_apart a ss n.1)

pub names_apart : (cs : List Class) → AreReadClasses cs → Declared cs → AreApart (names_meant cs)
names_apart [] r d = tt
names_apart (c ∷ cs) r d =
    apart_both (map (subroutine_name c.name.text) c.subroutines.items) (names_meant cs) (members_apart c.name.text c.subroutines.items d.1) (names_apart cs r.1 d.2)
    (all_new c.name.text c.subroutines.items cs (plain c.name.text r.0.name) r.1 d.0)

start_of_class : (d : List ℕ) (ss : List Subroutine) → IsNew (codes "start") (map (subroutine_name d) ss)
start_of_class d [] = tt
start_of_class d (t ∷ ss) = (λ e. dotted (codes "start") d t.name.text start_plain e, start_of_class d ss)
  where
    start_plain : IsPlain (codes "start")
    start_plain = (λ e. absurd (omega arith), (λ e. absurd (omega arith), (λ e. absurd (omega arith), (λ e. absurd (omega arith), (λ e. absurd (omega arith), tt)))))

pub start_new : (cs : List Class) → IsNew (codes "start") (names_meant cs)
start_new [] = tt
start_new (c ∷ cs) = new_both (codes "start") (map (subroutine_name c.name.text) c.subroutines.items) (names_meant cs) (start_of_class c.name.text c.subroutines.items) (start_new cs)

-- Those of two lists of classes.
among_by : (b c : Bool) → c ≡ true → cond b true c ≡ true
among_by true c h = refl
among_by false c h = h

among_first : (b c : Bool) → b ≡ true → cond b true c ≡ true
among_first true c h = refl
among_first false c h = absurd cc

each_new : (ys zs : List (List ℕ)) → ((x : List ℕ) → is_among x ys ≡ true → IsNew x zs) → AreNew ys zs
each_new [] zs h = tt
each_new (y ∷ ys) zs h =
    (h y (among_first (bytes_eq y y) (is_among y ys) ((bytes_eq-Decides y y).1 refl)), each_new ys zs (λ x k. h x (among_by (bytes_eq x y) (is_among x ys) k)))

front_new : (x : List ℕ) (xs ys : List (List ℕ)) → AreNew ys (x ∷ xs) → IsNew x ys
front_new x xs [] h = tt
front_new x xs (y ∷ ys) h = (λ e. h.0.0 (sym e), front_new x xs ys h.1)

rest_new : (x : List ℕ) (xs ys : List (List ℕ)) → AreNew ys (x ∷ xs) → AreNew ys xs
rest_new x xs [] h = tt
rest_new x xs (y ∷ ys) h = (h.0.1, rest_new x xs ys h.1)

class_names-append : (xs ys : List Class) → class_names (xs ++ ys) ≡ class_names xs ++ class_names ys
class_names-append [] ys = refl
class_names-append (c ∷ xs) ys = ap (λ (l : List (List ℕ)). c.name.text ∷ l) (class_names-append xs ys)

declared_append : (xs ys : List Class) → Declared xs → Declared ys → AreNew (class_names ys) (class_names xs) → Declared (xs ++ ys)
declared_append [] ys a b h = b
declared_append (c ∷ xs) ys a b h = (
  subst (IsNew c.name.text) (sym (class_names-append xs ys)) (new_both c.name.text (class_names xs) (class_names ys) a.0 (front_new c.name.text (class_names xs) (class_names ys) h)),
  a.1,
  declared_append xs ys a.2 b (rest_new c.name.text (class_names xs) (class_names ys) h),
)

pub both_declared : (own os : List Class) → declared_fault own os ≡ None → Declared (own ++ os)
both_declared own os h =
    let a = none_both (declarations_fault false (class_names os) own) (declarations_fault true [] os) h in
    declared_append own os (all_declared false (class_names os) own a.0) (all_declared true [] os a.1)
    (each_new (class_names os) (class_names own) (λ x k. later_classes false (class_names os) own x a.0 k))

pub read_append : (xs ys : List Class) → AreReadClasses xs → AreReadClasses ys → AreReadClasses (xs ++ ys)
read_append [] ys a b = b
read_append (c ∷ xs) ys a b = (a.0, read_append xs ys a.1 b)

pub names_meant-append : (xs ys : List Class) → names_meant (xs ++ ys) ≡ names_meant xs ++ names_meant ys
names_meant-append [] ys = refl
names_meant-append (c ∷ xs) ys = ap (λ (l : List (List ℕ)). map (subroutine_name c.name.text) c.subroutines.items ++ l) (names_meant-append xs ys) ∙ sym (assoc (map (subroutine_name c.name.text) c.subroutines.items) (names_meant xs) (names_meant ys))
  where
    assoc : (a b d : List (List ℕ)) → (a ++ b) ++ d ≡ a ++ (b ++ d)
    assoc [] b d = refl
    assoc (o ∷ a) b d = ap (λ (l : List (List ℕ)). o ∷ l) (assoc a b d)
