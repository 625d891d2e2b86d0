-- Tables that are filled one entry after another stand for what is entered.
use Rattle.std.proofs.Common.{◌≡◌, ℕ, ◌+◌, Bool, true, false, cond, List, [], ◌∷◌, ◌++◌, Option, Some, None, is_some, map, length, refl, sym, ap, ◌∙◌, append_assoc, arith}
use Rattle.std.specs.List.{slice_get}
use Rattle.std.specs.Option.{option_map}
use Rattle.std.specs.Str.{bytes_eq}
use Rattle.std.proofs.lemmas.Bool.{false≢true}
use Rattle.std.proofs.lemmas.List.{map-append}
use Rattle.std.proofs.lemmas.Option.{slice_get-map}
use Rattle.std.proofs.lemmas.Slice.Eq.{bytes_eq-Decides}
use Rattle.jack_tree.specs.declared.tree.Class.{Class}
use Rattle.name_table.specs.Names.{find_value, first_of, with_new}
use Rattle.name_table.specs.Tables.{table_of}
use Rattle.jack_names.specs.Inner.Scoped.{found_in}
use Rattle.jack_names.specs.Symbols.{class_numbers, signatures, all_signatures, found_at, symbols_of}
use Rattle.jack_names.specs.Limits.{subroutine_count}
use Rattle.jack_names.specs.Inner.Named.{with_all, the_symbols}
use Rattle.name_table.specs.declared.Table.{Table}
use Rattle.jack_names.specs.declared.scope.Signature.{Signature}
use Rattle.jack_names.specs.declared.scope.Names.{Names}
use Rattle.name_table.proofs.Entries.{found-append}

pub first_assoc : {V : Type 0} (a b c : Option V) → first_of (first_of a b) c ≡ first_of a (first_of b c)
first_assoc None b c = refl
first_assoc (Some a) b c = refl

pub first_none : {V : Type 0} (a : Option V) → first_of a None ≡ a
first_none None = refl
first_none (Some a) = refl

alone_by : {V : Type 0} (b : Bool) (v : V) (o : Option V) → cond b (Some v) o ≡ first_of (cond b (Some v) None) o
alone_by true v o = refl
alone_by false v o = refl

alone : {V : Type 0} (y : List ℕ) (e : List ℕ × V) (es : List (List ℕ × V)) → find_value y (e ∷ es) ≡ first_of (find_value y (e ∷ [])) (find_value y es)
alone y e es = alone_by (bytes_eq y e.0) e.1 (find_value y es)

kept_by : {V : Type 0} (b : Bool) (o : Option V) (v : V) → (b ≡ true → is_some o ≡ true) → first_of o (cond b (Some v) None) ≡ o
kept_by b (Some w) v h = refl
kept_by true None v h = absurd (false≢true (h refl))
kept_by false None v h = refl

kept : {V : Type 0} (y x : List ℕ) (es : List (List ℕ × V)) (v : V) → is_some (find_value x es) ≡ true → first_of (find_value y es) (find_value y ((x, v) ∷ [])) ≡ find_value y es
kept y x es v h = kept_by (bytes_eq y x) (find_value y es) v (λ e. ap (λ (z : List ℕ). is_some (find_value z es)) ((bytes_eq-Decides y x).0 e) ∙ h)

new_by : {V : Type 0} (y x : List ℕ) (es : List (List ℕ × V)) (v : V) (b : Bool) → is_some (find_value x es) ≡ b → find_value y (cond b es (es ++ (x, v) ∷ [])) ≡ first_of (find_value y es) (find_value y ((x, v) ∷ []))
new_by y x es v true h = sym (kept y x es v h)
new_by y x es v false h = found-append y es ((x, v) ∷ [])

found_new : {V : Type 0} (y x : List ℕ) (es : List (List ℕ × V)) (v : V) → find_value y (with_new es x v) ≡ first_of (find_value y es) (find_value y ((x, v) ∷ []))
found_new y x es v = new_by y x es v (is_some (find_value x es)) refl

pub found_all : {V : Type 0} (y : List ℕ) (es fs : List (List ℕ × V)) → find_value y (with_all es fs) ≡ first_of (find_value y es) (find_value y fs)
found_all y es [] = sym (first_none (find_value y es))
found_all {V = V} y es (f ∷ fs) =
    found_all y (with_new es f.0 f.1) fs ∙ ap (λ (o : Option V). first_of o (find_value y fs)) (found_new y f.0 es f.1)
    ∙ first_assoc (find_value y es) (find_value y (f ∷ [])) (find_value y fs) ∙ ap (λ (o : Option V). first_of (find_value y es) o) (sym (alone y f fs))

pub found_filled : {V : Type 0} (y : List ℕ) (fs : List (List ℕ × V)) → find_value y (with_all [] fs) ≡ find_value y fs
found_filled y fs = found_all y [] fs

pub with_all-append : {V : Type 0} (es xs ys : List (List ℕ × V)) → with_all es (xs ++ ys) ≡ with_all (with_all es xs) ys
with_all-append es [] ys = refl
with_all-append es (x ∷ xs) ys = with_all-append (with_new es x.0 x.1) xs ys

pub class_numbers-append : (n m : ℕ) (xs ys : List Class) → m ≡ n + length xs → class_numbers n (xs ++ ys) ≡ class_numbers n xs ++ class_numbers m ys
class_numbers-append n m [] ys h = let e : n ≡ m = omega (arith, h) in ap (λ (k : ℕ). class_numbers k ys) e
class_numbers-append n m (x ∷ xs) ys h =
    ap (λ (l : List (List ℕ × ℕ)). (x.name.text, n) ∷ l) (class_numbers-append (n + 1) m xs ys (omega (arith, h)))

pub all_signatures-append : (n m : ℕ) (xs ys : List Class) → m ≡ n + subroutine_count xs → all_signatures n (xs ++ ys) ≡ all_signatures n xs ++ all_signatures m ys
all_signatures-append n m [] ys h = let e : n ≡ m = omega (arith, h) in ap (λ (k : ℕ). all_signatures k ys) e
all_signatures-append n m (x ∷ xs) ys h =
    ap (λ (l : List (List (List ℕ × Signature))). signatures n x.subroutines.items ∷ l) (all_signatures-append (n + length x.subroutines.items) m xs ys (omega (arith, h)))

in_table : (o : Option (Table Signature)) (f : List ℕ) → found_in o f ≡ found_at (option_map table_of o) f
in_table None f = refl
in_table (Some t) f = refl

at_filled : (o : Option (List (List ℕ × Signature))) (f : List ℕ) → found_at (option_map (with_all []) o) f ≡ found_at o f
at_filled None f = refl
at_filled (Some es) f = found_filled f es

signatures_are : (ts : List (Table Signature)) (ss : List (List (List ℕ × Signature))) (k : ℕ) (f : List ℕ) → map table_of ts ≡ map (with_all []) ss → found_in (slice_get ts k) f ≡ found_at (slice_get ss k) f
signatures_are ts ss k f h =
    in_table (slice_get ts k) f
    ∙ ap (λ (o : Option (List (List ℕ × Signature))). found_at o f) (sym (slice_get-map table_of ts k) ∙ ap (λ (l : List (List (List ℕ × Signature))). slice_get l k) h ∙ slice_get-map (with_all []) ss k)
    ∙ at_filled (slice_get ss k) f

-- the tables of two lists of classes, one after the other
pub symbols_are : (names : Names) (own os : List Class) (m : ℕ) → m ≡ 1 + subroutine_count own
    → table_of names.classes ≡ with_all (with_all [] (class_numbers 0 own)) (class_numbers (length own) os)
    → map table_of names.subroutines.items ≡ map (with_all []) (all_signatures 1 own) ++ map (with_all []) (all_signatures m os)
    → the_symbols names ≡ symbols_of (own ++ os)
symbols_are names own os m next h k =
    let numbers : class_numbers 0 (own ++ os) ≡ class_numbers 0 own ++ class_numbers (length own) os = class_numbers-append 0 (length own) own os (omega arith) in
    let sigs : map (with_all []) (all_signatures 1 own) ++ map (with_all []) (all_signatures m os) ≡ map (with_all []) (all_signatures 1 (own ++ os)) =
    sym (map-append (with_all []) (all_signatures 1 own) (all_signatures m os)) ∙ ap (map (with_all [])) (sym (all_signatures-append 1 m own os next)) in
    let p : (x : List ℕ) → find_value x (table_of names.classes) ≡ find_value x (class_numbers 0 (own ++ os)) = λ x.
    ap (find_value x) h ∙ found_all x (with_all [] (class_numbers 0 own)) (class_numbers (length own) os)
    ∙ ap (λ (o : Option ℕ). first_of o (find_value x (class_numbers (length own) os))) (found_filled x (class_numbers 0 own))
    ∙ sym (found-append x (class_numbers 0 own) (class_numbers (length own) os)) ∙ ap (find_value x) (sym numbers) in
    let q : (j : ℕ) (f : List ℕ) → found_in (slice_get names.subroutines.items j) f ≡ found_at (slice_get (all_signatures 1 (own ++ os)) j) f = λ j f.
    signatures_are names.subroutines.items (all_signatures 1 (own ++ os)) j f (k ∙ sigs) in
    λ i. record { class = λ x. p x i; subroutine = λ j f. q j f i }

-- one value more, before others
pub pushed : {A B : Type 0} (f : A → B) (xs ys : List A) (x : A) (zs : List B) → ys ≡ xs ++ x ∷ [] → map f ys ++ zs ≡ map f xs ++ (f x ∷ zs)
pushed {A = A} {B = B} f xs ys x zs h =
    ap (λ (l : List A). map f l ++ zs) h ∙ ap (λ (l : List B). l ++ zs) (map-append f xs (x ∷ [])) ∙ append_assoc (map f xs) (f x ∷ []) zs
