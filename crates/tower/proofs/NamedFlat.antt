-- All subroutines of a program, each with its class, in order of their numbers; where a name is found, its subroutine is there.
use Rattle.std.proofs.Common.{◌≡◌, ℕ, zero, suc, ◌+◌, Bool, true, false, cond, List, [], ◌∷◌, ◌++◌, map, length, Some, refl, sym, ap, ◌∙◌, arith}
use Rattle.std.specs.Prelude.{slice_get}
use Rattle.std.specs.Str.{bytes_eq}
use Rattle.std.proofs.lemmas.Slice.Eq.{bytes_eq-Decides}
use Rattle.jack_tree.specs.declared.tree.Subroutine.{Subroutine}
use Rattle.jack_tree.specs.declared.tree.Class.{Class}
use Rattle.name_table.specs.Names.{find_value}
use Rattle.jack_names.specs.Symbols.{class_numbers, signatures, all_signatures, found_at}
use Rattle.jack_names.specs.declared.scope.Signature.{Signature}

pub record Owned : Type 0 where
  pub class : Class
  pub subroutine : Subroutine

abbrev pub owned : Class → Subroutine → Owned
owned c t = record { class = c; subroutine = t }

abbrev pub flat : List Class → List Owned
flat [] = []
flat (c ∷ cs) = map (owned c) c.subroutines.items ++ flat cs

pub flat-append : (xs ys : List Class) → flat (xs ++ ys) ≡ flat xs ++ flat ys
flat-append [] ys = refl
flat-append (c ∷ xs) ys = ap (λ (l : List Owned). map (owned c) c.subroutines.items ++ l) (flat-append xs ys) ∙ sym (assoc (map (owned c) c.subroutines.items) (flat xs) (flat ys))
  where
    assoc : (a b d : List Owned) → (a ++ b) ++ d ≡ a ++ (b ++ d)
    assoc [] b d = refl
    assoc (o ∷ a) b d = ap (λ (l : List Owned). o ∷ l) (assoc a b d)

-- elements of one list after another
pub get_front : {A : Type 0} (xs ys : List A) (i : ℕ) (x : A) → slice_get xs i ≡ Some x → slice_get (xs ++ ys) i ≡ Some x
get_front [] ys i x h = absurd cc
get_front (a ∷ xs) ys zero x h = h
get_front (a ∷ xs) ys (suc i) x h = get_front xs ys i x h

pub get_behind : {A : Type 0} (xs ys : List A) (i : ℕ) (x : A) → slice_get ys i ≡ Some x → slice_get (xs ++ ys) (length xs + i) ≡ Some x
get_behind {A} [] ys i x h = let e : 0 + i ≡ i = omega arith in ap (λ (k : ℕ). slice_get ys k) e ∙ h
get_behind {A} (a ∷ xs) ys i x h =
    let e : suc (length xs) + i ≡ suc (length xs + i) = omega arith in
    ap (λ (k : ℕ). slice_get (a ∷ (xs ++ ys)) k) e ∙ get_behind xs ys i x h

get_owned : (c : Class) (ss : List Subroutine) (i : ℕ) (t : Subroutine) → slice_get ss i ≡ Some t → slice_get (map (owned c) ss) i ≡ Some (owned c t)
get_owned c [] i t h = absurd cc
get_owned c (s ∷ ss) zero t h = let e : s ≡ t = cc in ap (λ (x : Subroutine). Some (owned c x)) e
get_owned c (s ∷ ss) (suc i) t h = get_owned c ss i t h

length_owned : (c : Class) (ss : List Subroutine) → length (map (owned c) ss) ≡ length ss
length_owned c [] = refl
length_owned c (s ∷ ss) = ap suc (length_owned c ss)

abbrev sign : ℕ → Subroutine → Signature
sign n s = record { number = n; form = s.form; parameters = length s.parameters.items }

-- the subroutine of a class that a signature is that of
pub record Signed (n : ℕ) (ss : List Subroutine) (f : List ℕ) (g : Signature) : Type 0 where
  pub place : ℕ
  pub subroutine : Subroutine
  pub number : g.number ≡ n + place
  pub there : slice_get ss place ≡ Some subroutine
  pub name : f ≡ subroutine.name.text
  pub form : g.form ≡ subroutine.form
  pub parameters : g.parameters ≡ length subroutine.parameters.items

signed_on : (n : ℕ) (s : Subroutine) (ss : List Subroutine) (f : List ℕ) (g : Signature) → Signed (n + 1) ss f g → Signed n (s ∷ ss) f g
signed_on n s ss f g h = record {
  place = suc h.place;
  subroutine = h.subroutine;
  number = let a = h.number in omega (arith, a);
  there = h.there;
  name = h.name;
  form = h.form;
  parameters = h.parameters;
}

pub signed : (n : ℕ) (ss : List Subroutine) (f : List ℕ) (g : Signature) → find_value f (signatures n ss) ≡ Some g → Signed n ss f g
signed n [] f g h = absurd cc
signed n (s ∷ ss) f g h = by_test (bytes_eq f s.name.text) refl (λ k. signed_on n s ss f g (signed (n + 1) ss f g k)) h
  where
    by_test : (b : Bool) → bytes_eq f s.name.text ≡ b → (find_value f (signatures (n + 1) ss) ≡ Some g → Signed n (s ∷ ss) f g) → cond b (Some (sign n s)) (find_value f (signatures (n + 1) ss)) ≡ Some g → Signed n (s ∷ ss) f g
    by_test true e go k =
        let same : sign n s ≡ g = cc in
        record {
          place = 0;
          subroutine = s;
          number = sym (ap (λ (x : Signature). x.number) same) ∙ omega arith;
          there = refl;
          name = (bytes_eq-Decides f s.name.text).0 e;
          form = sym (ap (λ (x : Signature). x.form) same);
          parameters = sym (ap (λ (x : Signature). x.parameters) same);
        }
    by_test false e go k = go k

-- the same among all classes, and the class of that number
pub record Found (n : ℕ) (cs : List Class) (k : ℕ) (f : List ℕ) (g : Signature) : Type 0 where
  pub place : ℕ
  pub class : Class
  pub subroutine : Subroutine
  pub number : g.number ≡ n + place
  pub there : slice_get (flat cs) place ≡ Some (owned class subroutine)
  pub class_there : slice_get cs k ≡ Some class
  pub name : f ≡ subroutine.name.text
  pub form : g.form ≡ subroutine.form
  pub parameters : g.parameters ≡ length subroutine.parameters.items

pub find : (n : ℕ) (cs : List Class) (k : ℕ) (f : List ℕ) (g : Signature) → found_at (slice_get (all_signatures n cs) k) f ≡ Some g → Found n cs k f g
find n [] k f g h = absurd cc
find n (c ∷ cs) zero f g h =
    let s = signed n c.subroutines.items f g h in
    record {
      place = s.place;
      class = c;
      subroutine = s.subroutine;
      number = s.number;
      there = get_front (map (owned c) c.subroutines.items) (flat cs) s.place (owned c s.subroutine) (get_owned c c.subroutines.items s.place s.subroutine s.there);
      class_there = refl;
      name = s.name;
      form = s.form;
      parameters = s.parameters;
    }
find n (c ∷ cs) (suc k) f g h =
    let r = find (n + length c.subroutines.items) cs k f g h in
    let a = r.number in
    let b = length_owned c c.subroutines.items in
    record {
      place = length (map (owned c) c.subroutines.items) + r.place;
      class = r.class;
      subroutine = r.subroutine;
      number = omega (arith, a, b);
      there = get_behind (map (owned c) c.subroutines.items) (flat cs) r.place (owned r.class r.subroutine) r.there;
      class_there = r.class_there;
      name = r.name;
      form = r.form;
      parameters = r.parameters;
    }

-- a class that is found by its name
pub record Numbered (n : ℕ) (cs : List Class) (x : List ℕ) (k : ℕ) : Type 0 where
  pub place : ℕ
  pub class : Class
  pub number : k ≡ n + place
  pub there : slice_get cs place ≡ Some class
  pub name : x ≡ class.name.text

numbered_on : (n : ℕ) (c : Class) (cs : List Class) (x : List ℕ) (k : ℕ) → Numbered (n + 1) cs x k → Numbered n (c ∷ cs) x k
numbered_on n c cs x k r = record { place = suc r.place; class = r.class; number = let a = r.number in omega (arith, a); there = r.there; name = r.name }

pub numbered : (n : ℕ) (cs : List Class) (x : List ℕ) (k : ℕ) → find_value x (class_numbers n cs) ≡ Some k → Numbered n cs x k
numbered n [] x k h = absurd cc
numbered n (c ∷ cs) x k h = by_test (bytes_eq x c.name.text) refl (λ p. numbered_on n c cs x k (numbered (n + 1) cs x k p)) h
  where
    by_test : (b : Bool) → bytes_eq x c.name.text ≡ b → (find_value x (class_numbers (n + 1) cs) ≡ Some k → Numbered n (c ∷ cs) x k) → cond b (Some n) (find_value x (class_numbers (n + 1) cs)) ≡ Some k → Numbered n (c ∷ cs) x k
    by_test true e go p =
        let same : n ≡ k = cc in
        record { place = 0; class = c; number = sym same ∙ omega arith; there = refl; name = (bytes_eq-Decides x c.name.text).0 e }
    by_test false e go p = go p
