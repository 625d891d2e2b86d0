-- Places of a list are linked to those before them of the same bit.
use Rattle.std.proofs.Common.{◌≡◌, ℕ, zero, suc, ◌+◌, ◌<◌, ◌≤◌, ◌⊎◌, inl, inr, Bool, true, false, cond, nat_eq, ◌&&◌, List, [], ◌∷◌, ◌++◌, length, map, take, Option, Some, None, refl, sym, ap, subst, ◌∙◌, arith, add-one}
use Rattle.std.specs.Prelude.{slice_get}
use Rattle.std.specs.Map.{lookup}
use Rattle.std.specs.Str.{bytes_eq}
use Rattle.std.proofs.lemmas.List.{take_all}
use Rattle.std.proofs.lemmas.Option.{slice_get_within}
use Rattle.indexmap.specs.IndexMap.{insert_entry}
use Rattle.hdl_plans.specs.Loops.{BitAt, bit_at}
use Rattle.hdl_loops.specs.Inner.Hops.{bit, is_bit}
use Rattle.hdl_loops.specs.Inner.Leaving.{latest_from, IsFrom, IsPast, Leaves, LeavesIn, IsLinked}
use Rattle.hdl_loops.specs.Inner.Trees.{steps_left}
use Rattle.hdl_loops.specs.declared.hops.BitOf.{BitOf}
use Rattle.hdl_loops.specs.declared.leaving.Leaving.{Leaving}
use Rattle.hdl_loops.proofs.Growing.{bit_is, bit_same, same_bit, get_cases, get_kept, get_last, length_more, order}

abbrev pub inserted : {A : Type 0} → List (BitOf × A) → BitOf → A → List (BitOf × A)
inserted es k v = insert_entry same_bit es k v

is_at : BitAt → BitAt → Bool
is_at x y = bytes_eq x.name y.name && nat_eq x.bit y.bit

same_test : (x : BitAt) (v w : BitOf) → bit v ≡ bit w → is_bit x v ≡ is_bit x w
unfolding is_at
same_test x v w e = ap (is_at x) e

here_by : {A : Type 0} (k : BitOf) (v : A) (e : BitOf × A) (es more : List (BitOf × A)) (p : Bool) → is_bit (bit k) e.0 ≡ p → lookup (is_bit (bit k)) more ≡ Some v → lookup (is_bit (bit k)) (cond p ((e.0, v) ∷ es) (e ∷ more)) ≡ Some v
here_by k v e es more true at go = ap (λ (b : Bool). cond b (Some v) (lookup (is_bit (bit k)) es)) at
here_by k v e es more false at go = ap (λ (b : Bool). cond b (Some e.1) (lookup (is_bit (bit k)) more)) at ∙ go

pub lookup_here : {A : Type 0} (es : List (BitOf × A)) (k : BitOf) (v : A) → lookup (is_bit (bit k)) (inserted es k v) ≡ Some v
lookup_here [] k v = ap (λ (b : Bool). cond b (Some v) None) (bit_same k)
lookup_here (e ∷ es) k v = here_by k v e es (inserted es k v) (is_bit (bit k) e.0) refl (lookup_here es k v)

other_by : {A : Type 0} (x : BitAt) (k : BitOf) (v : A) (e : BitOf × A) (es more : List (BitOf × A)) (p : Bool) → is_bit (bit k) e.0 ≡ p → is_bit x k ≡ false → lookup (is_bit x) more ≡ lookup (is_bit x) es → lookup (is_bit x) (cond p ((e.0, v) ∷ es) (e ∷ more)) ≡ lookup (is_bit x) (e ∷ es)
other_by x k v e es more true at none go =
    let f : is_bit x e.0 ≡ false = same_test x e.0 k (bit_is k.name.now k.bit e.0 at) ∙ none in
    ap (λ (b : Bool). cond b (Some v) (lookup (is_bit x) es)) f ∙ sym (ap (λ (b : Bool). cond b (Some e.1) (lookup (is_bit x) es)) f)
other_by x k v e es more false at none go = ap (cond (is_bit x e.0) (Some e.1)) go

pub lookup_other : {A : Type 0} (es : List (BitOf × A)) (x : BitAt) (k : BitOf) (v : A) → is_bit x k ≡ false → lookup (is_bit x) (inserted es k v) ≡ lookup (is_bit x) es
lookup_other [] x k v none = ap (λ (b : Bool). cond b (Some v) None) none
lookup_other (e ∷ es) x k v none = other_by x k v e es (inserted es k v) (is_bit (bit k) e.0) refl none (lookup_other es x k v none)

module _ (bs : List BitOf) (old new : Leaving) (from : BitOf) (before : Option ℕ) (linked : IsLinked bs old) (was : before ≡ latest_from old (bit from))
    (entries : new.latest.entries ≡ inserted old.latest.entries from (length bs)) (more : new.before.items ≡ old.before.items ++ before ∷ []) where
  abbrev all : List BitOf
  all = bs ++ from ∷ []

  now_here : (x : BitAt) → bit from ≡ x → latest_from new x ≡ Some (length bs)
  now_here x e =
      subst (λ (v : BitAt). latest_from new v ≡ Some (length bs)) e (ap (lookup (is_bit (bit from))) entries ∙ lookup_here old.latest.entries from (length bs))

  now_other : (x : BitAt) → is_bit x from ≡ false → latest_from new x ≡ latest_from old x
  now_other x none = ap (lookup (is_bit x)) entries ∙ lookup_other old.latest.entries x from (length bs) none

  latest_kept : (q : ℕ) (g : BitOf) → is_bit (bit g) from ≡ false → (slice_get bs q ≡ Some g) ⊎ ((q ≡ length bs) × (from ≡ g)) → IsFrom (latest_from new (bit g)) q
  latest_kept q g e (inl at) = subst (λ (o : Option ℕ). IsFrom o q) (sym (now_other (bit g) e)) (linked.latest q g at)
  latest_kept q g e (inr h) =
      let f : true ≡ false = sym (bit_same from) ∙ subst (λ (v : BitOf). is_bit (bit v) from ≡ false) (sym h.1) e in
      absurd cc

  latest_by : (q : ℕ) (g : BitOf) → slice_get all q ≡ Some g → (t : Bool) → is_bit (bit g) from ≡ t → IsFrom (latest_from new (bit g)) q
  latest_by q g at true e =
      let w = slice_get_within all q g at in
      let n = length_more bs from in
      let le : q ≤ length bs = omega (arith, w, n) in
      subst (λ (o : Option ℕ). IsFrom o q) (sym (now_here (bit g) (bit_is g.name.now g.bit from e))) le
  latest_by q g at false e = latest_kept q g e (get_cases bs from g q at)

  heads_by : (m : List ℕ) (b p : ℕ) (t : Bool) → is_bit (bit_at [] m b) from ≡ t → latest_from new (bit_at [] m b) ≡ Some p → Leaves all p (bit_at [] m b)
  heads_by m b p true e f =
      let is = bit_is m b from e in
      let g = now_here (bit_at [] m b) is in
      let same : length bs ≡ p = cc in
      (from, ap (slice_get all) (sym same) ∙ get_last bs from, is)
  heads_by m b p false e f = let r = linked.heads m b p (sym (now_other (bit_at [] m b) e) ∙ f) in (r.0, get_kept bs (from ∷ []) p r.0 r.1, r.2)

  -- what stands before the last place
  old_at : (p : ℕ) (b : BitOf) → p < length bs → slice_get all p ≡ Some b → slice_get bs p ≡ Some b
  old_at p b lt at = by (get_cases bs from b p at)
    where
      by : (slice_get bs p ≡ Some b) ⊎ ((p ≡ length bs) × (from ≡ b)) → slice_get bs p ≡ Some b
      by (inl e) = e
      by (inr e) = let same = e.0 in absurd (omega (arith, lt, same))

  last_is : (p : ℕ) (b : BitOf) → p ≡ length bs → slice_get all p ≡ Some b → from ≡ b
  last_is p b same at =
      let e = get_last bs from in
      let f : slice_get all (length bs) ≡ Some b = ap (slice_get all) (sym same) ∙ at in
      cc

  links_by : (p q : ℕ) (b c : BitOf) (o : Option ℕ) → slice_get all p ≡ Some b → slice_get all q ≡ Some c → bit c ≡ bit b → q < p → (slice_get old.before.items p ≡ Some o) ⊎ ((p ≡ length old.before.items) × (before ≡ o)) → IsFrom o q
  links_by p q b c o at atq same lt (inl e) =
      let w = slice_get_within old.before.items p o e in
      let long = linked.long in
      linked.links p q b c o (old_at p b (omega (arith, w, long)) at) (old_at q c (omega (arith, w, long, lt)) atq) same lt e
  links_by p q b c o at atq same lt (inr e) =
      let p_is : p ≡ length bs = e.0 ∙ linked.long in
      let is = last_is p b p_is at in
      let r = linked.latest q c (old_at q c (omega (arith, lt, p_is)) atq) in
      let from_is : bit c ≡ bit from = same ∙ ap bit (sym is) in
      subst (λ (v : Option ℕ). IsFrom v q) (e.1) (subst (λ (v : Option ℕ). IsFrom v q) (sym was) (subst (λ (v : BitAt). IsFrom (latest_from old v) q) from_is r))

  back_by : (p r : ℕ) (b : BitOf) → slice_get all p ≡ Some b → (slice_get old.before.items p ≡ Some (Some r)) ⊎ ((p ≡ length old.before.items) × (before ≡ Some r)) → (r < p) × Leaves all r (bit b)
  back_by p r b at (inl e) =
      let w = slice_get_within old.before.items p (Some r) e in
      let long = linked.long in
      let l = linked.back p r b (old_at p b (omega (arith, w, long)) at) e in
      (l.0, (l.1.0, get_kept bs (from ∷ []) r l.1.0 l.1.1, l.1.2))
  back_by p r b at (inr e) =
      let p_is : p ≡ length bs = e.0 ∙ linked.long in
      let is = last_is p b p_is at in
      let l = linked.heads from.name.now from.bit r (sym was ∙ e.1) in
      let lt = slice_get_within bs r l.0 l.1 in
      (omega (arith, lt, p_is), (l.0, get_kept bs (from ∷ []) r l.0 l.1, l.2 ∙ ap bit is))

  pub linked_more : IsLinked (bs ++ from ∷ []) new
  linked_more = record {
    long = let n = length_more old.before.items before in let m : length new.before.items ≡ length (old.before.items ++ before ∷ []) = ap (λ (v : List (Option ℕ)). length v) more in let long = linked.long in let o = length_more bs from in omega (arith, n, m, long, o);
    latest = λ q g at. latest_by q g at (is_bit (bit g) from) refl;
    heads = λ m b p e. heads_by m b p (is_bit (bit_at [] m b) from) refl e;
    links = λ p q b c o at atq same lt e. links_by p q b c o at atq same lt (get_cases old.before.items before o p (sym (ap (λ (v : List (Option ℕ)). slice_get v p) more) ∙ e));
    back = λ p r b at e. back_by p r b at (get_cases old.before.items before (Some r) p (sym (ap (λ (v : List (Option ℕ)). slice_get v p) more) ∙ e));
  }

pub linked_none : (l : Leaving) → l.latest.entries ≡ [] → l.before.items ≡ [] → IsLinked [] l
linked_none l entries before = record {
  long = ap (λ (v : List (Option ℕ)). length v) before;
  latest = λ q b at. absurd cc;
  heads = λ m b p e. absurd (let f : None ≡ Some p = sym (ap (λ (es : List (BitOf × ℕ)). lookup (is_bit (bit_at [] m b)) es) entries) ∙ e in cc);
  links = λ p q b c o at atq same lt e. absurd cc;
  back = λ p r b at e. absurd cc;
}

-- ---- the places of a bit, from the last to the first

pub not_past : (o : Option ℕ) (q : ℕ) → IsFrom o q → IsPast o q → ⊥
not_past None q f p = f
not_past (Some r) q f p = omega (arith, f, p)

-- so it is with the places of the bit after those still to come
abbrev pub PastAre : List BitOf → (ℕ → Type 0) → BitAt → Option ℕ → Type 0
PastAre bs P x o = (q : ℕ) (b : BitOf) → slice_get bs q ≡ Some b → bit b ≡ x → IsPast o q → P q

pub past_start : (bs : List BitOf) (P : ℕ → Type 0) (l : Leaving) (x : BitAt) (o : Option ℕ) → IsLinked bs l → o ≡ latest_from l x → PastAre bs P x o
past_start bs P l x o linked is q b e at past =
    absurd (not_past o q (subst (λ (v : Option ℕ). IsFrom v q) (sym is) (subst (λ (v : BitAt). IsFrom (latest_from l v) q) at (linked.latest q b e))) past)

leaves_by : (bs : List BitOf) (l : Leaving) (m : List ℕ) (b : ℕ) (o : Option ℕ) → IsLinked bs l → o ≡ latest_from l (bit_at [] m b) → LeavesIn bs o (bit_at [] m b)
leaves_by bs l m b None linked is = tt
leaves_by bs l m b (Some p) linked is = linked.heads m b p (sym is)

pub leaves_start : (bs : List BitOf) (l : Leaving) (m : List ℕ) (b : ℕ) (o : Option ℕ) → IsLinked bs l → o ≡ latest_from l (bit_at [] m b) → LeavesIn bs o (bit_at [] m b)
leaves_start bs l m b o linked is = leaves_by bs l m b o linked is

pub leaves_more : (bs : List BitOf) (l : Leaving) (k : ℕ) (o : Option ℕ) (x : BitAt) → IsLinked bs l → Leaves bs k x → slice_get l.before.items k ≡ Some o → LeavesIn bs o x
leaves_more bs l k None x linked at e = tt
leaves_more bs l k (Some r) x linked at e = subst (Leaves bs r) at.2 (linked.back k r at.0 at.1 e).1

pub leaves_within : (bs : List BitOf) (l : Leaving) (k : ℕ) (x : BitAt) → IsLinked bs l → Leaves bs k x → k < length l.before.items
leaves_within bs l k x linked at = let w = slice_get_within bs k at.0 at.1 in let long = linked.long in omega (arith, w, long)

pub leaves_less : (bs : List BitOf) (l : Leaving) (k : ℕ) (o : Option ℕ) (x : BitAt) → IsLinked bs l → Leaves bs k x → slice_get l.before.items k ≡ Some o → steps_left o < suc k
leaves_less bs l k None x linked at e = omega arith
leaves_less bs l k (Some r) x linked at e = let lt = (linked.back k r at.0 at.1 e).0 in omega (arith, lt)

past_by : (bs : List BitOf) (P Q : ℕ → Type 0) (l : Leaving) (k : ℕ) (o : Option ℕ) (x : BitAt) → IsLinked bs l → Leaves bs k x → slice_get l.before.items k ≡ Some o → ((q : ℕ) → P q → Q q) → Q k → PastAre bs P x (Some k) →
    (q : ℕ) (b : BitOf) → slice_get bs q ≡ Some b → bit b ≡ x → IsPast o q → (k < q) ⊎ ((q ≡ k) ⊎ (q < k)) → Q q
past_by bs P Q l k o x linked at e keeps here was q b there from past (inl lt) = keeps q (was q b there from lt)
past_by bs P Q l k o x linked at e keeps here was q b there from past (inr (inl same)) = subst Q (sym same) here
past_by bs P Q l k o x linked at e keeps here was q b there from past (inr (inr lt)) =
    absurd (not_past o q (linked.links k q at.0 b o at.1 there (from ∙ sym at.2) lt e) past)

pub past_more : (bs : List BitOf) (P Q : ℕ → Type 0) (l : Leaving) (k : ℕ) (o : Option ℕ) (x : BitAt) → IsLinked bs l → Leaves bs k x → slice_get l.before.items k ≡ Some o → ((q : ℕ) → P q → Q q) → Q k → PastAre bs P x (Some k) → PastAre bs Q x o
past_more bs P Q l k o x linked at e keeps here was q b there from past =
    past_by bs P Q l k o x linked at e keeps here was q b there from past (order k q)

pub past_all : (bs : List BitOf) (P : ℕ → Type 0) (x : BitAt) (o : Option ℕ) → o ≡ None → PastAre bs P x o → (q : ℕ) (b : BitOf) → slice_get bs q ≡ Some b → bit b ≡ x → P q
past_all bs P x o none are q b at is = are q b at is (subst (λ (v : Option ℕ). IsPast v q) (sym none) tt)

-- ---- the bits of a loop

keys_by : {A : Type 0} (f : A → BitOf) (xs : List A) (i : ℕ) (x : A) → slice_get xs i ≡ Some x → map f (take (suc i) xs) ≡ map f (take i xs) ++ f x ∷ []
keys_by f [] i x e = absurd cc
keys_by f (y ∷ ys) zero x e = let same : y ≡ x = cc in ap (λ v. f v ∷ []) same
keys_by f (y ∷ ys) (suc i) x e = ap (λ (v : List BitOf). f y ∷ v) (keys_by f ys i x e)

-- one more bit of a list that is read in another form
pub keys_next : {A : Type 0} (f : A → BitOf) (xs : List A) (i : ℕ) (x : A) (old new : Leaving) → slice_get xs i ≡ Some x → IsLinked (map f (take i xs)) old → ((bits : List BitOf) → IsLinked bits old → IsLinked (bits ++ f x ∷ []) new) → IsLinked (map f (take (i + 1) xs)) new
keys_next f xs i x old new at linked more =
    let e : map f (take (i + 1) xs) ≡ map f (take i xs) ++ f x ∷ [] = ap (λ (n : ℕ). map f (take n xs)) (add-one i) ∙ keys_by f xs i x at in
    subst (λ (v : List BitOf). IsLinked v new) (sym e) (more (map f (take i xs)) linked)

pub keys_all : {A : Type 0} (f : A → BitOf) (xs : List A) (i : ℕ) (l : Leaving) → length xs ≤ i → IsLinked (map f (take i xs)) l → IsLinked (map f xs) l
keys_all {A = A} f xs i l le linked = subst (λ (v : List A). IsLinked (map f v) l) (take_all i xs le) linked
