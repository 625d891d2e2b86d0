-- Ways of bits that are put together, and their outermost bits.
use Rattle.std.proofs.Common.{◌≡◌, ℕ, suc, ◌<◌, ◌⊎◌, inl, inr, Bool, true, false, List, [], ◌∷◌, ◌++◌, length, Some, refl, sym, ap, ap₂, subst, ◌∙◌, arith, append_assoc, append-nil}
use Rattle.std.specs.Prelude.{slice_get, nat_lt, if◌then◌else◌}
use Rattle.std.proofs.lemmas.Bool.Decides.{Decides-ltb}
use Rattle.hdl_tree.specs.declared.library.Entry.{Entry}
use Rattle.hdl_tree.specs.Chips.{Chips}
use Rattle.hdl_tree.specs.Behaviour.{inner_chip}
use Rattle.hdl_plans.specs.Loops.{BitAt, bit_at, Feeds, is_peak, peaks, once_more, IsLoop}
use Rattle.hdl_plans.specs.Ways.{Chain, Way}
use Rattle.hdl_plans.proofs.Walks.{under, join, one_step, step_way}
use Rattle.hdl_plans.proofs.Circles.{unders, shift_chain, chain_round, circle_of, tail_of}
use Rattle.hdl_plans.proofs.Simple.{Among, Once, among_get, are_once}
use Rattle.hdl_loops.specs.Inner.Report.{Trip}

abbrev pub head_of : List BitAt → BitAt → BitAt
head_of [] y = y
head_of (m ∷ ms) y = m

abbrev pub last_of : BitAt → List BitAt → BitAt
last_of x [] = x
last_of x (m ∷ ms) = last_of m ms

-- a way between bits of the chip which leaves the one and comes to the other by a part, and passes no bit twice
pub record DeepTrip (chips : Chips) (chip : Entry) (x y : BitAt) (names : List (List ℕ)) : Type 0 where
  pub over : List BitAt
  pub steps : Chain (Feeds chips chip) x over y
  pub named : peaks x over y ≡ names
  pub once : Once (x ∷ over)
  pub head : nat_lt 0 (length (head_of over y).path) ≡ true
  pub last : nat_lt 0 (length (last_of x over).path) ≡ true

-- ---- lists of bits, each once

pub among_either : (v : BitAt) (xs ys : List BitAt) → Among v (xs ++ ys) → Among v xs ⊎ Among v ys
among_either v [] ys h = inr h
among_either v (x ∷ xs) ys (inl e) = inl (inl e)
among_either v (x ∷ xs) ys (inr h) = more (among_either v xs ys h)
  where
    more : Among v xs ⊎ Among v ys → Among v (x ∷ xs) ⊎ Among v ys
    more (inl g) = inl (inr g)
    more (inr g) = inr g

once_join : (xs ys : List BitAt) → Once xs → Once ys → ((v : BitAt) → Among v ys → Among v xs → ⊥) → Once (xs ++ ys)
once_join [] ys o p apart = p
once_join (x ∷ xs) ys o p apart = (no, once_join xs ys o.1 p (λ v a b. apart v a (inr b)))
  where
    by : Among x xs ⊎ Among x ys → ⊥
    by (inl a) = o.0 a
    by (inr a) = apart x a (inl refl)

    no : Among x (xs ++ ys) → ⊥
    no h = by (among_either x xs ys h)

-- bits of a part
pub record UnderOne (i : ℕ) (ms : List BitAt) (v : BitAt) : Type 0 where
  pub z : BitAt
  pub is : v ≡ under i z
  pub among : Among z ms

pub under_one : (i : ℕ) (ms : List BitAt) (v : BitAt) → Among v (unders i ms) → UnderOne i ms v
unfolding unders
under_one i [] v h = absurd h
under_one i (m ∷ ms) v (inl e) = record { z = m; is = e; among = inl refl }
under_one i (m ∷ ms) v (inr h) = let r = under_one i ms v h in record { z = r.z; is = r.is; among = inr r.among }

pub under_same : (i j : ℕ) (x y : BitAt) → under i x ≡ under j y → x ≡ y
under_same i j x y e = ap (λ (v : BitAt). bit_at (tail_of v.path) v.name v.bit) e

once_unders : (i : ℕ) (ms : List BitAt) → Once ms → Once (unders i ms)
unfolding unders
once_unders i [] o = tt
once_unders i (m ∷ ms) o = (
  (λ a. let r = under_one i ms (under i m) a in o.0 (subst (λ v. Among v ms) (sym (under_same i i m r.z r.is)) r.among)),
  once_unders i ms o.1,
)

unders_join : (i : ℕ) (xs ys : List BitAt) → unders i (xs ++ ys) ≡ unders i xs ++ unders i ys
unfolding unders
unders_join i [] ys = refl
unders_join i (x ∷ xs) ys = ap (λ v. under i x ∷ v) (unders_join i xs ys)

unders_all : (i : ℕ) (p q : BitAt) (ms : List BitAt) → unders i (p ∷ (ms ++ q ∷ [])) ≡ under i p ∷ (unders i ms ++ under i q ∷ [])
unfolding unders
unders_all i p q ms = ap (λ v. under i p ∷ v) (unders_join i ms (q ∷ []))

pub not_under : (n : List ℕ) (b i : ℕ) (z : BitAt) → bit_at [] n b ≡ under i z → ⊥
not_under n b i z e = let f : [] ≡ i ∷ z.path = ap (λ (v : BitAt). v.path) e in cc

-- a chain leads to each bit that it passes, and on from there
pub to_among : {R : BitAt → BitAt → Type 0} (ms : List BitAt) (x y z : BitAt) → Chain R x ms y → Among z ms → Way R x z
to_among [] x y z f h = absurd h
to_among {R = R} (m ∷ ms) x y z f (inl e) = one_step x z (subst (R x) (sym e) f.0)
to_among {R = R} (m ∷ ms) x y z f (inr h) = step_way x m z f.0 (to_among {R = R} ms m y z f.1 h)

pub from_among : {R : BitAt → BitAt → Type 0} (ms : List BitAt) (x y z : BitAt) → Chain R x ms y → Among z ms → Way R z y
from_among [] x y z f h = absurd h
from_among {R = R} (m ∷ ms) x y z f (inl e) = subst (λ v. Way R v y) (sym e) (record { over = ms; steps = f.1 })
from_among {R = R} (m ∷ ms) x y z f (inr h) = from_among {R = R} ms m y z f.1 h

-- ---- outermost bits of lists that are put together

abbrev diagnostic_if : Bool → List ℕ → List (List ℕ)
diagnostic_if b name = if b then name ∷ [] else []

abbrev here : BitAt → BitAt → BitAt → List (List ℕ)
here a m b = diagnostic_if (is_peak a m b) m.name

told_nil : (b : Bool) (name : List ℕ) → diagnostic_if b name ≡ diagnostic_if b name ++ []
told_nil true name = refl
told_nil false name = refl

told_more : (b : Bool) (name : List ℕ) (rest : List (List ℕ)) → (if b then name ∷ rest else rest) ≡ diagnostic_if b name ++ rest
told_more true name rest = refl
told_more false name rest = refl

peaks_cons : (x m y : BitAt) (ms : List BitAt) → peaks x (m ∷ ms) y ≡ here x m (head_of ms y) ++ peaks m ms y
peaks_cons x m y [] = told_nil (is_peak x m y) m.name
peaks_cons x m y (n ∷ ns) = told_more (is_peak x m n) m.name (peaks m (n ∷ ns) y)

head_join : (bs : List BitAt) (m y : BitAt) (ns : List BitAt) → head_of (bs ++ m ∷ ns) y ≡ head_of bs m
head_join [] m y ns = refl
head_join (a ∷ bs) m y ns = refl

last_join : (bs : List BitAt) (x m : BitAt) (ns : List BitAt) → last_of x (bs ++ m ∷ ns) ≡ last_of m ns
last_join [] x m ns = refl
last_join (a ∷ bs) x m ns = last_join bs a m ns

peaks_join : (bs : List BitAt) (x m y : BitAt) (ns : List BitAt) → peaks x (bs ++ m ∷ ns) y ≡ peaks x bs m ++ (here (last_of x bs) m (head_of ns y) ++ peaks m ns y)
peaks_join [] x m y ns = peaks_cons x m y ns
peaks_join (a ∷ bs) x m y ns =
    let rest = here (last_of a bs) m (head_of ns y) ++ peaks m ns y in
    peaks_cons x a y (bs ++ m ∷ ns)
    ∙ (ap₂ (λ h p. here x a h ++ p) (head_join bs m y ns) (peaks_join bs a m y ns)
    ∙ (sym (append_assoc (here x a (head_of bs m)) (peaks a bs m) rest)
    ∙ ap (λ v. v ++ rest) (sym (peaks_cons x a m bs))))

-- ---- the same one chip further out

lt_suc : (a b : ℕ) → nat_lt (suc a) (suc b) ≡ nat_lt a b
lt_suc a b = by (nat_lt (suc a) (suc b)) (nat_lt a b) refl refl
  where
    by : (s t : Bool) → nat_lt (suc a) (suc b) ≡ s → nat_lt a b ≡ t → s ≡ t
    by true true e f = refl
    by false false e f = refl
    by true false e f = let h : suc a < suc b = (Decides-ltb (suc a) (suc b)).0 e in let g : nat_lt a b ≡ true = (Decides-ltb a b).1 (omega arith) in absurd cc
    by false true e f = let h : a < b = (Decides-ltb a b).0 f in let g : nat_lt (suc a) (suc b) ≡ true = (Decides-ltb (suc a) (suc b)).1 (omega arith) in absurd cc

peak_under : (i : ℕ) (a m b : BitAt) → is_peak (under i a) (under i m) (under i b) ≡ is_peak a m b
peak_under i a m b =
    ap₂ (λ (s t : Bool). if s then t else false) (lt_suc (length m.path) (length a.path)) (lt_suc (length m.path) (length b.path))

peaks_under : (i : ℕ) (ms : List BitAt) (x y : BitAt) → peaks (under i x) (unders i ms) (under i y) ≡ peaks x ms y
unfolding unders
peaks_under i [] x y = refl
peaks_under i (m ∷ []) x y = ap (λ (t : Bool). diagnostic_if t m.name) (peak_under i x m y)
peaks_under i (m ∷ n ∷ ns) x y =
    ap₂ (λ (t : Bool) (rest : List (List ℕ)). if t then m.name ∷ rest else rest) (peak_under i x m n) (peaks_under i (n ∷ ns) m y)

last_under : (i : ℕ) (ms : List BitAt) (x : BitAt) → last_of (under i x) (unders i ms) ≡ under i (last_of x ms)
unfolding unders
last_under i [] x = refl
last_under i (m ∷ ms) x = last_under i ms m

get_last : (ms : List BitAt) (x : BitAt) → slice_get (x ∷ ms) (length ms) ≡ Some (last_of x ms)
get_last [] x = refl
get_last (m ∷ ms) x = get_last ms m

-- a loop of a part's chip is a loop of the chip
pub loop_out : (chips : Chips) (chip : Entry) (i : ℕ) (inner : Entry) → inner_chip chips chip i ≡ Some inner → (nets : List (List ℕ)) → IsLoop chips inner nets → IsLoop chips chip nets
unfolding unders
loop_out chips chip i inner found nets l =
    let c = shift_chain chips chip i inner found l.rest l.first l.first (chain_round chips inner l.rest l.first l.circle.walk) in
    let last : l.last ≡ last_of l.first l.rest = cc (l.ends, get_last l.rest l.first) in
    record {
      first = under i l.first;
      rest = unders i l.rest;
      last = under i l.last;
      ends = get_last (unders i l.rest) (under i l.first) ∙ ap Some (last_under i l.rest l.first ∙ ap (under i) (sym last));
      circle = circle_of chips chip (unders i l.rest) (under i l.first) c (once_unders i (l.first ∷ l.rest) (are_once (l.first ∷ l.rest) l.circle.once));
      named = l.named ∙ ap (once_more []) (sym (peaks_under i (l.first ∷ l.rest) l.last l.first));
    }

-- ---- ways through parts

not_told : (t : Bool) (name : List ℕ) → diagnostic_if (if t then false else false) name ≡ []
not_told true name = refl
not_told false name = refl

-- a bit in a part, on a way from one bit of the part's chip to another
pub record Inside (chips : Chips) (i : ℕ) (inner : Entry) (p q v : BitAt) : Type 0 where
  pub z : BitAt
  pub is : v ≡ under i z
  pub left : (p ≡ z) ⊎ Way (Feeds chips inner) p z
  pub right : (z ≡ q) ⊎ Way (Feeds chips inner) z q

-- a way through a part, whose bits lie in it
pub record Leap (chips : Chips) (chip : Entry) (i : ℕ) (inner : Entry) (p q x y : BitAt) (names : List (List ℕ)) : Type 0 where
  pub deep : DeepTrip chips chip x y names
  pub inside : (v : BitAt) → Among v deep.over → Inside chips i inner p q v

-- into a part, through it, and out
pub hop_trip : (chips : Chips) (chip : Entry) (i : ℕ) (inner : Entry) (names : List (List ℕ)) (n : List ℕ) (b : ℕ) (p : List ℕ) (c : ℕ) (q : List ℕ) (d : ℕ) (m : List ℕ) (k : ℕ) →
    inner_chip chips chip i ≡ Some inner → Feeds chips chip (bit_at [] n b) (bit_at (i ∷ []) p c) → Trip chips inner (bit_at [] p c) (bit_at [] q d) names → (bit_at [] p c ≡ bit_at [] q d → ⊥) →
    Feeds chips chip (bit_at (i ∷ []) q d) (bit_at [] m k) → Leap chips chip i inner (bit_at [] p c) (bit_at [] q d) (bit_at [] n b) (bit_at [] m k) names
hop_trip chips chip i inner names n b p c q d m k found enter t apart leave =
    let x = bit_at [] n b in
    let y = bit_at [] m k in
    let first = bit_at [] p c in
    let last = bit_at [] q d in
    let enters = bit_at (i ∷ []) p c in
    let leaves = bit_at (i ∷ []) q d in
    let us = unders i t.over in
    let bits = first ∷ (t.over ++ last ∷ []) in
    let moved = shift_chain chips chip i inner found t.over first last t.steps in
    let same : unders i bits ≡ enters ∷ (us ++ leaves ∷ []) = unders_all i first last t.over in
    let once : Once bits = all_once t.over first last (are_once (first ∷ t.over) t.once) (λ a. let r = among_get t.over last a in t.ends apart r.0 r.1) apart in
    record {
      deep = record {
        over = enters ∷ (us ++ leaves ∷ []);
        steps = (enter, join (Feeds chips chip) us [] enters leaves y moved leave);
        named =
            peaks_cons x enters y (us ++ leaves ∷ [])
            ∙ (peaks_join us enters leaves y []
            ∙ (ap (λ v. peaks enters us leaves ++ (v ++ [])) (not_told (nat_lt 1 (length (last_of enters us).path)) q)
            ∙ (append-nil (peaks enters us leaves)
            ∙ (peaks_under i t.over first last ∙ t.named))));
        once = (
          (λ a. let r = under_one i bits x (subst (Among x) (sym same) a) in not_under n b i r.z r.is),
          subst Once same (once_unders i bits once),
        );
        head = refl;
        last = ap (λ (v : BitAt). nat_lt 0 (length v.path)) (last_join us enters leaves []);
      };
      inside = λ v a. let r = under_one i bits v (subst (Among v) (sym same) a) in on_way r.z v r.is r.among;
    }
  where
    all_once : (over : List BitAt) (first last : BitAt) → Once (first ∷ over) → (Among last over → ⊥) → (first ≡ last → ⊥) → Once (first ∷ (over ++ last ∷ []))
    all_once over first last o ends apart = once_join (first ∷ over) (last ∷ []) o ((λ a. a), tt) no
      where
        no : (v : BitAt) → Among v (last ∷ []) → Among v (first ∷ over) → ⊥
        no v (inl e) (inl f) = apart (sym f ∙ e)
        no v (inl e) (inr h) = ends (subst (λ w. Among w over) e h)
        no v (inr a) h = a

    on_way : (z v : BitAt) → v ≡ under i z → Among z (bit_at [] p c ∷ (t.over ++ bit_at [] q d ∷ [])) → Inside chips i inner (bit_at [] p c) (bit_at [] q d) v
    on_way z v is (inl e) = record { z = z; is = is; left = inl (sym e); right = inr (subst (λ w. Way (Feeds chips inner) w (bit_at [] q d)) (sym e) (record { over = t.over; steps = t.steps })) }
    on_way z v is (inr h) = by (among_either z t.over (bit_at [] q d ∷ []) h)
      where
        by : Among z t.over ⊎ Among z (bit_at [] q d ∷ []) → Inside chips i inner (bit_at [] p c) (bit_at [] q d) v
        by (inl a) = record { z = z; is = is; left = inr (to_among t.over (bit_at [] p c) (bit_at [] q d) z t.steps a); right = inr (from_among t.over (bit_at [] p c) (bit_at [] q d) z t.steps a) }
        by (inr (inl e)) = record { z = z; is = is; left = inr (subst (Way (Feeds chips inner) (bit_at [] p c)) (sym e) (record { over = t.over; steps = t.steps })); right = inl e }
        by (inr (inr a)) = absurd a

-- two ways that meet at a bit of the chip, and else in none
pub record Joint (chips : Chips) (chip : Entry) (x m y : BitAt) (before behind : List BitAt) (names : List (List ℕ)) : Type 0 where
  pub deep : DeepTrip chips chip x y names
  pub either : (v : BitAt) → Among v deep.over → Among v before ⊎ Among v (m ∷ behind)

pub join_trips : (chips : Chips) (chip : Entry) (x : BitAt) (n : List ℕ) (b : ℕ) (y : BitAt) (names more : List (List ℕ)) (f : DeepTrip chips chip x (bit_at [] n b) names) (g : DeepTrip chips chip (bit_at [] n b) y more) →
    ((v : BitAt) → Among v (bit_at [] n b ∷ g.over) → Among v (x ∷ f.over) → ⊥) → Joint chips chip x (bit_at [] n b) y f.over g.over (names ++ n ∷ more)
join_trips chips chip x n b y names more f g apart =
    let m = bit_at [] n b in
    let fs = f.over in
    let gs = g.over in
    record {
      deep = record {
        over = fs ++ m ∷ gs;
        steps = join (Feeds chips chip) fs gs x m y f.steps g.steps;
        named =
            peaks_join fs x m y gs
            ∙ ap₂ (λ s t. s ++ t) f.named
            (ap₂ (λ s t. s ++ t) (ap₂ (λ (s t : Bool). diagnostic_if (if s then t else false) n) f.last g.head) g.named);
        once = once_join (x ∷ fs) (m ∷ gs) f.once g.once apart;
        head = ap (λ (v : BitAt). nat_lt 0 (length v.path)) (head_join fs m y gs) ∙ f.head;
        last = ap (λ (v : BitAt). nat_lt 0 (length v.path)) (last_join fs x m gs) ∙ g.last;
      };
      either = λ v a. among_either v fs (m ∷ gs) a;
    }

-- a way round
pub trip_loop : (chips : Chips) (chip : Entry) (n : List ℕ) (b : ℕ) (names : List (List ℕ)) → DeepTrip chips chip (bit_at [] n b) (bit_at [] n b) names → IsLoop chips chip (once_more [] (n ∷ names))
trip_loop chips chip n b names f =
    let x = bit_at [] n b in
    let bits = f.over in
    record {
      first = x;
      rest = bits;
      last = last_of x bits;
      ends = get_last bits x;
      circle = circle_of chips chip bits x f.steps f.once;
      named = ap (once_more []) (sym (peaks_cons (last_of x bits) x x bits ∙ ap₂ (λ s t. s ++ t) (ap₂ (λ (s t : Bool). diagnostic_if (if s then t else false) n) f.last f.head) f.named));
    }
