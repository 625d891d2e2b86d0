-- The joints of a part, found side by side and bit by bit, and the hops in the bundles that they make.
use Rattle.std.proofs.Common.{◌≡◌, ℕ, zero, suc, ◌+◌, ◌<◌, ◌≤◌, ◌⊎◌, inl, inr, Bool, true, false, ◌&&◌, ◌||◌, List, [], ◌∷◌, ◌++◌, length, map, reverse, Option, Some, None, refl, sym, ap, subst, ◌∙◌, arith, below_more, append-nil, append_assoc}
use Rattle.std.specs.Prelude.{slice_get, not, if◌then◌else◌}
use Rattle.std.specs.List.{list_any}
use Rattle.std.proofs.lemmas.List.{reverse-append, reverse-reverse}
use Rattle.std.proofs.lemmas.Option.{slice_get_within}
use Rattle.hdl_tree.specs.declared.tree.Part.{Part}
use Rattle.hdl_tree.specs.declared.library.Entry.{Entry}
use Rattle.hdl_tree.specs.declared.ends.End.{End}
use Rattle.hdl_tree.specs.Chips.{Chips}
use Rattle.hdl_check.proofs.MarkLemmas.{both}
use Rattle.hdl_plans.specs.Loops.{BitAt, bit_at}
use Rattle.hdl_loops.specs.Inner.Hops.{bit, is_bit}
use Rattle.hdl_loops.specs.Inner.Bundles.{hop_by, bundle_hops, hops_in}
use Rattle.hdl_loops.specs.Inner.Knowing.{Leap, leap_of, leaps_of, leap_if, leap_by, leaps_from, leaps_between, leads_through, leaps_through, leads, leads_in, crosses, crosses_by, crosses_in, through_pair, outputs_of, KnownAs, Leads, AddsEnters, AreEnters, BundlesLast, AreLeaps, AddsOnly, AddsLeaps}
use Rattle.hdl_loops.specs.Inner.Leaving.{latest_from, IsFrom, Leaves}
use Rattle.hdl_loops.specs.Inner.Pairs.{is_pair, has_pair}
use Rattle.hdl_loops.specs.Inner.Ties.{In, Tie, tie_of, ties_of, pins_of, gather, AreOn, AreSides, HasSides}
use Rattle.hdl_loops.specs.declared.bundle.Bundle.{Bundle}
use Rattle.hdl_loops.specs.declared.hops.BitOf.{BitOf}
use Rattle.hdl_loops.specs.declared.hops.Hop.{Hop}
use Rattle.hdl_loops.specs.declared.joint.Joint.{Joint}
use Rattle.hdl_loops.specs.declared.known.Known.{Known}
use Rattle.hdl_loops.specs.declared.pairs.Pair.{Pair}
use Rattle.hdl_loops.specs.declared.pins.Sides.{Sides}
use Rattle.hdl_loops.proofs.Growing.{bit_is}
use Rattle.hdl_loops.proofs.Hopping.{made_of, not_true, all_three}
use Rattle.hdl_loops.proofs.Lists.{in_left, in_right, in_either, in_gather, gathered, in_map, mapped, get_in, in_get, map_at, there_at}

-- ---- a joint more, if it is wanted

pub kept_if : (t : Bool) (found new : List Joint) (j : Joint) → new ≡ (if t then found ++ j ∷ [] else found) → (i : Joint) → In i found → In i new
kept_if true found new j is i h = subst (In i) (sym is) (in_left i found (j ∷ []) h)
kept_if false found new j is i h = subst (In i) (sym is) h

pub here_if : (t : Bool) (found new : List Joint) (j : Joint) → new ≡ (if t then found ++ j ∷ [] else found) → t ≡ true → In j new
here_if true found new j is e = subst (In j) (sym is) (in_right j found (j ∷ []) (inl refl))
here_if false found new j is e = absurd cc

pub either_if : (t : Bool) (found new : List Joint) (j : Joint) → new ≡ (if t then found ++ j ∷ [] else found) → (i : Joint) → In i new → (In i found) ⊎ ((t ≡ true) × (j ≡ i))
either_if false found new j is i h = inl (subst (In i) is h)
either_if true found new j is i h = by (in_either i found (j ∷ []) (subst (In i) is h))
  where
    by : (In i found) ⊎ (In i (j ∷ [])) → (In i found) ⊎ ((true ≡ true) × (j ≡ i))
    by (inl f) = inl f
    by (inr (inl e)) = inr (refl, e)
    by (inr (inr f)) = absurd f

-- ---- joints of a side

module _ (joints found new : List Joint) (input : Bool) (j : Joint) (t : Bool) (is : new ≡ (if t then found ++ j ∷ [] else found)) where
  pub on_only : In j joints → (t ≡ true → j.input ≡ input) → ((i : Joint) → In i found → In i joints × (i.input ≡ input)) → (i : Joint) → In i new → In i joints × (i.input ≡ input)
  on_only there way only i h = by (either_if t found new j is i h)
    where
      by : (In i found) ⊎ ((t ≡ true) × (j ≡ i)) → In i joints × (i.input ≡ input)
      by (inl f) = only i f
      by (inr e) = subst (λ (v : Joint). In v joints × (v.input ≡ input)) e.1 (there, way e.0)

  pub on_all : (k : ℕ) → slice_get joints k ≡ Some j → (j.input ≡ input → t ≡ true) → ((q : ℕ) → q < k → (i : Joint) → slice_get joints q ≡ Some i → i.input ≡ input → In i found) → (q : ℕ) → q < k + 1 → (i : Joint) → slice_get joints q ≡ Some i → i.input ≡ input → In i new
  on_all k at way all =
      below_more (λ (q : ℕ). (i : Joint) → slice_get joints q ≡ Some i → i.input ≡ input → In i new) k
      (λ q lt i e w. kept_if t found new j is i (all q lt i e w))
      (λ i e w. let same : i ≡ j = cc in subst (λ (v : Joint). In v new) (sym same) (here_if t found new j is (way (ap (λ (v : Joint). v.input) (sym same) ∙ w))))

pub side_all : (joints found : List Joint) (input : Bool) (n : ℕ) → length joints ≤ n → ((i : Joint) → In i found → In i joints × (i.input ≡ input)) → ((q : ℕ) → q < n → (i : Joint) → slice_get joints q ≡ Some i → i.input ≡ input → In i found) → AreOn joints found input
side_all joints found input n le only all = record {
  only = only;
  all = λ i h w.
      let q = in_get joints i h in
      let within = slice_get_within joints q.0 i q.1 in
      all q.0 (omega (arith, within, le)) i q.1 w;
}

-- ---- joints of a bit

-- the joint in this place is found
abbrev pub IsFound : List Joint → List Joint → ℕ → Type 0
IsFound joints found q = (j : Joint) → slice_get joints q ≡ Some j → In j found

pub found_kept : (joints found new : List Joint) (j : Joint) → new ≡ found ++ j ∷ [] → (q : ℕ) → IsFound joints found q → IsFound joints new q
found_kept joints found new j is q was i e = subst (In i) (sym is) (in_left i found (j ∷ []) (was i e))

pub found_here : (joints found new : List Joint) (j : Joint) (k : ℕ) → slice_get joints k ≡ Some j → new ≡ found ++ j ∷ [] → IsFound joints new k
found_here joints found new j k here is i e =
    let same : j ≡ i = cc in
    subst (In i) (sym is) (in_right i found (j ∷ []) (inl same))

-- a joint is in the place of its bit
pub map_from : {A B : Type 0} (f : A → B) (xs : List A) (k : ℕ) (y : B) → slice_get (map f xs) k ≡ Some y → (x : A) × (slice_get xs k ≡ Some x) × (f x ≡ y)
map_from f [] k y e = absurd cc
map_from f (x ∷ xs) zero y e = (x, refl, cc)
map_from f (x ∷ xs) (suc k) y e = map_from f xs k y e

pub joint_at : (joints : List Joint) (k : ℕ) (x : BitAt) → Leaves (pins_of joints) k x → (j : Joint) × (slice_get joints k ≡ Some j) × (bit j.pin ≡ x)
joint_at joints k x at = let r = map_from (λ (j : Joint). j.pin) joints k at.0 at.1 in (r.0, r.1, ap bit r.2 ∙ at.2)

pub pin_at : (joints : List Joint) (k : ℕ) (j : Joint) → slice_get joints k ≡ Some j → slice_get (pins_of joints) k ≡ Some j.pin
pin_at joints k j e = map_at (λ (v : Joint). v.pin) joints k j e

pub only_more : (joints found new : List Joint) (x : BitAt) (j : Joint) → In j joints → bit j.pin ≡ x → ((i : Joint) → In i found → In i joints × (bit i.pin ≡ x)) → new ≡ found ++ j ∷ [] → (i : Joint) → In i new → In i joints × (bit i.pin ≡ x)
only_more joints found new x j there at only is i h = by (in_either i found (j ∷ []) (subst (In i) is h))
  where
    by : (In i found) ⊎ (In i (j ∷ [])) → In i joints × (bit i.pin ≡ x)
    by (inl f) = only i f
    by (inr (inl e)) = subst (λ (v : Joint). In v joints × (bit v.pin ≡ x)) e (there, at)
    by (inr (inr f)) = absurd f

-- ---- joints that lead to one that goes out

reversed_by : {A : Type 0} (x y : A) (ys zs : List A) → (In x zs) ⊎ (In x (y ∷ [])) → (In x zs → In x ys) → In x (y ∷ ys)
reversed_by x y ys zs (inl f) go = inr (go f)
reversed_by x y ys zs (inr (inl e)) go = inl e
reversed_by x y ys zs (inr (inr f)) go = absurd f

pub reversed : {A : Type 0} (x : A) (xs : List A) → In x (reverse xs) → In x xs
reversed x [] h = h
reversed x (y ∷ ys) h = reversed_by x y ys (reverse ys) (in_either x (reverse ys) (y ∷ []) (subst (In x) (reverse-append (y ∷ []) ys) h)) (reversed x ys)

pub none_in : (xs : List Joint) → length xs ≡ 0 → xs ≡ []
none_in [] e = refl
none_in (x ∷ xs) e = absurd (omega (arith, e))

pub in_reverse : {A : Type 0} (x : A) (xs : List A) → In x xs → In x (reverse xs)
in_reverse x xs h = reversed x (reverse xs) (subst (In x) (sym (reverse-reverse xs)) h)

module _ (chips : Chips) (known : List (Option Known)) (k : ℕ) where
  -- a joint more, if a way leads
  pub enters_only : (some : List Joint) (b a : Joint) (t : Bool) (start old new : List Joint) → In a some → t ≡ leads_through chips known k (tie_of a) (tie_of b) → new ≡ (if t then old ++ a ∷ [] else old) → ((c : Joint) → In c old → (In c start) ⊎ (In c some × Leads chips known k c b)) → (c : Joint) → In c new → (In c start) ⊎ (In c some × Leads chips known k c b)
  enters_only some b a t start old new there told is only c h = by (either_if t old new a is c h)
    where
      by : (In c old) ⊎ ((t ≡ true) × (a ≡ c)) → (In c start) ⊎ (In c some × Leads chips known k c b)
      by (inl f) = only c f
      by (inr e) = inr (subst (λ (v : Joint). In v some × Leads chips known k v b) e.1 (there, sym told ∙ e.0))

  pub enters_each : (some : List Joint) (b a : Joint) (t : Bool) (old new : List Joint) (n : ℕ) → slice_get some n ≡ Some a → t ≡ leads_through chips known k (tie_of a) (tie_of b) → new ≡ (if t then old ++ a ∷ [] else old) → ((q : ℕ) → q < n → (c : Joint) → slice_get some q ≡ Some c → Leads chips known k c b → In c old) →
      (q : ℕ) → q < n + 1 → (c : Joint) → slice_get some q ≡ Some c → Leads chips known k c b → In c new
  enters_each some b a t old new n at told is all =
      below_more (λ (q : ℕ). (c : Joint) → slice_get some q ≡ Some c → Leads chips known k c b → In c new) n
      (λ q lt c e l. kept_if t old new a is c (all q lt c e l))
      (λ c e l. let same : c ≡ a = cc in subst (λ (v : Joint). In v new) (sym same) (here_if t old new a is (told ∙ subst (λ (v : Joint). Leads chips known k v b) same l)))

  pub enters_all : (joints : List Joint) (b : Joint) (start new : List Joint) → start ≡ [] → AddsEnters chips known k joints b start new → AreEnters chips known k joints b new
  enters_all joints b start new none adds = record {
    only = λ a h. by a (adds.only a h);
    all = adds.all;
  }
    where
      by : (a : Joint) → (In a start) ⊎ (In a joints × Leads chips known k a b) → In a joints × Leads chips known k a b
      by a (inl h) = absurd (subst (In a) none h)
      by a (inr h) = h

  -- the joints of one pair more
  pub enters_more : (joints some : List Joint) (b : Joint) (old new : List Joint) → ((a : Joint) → In a some → In a joints) → AddsEnters chips known k some b old new → ((a : Joint) → In a old → In a joints × Leads chips known k a b) → (a : Joint) → In a new → In a joints × Leads chips known k a b
  enters_more joints some b old new among adds only a h = by (adds.only a h)
    where
      by : (In a old) ⊎ (In a some × Leads chips known k a b) → In a joints × Leads chips known k a b
      by (inl f) = only a f
      by (inr f) = (among a f.0, f.1)

  -- what leads by a pair is found by it
  abbrev pub IsPaired : Known → List Joint → Joint → List Joint → ℕ → Type 0
  IsPaired inside joints b enters q = (p : Pair) (a : Joint) → slice_get inside.pairs.keys q ≡ Some p → In a joints → bit a.pin ≡ bit (through_pair inside.turned p).from → Leads chips known k a b → In a enters

  pub paired_kept : (inside : Known) (joints some : List Joint) (b : Joint) (old new : List Joint) → AddsEnters chips known k some b old new → (q : ℕ) → IsPaired inside joints b old q → IsPaired inside joints b new q
  paired_kept inside joints some b old new adds q was p a e i at leads = adds.kept a (was p a e i at leads)

  pub paired_here : (inside : Known) (joints some : List Joint) (b : Joint) (old new : List Joint) (q : ℕ) (pair : Pair) → slice_get inside.pairs.keys q ≡ Some pair → ((a : Joint) → In a joints → bit a.pin ≡ bit (through_pair inside.turned pair).from → In a some) → AddsEnters chips known k some b old new → IsPaired inside joints b new q
  paired_here inside joints some b old new q pair here all adds p a e i at leads =
      let same : p ≡ pair = cc in
      adds.all a (all a i (at ∙ ap (λ (v : Pair). bit (through_pair inside.turned v).from) same)) leads

  -- a way leads by a chip that is crossed
  pub leads_cross : (a b : Joint) → Leads chips known k a b → (a.input ≡ true) × (b.input ≡ false) × (crosses chips known k (bit a.pin) (bit b.pin) ≡ true)
  leads_cross a b h =
      let p = both a.input (not b.input && crosses chips known k (bit a.pin) (bit b.pin)) h in
      let q = both (not b.input) (crosses chips known k (bit a.pin) (bit b.pin)) p.1 in
      (p.0, not_true b.input q.0, q.1)

  pub leads_same : (a b c : Joint) → b.input ≡ c.input → bit b.pin ≡ bit c.pin → Leads chips known k a b → Leads chips known k a c
  leads_same a b c way at h =
      subst (λ (v : BitAt). (a.input && (not c.input && crosses chips known k (bit a.pin) v)) ≡ true) at
      (subst (λ (t : Bool). (a.input && (not t && crosses chips known k (bit a.pin) (bit b.pin))) ≡ true) way h)

-- ---- hops that are added

pub added_all : (old new : List Hop) (leaps : List Leap) → leaps_of new ≡ leaps_of old ++ leaps → AddsLeaps old new leaps
added_all old new leaps is = record {
  right = record {
    kept = λ leap h. subst (In leap) (sym is) (in_left leap (leaps_of old) leaps h);
    only = λ leap h. in_either leap (leaps_of old) leaps (subst (In leap) is h);
  };
  there = λ leap h. subst (In leap) (sym is) (in_right leap (leaps_of old) leaps h);
}

pub adds_nothing : (hs : List Hop) → AddsLeaps hs hs []
adds_nothing hs = added_all hs hs [] (sym (append-nil (leaps_of hs)))

-- the joints of a hop between some joints are among them
pub record Between (chips : Chips) (known : List (Option Known)) (k : ℕ) (enters leaves : List Tie) (leap : Leap) : Type 0 where
  pub a : Tie
  pub b : Tie
  pub enters_by : In a enters
  pub leaves_by : In b leaves
  pub made : In leap (leap_by chips known k a b)

module _ (chips : Chips) (known : List (Option Known)) (k : ℕ) where
  pub between_of : (enters leaves : List Tie) (leap : Leap) → In leap (leaps_between chips known k enters leaves) → Between chips known k enters leaves leap
  between_of enters leaves leap h =
      let a = gathered (leaps_from chips known k leaves) enters leap h in
      let b = gathered (leap_by chips known k a.item) leaves leap a.made in
      record { a = a.item; b = b.item; enters_by = a.there; leaves_by = b.there; made = b.made }

  pub between_there : (enters leaves : List Tie) (a b : Tie) (leap : Leap) → In a enters → In b leaves → In leap (leap_by chips known k a b) → In leap (leaps_between chips known k enters leaves)
  between_there enters leaves a b leap ta tb h = in_gather (leaps_from chips known k leaves) enters a leap ta (in_gather (leap_by chips known k a) leaves b leap tb h)

-- ---- pair by pair

pub only_refl : (hs : List Hop) (leaps : List Leap) → AddsOnly hs hs leaps
only_refl hs leaps = record { kept = λ leap h. h; only = λ leap h. inl h }

pub only_on : (a b c : List Hop) (leaps : List Leap) → AddsOnly a b leaps → AddsOnly b c leaps → AddsOnly a c leaps
only_on a b c leaps one two = record {
  kept = λ leap h. two.kept leap (one.kept leap h);
  only = λ leap h. by leap (two.only leap h);
}
  where
    by : (leap : Leap) → (In leap (leaps_of b)) ⊎ (In leap leaps) → (In leap (leaps_of a)) ⊎ (In leap leaps)
    by leap (inl h) = one.only leap h
    by leap (inr h) = inr h

-- the pair of two bits of which one leads to the other
pub record PairAt (inside : Known) (x y : BitAt) : Type 0 where
  pub place : ℕ
  pub pair : Pair
  pub there : slice_get inside.pairs.keys place ≡ Some pair
  pub from : bit (through_pair inside.turned pair).from ≡ x
  pub to : bit (through_pair inside.turned pair).to ≡ y

record Found {A : Type 0} (p : A → Bool) (xs : List A) : Type 0 where
  place : ℕ
  item : A
  there : slice_get xs place ≡ Some item
  right : p item ≡ true

found_by : {A : Type 0} (p : A → Bool) (x : A) (xs : List A) (b : Bool) → p x ≡ b → (b || list_any p xs) ≡ true → (list_any p xs ≡ true → Found p xs) → Found p (x ∷ xs)
found_by p x xs true e h go = record { place = 0; item = x; there = refl; right = e }
found_by p x xs false e h go = let r = go h in record { place = suc r.place; item = r.item; there = r.there; right = r.right }

found_of : {A : Type 0} (p : A → Bool) (xs : List A) → list_any p xs ≡ true → Found p xs
found_of p [] h = absurd cc
found_of p (x ∷ xs) h = found_by p x xs (p x) refl h (found_of p xs)

pair_of : (ps : List Pair) (n m : List ℕ) (b l : ℕ) → has_pair ps (bit_at [] n b) (bit_at [] m l) ≡ true → (j : ℕ) × (p : Pair) × (slice_get ps j ≡ Some p) × (bit p.from ≡ bit_at [] n b) × (bit p.to ≡ bit_at [] m l)
pair_of ps n m b l h =
    let r = found_of (is_pair (bit_at [] n b) (bit_at [] m l)) ps h in
    let e = both (is_bit (bit_at [] n b) r.item.from) (is_bit (bit_at [] m l) r.item.to) r.right in
    (r.place, r.item, r.there, bit_is n b r.item.from e.0, bit_is m l r.item.to e.1)

lead_by : (inside : Known) (n m : List ℕ) (b l : ℕ) (t : Bool) → inside.turned ≡ t → (if t then has_pair inside.pairs.keys (bit_at [] m l) (bit_at [] n b) else has_pair inside.pairs.keys (bit_at [] n b) (bit_at [] m l)) ≡ true → PairAt inside (bit_at [] n b) (bit_at [] m l)
lead_by inside n m b l true e h =
    let r = pair_of inside.pairs.keys m n l b h in
    record { place = r.0; pair = r.1; there = r.2; from = ap (λ (t : Bool). bit (through_pair t r.1).from) e ∙ r.4; to = ap (λ (t : Bool). bit (through_pair t r.1).to) e ∙ r.3 }
lead_by inside n m b l false e h =
    let r = pair_of inside.pairs.keys n m b l h in
    record { place = r.0; pair = r.1; there = r.2; from = ap (λ (t : Bool). bit (through_pair t r.1).from) e ∙ r.3; to = ap (λ (t : Bool). bit (through_pair t r.1).to) e ∙ r.4 }

leads_as : (chips : Chips) (known : List (Option Known)) (k : ℕ) (inside : Known) (chip : Entry) (x y : BitAt) → slice_get chips.entries k ≡ Some chip → KnownAs chips known k inside → crosses chips known k x y ≡ true → leads inside x y ≡ true
leads_as chips known k inside chip x y there known_as h =
    sym (ap (λ (o : Option (Option Known)). leads_in o x y) known_as.noted)
    ∙ (sym (ap (λ (e : Option End). crosses_by e (slice_get known k) x y) (known_as.no_end chip there))
    ∙ (sym (ap (λ (o : Option Entry). crosses_in chips o (slice_get known k) x y) there) ∙ h))

-- what leads is found by its pair
pub pairs_found : (chips : Chips) (known : List (Option Known)) (k : ℕ) (inside : Known) (joints : List Joint) (b : Joint) (enters : List Joint) → k < length chips.entries → KnownAs chips known k inside →
    ((q : ℕ) (v : BitOf) → slice_get (outputs_of inside) q ≡ Some v → bit v ≡ bit b.pin → IsPaired chips known k inside joints b enters q) → (a : Joint) → In a joints → Leads chips known k a b → In a enters
pairs_found chips known k inside joints b enters within known_as found a i leads =
    let c = leads_cross chips known k a b leads in
    let chip = there_at chips.entries k within in
    let p = lead_by inside a.pin.name.now b.pin.name.now a.pin.bit b.pin.bit inside.turned refl (leads_as chips known k inside chip.0 (bit a.pin) (bit b.pin) chip.1 known_as c.2) in
    let at = map_at (λ (v : Pair). (through_pair inside.turned v).to) inside.pairs.keys p.place p.pair p.there in
    found p.place (through_pair inside.turned p.pair).to at p.to p.pair a p.there i (sym p.from) leads

-- ---- bundle by bundle

gather_push : {A B : Type 0} (f : A → List B) (xs : List A) (x : A) → gather f (xs ++ x ∷ []) ≡ gather f xs ++ f x
gather_push f [] x = append-nil (f x)
gather_push f (y ∷ ys) x = ap (λ v. f y ++ v) (gather_push f ys x) ∙ sym (append_assoc (f y) (gather f ys) (f x))

map_append : {A B : Type 0} (f : A → B) (xs ys : List A) → map f (xs ++ ys) ≡ map f xs ++ map f ys
map_append f [] ys = refl
map_append f (x ∷ xs) ys = ap (λ v. f x ∷ v) (map_append f xs ys)

-- the hops of a graph with one more bundle
pub bundle_adds : (old new : List Bundle) (b : Bundle) → new ≡ old ++ b ∷ [] → leaps_of (hops_in new) ≡ leaps_of (hops_in old) ++ leaps_of (bundle_hops b)
bundle_adds old new b is = ap (λ (v : List Bundle). leaps_of (hops_in v)) is ∙ (ap leaps_of (gather_push bundle_hops old b) ∙ map_append leap_of (hops_in old) (bundle_hops b))

leap_made : (chips : Chips) (known : List (Option Known)) (k : ℕ) (a b : Joint) (leap : Leap) → Leads chips known k a b → leap_of (hop_by k a b) ≡ leap → In leap (leap_by chips known k (tie_of a) (tie_of b))
leap_made chips known k a b leap leads is = subst (λ (t : Bool). In leap (leap_if t k (tie_of a) (tie_of b))) (sym leads) (inl is)

leap_leads : (chips : Chips) (known : List (Option Known)) (k : ℕ) (a b : Joint) (leap : Leap) → In leap (leap_by chips known k (tie_of a) (tie_of b)) → Leads chips known k a b × (leap_of (hop_by k a b) ≡ leap)
leap_leads chips known k a b leap h =
    let m = made_of chips known k (tie_of a) (tie_of b) leap h in
    (all_three a.input b.input (crosses chips known k (bit a.pin) (bit b.pin)) m.enters m.leaves m.crosses_it, m.is)

module _ (chips : Chips) (known : List (Option Known)) (place : ℕ) (sides : Sides) (has : HasSides sides) where
  pub no_bundle : (hs : List Hop) (k : ℕ) (c : Joint) (o : Option ℕ) → slice_get sides.leaves.items k ≡ Some c → o ≡ latest_from sides.leaves_at (bit c.pin) → (o ≡ Some k → ⊥) → BundlesLast chips known place sides hs k
  no_bundle hs k c o at is never a b d leap e last i j same h =
      let is_same : c ≡ d = cc in
      absurd (never (is ∙ (ap (λ (v : Joint). latest_from sides.leaves_at (bit v.pin)) is_same ∙ last)))

  leads_to : (a b c : Joint) → In b sides.leaves.items → In c sides.leaves.items → bit b.pin ≡ bit c.pin → Leads chips known place a b → Leads chips known place a c
  leads_to a b c i j at h = leads_same chips known place a b c ((has.1.leaves.only b i).1 ∙ sym (has.1.leaves.only c j).1) at h

  pub empty_bundle : (hs : List Hop) (k : ℕ) (c : Joint) (enters : List Joint) → slice_get sides.leaves.items k ≡ Some c → AreEnters chips known place sides.enters.items c enters → enters ≡ [] → BundlesLast chips known place sides hs k
  empty_bundle hs k c enters at are none a b d leap e last i j same h =
      let is_same : d ≡ c = cc in
      let l = leap_leads chips known place a b leap h in
      let leads = leads_to a b c j (get_in sides.leaves.items k c at) (same ∙ ap (λ (v : Joint). bit v.pin) is_same) l.0 in
      absurd (subst (In a) none (are.all a i leads))

  module _ (old new : List Bundle) (k : ℕ) (c : Joint) (bundle : Bundle) (at : slice_get sides.leaves.items k ≡ Some c) (chip_is : bundle.chip ≡ place) (enters : AreEnters chips known place sides.enters.items c bundle.enters.items)
      (leaves_only : (j : Joint) → In j bundle.leaves.items → In j sides.leaves.items × (bit j.pin ≡ bit c.pin)) (leaves_all : (j : Joint) → In j sides.leaves.items → bit j.pin ≡ bit c.pin → In j bundle.leaves.items) (is : new ≡ old ++ bundle ∷ []) where
    in_c : In c sides.leaves.items
    in_c = get_in sides.leaves.items k c at

    made : (leap : Leap) → In leap (leaps_of (bundle_hops bundle)) → In leap (leaps_between chips known place (ties_of sides.enters.items) (ties_of sides.leaves.items))
    made leap h =
        let m = mapped leap_of (bundle_hops bundle) leap h in
        let e = gathered (λ (a : Joint). map (hop_by bundle.chip a) bundle.leaves.items) bundle.enters.items m.0 m.1 in
        let l = mapped (hop_by bundle.chip e.item) bundle.leaves.items m.0 e.made in
        let a = enters.only e.item e.there in
        let b = leaves_only l.0 l.1 in
        let leads = leads_to e.item c l.0 in_c b.0 (sym b.1) a.1 in
        let leap_is : leap_of (hop_by place e.item l.0) ≡ leap = ap (λ (n : ℕ). leap_of (hop_by n e.item l.0)) (sym chip_is) ∙ (ap leap_of l.2 ∙ m.2) in
        between_there chips known place (ties_of sides.enters.items) (ties_of sides.leaves.items) (tie_of e.item) (tie_of l.0) leap (in_map tie_of sides.enters.items e.item a.0) (in_map tie_of sides.leaves.items l.0 b.0) (leap_made chips known place e.item l.0 leap leads leap_is)

    pub bundle_only : AddsOnly (hops_in old) (hops_in new) (leaps_between chips known place (ties_of sides.enters.items) (ties_of sides.leaves.items))
    bundle_only = record { kept = all.right.kept; only = λ leap h. by leap (all.right.only leap h) }
      where
        all : AddsLeaps (hops_in old) (hops_in new) (leaps_of (bundle_hops bundle))
        all = added_all (hops_in old) (hops_in new) (leaps_of (bundle_hops bundle)) (bundle_adds old new bundle is)

        by : (leap : Leap) → (In leap (leaps_of (hops_in old))) ⊎ (In leap (leaps_of (bundle_hops bundle))) → (In leap (leaps_of (hops_in old))) ⊎ (In leap (leaps_between chips known place (ties_of sides.enters.items) (ties_of sides.leaves.items)))
        by leap (inl h) = inl h
        by leap (inr h) = inr (made leap h)

    pub bundle_last : BundlesLast chips known place sides (hops_in new) k
    bundle_last a b d leap e last i j same h =
        let d_is : d ≡ c = cc in
        let b_at : bit b.pin ≡ bit c.pin = same ∙ ap (λ (v : Joint). bit v.pin) d_is in
        let l = leap_leads chips known place a b leap h in
        let ia = enters.all a i (leads_to a b c j in_c b_at l.0) in
        let ib = leaves_all b j b_at in
        let hop = hop_by bundle.chip a b in
        let here : In hop (bundle_hops bundle) = in_gather (λ (v : Joint). map (hop_by bundle.chip v) bundle.leaves.items) bundle.enters.items a hop ia (in_map (hop_by bundle.chip a) bundle.leaves.items b ib) in
        let leap_is : leap_of hop ≡ leap = ap (λ (n : ℕ). leap_of (hop_by n a b)) chip_is ∙ l.1 in
        (added_all (hops_in old) (hops_in new) (leaps_of (bundle_hops bundle)) (bundle_adds old new bundle is)).there leap (subst (λ (v : Leap). In v (leaps_of (bundle_hops bundle))) leap_is (in_map leap_of (bundle_hops bundle) hop here))

  pub last_kept : (old new : List Hop) (leaps : List Leap) → AddsOnly old new leaps → (k : ℕ) → BundlesLast chips known place sides old k → BundlesLast chips known place sides new k
  last_kept old new leaps adds k was a b d leap e last i j same h = adds.kept leap (was a b d leap e last i j same h)

-- the hops through a part are those between its sides
module _ (chips : Chips) (known : List (Option Known)) (place : ℕ) (joints : List Joint) (sides : Sides) (are : AreSides joints sides) where
  side_tie : (side : List Joint) (input : Bool) (t : Tie) → AreOn joints side input → In t (ties_of side) → In t (ties_of joints)
  side_tie side input t on h =
      let m = mapped tie_of side t h in
      subst (λ (v : Tie). In v (ties_of joints)) m.2 (in_map tie_of joints m.0 (on.only m.0 m.1).0)

  pub sides_only : (old new : List Hop) → AddsOnly old new (leaps_between chips known place (ties_of sides.enters.items) (ties_of sides.leaves.items)) → AddsOnly old new (leaps_through chips known place (ties_of joints))
  sides_only old new adds = record { kept = adds.kept; only = λ leap h. by leap (adds.only leap h) }
    where
      by : (leap : Leap) → (In leap (leaps_of old)) ⊎ (In leap (leaps_between chips known place (ties_of sides.enters.items) (ties_of sides.leaves.items))) → (In leap (leaps_of old)) ⊎ (In leap (leaps_through chips known place (ties_of joints)))
      by leap (inl h) = inl h
      by leap (inr h) =
          let r = between_of chips known place (ties_of sides.enters.items) (ties_of sides.leaves.items) leap h in
          inr (between_there chips known place (ties_of joints) (ties_of joints) r.a r.b leap (side_tie sides.enters.items true r.a are.enters r.enters_by) (side_tie sides.leaves.items false r.b are.leaves r.leaves_by) r.made)

  record LastOf (b : Joint) : Type 0 where
    k : ℕ
    joint : Joint
    there : slice_get sides.leaves.items k ≡ Some joint
    at : bit joint.pin ≡ bit b.pin
    last : latest_from sides.leaves_at (bit b.pin) ≡ Some k

  last_by : (b : Joint) (q : ℕ) (o : Option ℕ) → latest_from sides.leaves_at (bit b.pin) ≡ o → IsFrom o q → LastOf b
  last_by b q None e f = absurd f
  last_by b q (Some k) e f =
      let r = joint_at sides.leaves.items k (bit b.pin) (are.leaves_at.heads b.pin.name.now b.pin.bit k e) in
      record { k = k; joint = r.0; there = r.1; at = r.2; last = e }

  last_of : (b : Joint) → In b sides.leaves.items → LastOf b
  last_of b i =
      let q = in_get sides.leaves.items b i in
      last_by b q.0 (latest_from sides.leaves_at (bit b.pin)) refl (are.leaves_at.latest q.0 b.pin (pin_at sides.leaves.items q.0 b q.1))

  pub sides_all : (old new : List Hop) (n : ℕ) → length sides.leaves.items ≤ n → AddsOnly old new (leaps_through chips known place (ties_of joints)) → ((k : ℕ) → k < n → BundlesLast chips known place sides new k) → AddsLeaps old new (leaps_through chips known place (ties_of joints))
  sides_all old new n le adds has = record {
    right = adds;
    there = λ leap h.
        let r = between_of chips known place (ties_of joints) (ties_of joints) leap h in
        let m = made_of chips known place r.a r.b leap r.made in
        let a = mapped tie_of joints r.a r.enters_by in
        let b = mapped tie_of joints r.b r.leaves_by in
        let ia = are.enters.all a.0 a.1 (ap (λ (v : Tie). v.input) a.2 ∙ m.enters) in
        let ib = are.leaves.all b.0 b.1 (ap (λ (v : Tie). v.input) b.2 ∙ m.leaves) in
        let l = last_of b.0 ib in
        let within = slice_get_within sides.leaves.items l.k l.joint l.there in
        let made : In leap (leap_by chips known place (tie_of a.0) (tie_of b.0)) = subst (λ (v : Tie). In leap (leap_by chips known place (tie_of a.0) v)) (sym b.2) (subst (λ (v : Tie). In leap (leap_by chips known place v r.b)) (sym a.2) r.made) in
        has l.k (omega (arith, within, le)) a.0 b.0 l.joint leap l.there (ap (latest_from sides.leaves_at) l.at ∙ l.last) ia ib (sym l.at) made;
  }

-- ---- part by part

-- the hops of the first parts
pub record AreFirst (f : Part → List Leap) (parts : List Part) (n : ℕ) (hs : List Hop) : Type 0 where
  pub only : (leap : Leap) → In leap (leaps_of hs) → In leap (gather f parts)
  pub there : (j : ℕ) → j < n → (part : Part) → slice_get parts j ≡ Some part → (leap : Leap) → In leap (f part) → In leap (leaps_of hs)

pub first_next : (f : Part → List Leap) (parts : List Part) (n : ℕ) (part : Part) (old new : List Hop) → slice_get parts n ≡ Some part → AreFirst f parts n old → AddsLeaps old new (f part) → AreFirst f parts (n + 1) new
first_next f parts n part old new here are adds = record {
  only = λ leap h. by leap (adds.right.only leap h);
  there = below_more _ _ (λ j lt other at leap h. adds.right.kept leap (are.there j lt other at leap h))
      (λ other at leap h. adds.there leap (subst (λ (v : Part). In leap (f v)) (let same : other ≡ part = cc in same) h));
}
  where
    by : (leap : Leap) → (In leap (leaps_of old)) ⊎ (In leap (f part)) → In leap (gather f parts)
    by leap (inl h) = are.only leap h
    by leap (inr h) = in_gather f parts part leap (get_in parts n part here) h

pub first_all : (f : Part → List Leap) (parts : List Part) (n : ℕ) (hs : List Hop) → n ≡ length parts → AreFirst f parts n hs → AreLeaps hs (gather f parts)
first_all f parts n hs all are = record {
  only = are.only;
  there = λ leap h.
      let g = gathered f parts leap h in
      let p = in_get parts g.item g.there in
      let within = slice_get_within parts p.0 g.item p.1 in
      are.there p.0 (omega (arith, within, all)) g.item p.1 leap g.made;
}
