-- The search goes down into a part's chip, and up again.
use Rattle.std.proofs.Common.{◌≡◌, ◌≢◌, ℕ, zero, suc, ◌+◌, ◌*◌, ◌-◌, ◌<◌, ◌≤◌, Bool, true, false, cond, List, [], ◌∷◌, ◌++◌, length, length-append, replicate, set, Option, Some, None, is_none, IsSome, get_or, refl, sym, ap, subst, ◌∙◌, arith}
use Rattle.std.specs.Prelude.{slice_get, count_by, ◌||◌, MatchOption}
use Rattle.std.specs.Str.{bytes_eq}
use Rattle.std.specs.Cmp.Lexicographic.{bytes_decides}
use Rattle.std.proofs.lemmas.List.{length-set}
use Rattle.std.proofs.lemmas.List.Sums.{sum_by-set}
use Rattle.std.proofs.lemmas.Option.{get_or_from_slice_get, slice_get_within, slice_get_read}
use Rattle.hdl_tree.specs.declared.tree.Part.{Part}
use Rattle.hdl_tree.specs.declared.library.Entry.{Entry}
use Rattle.hdl_tree.specs.Chips.{Chips, find_chip, parts_of}
use Rattle.hdl_tree.specs.Behaviour.{chip_of}
use Rattle.hdl_tree.specs.Writable.{is_among}
use Rattle.hdl_check.specs.declared.fault.FaultKind.TheVariants as kinds
use Rattle.hdl_check.specs.Faults.{fault_in, part_fault_by}
use Rattle.hdl_check.specs.Locations.{AtPart, Inside, at_inner, inner_of, fault_of_part, fault_at, IsFaultless}
use Rattle.hdl_check.specs.Inner.Stacks.{from_bottom}
use Rattle.hdl_check.proofs.Stacks.{HasTop, top_of}
use Rattle.hdl_check.proofs.Keeping.{get_set_other, get_set_same}
use Rattle.hdl_plans.specs.Plans.{IsSound}
use Rattle.hdl_plans.specs.Planned.{plan_of}
use Rattle.hdl_plans.proofs.Nesting.{faultless_sound}
use Rattle.hdl_check.specs.Whole.{TopIsFaultless}
use Rattle.hdl_flatten.specs.Ends.{EndsHavePins}
use Rattle.hdl_flatten.proofs.Ending.{has_ends}
use Rattle.hdl_flatten.specs.declared.nest.Nested.{Nested}
use Rattle.hdl_flatten.specs.declared.nest.Search.{Search}
use Rattle.hdl_flatten.specs.declared.nest.Visit.{Visit}
use Rattle.hdl_flatten.specs.Inner.Nests.{IsFine, StandsAt, AreAt, IsSearch, HasNumber, Grows}
use Rattle.hdl_flatten.specs.Inner.Visits.{IsVisit, IsBegun, PartsAreThere, HasSameChip, IsUnplaced, IsSettled, names_of, IsFirst, IsStanding, AreStanding, IsEnded, IsStack, work_left}
use Rattle.hdl_flatten.proofs.Lists.{nil_after}
use Rattle.hdl_flatten.proofs.Nesting.{at_more, at_grows, length_grows, search_next, search_none}

-- ---- the chip on top, and those below it

pub record IsOnTop (chips : Chips) (top : ℕ) (search : Search) (visits : List Visit) (visit : Visit) : Type 0 where
  pub search_is : IsSearch chips search.ranks.items search.chips.items
  pub below : List Visit
  pub items : visits ≡ from_bottom below
  pub standing : IsStanding chips search top visit below
  pub others : AreStanding chips search top below

pub on_top : (chips : Chips) (top : ℕ) (search : Search) (visits : List Visit) (visit : Visit) → IsStack chips top search (visits ++ visit ∷ []) → IsOnTop chips top search visits visit
on_top chips top search visits visit s =
    let t = top_of s.stack visits visit s.items in
    let all = subst (λ (vs : List Visit). AreStanding chips search top vs) t.is s.standing in
    record { search_is = s.search_is; below = t.below; items = t.items; standing = all.0; others = all.1 }

pub further_on : (chips : Chips) (top : ℕ) (search : Search) (visits : List Visit) (old new : Visit) → HasSameChip old new → IsVisit chips search.chips.items new → IsOnTop chips top search visits old → IsOnTop chips top search visits new
further_on chips top search visits old new same right t =
    let s = t.standing in
    record {
      search_is = t.search_is;
      below = t.below;
      items = t.items;
      standing = record {
        right = right;
        unplaced = ap (slice_get search.ranks.items) same.number ∙ s.unplaced;
        apart = ap (λ (x : Entry). is_among x.name (names_of t.below)) same.entry ∙ s.apart;
        name = s.name;
        found = s.found ∙ ap Some (sym same.entry);
        faultless = subst (λ (x : Entry). IsFaultless chips (x.name ∷ names_of t.below) x) (sym same.entry) s.faultless;
        depth = s.depth;
        deep = s.deep;
        sound = subst (λ (x : Entry). IsSound s.depth chips (plan_of chips) x) (sym same.entry) s.sound;
        first = subst (λ n. IsFirst top t.below n) (sym same.number) s.first;
      };
      others = t.others;
    }

-- ---- the chips of parts

module _ (chips : Chips) (names : List (List ℕ)) (chip : Entry) (i : ℕ) (part : Part) (there : slice_get (parts_of chips chip) i ≡ Some part) (faultless : IsFaultless chips names chip) where
  part_right : part_fault_by names chip.name part.chip (find_chip chips part.chip) ≡ None
  part_right = sym (ap (fault_of_part chips names chip) there) ∙ faultless (AtPart i)

  there_by : (o : Option Entry) → part_fault_by names chip.name part.chip o ≡ None → IsSome o
  there_by None h = absurd cc
  there_by (Some inner) h = refl

  pub part_there : IsSome (find_chip chips part.chip)
  part_there = there_by (find_chip chips part.chip) part_right

  apart_by : (inner : Entry) (b : Bool) → is_among inner.name names ≡ b → cond b (Some (fault_in chip.name kinds.Recursive part.chip)) None ≡ None → b ≡ false
  apart_by inner true e h = absurd cc
  apart_by inner false e h = refl

  pub inner_apart : (inner : Entry) → find_chip chips part.chip ≡ Some inner → is_among inner.name names ≡ false
  inner_apart inner found = apart_by inner (is_among inner.name names) refl (sym (ap (part_fault_by names chip.name part.chip) found) ∙ part_right)

  pub inner_faultless : (inner : Entry) → find_chip chips part.chip ≡ Some inner → IsFaultless chips (inner.name ∷ names) inner
  inner_faultless inner found s = sym (ap (λ p. at_inner (λ y. fault_at chips (y.name ∷ names) y s) (inner_of chips p)) there ∙ ap (at_inner (λ y. fault_at chips (y.name ∷ names) y s)) found) ∙ faultless (Inside i s)

pub parts_there : (chips : Chips) (names : List (List ℕ)) (chip : Entry) → IsFaultless chips names chip → PartsAreThere chips chip
parts_there chips names chip faultless i part there = part_there chips names chip i part there faultless

-- ---- one part more

pub next_none : (A : Type 0) (B : ℕ → Type 0) (o : Option ℕ) → MatchOption o A B → o ≡ None → A
next_none A B None h e = h
next_none A B (Some k) h e = absurd cc

pub next_some : (A : Type 0) (B : ℕ → Type 0) (o : Option ℕ) (k : ℕ) → MatchOption o A B → o ≡ Some k → B k
next_some A B None k h e = absurd cc
next_some A B (Some j) k h e = let same : j ≡ k = cc in subst B same h

pub rank_there : (ranks : List (Option ℕ)) (k : ℕ) (r o : Option ℕ) → k < length ranks → r ≡ get_or ranks k r → r ≡ o → slice_get ranks k ≡ Some o
rank_there ranks k r o lt is e = slice_get_read ranks (length ranks) k r refl lt is ∙ ap Some e

pub get_here : {X : Type 0} (front rest : List X) (x : X) → slice_get (front ++ x ∷ rest) (length front) ≡ Some x
get_here [] rest x = refl
get_here (y ∷ front) rest x = get_here front rest x

pub front_found : (chips : Chips) (nest : List Nested) (visit : Visit) (v : IsVisit chips nest visit) (part : Part) (others : List Part) → visit.rest.now ≡ part ∷ others → slice_get (parts_of chips visit.entry.now) (length v.front) ≡ Some part
front_found chips nest visit v part others e = ap (λ ps. slice_get ps (length v.front)) (v.split ∙ ap (λ ps. v.front ++ ps) e) ∙ get_here v.front others part

push_part : {X : Type 0} (front rest : List X) (x : X) → front ++ x ∷ rest ≡ (front ++ x ∷ []) ++ rest
push_part [] rest x = refl
push_part (y ∷ front) rest x = ap (λ t. y ∷ t) (push_part front rest x)

pub part_placed : (chips : Chips) (search : Search) (old new : Visit) (part : Part) (k r : ℕ) (v : IsVisit chips search.chips.items old) → IsSearch chips search.ranks.items search.chips.items → new.number ≡ old.number → new.entry.now ≡ old.entry.now → old.rest.now ≡ part ∷ new.rest.now → new.places.items ≡ old.places.items ++ r ∷ [] → IsSome (find_chip chips part.chip) → find_chip chips part.chip ≡ slice_get chips.entries k → slice_get search.ranks.items k ≡ Some (Some r) → IsVisit chips search.chips.items new
part_placed chips search old new part k r v s number entry rest places is found ranked = record {
  there = ap (slice_get chips.entries) number ∙ v.there ∙ ap Some (sym entry);
  front = v.front ++ part ∷ [];
  split = ap (parts_of chips) entry ∙ v.split ∙ ap (λ ps. v.front ++ ps) rest ∙ push_part v.front new.rest.now part;
  placed = subst (λ (rs : List ℕ). AreAt chips nest (length nest) (v.front ++ part ∷ []) rs) (sym places) (at_more chips nest (length nest) v.front old.places.items part r v.placed stands);
}
  where
    nest : List Nested
    nest = search.chips.items

    some_there : (o : Option Entry) → find_chip chips part.chip ≡ o → IsSome o → StandsAt chips search.chips.items (length search.chips.items) part r
    some_there None e h = absurd cc
    some_there (Some inner) e h =
        let n : HasNumber search.chips.items r k = s.ranked k r ranked in
        record {
          nested = n.nested;
          chip = inner;
          before = slice_get_within search.chips.items r n.nested n.at;
          at = n.at;
          there = ap (slice_get chips.entries) n.number ∙ sym found ∙ e;
          found = e;
        }

    stands : StandsAt chips search.chips.items (length search.chips.items) part r
    stands = some_there (find_chip chips part.chip) refl is

-- ---- up: the chip on top stands

differs : (a b : Bool) → (a || b) ≡ false → (a ≡ false) × (b ≡ false)
differs true b h = absurd cc
differs false b h = (refl, h)

module _ (chips : Chips) (top : ℕ) (old new : Search) (visit : Visit) (there : slice_get chips.entries visit.number ≡ Some visit.entry.now) (settled : IsSettled visit old.chips.items new.chips.items) (ranks : new.ranks.items ≡ set old.ranks.items visit.number (Some (length old.chips.items))) where
  other_number : (other : Visit) → slice_get chips.entries other.number ≡ Some other.entry.now → bytes_eq visit.entry.now.name other.entry.now.name ≡ false → other.number ≢ visit.number
  other_number other at apart same =
      let both : Some other.entry.now ≡ Some visit.entry.now = sym at ∙ ap (slice_get chips.entries) same ∙ there in
      let entry : other.entry.now ≡ visit.entry.now = cc in
      let yes = (bytes_decides visit.entry.now.name other.entry.now.name).1 (ap (λ (x : Entry). x.name) (sym entry)) in
      cc

  one_after : (v : Visit) (vs : List Visit) → bytes_eq visit.entry.now.name v.entry.now.name ≡ false → IsStanding chips old top v vs → IsStanding chips new top v vs
  one_after v vs apart s =
      let grows : Grows old.chips.items new.chips.items = record { more = settled.nested ∷ []; longer = settled.longer } in
      record {
        right = record {
          there = s.right.there;
          front = s.right.front;
          split = s.right.split;
          placed = at_grows chips old.chips.items new.chips.items (length old.chips.items) (length new.chips.items) s.right.front v.places.items grows (length_grows old.chips.items new.chips.items grows) s.right.placed;
        };
        unplaced = ap (λ rs. slice_get rs v.number) ranks ∙ get_set_other old.ranks.items visit.number v.number (Some (length old.chips.items)) (other_number v s.right.there apart) ∙ s.unplaced;
        apart = s.apart;
        name = s.name;
        found = s.found;
        faultless = s.faultless;
        depth = s.depth;
        deep = s.deep;
        sound = s.sound;
        first = s.first;
      }

  all_after : (vs : List Visit) → is_among visit.entry.now.name (names_of vs) ≡ false → AreStanding chips old top vs → AreStanding chips new top vs
  all_after [] apart s = tt
  all_after (v ∷ vs) apart s =
      let d = differs (bytes_eq visit.entry.now.name v.entry.now.name) (is_among visit.entry.now.name (names_of vs)) apart in
      (one_after v vs d.0 s.0, all_after vs d.1 s.1)

  ended_by : (vs : List Visit) → slice_get old.ranks.items visit.number ≡ Some None → IsFirst top vs visit.number → IsEnded new top vs
  ended_by [] unplaced first =
      (length old.chips.items, ap (slice_get new.ranks.items) (sym first) ∙ ap (λ rs. slice_get rs visit.number) ranks ∙ get_set_same old.ranks.items visit.number (Some (length old.chips.items)) None unplaced)
  ended_by (v ∷ vs) unplaced first = tt

  pub up : (visits : List Visit) → IsOnTop chips top old visits visit → visit.rest.now ≡ [] → IsStack chips top new visits
  up visits t last =
      let s = t.standing in
      let fine : IsFine chips visit.entry.now = record { name = s.name; found = s.found; outer = names_of (visit ∷ t.below); faultless = s.faultless } in
      let all : s.right.front ≡ parts_of chips visit.entry.now = sym (s.right.split ∙ ap (λ ps. s.right.front ++ ps) last ∙ nil_after s.right.front) in
      let nest = old.chips.items in
      let at : AreAt chips nest (length nest) (parts_of chips visit.entry.now) settled.nested.parts.items =
      subst (λ (rs : List ℕ). AreAt chips nest (length nest) (parts_of chips visit.entry.now) rs) (sym settled.parts) (subst (λ (ps : List Part). AreAt chips nest (length nest) ps visit.places.items) all s.right.placed) in
      record {
        search_is = subst (λ (rs : List (Option ℕ)). IsSearch chips rs new.chips.items) (sym ranks) (search_next chips old.ranks.items nest new.chips.items settled.nested visit.number visit.entry.now t.search_is settled.longer settled.number s.right.there fine at);
        stack = t.below;
        items = t.items;
        standing = all_after t.below s.apart t.others;
        ended = ended_by t.below s.unplaced s.first;
      }

-- ---- down: a chip comes on top

module _ (chips : Chips) (top : ℕ) (search : Search) (visits : List Visit) (visit : Visit) (k : ℕ) (inner : Visit) (begun : IsBegun chips k inner) (t : IsOnTop chips top search visits visit) (u : IsUnplaced chips search.ranks.items visit.entry.now k) where
  names : List (List ℕ)
  names = names_of (visit ∷ t.below)

  found : find_chip chips u.part.chip ≡ Some inner.entry.now
  found = u.found ∙ begun.there

  begun_right : IsVisit chips search.chips.items inner
  begun_right = record {
    there = ap (slice_get chips.entries) begun.number ∙ begun.there;
    front = [];
    split = sym begun.rest;
    placed = subst (λ (rs : List ℕ). AreAt chips search.chips.items (length search.chips.items) [] rs) (sym begun.places) tt;
  }

  inner_stands : (d : ℕ) → d + length t.below ≡ length chips.entries → IsSound d chips (plan_of chips) visit.entry.now → IsStanding chips search top inner (visit ∷ t.below)
  unfolding names
  inner_stands zero deep sound = absurd sound
  inner_stands (suc d) deep sound = record {
    right = begun_right;
    unplaced = ap (slice_get search.ranks.items) begun.number ∙ u.unplaced;
    apart = inner_apart chips names visit.entry.now u.place u.part u.there t.standing.faultless inner.entry.now found;
    name = u.part.chip;
    found = found;
    faultless = inner_faultless chips names visit.entry.now u.place u.part u.there t.standing.faultless inner.entry.now found;
    depth = d;
    deep = omega (arith, deep);
    sound = sound.2 u.place inner.entry.now (ap (chip_of chips) u.there ∙ found);
    first = tt;
  }

  pub down : IsStack chips top search ((visits ++ visit ∷ []) ++ inner ∷ [])
  down = record {
    search_is = t.search_is;
    stack = inner ∷ visit ∷ t.below;
    items = ap (λ (vs : List Visit). (vs ++ visit ∷ []) ++ inner ∷ []) t.items;
    standing = (inner_stands t.standing.depth t.standing.deep t.standing.sound, (t.standing, t.others));
    ended = tt;
  }

pub first_down : (chips : Chips) (search : Search) (k : ℕ) (inner : Visit) → IsBegun chips k inner → IsSearch chips search.ranks.items search.chips.items → slice_get search.ranks.items k ≡ Some None → (name : List ℕ) → find_chip chips name ≡ Some inner.entry.now → IsFaultless chips (inner.entry.now.name ∷ []) inner.entry.now → IsSound (length chips.entries) chips (plan_of chips) inner.entry.now → IsStack chips k search (inner ∷ [])
first_down chips search k inner begun s unplaced name found faultless sound = record {
  search_is = s;
  stack = inner ∷ [];
  items = refl;
  standing = (
    record {
      right = record {
        there = ap (slice_get chips.entries) begun.number ∙ begun.there;
        front = [];
        split = sym begun.rest;
        placed = subst (λ (rs : List ℕ). AreAt chips search.chips.items (length search.chips.items) [] rs) (sym begun.places) tt;
      };
      unplaced = ap (slice_get search.ranks.items) begun.number ∙ unplaced;
      apart = refl;
      name = name;
      found = found;
      faultless = faultless;
      depth = length chips.entries;
      deep = omega arith;
      sound = sound;
      first = begun.number;
    },
    tt,
  );
  ended = tt;
}

none_here : (n k : ℕ) → k < n → slice_get {X = Option ℕ} (replicate n None) k ≡ Some None
none_here zero k h = absurd (omega (arith, h))
none_here (suc n) zero h = refl
none_here (suc n) (suc k) h = none_here n k (omega (arith, h))

pub first_stack : (chips : Chips) (top : List ℕ) (k : ℕ) (search : Search) (inner : Visit) (visits : List Visit) → EndsHavePins chips → TopIsFaultless chips top → k < length chips.entries → find_chip chips top ≡ slice_get chips.entries k → IsBegun chips k inner → search.ranks.items ≡ replicate (length chips.entries) None → search.chips.items ≡ [] → visits ≡ inner ∷ [] → IsStack chips k search visits
first_stack chips top k search inner visits ends fine lt e begun ranks nest items =
    let found : find_chip chips top ≡ Some inner.entry.now = e ∙ begun.there in
    let faultless = fine inner.entry.now found in
    subst (λ (vs : List Visit). IsStack chips k search vs) (sym items)
    (first_down chips search k inner begun (search_none chips search.ranks.items search.chips.items ranks nest) (ap (λ rs. slice_get rs k) ranks ∙ none_here (length chips.entries) k lt) top found faultless (faultless_sound chips top inner.entry.now (has_ends chips ends) found faultless))

pub bottom_none : {A : Type 0} (stack : List A) → length (from_bottom stack) ≡ 0 → stack ≡ []
bottom_none [] h = refl
bottom_none (x ∷ xs) h = absurd (omega (arith, h, length-append (from_bottom xs) (x ∷ [])))

pub at_end : (chips : Chips) (k : ℕ) (search : Search) (visits : List Visit) → IsStack chips k search visits → length visits ≡ 0 → IsEnded search k []
at_end chips k search visits s e = subst (λ (vs : List Visit). IsEnded search k vs) (bottom_none s.stack (ap length (sym s.items) ∙ e)) s.ended

-- ---- the measure

count_set : (xs : List (Option ℕ)) (k r : ℕ) → slice_get xs k ≡ Some None → count_by is_none (set xs k (Some r)) + 1 ≡ count_by is_none xs
count_set xs k r h =
    let e = sum_by-set (λ (z : Option ℕ). cond (is_none z) 1 0) xs k (Some r) None (slice_get_within xs k None h) in
    let g : ◌≡◌ {A = ℕ} (cond (is_none (get_or xs k None)) 1 0) 1 = ap (λ (z : Option ℕ). cond {A = ℕ} (is_none z) 1 0) (get_or_from_slice_get xs k None None h) in
    omega (arith, e, g)

length_bottom : {A : Type 0} (xs : List A) → length (from_bottom xs) ≡ length xs
length_bottom [] = refl
length_bottom (x ∷ xs) = omega (arith, length-append (from_bottom xs) (x ∷ []), length_bottom xs)

pub up_less : (old new : Search) (k high : ℕ) → new.ranks.items ≡ set old.ranks.items k (Some (length old.chips.items)) → slice_get old.ranks.items k ≡ Some None → work_left new high < work_left old (high + 1)
up_less old new k high ranks unplaced =
    let n = length old.ranks.items in
    let long : length new.ranks.items ≡ n = ap length ranks ∙ length-set old.ranks.items k (Some (length old.chips.items)) in
    let count : count_by is_none new.ranks.items + 1 ≡ count_by is_none old.ranks.items = ap (λ rs. count_by is_none rs + 1) ranks ∙ count_set old.ranks.items k (length old.chips.items) unplaced in
    let work : count_by is_none old.ranks.items * (n + 2) ≡ (count_by is_none new.ranks.items + 1) * (n + 2) = ap (λ c. c * (n + 2)) (sym count) in
    let here : work_left new high ≡ count_by is_none new.ranks.items * (n + 2) + (n + 1 - high) = ap (λ m. count_by is_none new.ranks.items * (m + 2) + (m + 1 - high)) long in
    omega (arith, work, here)

positive_by : (chips : Chips) (d : ℕ) (chip : Entry) → IsSound d chips (plan_of chips) chip → 0 < d
positive_by chips zero chip sound = absurd sound
positive_by chips (suc d) chip sound = omega arith

pub down_less : (chips : Chips) (top : ℕ) (search : Search) (visits : List Visit) (visit : Visit) (high : ℕ) (t : IsOnTop chips top search visits visit) → high ≡ length visits + 2 → work_left search high < work_left search (length visits + 1)
down_less chips top search visits visit high t e =
    let s = t.standing in
    let positive = positive_by chips s.depth visit.entry.now s.sound in
    let long = ap length t.items ∙ length_bottom t.below in
    omega (arith, e, positive, long, s.deep, t.search_is.long)
