-- A tree of what is reached, as it grows, and the ways in it.
use Rattle.std.proofs.Common.{◌≡◌, ℕ, zero, suc, ◌+◌, ◌<◌, ◌≤◌, ◌⊎◌, inl, inr, Bool, true, false, cond, nat_eq, List, [], ◌∷◌, ◌++◌, length, get_or, Option, Some, None, refl, sym, ap, subst, ◌∙◌, arith}
use Rattle.std.specs.Prelude.{slice_get, is_some, ◌&&◌, if◌then◌else◌}
use Rattle.std.specs.Map.{lookup}
use Rattle.std.specs.List.{list_any}
use Rattle.indexmap.specs.IndexMap.{insert_entry}
use Rattle.std.specs.Str.{bytes_eq}
use Rattle.std.specs.Cmp.Lexicographic.{bytes_decides}
use Rattle.std.proofs.lemmas.Bool.Decides.{Decides-eqb}
use Rattle.std.proofs.lemmas.Option.{slice_get_within}
use Rattle.hdl_check.proofs.MarkLemmas.{both}
use Rattle.hdl_plans.specs.Loops.{BitAt, bit_at}
use Rattle.hdl_plans.specs.Ways.{Chain, Way}
use Rattle.hdl_plans.proofs.Walks.{one_step}
use Rattle.hdl_loops.specs.Inner.Hops.{bit, is_bit, HasHop, Linked, AllIn, IsDirect, IsWay, NoRound}
use Rattle.hdl_loops.specs.Inner.Trees.{place_in, is_marked, IsReached, Behind, Comes, IsNoLater, IsBefore, IsNode, IsTree, KeepsMarks, IsLeft, LeftBelow, LeftBefore, StandLater, Adds, IsClosed, IsGrown, open_hops, IsBack, steps_left, ArePassed}
use Rattle.hdl_loops.specs.Inner.Ranked.{rank_at, Rise, AllRise}
use Rattle.hdl_loops.specs.declared.bundle.Bundle.{Bundle}
use Rattle.hdl_loops.specs.declared.hops.BitOf.{BitOf}
use Rattle.hdl_loops.specs.declared.hops.Hop.{Hop}
use Rattle.hdl_loops.specs.declared.ranks.Ranks.{Ranks}
use Rattle.hdl_loops.specs.declared.tree.Node.{Node}
use Rattle.hdl_loops.specs.declared.tree.Tree.{Tree}
use Rattle.hdl_loops.proofs.Lists.{get_there, there_at}

-- ---- lists that grow by one

pub get_kept : {A : Type 0} (xs ys : List A) (j : ℕ) (x : A) → slice_get xs j ≡ Some x → slice_get (xs ++ ys) j ≡ Some x
get_kept [] ys j x e = absurd cc
get_kept (z ∷ zs) ys zero x e = e
get_kept (z ∷ zs) ys (suc j) x e = get_kept zs ys j x e

pub get_last : {A : Type 0} (xs : List A) (x : A) → slice_get (xs ++ x ∷ []) (length xs) ≡ Some x
get_last [] x = refl
get_last (z ∷ zs) x = get_last zs x

more_cases : {A : Type 0} (zs : List A) (z x y : A) (j : ℕ) → (slice_get zs j ≡ Some y) ⊎ ((j ≡ length zs) × (x ≡ y)) → (slice_get zs j ≡ Some y) ⊎ ((suc j ≡ suc (length zs)) × (x ≡ y))
more_cases zs z x y j (inl h) = inl h
more_cases zs z x y j (inr h) = inr (ap suc h.0, h.1)

pub get_cases : {A : Type 0} (xs : List A) (x y : A) (j : ℕ) → slice_get (xs ++ x ∷ []) j ≡ Some y → (slice_get xs j ≡ Some y) ⊎ ((j ≡ length xs) × (x ≡ y))
get_cases [] x y zero e = inr (refl, cc)
get_cases [] x y (suc j) e = absurd cc
get_cases (z ∷ zs) x y zero e = inl e
get_cases (z ∷ zs) x y (suc j) e = more_cases zs z x y j (get_cases zs x y j e)

pub length_more : {A : Type 0} (xs : List A) (x : A) → length (xs ++ x ∷ []) ≡ length xs + 1
length_more [] x = refl
length_more (z ∷ zs) x = let h = length_more zs x in omega (arith, h)

-- ---- maps by bits

lookup_by : {A : Type 0} (test : BitOf → Bool) (e : BitOf × A) (rest more : Option A) (b : Bool) (v : A) → cond b (Some e.1) rest ≡ Some v → (rest ≡ Some v → more ≡ Some v) → cond b (Some e.1) more ≡ Some v
lookup_by test e rest more true v h go = h
lookup_by test e rest more false v h go = go h

push_some : {A : Type 0} (test : BitOf → Bool) (es : List (BitOf × A)) (p : BitOf × A) (v : A) → lookup test es ≡ Some v → lookup test (es ++ p ∷ []) ≡ Some v
push_some test [] p v h = absurd cc
push_some test (e ∷ es) p v h = lookup_by test e (lookup test es) (lookup test (es ++ p ∷ [])) (test e.0) v h (push_some test es p v)

none_by : {A : Type 0} (e : BitOf × A) (rest more : Option A) (b : Bool) (last : Option A) → cond b (Some e.1) rest ≡ None → (rest ≡ None → more ≡ last) → cond b (Some e.1) more ≡ last
none_by e rest more true last h go = absurd cc
none_by e rest more false last h go = go h

push_none : {A : Type 0} (test : BitOf → Bool) (es : List (BitOf × A)) (p : BitOf × A) → lookup test es ≡ None → lookup test (es ++ p ∷ []) ≡ cond (test p.0) (Some p.1) None
push_none test [] p h = refl
push_none test (e ∷ es) p h = none_by e (lookup test es) (lookup test (es ++ p ∷ [])) (test e.0) (cond (test p.0) (Some p.1) None) h (push_none test es p)

pub bit_is : (n : List ℕ) (b : ℕ) (v : BitOf) → is_bit (bit_at [] n b) v ≡ true → bit v ≡ bit_at [] n b
bit_is n b v h =
    let p = both (bytes_eq n v.name.now) (nat_eq b v.bit) h in
    let e : n ≡ v.name.now = (bytes_decides n v.name.now).0 p.0 in
    let f : b ≡ v.bit = (Decides-eqb b v.bit).0 p.1 in
    sym (ap (λ (m : List ℕ). bit_at [] m b) e ∙ ap (λ (k : ℕ). bit_at [] v.name.now k) f)

and_both : (a b : Bool) → a ≡ true → b ≡ true → (a && b) ≡ true
and_both true b e f = f
and_both false b e f = absurd cc

pub bit_same : (v : BitOf) → is_bit (bit v) v ≡ true
bit_same v = and_both (bytes_eq v.name.now v.name.now) (nat_eq v.bit v.bit) ((bytes_decides v.name.now v.name.now).1 refl) ((Decides-eqb v.bit v.bit).1 refl)

pub none_of : {A : Type 0} (o : Option A) → is_some o ≡ false → o ≡ None
none_of None h = refl
none_of (Some v) h = absurd cc

pub some_of : {A : Type 0} (o : Option A) → is_some o ≡ true → (v : A) × (o ≡ Some v)
some_of None h = absurd cc
some_of (Some v) h = (v, refl)

-- ---- marks

pub keeps_refl : (t : Tree) → KeepsMarks t t
keeps_refl t = record { root = refl; nodes = λ j node e. e; places = λ n b j h. h; marks = λ n b h. h }

pub keeps_on : (a b c : Tree) → KeepsMarks a b → KeepsMarks b c → KeepsMarks a c
keeps_on a b c h g = record { root = g.root ∙ h.root; nodes = λ j node e. g.nodes j node (h.nodes j node e); places = λ n x j k. g.places n x j (h.places n x j k); marks = λ n x k. g.marks n x (h.marks n x k) }

-- ---- fewer hops lead to what is not reached

abbrev one_open : Bool → ℕ
one_open t = if t then 0 else 1

less_by : (a b : Bool) → (a ≡ true → b ≡ true) → one_open b ≤ one_open a
less_by true true h = omega arith
less_by true false h = absurd (let e = h refl in cc)
less_by false true h = omega arith
less_by false false h = omega arith

open_le : (a b : Tree) → KeepsMarks a b → (hs : List Hop) → open_hops b hs ≤ open_hops a hs
open_le a b h [] = omega arith
open_le a b h (x ∷ hs) = omega (arith, less_by (is_marked a (bit x.to)) (is_marked b (bit x.to)) (h.marks x.to.name.now x.to.bit), open_le a b h hs)

here_less : (a b : Bool) → a ≡ false → b ≡ true → one_open b + 1 ≤ one_open a
here_less false true e f = omega arith
here_less true b e f = absurd cc
here_less false false e f = absurd cc

one_small : (b : Bool) → one_open b ≤ 1
one_small true = omega arith
one_small false = omega arith

open_less_at : (a b : Tree) → KeepsMarks a b → (hs : List Hop) (p : ℕ) (h : Hop) → slice_get hs p ≡ Some h → is_marked a (bit h.to) ≡ false → is_marked b (bit h.to) ≡ true → open_hops b hs < open_hops a hs
open_less_at a b keeps [] p h e x y = absurd cc
open_less_at a b keeps (z ∷ zs) zero h e x y =
    let same : z ≡ h = cc in
    let l = here_less (is_marked a (bit z.to)) (is_marked b (bit z.to)) (ap (λ (v : Hop). is_marked a (bit v.to)) same ∙ x) (ap (λ (v : Hop). is_marked b (bit v.to)) same ∙ y) in
    let r = open_le a b keeps zs in
    omega (arith, l, r)
open_less_at a b keeps (z ∷ zs) (suc p) h e x y =
    let l = less_by (is_marked a (bit z.to)) (is_marked b (bit z.to)) (keeps.marks z.to.name.now z.to.bit) in
    let r = open_less_at a b keeps zs p h e x y in
    omega (arith, l, r)

pub open_all : (t : Tree) → ((x : BitAt) → is_marked t x ≡ false) → (hs : List Hop) → open_hops t hs ≤ length hs
open_all t none [] = omega arith
open_all t none (h ∷ hs) = let r = open_all t none hs in let b = one_small (is_marked t (bit h.to)) in omega (arith, r, b)

pub new_tree : (t : Tree) → t.places.entries ≡ [] → t.nodes.items ≡ [] → (hs : List Hop) → IsTree hs t
new_tree t places nodes hs = record {
  nodes = λ j node e. absurd (let f : slice_get [] j ≡ Some node = sym (ap (λ (ns : List Node). slice_get ns j) nodes) ∙ e in cc);
  places = λ n b j e. absurd (let f : None ≡ Some j = sym (ap (λ (es : List (BitOf × ℕ)). lookup (is_bit (bit_at [] n b)) es) places) ∙ e in cc);
  few =
      let none : length t.nodes.items ≡ 0 = ap (λ (ns : List Node). length ns) nodes in
      let all = open_all t (λ x. ap (λ (es : List (BitOf × ℕ)). is_some (lookup (is_bit x) es)) places) hs in
      omega (arith, none, all);
}

pub none_passed : (bs : List Bundle) (t : Tree) → t.passed.keys ≡ [] → ArePassed bs t
none_passed bs t none g h = absurd (let e : false ≡ true = sym (ap (list_any (nat_eq g)) none) ∙ h in cc)

-- ---- a hop is added

pub order : (k q : ℕ) → (k < q) ⊎ ((q ≡ k) ⊎ (q < k))
order zero zero = inr (inl refl)
order zero (suc q) = inl (omega arith)
order (suc k) zero = inr (inr (omega arith))
order (suc k) (suc q) = by (order k q)
  where
    by : (k < q) ⊎ ((q ≡ k) ⊎ (q < k)) → (suc k < suc q) ⊎ ((suc q ≡ suc k) ⊎ (suc q < suc k))
    by (inl lt) = inl (omega (arith, lt))
    by (inr (inl e)) = inr (inl (ap suc e))
    by (inr (inr lt)) = inr (inr (omega (arith, lt)))

module _ (hs : List Hop) (old new : Tree) (hop : Hop) (before : Option ℕ) (adds : Adds old new hop before) where
  place_kept : (x : BitAt) (j : ℕ) → place_in old x ≡ Some j → place_in new x ≡ Some j
  place_kept x j h = ap (lookup (is_bit x)) adds.places ∙ push_some (is_bit x) old.places.entries (hop.to, length old.nodes.items) j h

  node_kept : (j : ℕ) (node : Node) → slice_get old.nodes.items j ≡ Some node → slice_get new.nodes.items j ≡ Some node
  node_kept j node e = ap (λ (ns : List Node). slice_get ns j) adds.nodes ∙ get_kept old.nodes.items (record { hop = hop; before = before } ∷ []) j node e

  root_is : bit new.root ≡ bit old.root
  root_is = ap bit adds.root

  pub added_keeps : KeepsMarks old new
  added_keeps = record { root = root_is; nodes = node_kept; places = λ n b j h. place_kept (bit_at [] n b) j h; marks = λ n b h. let p = some_of (place_in old (bit_at [] n b)) h in ap is_some (place_kept (bit_at [] n b) p.0 p.1) }

  behind_kept : (o : Option ℕ) (x : BitAt) → Behind old.nodes.items (bit old.root) o x → Behind new.nodes.items (bit new.root) o x
  behind_kept None x h = root_is ∙ h
  behind_kept (Some i) x h = (h.0, node_kept i h.0 h.1, h.2)

  added_place : is_marked old (bit hop.to) ≡ false → place_in new (bit hop.to) ≡ Some (length old.nodes.items)
  added_place none =
      let p : BitOf × ℕ = (hop.to, length old.nodes.items) in
      ap (lookup (is_bit (bit hop.to))) adds.places ∙ (push_none (is_bit (bit hop.to)) old.places.entries p (none_of (place_in old (bit hop.to)) none) ∙ ap (λ (b : Bool). cond b (Some p.1) None) (bit_same hop.to))

  pub added_marks : is_marked old (bit hop.to) ≡ false → is_marked new (bit hop.to) ≡ true
  added_marks none = ap is_some (added_place none)

  -- what has a place had it, or is the new one
  new_by : (n : List ℕ) (b j : ℕ) (t : Bool) → is_bit (bit_at [] n b) hop.to ≡ t → cond t (Some (length old.nodes.items)) None ≡ Some j → j ≡ length old.nodes.items
  new_by n b j false e h = absurd cc
  new_by n b j true e h = cc

  place_cases : (n : List ℕ) (b j : ℕ) (o : Option ℕ) → place_in old (bit_at [] n b) ≡ o → place_in new (bit_at [] n b) ≡ Some j → (place_in old (bit_at [] n b) ≡ Some j) ⊎ (j ≡ length old.nodes.items)
  place_cases n b j (Some i) e h =
      let kept = place_kept (bit_at [] n b) i e in
      let same : i ≡ j = cc in
      inl (e ∙ ap Some same)
  place_cases n b j None e h =
      let x = bit_at [] n b in
      let p : BitOf × ℕ = (hop.to, length old.nodes.items) in
      inr (new_by n b j (is_bit x hop.to) refl (sym (ap (lookup (is_bit x)) adds.places ∙ push_none (is_bit x) old.places.entries p e) ∙ h))

  comes_kept : (o : Option ℕ) (x : BitOf) → Comes old o (bit x) → Comes new o (bit x)
  comes_kept None x h = root_is ∙ h
  comes_kept (Some i) x h = (place_kept (bit x) i h.0, λ r. h.1 (sym root_is ∙ r))

  module _ (tree : IsTree hs old) (number : ℕ) (inside : slice_get hs number ≡ Some hop) (comes : Comes old before (bit hop.from)) (left : LeftBefore hs old (bit hop.from)) (none : is_marked old (bit hop.to) ≡ false) where
    before_less : (o : Option ℕ) → Comes old o (bit hop.from) → IsBefore o (length old.nodes.items)
    before_less None h = tt
    before_less (Some i) h = let p = tree.places hop.from.name.now hop.from.bit i h.0 in slice_get_within old.nodes.items i p.0 p.1

    behind_new : (o : Option ℕ) → Comes old o (bit hop.from) → Behind old.nodes.items (bit old.root) o (bit hop.from)
    behind_new None h = h
    behind_new (Some i) h = tree.places hop.from.name.now hop.from.bit i h.0

    not_marked : (q : ℕ) (g : Hop) (y : BitAt) → slice_get hs q ≡ Some g → bit g.to ≡ bit hop.to → bit g.from ≡ y → IsLeft hs old y → ⊥
    not_marked q g y e to from is =
        let m : is_marked old (bit g.to) ≡ true = is q g e from in
        let f : true ≡ false = sym (ap (is_marked old) (sym to) ∙ m) ∙ none in
        cc

    -- no hop from an earlier bit leads to the new one
    new_at : (k : ℕ) → Comes old (Some k) (bit hop.from) → (q : ℕ) (g : Hop) (i : ℕ) → slice_get hs q ≡ Some g → bit g.to ≡ bit hop.to → (place_in old (bit g.from) ≡ Some i) ⊎ (i ≡ length old.nodes.items) → k ≤ i
    new_at k come q g i e to (inr is) = let p = tree.places hop.from.name.now hop.from.bit k come.0 in let lt = slice_get_within old.nodes.items k p.0 p.1 in omega (arith, lt, is)
    new_at k come q g i e to (inl at) = by (order k i)
      where
        by : (k < i) ⊎ ((i ≡ k) ⊎ (i < k)) → k ≤ i
        by (inl lt) = omega (arith, lt)
        by (inr (inl same)) = omega (arith, same)
        by (inr (inr lt)) =
            let p = tree.places g.from.name.now g.from.bit i at in
            absurd (not_marked q g (bit p.0.hop.to) e to (sym p.2) ((left k come).nodes i p.0 lt p.1))

    new_first : (o : Option ℕ) → Comes old o (bit hop.from) → (q : ℕ) (g : Hop) (p : Option ℕ) → slice_get hs q ≡ Some g → bit g.to ≡ bit hop.to → Comes new p (bit g.from) → IsNoLater o p
    new_first None come q g p e to c = tt
    new_first (Some k) come q g None e to c = not_marked q g (bit old.root) e to (sym (sym root_is ∙ c)) (left k come).root
    new_first (Some k) come q g (Some i) e to c = new_at k come q g i e to (place_cases g.from.name.now g.from.bit i (place_in old (bit g.from)) refl c.0)

    -- what was first still is
    earlier : (o : Option ℕ) (j i : ℕ) → IsBefore o j → j < i → IsNoLater o (Some i)
    earlier None j i h lt = tt
    earlier (Some p) j i h lt = omega (arith, h, lt)

    old_at : (j : ℕ) (node : Node) → slice_get old.nodes.items j ≡ Some node → (q : ℕ) (g : Hop) (i : ℕ) → slice_get hs q ≡ Some g → bit g.to ≡ bit node.hop.to → Comes new (Some i) (bit g.from) → (place_in old (bit g.from) ≡ Some i) ⊎ (i ≡ length old.nodes.items) → IsNoLater node.before (Some i)
    old_at j node at q g i e to c (inl was) = (tree.nodes j node at).first q g (Some i) e to (was, λ r. c.1 (root_is ∙ r))
    old_at j node at q g i e to c (inr is) = let lt = slice_get_within old.nodes.items j node at in earlier node.before j i (tree.nodes j node at).before (omega (arith, lt, is))

    old_first : (j : ℕ) (node : Node) → slice_get old.nodes.items j ≡ Some node → (q : ℕ) (g : Hop) (o : Option ℕ) → slice_get hs q ≡ Some g → bit g.to ≡ bit node.hop.to → Comes new o (bit g.from) → IsNoLater node.before o
    old_first j node at q g None e to c = (tree.nodes j node at).first q g None e to (sym root_is ∙ c)
    old_first j node at q g (Some i) e to c = old_at j node at q g i e to c (place_cases g.from.name.now g.from.bit i (place_in old (bit g.from)) refl c.0)

    new_node : (j : ℕ) (node : Node) → (slice_get old.nodes.items j ≡ Some node) ⊎ ((j ≡ length old.nodes.items) × (record { hop = hop; before = before } ≡ node)) → IsNode hs new j node
    new_node j node (inl e) = let r = tree.nodes j node e in record { number = r.number; inside = r.inside; before = r.before; behind = behind_kept node.before (bit node.hop.from) r.behind; marked = added_keeps.marks node.hop.to.name.now node.hop.to.bit r.marked; own = place_kept (bit node.hop.to) j r.own; comes = comes_kept node.before node.hop.from r.comes; first = old_first j node e }
    new_node j node (inr e) =
        let made : IsNode hs new (length old.nodes.items) (record { hop = hop; before = before }) = record { number = number; inside = inside; before = before_less before comes; behind = behind_kept before (bit hop.from) (behind_new before comes); marked = added_marks none; own = added_place none; comes = comes_kept before hop.from comes; first = new_first before comes } in
        subst (λ (i : ℕ). IsNode hs new i node) (sym e.0) (subst (IsNode hs new (length old.nodes.items)) e.1 made)

    abbrev Stands : List ℕ → ℕ → ℕ → Type 0
    Stands n b j = (node : Node) × (slice_get new.nodes.items j ≡ Some node) × (bit node.hop.to ≡ bit_at [] n b)

    new_place : (n : List ℕ) (b : ℕ) (j : ℕ) (t : Bool) → is_bit (bit_at [] n b) hop.to ≡ t → cond t (Some (length old.nodes.items)) None ≡ Some j → Stands n b j
    new_place n b j false e h = absurd cc
    new_place n b j true e h =
        let same : length old.nodes.items ≡ j = cc in
        (record { hop = hop; before = before }, ap (λ (ns : List Node). slice_get ns j) adds.nodes ∙ (ap (slice_get (old.nodes.items ++ record { hop = hop; before = before } ∷ [])) (sym same) ∙ get_last old.nodes.items (record { hop = hop; before = before })), bit_is n b hop.to e)

    place_by : (n : List ℕ) (b : ℕ) (j : ℕ) (o : Option ℕ) → place_in old (bit_at [] n b) ≡ o → place_in new (bit_at [] n b) ≡ Some j → Stands n b j
    place_by n b j (Some i) e h =
        let kept = place_kept (bit_at [] n b) i e in
        let same : i ≡ j = cc in
        let p = tree.places n b i e in
        (p.0, ap (slice_get new.nodes.items) (sym same) ∙ node_kept i p.0 p.1, p.2)
    place_by n b j None e h =
        let x = bit_at [] n b in
        let p : BitOf × ℕ = (hop.to, length old.nodes.items) in
        new_place n b j (is_bit x hop.to) refl (sym (ap (lookup (is_bit x)) adds.places ∙ push_none (is_bit x) old.places.entries p e) ∙ h)

    pub added_tree : IsTree hs new
    added_tree = record {
      nodes = λ j node e. new_node j node (get_cases old.nodes.items (record { hop = hop; before = before }) node j (sym (ap (λ (ns : List Node). slice_get ns j) adds.nodes) ∙ e));
      places = λ n b j h. place_by n b j (place_in old (bit_at [] n b)) refl h;
      few =
          let less = open_less_at old new added_keeps hs number hop inside none (added_marks none) in
          let long : length new.nodes.items ≡ length (old.nodes.items ++ record { hop = hop; before = before } ∷ []) = ap (λ (ns : List Node). length ns) adds.nodes in
          let more = length_more old.nodes.items (record { hop = hop; before = before }) in
          omega (arith, less, long, more, tree.few);
    }

-- ---- ways

module _ (hs : List Hop) (t : Tree) (closed : IsClosed hs t) where
  step_marked : (x y : BitAt) → HasHop hs x y → IsReached t x → is_marked t y ≡ true
  step_marked x y s h = subst (λ (v : BitAt). is_marked t v ≡ true) s.4 (closed s.0 s.1 s.2 (subst (IsReached t) (sym s.3) h))

  chain_marked : (ms : List BitAt) (x y : BitAt) → Chain (HasHop hs) x ms y → IsReached t x → is_marked t y ≡ true
  chain_marked [] x y s h = step_marked x y s h
  chain_marked (m ∷ ms) x y s h = chain_marked ms m y s.1 (inr (step_marked x m s.0 h))

-- where a way leads is reached
pub way_marked : (hs : List Hop) (t : Tree) (x y : BitAt) → IsGrown hs t x → Way (HasHop hs) x y → is_marked t y ≡ true
way_marked hs t x y g w = chain_marked hs t g.closed w.over x y w.steps (inl g.root)

extended : (hs : List Hop) (x y z : BitAt) (over : List BitAt) → Chain (HasHop hs) x over y → HasHop hs y z → Chain (HasHop hs) x (over ++ y ∷ []) z
extended hs x y z [] s h = (s, h)
extended hs x y z (m ∷ ms) s h = (s.0, extended hs m y z ms s.1 h)

-- a hop more
pub one_more : (hs : List Hop) (x y z : BitAt) → Way (HasHop hs) x y → HasHop hs y z → Way (HasHop hs) x z
one_more hs x y z w h = record { over = w.over ++ y ∷ []; steps = extended hs x y z w.over w.steps h }

node_by : (hs : List Hop) (t : Tree) (node : Node) (j n : ℕ) (o : Option ℕ) → HasHop hs (bit node.hop.from) (bit node.hop.to) → IsBefore o j → j ≤ n → Behind t.nodes.items (bit t.root) o (bit node.hop.from) →
    ((i : ℕ) (before : Node) → slice_get t.nodes.items i ≡ Some before → i < n → Way (HasHop hs) (bit t.root) (bit before.hop.to)) → Way (HasHop hs) (bit t.root) (bit node.hop.to)
node_by hs t node j n None hop less le behind go = one_step (bit t.root) (bit node.hop.to) (subst (λ (v : BitAt). HasHop hs v (bit node.hop.to)) (sym behind) hop)
node_by hs t node j n (Some i) hop less le behind go =
    let w = go i behind.0 behind.1 (omega (arith, less, le)) in
    one_more hs (bit t.root) (bit node.hop.from) (bit node.hop.to) (subst (Way (HasHop hs) (bit t.root)) behind.2 w) hop

node_below : (hs : List Hop) (t : Tree) → IsTree hs t → (n j : ℕ) (node : Node) → slice_get t.nodes.items j ≡ Some node → j < n → Way (HasHop hs) (bit t.root) (bit node.hop.to)
node_below hs t tree zero j node e lt = absurd (omega (arith, lt))
node_below hs t tree (suc n) j node e lt =
    let r = tree.nodes j node e in
    node_by hs t node j n node.before (r.number, node.hop, r.inside, refl, refl) r.before (omega (arith, lt)) r.behind (λ i before f l. node_below hs t tree n i before f l)

-- what is reached is reached by a way
pub node_way : (hs : List Hop) (t : Tree) → IsTree hs t → (j : ℕ) (node : Node) → slice_get t.nodes.items j ≡ Some node → Way (HasHop hs) (bit t.root) (bit node.hop.to)
node_way hs t tree j node e = node_below hs t tree (suc j) j node e (omega arith)

-- ---- the way back

pub back_start : (hs : List Hop) (t : Tree) (j : ℕ) (node : Node) → slice_get t.nodes.items j ≡ Some node → IsBack hs t (Some j) [] (bit node.hop.to)
back_start hs t j node e = record { x = bit node.hop.to; stands = (node, e, refl); linked = refl; inside = λ p h f. absurd cc; later = λ p h f. absurd cc; direct = λ i j q h g f lt p e k a c. absurd cc; some = λ f. absurd cc; few = let lt = slice_get_within t.nodes.items j node e in omega (arith, lt) }

abbrev IsIn : List Hop → Hop → Type 0
IsIn hs h = (q : ℕ) × (slice_get hs q ≡ Some h)

more_inside : (hs ws : List Hop) (first : Hop) → IsIn hs first → AllIn hs ws → (p : ℕ) (h : Hop) → slice_get (first ∷ ws) p ≡ Some h → IsIn hs h
more_inside hs ws first is all zero h e = let same : first ≡ h = cc in subst (IsIn hs) same is
more_inside hs ws first is all (suc p) h e = all p h e

pub back_less : (hs : List Hop) (t : Tree) (j : ℕ) (node : Node) → IsTree hs t → slice_get t.nodes.items j ≡ Some node → steps_left node.before < suc j
back_less hs t j node tree e = by node.before (tree.nodes j node e).before
  where
    by : (o : Option ℕ) → IsBefore o j → steps_left o < suc j
    by None h = omega arith
    by (Some i) h = omega (arith, h)

-- what stands no earlier than a place stands later than what is before that
later_on : (o b : Option ℕ) (j : ℕ) → IsBefore o j → IsNoLater (Some j) b → IsNoLater o b
later_on None b j h l = tt
later_on (Some p) None j h l = l
later_on (Some p) (Some q) j h l = omega (arith, h, l)

no_later_self : (o : Option ℕ) → IsNoLater o o
no_later_self None = tt
no_later_self (Some p) = omega arith

not_both : (o b : Option ℕ) (j : ℕ) → IsBefore o j → IsNoLater (Some j) b → IsNoLater b o → ⊥
not_both None None j h l m = l
not_both None (Some q) j h l m = m
not_both (Some p) None j h l m = l
not_both (Some p) (Some q) j h l m = omega (arith, h, l, m)

more_later : (hs : List Hop) (t : Tree) (j : ℕ) (node : Node) (ws : List Hop) → IsTree hs t → slice_get t.nodes.items j ≡ Some node → StandLater t (Some j) ws → StandLater t node.before (node.hop ∷ ws)
more_later hs t j node ws tree e later zero h f = (j, node, e, cc, no_later_self node.before)
more_later hs t j node ws tree e later (suc i) h f =
    let r = later i h f in
    (r.0, r.1, r.2, r.3, later_on node.before r.1.before j (tree.nodes j node e).before r.4)

more_direct : (hs : List Hop) (t : Tree) (j : ℕ) (node : Node) (ws : List Hop) → IsTree hs t → slice_get t.nodes.items j ≡ Some node → StandLater t (Some j) ws → IsDirect hs ws → IsDirect hs (node.hop ∷ ws)
more_direct hs t j node ws tree e later direct i zero q h g f lt a b c from to = absurd (omega (arith, lt))
more_direct hs t j node ws tree e later direct (suc i) (suc k) q h g f lt a b c from to = direct i k q h g f (omega (arith, lt)) a b c from to
more_direct hs t j node ws tree e later direct zero (suc k) q h g f lt a b c from to =
    let here : node.hop ≡ h = cc in
    let r = tree.nodes j node e in
    let l = later k g b in
    let from_is : bit f.from ≡ bit node.hop.from = from ∙ ap (λ (v : Hop). bit v.from) (sym here) in
    let to_is : bit f.to ≡ bit l.1.hop.to = to ∙ ap (λ (v : Hop). bit v.to) (sym l.3) in
    let comes : Comes t node.before (bit f.from) = subst (Comes t node.before) (sym from_is) r.comes in
    not_both node.before l.1.before j r.before l.4 ((tree.nodes l.0 l.1 l.2).first q f node.before c to_is comes)

pub back_more : (hs : List Hop) (t : Tree) (j : ℕ) (node : Node) (ws more : List Hop) (to : BitAt) → IsTree hs t → slice_get t.nodes.items j ≡ Some node → more ≡ node.hop ∷ ws → IsBack hs t (Some j) ws to → IsBack hs t node.before more to
back_more hs t j node ws more to tree e is b =
    let r = tree.nodes j node e in
    let s = b.stands in
    let at = s.1 in
    let same : s.0 ≡ node = cc (at, e) in
    let x_is : b.x ≡ bit node.hop.to = sym s.2 ∙ ap (λ (v : Node). bit v.hop.to) same in
    let linked : Linked (bit node.hop.to) ws to = subst (λ (v : BitAt). Linked v ws to) x_is b.linked in
    subst (λ (v : List Hop). IsBack hs t node.before v to) (sym is)
    (record {
      x = bit node.hop.from;
      stands = r.behind;
      linked = (refl, linked);
      inside = more_inside hs ws node.hop (r.number, r.inside) b.inside;
      later = more_later hs t j node ws tree e b.later;
      direct = more_direct hs t j node ws tree e b.later b.direct;
      some = λ f. omega arith;
      few = let less = back_less hs t j node tree e in let was = b.few in omega (arith, less, was);
    })

pub back_within : (hs : List Hop) (t : Tree) (j : ℕ) (ws : List Hop) (to : BitAt) → IsBack hs t (Some j) ws to → j < length t.nodes.items
back_within hs t j ws to b = slice_get_within t.nodes.items j b.stands.0 b.stands.1

pub back_way : (hs : List Hop) (t : Tree) (ws : List Hop) (to : BitAt) → IsTree hs t → IsBack hs t None ws to → IsWay hs (bit t.root) ws to
back_way hs t ws to tree b = record { some = b.some refl; few = (let n = b.few in let m = tree.few in omega (arith, n, m)); linked = subst (λ (v : BitAt). Linked v ws to) (sym b.stands) b.linked; inside = b.inside; direct = b.direct }

-- ---- circles

open_by : (hs : List Hop) (x : BitAt) (over : List BitAt) → Chain (HasHop hs) x over x → (p : ℕ) × (h : Hop) × (slice_get hs p ≡ Some h) × (bit h.from ≡ x)
open_by hs x [] s = (s.0, s.1, s.2, s.3)
open_by hs x (m ∷ ms) s = (s.0.0, s.0.1, s.0.2, s.0.3)

-- no hop begins a way round: there is none
pub no_round : (hs : List Hop) → ((p : ℕ) (h : Hop) → slice_get hs p ≡ Some h → Way (HasHop hs) (bit h.from) (bit h.from) → ⊥) → NoRound hs
no_round hs none x w =
    let o = open_by hs x w.over w.steps in
    none o.0 o.1 o.2 (subst (λ (v : BitAt). Way (HasHop hs) v v) (sym o.3) w)

abbrev or_zero : Option ℕ → ℕ
or_zero None = 0
or_zero (Some a) = a

strict_less : (a b : Option ℕ) → Rise a b → or_zero a < or_zero b
strict_less (Some a) (Some b) h = h
strict_less (Some a) None h = absurd h
strict_less None b h = absurd h

abbrev rank_of : Ranks → BitAt → ℕ
rank_of r x = or_zero (rank_at r x)

step_rises : (hs : List Hop) (r : Ranks) → AllRise r hs → (x y : BitAt) → HasHop hs x y → rank_of r x < rank_of r y
step_rises hs r rise x y s =
    let h = strict_less (rank_at r (bit s.1.from)) (rank_at r (bit s.1.to)) (rise s.0 s.1 s.2) in
    subst (λ (v : BitAt). rank_of r v < rank_of r y) s.3 (subst (λ (v : BitAt). rank_of r (bit s.1.from) < rank_of r v) s.4 h)

chain_rises : (hs : List Hop) (r : Ranks) → AllRise r hs → (ms : List BitAt) (x y : BitAt) → Chain (HasHop hs) x ms y → rank_of r x < rank_of r y
chain_rises hs r rise [] x y s = step_rises hs r rise x y s
chain_rises hs r rise (m ∷ ms) x y s =
    let a = step_rises hs r rise x m s.0 in
    let b = chain_rises hs r rise ms m y s.1 in
    omega (arith, a, b)

-- ranks that rise show that there is none
pub ranked_no_round : (hs : List Hop) (r : Ranks) → AllRise r hs → NoRound hs
ranked_no_round hs r rise x w = let h = chain_rises hs r rise w.over x x w.steps in omega (arith, h)

-- ---- a new bit goes last

abbrev pub same_bit : BitOf → BitOf → Bool
same_bit k v = is_bit (bit k) v

absent_by : {A : Type 0} (e : BitOf × A) (es more : List (BitOf × A)) (k : BitOf) (v : A) (b : Bool) → is_some (cond b (Some e.1) (lookup (is_bit (bit k)) es)) ≡ false → (is_some (lookup (is_bit (bit k)) es) ≡ false → more ≡ es ++ (k, v) ∷ []) → cond b ((e.0, v) ∷ es) (e ∷ more) ≡ e ∷ es ++ (k, v) ∷ []
absent_by e es more k v true h go = absurd cc
absent_by e es more k v false h go = ap (λ xs. e ∷ xs) (go h)

pub absent_last : {A : Type 0} (es : List (BitOf × A)) (k : BitOf) (v : A) → is_some (lookup (is_bit (bit k)) es) ≡ false → insert_entry same_bit es k v ≡ es ++ (k, v) ∷ []
absent_last [] k v h = refl
absent_last (e ∷ es) k v h = absent_by e es (insert_entry same_bit es k v) k v (is_bit (bit k) e.0) h (absent_last es k v)

-- ---- the hops that leave a bit are followed

pub left_kept : (hs : List Hop) (a b : Tree) (x : BitAt) → KeepsMarks a b → IsLeft hs a x → IsLeft hs b x
left_kept hs a b x keeps left p h e f = keeps.marks h.to.name.now h.to.bit (left p h e f)

-- ---- what stands before a bit is left

module _ (hs : List Hop) (a b : Tree) (tree : IsTree hs a) (keeps : KeepsMarks a b) where
  pub below_kept : (k : ℕ) → k ≤ length a.nodes.items → LeftBelow hs a k → LeftBelow hs b k
  below_kept k le l = record {
    root = subst (IsLeft hs b) (sym keeps.root) (left_kept hs a b (bit a.root) keeps l.root);
    nodes = λ j node lt at.
        let old = there_at a.nodes.items j (omega (arith, lt, le)) in
        let f = keeps.nodes j old.0 old.1 in
        let same : old.0 ≡ node = cc in
        subst (λ (v : Node). IsLeft hs b (bit v.hop.to)) same (left_kept hs a b (bit old.0.hop.to) keeps (l.nodes j old.0 lt old.1));
  }

  pub before_kept : (x : BitOf) → IsReached a (bit x) → LeftBefore hs a (bit x) → LeftBefore hs b (bit x)
  before_kept x (inl e) left j c = absurd (c.1 (keeps.root ∙ e))
  before_kept x (inr m) left j c =
      let p = some_of (place_in a (bit x)) m in
      let q = keeps.places x.name.now x.bit p.0 p.1 in
      let at = c.0 in
      let same : p.0 ≡ j = cc in
      let there : place_in a (bit x) ≡ Some j = p.1 ∙ ap Some same in
      let n = tree.places x.name.now x.bit j there in
      let lt = slice_get_within a.nodes.items j n.0 n.1 in
      below_kept j (omega (arith, lt)) (left j (there, λ r. c.1 (keeps.root ∙ r)))

pub reached_kept : (a b : Tree) (n : List ℕ) (k : ℕ) → KeepsMarks a b → IsReached a (bit_at [] n k) → IsReached b (bit_at [] n k)
reached_kept a b n k keeps (inl e) = inl (keeps.root ∙ e)
reached_kept a b n k keeps (inr e) = inr (keeps.marks n k e)

-- one more of them
pub left_more : (hs : List Hop) (t u : Tree) (k : ℕ) (item : Node) → KeepsMarks t u → slice_get t.nodes.items k ≡ Some item → IsLeft hs u (bit item.hop.to) → ((j : ℕ) (node : Node) → j < k → slice_get t.nodes.items j ≡ Some node → IsLeft hs t (bit node.hop.to)) →
    (j : ℕ) (node : Node) → (j ≡ k) ⊎ (j < k) → slice_get u.nodes.items j ≡ Some node → IsLeft hs u (bit node.hop.to)
left_more hs t u k item keeps there here before j node (inl e) at =
    let f = keeps.nodes k item there in
    let g : slice_get u.nodes.items k ≡ Some node = ap (slice_get u.nodes.items) (sym e) ∙ at in
    let same : item ≡ node = cc in
    subst (λ (v : Node). IsLeft hs u (bit v.hop.to)) same here
left_more hs t u k item keeps there here before j node (inr lt) at =
    let in_t = slice_get_within t.nodes.items k item there in
    let old = there_at t.nodes.items j (omega (arith, lt, in_t)) in
    let f = keeps.nodes j old.0 old.1 in
    let same : old.0 ≡ node = cc in
    subst (λ (v : Node). IsLeft hs u (bit v.hop.to)) same (left_kept hs t u (bit old.0.hop.to) keeps (before j old.0 lt old.1))

-- where the hops that leave the root and each reached bit lead is reached
pub all_left : (hs : List Hop) (t : Tree) (k : ℕ) → IsTree hs t → length t.nodes.items ≤ k → IsLeft hs t (bit t.root) → ((j : ℕ) (node : Node) → j < k → slice_get t.nodes.items j ≡ Some node → IsLeft hs t (bit node.hop.to)) → IsClosed hs t
all_left hs t k tree le root left p h e r = by r
  where
    by : IsReached t (bit h.from) → is_marked t (bit h.to) ≡ true
    by (inl f) = root p h e (sym f)
    by (inr f) =
        let s = some_of (place_in t (bit h.from)) f in
        let n = tree.places h.from.name.now h.from.bit s.0 s.1 in
        let lt = slice_get_within t.nodes.items s.0 n.0 n.1 in
        left s.0 n.0 (omega (arith, lt, le)) n.1 p h e (sym n.2)

pub back_smaller : (hs : List Hop) (t : Tree) (place : ℕ) (list : List Node) (d : Node) (ws new : List Hop) (o : Option ℕ) → IsTree hs t → list ≡ t.nodes.items → place < length list → o ≡ Some place → new ≡ ws ++ (get_or list place d).hop ∷ [] → steps_left (get_or list place d).before < steps_left o
back_smaller hs t place list d ws new o tree same within is more =
    let at : slice_get t.nodes.items place ≡ Some (get_or list place d) = ap (λ (v : List Node). slice_get v place) (sym same) ∙ get_there list place d within in
    subst (λ (p : Option ℕ). steps_left (get_or list place d).before < steps_left p) (sym is) (back_less hs t place (get_or list place d) tree at)
