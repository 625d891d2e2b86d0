-- A netlist of which what isn't reached was dropped.
use Rattle.std.proofs.Common.{◌≡◌, ℕ, zero, suc, ◌<◌, ◌≤◌, ◌⊎◌, inl, inr, Bool, List, [], ◌∷◌, length, map, get_or, Some, None, Option, refl, sym, ap, subst, ◌∙◌, arith}
use Rattle.std.specs.Prelude.{slice_get, slice_index, MatchOption}
use Rattle.std.specs.Option.{option_map}
use Rattle.std.specs.List.{All, Contains}
use Rattle.std.proofs.lemmas.Option.{same_Some, slice_get_within, slice_get-map}
use Rattle.std.proofs.lemmas.List.{length-map}
use Rattle.std.proofs.lemmas.List.Elements.{All-weaker, All-map, All-contains}
use Rattle.std.proofs.lemmas.Bool.{cases_lt}
use Rattle.netlist.specs.declared.node.Node.{Node}
use Rattle.netlist.specs.declared.node.Node.TheVariants.{Pin, Nand, Flip, Word, Zero}
use Rattle.netlist.specs.declared.node.Block.{Block}
use Rattle.netlist.specs.Net.{Net}
use Rattle.netlist.specs.Order.{FitsAt, IsReadable, HasInputs, AreOrdered}
use Rattle.netlist.specs.Present.{value_in}
use Rattle.netlist.specs.Renamed.{renamed_node}
use Rattle.netlist.specs.Folded.{IsFolded, ReadsUsed, moved_block}
use Rattle.net_simplify.specs.Normal.{IsOne, IsConstant, HasNoTwins, HasOneZero, HasNoDoubleNot, ReadsNoConstant, HasInput, BlockReads, IsReached, AllReached}
use Rattle.net_simplify.specs.Normal.IsReached.{keeps, read, input}
use Rattle.net_simplify.specs.Inner.Reach.{IsMarked, IsSound, AreReached}
use Rattle.net_simplify.specs.Inner.Trim.{ArePlaces, ComesFrom, AreTrimmed}
use Rattle.net_simplify.proofs.Middles.{get_map, map_there}
use Rattle.net_simplify.proofs.Trims.{before_rises, before_small}

contains_map : (f : ℕ → ℕ) (xs : List ℕ) (x : ℕ) → Contains xs x → Contains (map f xs) (f x)
contains_map f xs x c = at xs c.0 c.1 c.2
  where
    at : (ys : List ℕ) (j : ℕ) → j < length ys → get_or ys j x ≡ x → Contains (map f ys) (f x)
    at [] j less e = absurd (omega arith)
    at (y ∷ ys) zero less e = (0, omega arith, ap f e)
    at (y ∷ ys) (suc j) less e = let r = at ys j (omega arith) e in let h = r.1 in (suc r.0, omega arith, r.2)

pub was_pin : (places : List ℕ) (node : Node) → renamed_node places node ≡ Pin → node ≡ Pin
was_pin places Pin e = refl
was_pin places (Nand i j) e = absurd cc
was_pin places (Flip i) e = absurd cc
was_pin places (Word b bit) e = absurd cc
was_pin places Zero e = absurd cc

was_zero : (places : List ℕ) (node : Node) → renamed_node places node ≡ Zero → node ≡ Zero
was_zero places Pin e = absurd cc
was_zero places (Nand i j) e = absurd cc
was_zero places (Flip i) e = absurd cc
was_zero places (Word b bit) e = absurd cc
was_zero places Zero e = refl

was_nand : (places : List ℕ) (node : Node) (a b : ℕ) → renamed_node places node ≡ Nand a b → (i : ℕ) × (j : ℕ) × (node ≡ Nand i j) × (slice_index places i ≡ a) × (slice_index places j ≡ b)
was_nand places Pin a b e = absurd cc
was_nand places (Nand i j) a b e = (i, j, refl, cc, cc)
was_nand places (Flip i) a b e = absurd cc
was_nand places (Word c bit) a b e = absurd cc
was_nand places Zero a b e = absurd cc

-- what a renamed node reads
has_renamed : (places : List ℕ) (node : Node) (i : ℕ) → HasInput node i → HasInput (renamed_node places node) (slice_index places i)
has_renamed places Pin i h = h
has_renamed places (Nand a b) i (inl e) = inl (ap (slice_index places) e)
has_renamed places (Nand a b) i (inr e) = inr (ap (slice_index places) e)
has_renamed places (Flip a) i e = ap (slice_index places) e
has_renamed places (Word b bit) i h = h
has_renamed places Zero i h = h

module _ (mid : Net) (new : List Node) (kept : List ℕ) (marks : List Bool) (places : List ℕ) (ordered : AreOrdered mid.nodes mid.blocks) (r : AreReached mid kept marks) (p : ArePlaces marks places) (t : AreTrimmed mid.nodes marks places new (length mid.nodes)) where
  abbrev on : ℕ → ℕ
  on = slice_index places

  abbrev moved : List Block
  moved = map (moved_block on) mid.blocks

  rises : (i k : ℕ) → i < k → k < length mid.nodes → IsMarked marks i → on i < on k
  rises i k less within m =
      let n = r.number in
      let a = p.at i (omega arith) in
      let b = p.at k (omega arith) in
      let c = before_rises marks i k less (omega arith) m in
      omega arith

  pub last_inside : (i : ℕ) → i < length mid.nodes → IsMarked marks i → on i < length new
  last_inside i less m =
      let n = r.number in
      let a = p.at i (omega arith) in
      let b = t.number in
      let c = before_rises marks i (length mid.nodes) less (omega arith) m in
      omega arith

  apart : (i j : ℕ) → i < length mid.nodes → j < length mid.nodes → IsMarked marks i → IsMarked marks j → on i ≡ on j → i ≡ j
  apart i j a b m n e = elim (cases_lt i j) [
    | inl less ↦ let c = rises i j less b m in absurd (omega arith)
    | inr le ↦ elim (cases_lt j i) [
      | inl less ↦ let c = rises j i less a n in absurd (omega arith)
      | inr ge ↦ omega arith
    ]
  ]

  -- ---- order

  both : (P Q : ℕ → Type 0) (xs : List ℕ) → All P xs → All Q xs → All (λ i. P i × Q i) xs
  both P Q xs a b = λ k d less. (a k d less, b k d less)

  all_inside : (xs : List ℕ) → All (λ i. i < length mid.nodes) xs → All (IsMarked marks) xs → All (λ i. i < length new) (map on xs)
  all_inside xs a b = All-map (λ i. i < length new) on xs (All-weaker (λ i. (i < length mid.nodes) × IsMarked marks i) (λ i. on i < length new) (λ i h. last_inside i h.0 h.1) xs (both (λ i. i < length mid.nodes) (IsMarked marks) xs a b))

  all_earlier : (k : ℕ) (xs : List ℕ) → k < length mid.nodes → All (λ i. i < k) xs → All (IsMarked marks) xs → All (λ i. i < on k) (map on xs)
  all_earlier k xs within a b = All-map (λ i. i < on k) on xs (All-weaker (λ i. (i < k) × IsMarked marks i) (λ i. on i < on k) (λ i h. rises i k h.0 within h.1) xs (both (λ i. i < k) (IsMarked marks) xs a b))

  inputs_moved : (block : Block) → HasInputs (length mid.nodes) block → ReadsUsed (value_in marks) block → HasInputs (length new) (moved_block on block)
  inputs_moved block h u = (all_inside block.address h.0 u.0, all_inside block.data h.1 u.1, last_inside block.load h.2 u.2, (let l = length-map block.data on in let s = h.3 in omega arith))

  readable : (o : Option Block) (k : ℕ) → k < length mid.nodes → ((block : Block) → o ≡ Some block → ReadsUsed (value_in marks) block) → MatchOption o ⊥ (IsReadable k (length mid.nodes)) → MatchOption (option_map (moved_block on) o) ⊥ (IsReadable (on k) (length new))
  readable None k within used h = h
  readable (Some block) k within used h = let u = used block refl in (all_earlier k block.address within h.0 u.0, all_inside block.data h.1 u.1, last_inside block.load h.2 u.2)

  fits_at : (k : ℕ) (node : Node) → slice_get mid.nodes k ≡ Some node → IsMarked marks k → FitsAt (on k) (length new) moved (renamed_node places node)
  fits_at k Pin e m = tt
  fits_at k (Nand i j) e m =
      let w = slice_get_within mid.nodes k (Nand i j) e in
      let f = ordered.fit k (Nand i j) e in
      (rises i k f.0 w (r.closed k m (Nand i j) i e (inl refl)), rises j k f.1 w (r.closed k m (Nand i j) j e (inr refl)))
  fits_at k (Flip i) e m = last_inside i (ordered.fit k (Flip i) e) (r.closed k m (Flip i) i e refl)
  fits_at k (Word b bit) e m =
      let w = slice_get_within mid.nodes k (Word b bit) e in
      let f = ordered.fit k (Word b bit) e in
      (f.0, subst (λ o. MatchOption o ⊥ (IsReadable (on k) (length new))) (sym (slice_get-map (moved_block on) mid.blocks b)) (readable (slice_get mid.blocks b) k w (λ block there. r.reads b block there) f.1))
  fits_at k Zero e m = tt

  pub short : length new ≤ length mid.nodes
  short = let n = r.number in let a = t.number in let b = before_small marks (length mid.nodes) (omega arith) in omega arith

  pub last_ordered : AreOrdered new moved
  last_ordered = record {
    few_nodes = (let a = short in let b = ordered.few_nodes in omega arith);
    few_blocks = (let a = length-map mid.blocks (moved_block on) in let c = ordered.few_blocks in omega arith);
    fit = λ l node e. let c = t.only l node e in subst (λ m. FitsAt m (length new) moved node) c.place (subst (FitsAt (on c.k) (length new) moved) (sym c.is) (fits_at c.k c.old c.there c.marked));
    read = λ b block e. let g = get_map (moved_block on) mid.blocks b block e in subst (HasInputs (length new)) g.2 (inputs_moved g.0 (ordered.read b g.0 g.1) (r.reads b g.0 g.1));
  }

  -- ---- values

  pub last_folded : IsFolded mid (record { nodes = new; blocks = moved }) (value_in marks) on
  last_folded = record {
    pin = λ k u e. (t.there k Pin (slice_get_within mid.nodes k Pin e) u e, t.ranks k (slice_get_within mid.nodes k Pin e) e);
    flip = λ k i u e. (r.closed k u (Flip i) i e refl, t.there k (Flip i) (slice_get_within mid.nodes k (Flip i) e) u e);
    word = λ k b bit u e. t.there k (Word b bit) (slice_get_within mid.nodes k (Word b bit) e) u e;
    zero = λ k u e start words row h. h (on k) Zero (t.there k Zero (slice_get_within mid.nodes k Zero e) u e);
    nand = λ k i j u e. (r.closed k u (Nand i j) i e (inl refl), r.closed k u (Nand i j) j e (inr refl), λ start words row h. h (on k) (Nand (on i) (on j)) (t.there k (Nand i j) (slice_get_within mid.nodes k (Nand i j) e) u e));
    reads = r.reads;
    blocks = refl;
  }

  -- ---- normal form

  -- where a gate comes from
  record Gate (l a b : ℕ) : Type 0 where
    pub k : ℕ
    pub i : ℕ
    pub j : ℕ
    pub there : slice_get mid.nodes k ≡ Some (Nand i j)
    pub marked : IsMarked marks k
    pub place : on k ≡ l
    pub first : on i ≡ a
    pub second : on j ≡ b

  gate : (l a b : ℕ) → slice_get new l ≡ Some (Nand a b) → Gate l a b
  gate l a b e =
      let c = t.only l (Nand a b) e in
      let w = was_nand places c.old a b (sym c.is) in
      record { k = c.k; i = w.0; j = w.1; there = c.there ∙ ap Some w.2; marked = c.marked; place = c.place; first = w.3; second = w.4 }

  gate_within : (l a b : ℕ) (g : Gate l a b) → g.k < length mid.nodes
  gate_within l a b g = slice_get_within mid.nodes g.k (Nand g.i g.j) g.there

  first_marked : (l a b : ℕ) (g : Gate l a b) → IsMarked marks g.i
  first_marked l a b g = r.closed g.k g.marked (Nand g.i g.j) g.i g.there (inl refl)

  second_marked : (l a b : ℕ) (g : Gate l a b) → IsMarked marks g.j
  second_marked l a b g = r.closed g.k g.marked (Nand g.i g.j) g.j g.there (inr refl)

  first_within : (l a b : ℕ) (g : Gate l a b) → g.i < length mid.nodes
  first_within l a b g = let w = gate_within l a b g in let f = (ordered.fit g.k (Nand g.i g.j) g.there).0 in omega arith

  second_within : (l a b : ℕ) (g : Gate l a b) → g.j < length mid.nodes
  second_within l a b g = let w = gate_within l a b g in let f = (ordered.fit g.k (Nand g.i g.j) g.there).1 in omega arith

  twin_here : HasNoTwins mid.nodes → (k l i j a b : ℕ) (g : Gate k i j) (h : Gate l a b) → (slice_get mid.nodes h.k ≡ Some (Nand g.i g.j)) ⊎ (slice_get mid.nodes h.k ≡ Some (Nand g.j g.i)) → k ≡ l
  twin_here twins k l i j a b g h same = sym g.place ∙ ap on (twins g.k h.k g.i g.j g.there same) ∙ h.place

  pub last_twins : HasNoTwins mid.nodes → HasNoTwins new
  last_twins twins k l i j e (inl f) =
      let g = gate k i j e in
      let h = gate l i j f in
      let x = apart h.i g.i (first_within l i j h) (first_within k i j g) (first_marked l i j h) (first_marked k i j g) (h.first ∙ sym g.first) in
      let y = apart h.j g.j (second_within l i j h) (second_within k i j g) (second_marked l i j h) (second_marked k i j g) (h.second ∙ sym g.second) in
      twin_here twins k l i j i j g h (inl (h.there ∙ ap (λ u. Some (Nand u h.j)) x ∙ ap (λ u. Some (Nand g.i u)) y))
  last_twins twins k l i j e (inr f) =
      let g = gate k i j e in
      let h = gate l j i f in
      let x = apart h.i g.j (first_within l j i h) (second_within k i j g) (first_marked l j i h) (second_marked k i j g) (h.first ∙ sym g.second) in
      let y = apart h.j g.i (second_within l j i h) (first_within k i j g) (second_marked l j i h) (first_marked k i j g) (h.second ∙ sym g.first) in
      twin_here twins k l i j j i g h (inr (h.there ∙ ap (λ u. Some (Nand u h.j)) x ∙ ap (λ u. Some (Nand g.j u)) y))

  pub last_nots : HasNoDoubleNot mid.nodes → HasNoDoubleNot new
  last_nots nots k i j e f =
      let g = gate k i i e in
      let h = gate i j j f in
      let x = apart g.j g.i (second_within k i i g) (first_within k i i g) (second_marked k i i g) (first_marked k i i g) (g.second ∙ sym g.first) in
      let y = apart h.j h.i (second_within i j j h) (first_within i j j h) (second_marked i j j h) (first_marked i j j h) (h.second ∙ sym h.first) in
      let z = apart h.k g.i (gate_within i j j h) (first_within k i i g) h.marked (first_marked k i i g) (h.place ∙ sym g.first) in
      nots g.k g.i h.i (g.there ∙ ap (λ u. Some (Nand g.i u)) x) (ap (slice_get mid.nodes) (sym z) ∙ h.there ∙ ap (λ u. Some (Nand h.i u)) y)

  pub last_zeros : HasOneZero mid.nodes → HasOneZero new
  last_zeros zeros k l e f =
      let c = t.only k Zero e in
      let d = t.only l Zero f in
      let first = c.there ∙ ap Some (was_zero places c.old (sym c.is)) in
      let second = d.there ∙ ap Some (was_zero places d.old (sym d.is)) in
      sym c.place ∙ ap on (zeros c.k d.k first second) ∙ d.place

  zero_from : (i : ℕ) → i < length mid.nodes → IsMarked marks i → slice_get new (on i) ≡ Some Zero → slice_get mid.nodes i ≡ Some Zero
  zero_from i less m e =
      let c = t.only (on i) Zero e in
      let s = apart c.k i (slice_get_within mid.nodes c.k c.old c.there) less c.marked m c.place in
      ap (slice_get mid.nodes) (sym s) ∙ c.there ∙ ap Some (was_zero places c.old (sym c.is))

  one_from : (i : ℕ) → i < length mid.nodes → IsMarked marks i → IsOne new (on i) → IsOne mid.nodes i
  one_from i less m o =
      let z = o.0 in
      let g = gate (on i) z z o.1 in
      let s = apart g.k i (gate_within (on i) z z g) less g.marked m g.place in
      let x = apart g.j g.i (second_within (on i) z z g) (first_within (on i) z z g) (second_marked (on i) z z g) (first_marked (on i) z z g) (g.second ∙ sym g.first) in
      (g.i, ap (slice_get mid.nodes) (sym s) ∙ g.there ∙ ap (λ u. Some (Nand g.i u)) x, zero_from g.i (first_within (on i) z z g) (first_marked (on i) z z g) (ap (slice_get new) g.first ∙ o.2))

  constant_from : (i : ℕ) → i < length mid.nodes → IsMarked marks i → IsConstant new (on i) → IsConstant mid.nodes i
  constant_from i less m (inl e) = inl (zero_from i less m e)
  constant_from i less m (inr o) = inr (one_from i less m o)

  reads_from : (k i j : ℕ) (e : slice_get new k ≡ Some (Nand i j)) (g : Gate k i j) → IsOne mid.nodes g.k ⊎ ((IsConstant mid.nodes g.i → ⊥) × (IsConstant mid.nodes g.j → ⊥)) → IsOne new k ⊎ ((IsConstant new i → ⊥) × (IsConstant new j → ⊥))
  reads_from k i j e g (inl o) =
      let same : Nand o.0 o.0 ≡ Nand g.i g.j = same_Some (Nand o.0 o.0) (Nand g.i g.j) (sym o.1 ∙ g.there) in
      let x : o.0 ≡ g.i = cc in
      let y : o.0 ≡ g.j = cc in
      let zero = t.there o.0 Zero (slice_get_within mid.nodes o.0 Zero o.2) (subst (IsMarked marks) (sym x) (first_marked k i j g)) o.2 in
      let a : on o.0 ≡ i = ap on x ∙ g.first in
      let b : on o.0 ≡ j = ap on y ∙ g.second in
      inl (on o.0, e ∙ ap (λ u. Some (Nand u j)) (sym a) ∙ ap (λ u. Some (Nand (on o.0) u)) (sym b), zero)
  reads_from k i j e g (inr c) = inr (
    λ h. c.0 (constant_from g.i (first_within k i j g) (first_marked k i j g) (subst (IsConstant new) (sym g.first) h)),
    λ h. c.1 (constant_from g.j (second_within k i j g) (second_marked k i j g) (subst (IsConstant new) (sym g.second) h)),
  )

  pub last_constants : ReadsNoConstant mid.nodes → ReadsNoConstant new
  last_constants constants k i j e = let g = gate k i j e in reads_from k i j e g (constants g.k g.i g.j g.there)

  -- ---- what is reached

  read_marked : (block : Block) (i : ℕ) → ReadsUsed (value_in marks) block → BlockReads block i → IsMarked marks i
  read_marked block i u (inl c) = All-contains (IsMarked marks) block.address i u.0 c
  read_marked block i u (inr (inl c)) = All-contains (IsMarked marks) block.data i u.1 c
  read_marked block i u (inr (inr e)) = subst (IsMarked marks) e u.2

  all_marked : (k : ℕ) → IsReached mid kept k → IsMarked marks k
  all_marked _ (keeps k c) = All-contains (IsMarked marks) kept k r.keeps c
  all_marked _ (read b k block e h) = read_marked block k (r.reads b block e) h
  all_marked _ (input k i node h e has) = r.closed k (all_marked k h) node i e has

  read_moved : (block : Block) (i : ℕ) → BlockReads block i → BlockReads (moved_block on block) (on i)
  read_moved block i (inl c) = inl (contains_map on block.address i c)
  read_moved block i (inr (inl c)) = inr (inl (contains_map on block.data i c))
  read_moved block i (inr (inr e)) = inr (inr (ap on e))

  reached_there : (k : ℕ) → IsReached mid kept k → IsReached (record { nodes = new; blocks = moved }) (map on kept) (on k)
  reached_there _ (keeps k c) = keeps (on k) (contains_map on kept k c)
  reached_there _ (read b k block e h) = read b (on k) (moved_block on block) (map_there (moved_block on) mid.blocks b block e) (read_moved block k h)
  reached_there _ (input k i node h e has) = input (on k) (on i) (renamed_node places node) (reached_there k h) (t.there k node (slice_get_within mid.nodes k node e) (all_marked k h) e) (has_renamed places node i has)

  reached_at : (l : ℕ) (node : Node) (c : ComesFrom mid.nodes marks places (length mid.nodes) l node) → IsSound mid kept c.k → (node ≡ Pin) ⊎ IsReached (record { nodes = new; blocks = moved }) (map on kept) l
  reached_at l node c (inl e) = inl (c.is ∙ ap (renamed_node places) (same_Some c.old Pin (sym c.there ∙ e)))
  reached_at l node c (inr h) = inr (subst (IsReached (record { nodes = new; blocks = moved }) (map on kept)) c.place (reached_there c.k h))

  pub last_reached : AllReached (record { nodes = new; blocks = moved }) (map on kept)
  last_reached l node e = let c = t.only l node e in reached_at l node c (r.sound c.k c.marked)
