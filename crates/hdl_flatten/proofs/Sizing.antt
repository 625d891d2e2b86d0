-- The size of a chip, from those of its parts.
use Rattle.std.proofs.Common.{◌≡◌, ℕ, zero, suc, ◌+◌, ◌<◌, ◌≤◌, ◌⊎◌, inl, inr, List, [], ◌∷◌, ◌++◌, length, get_or, Option, Some, None, refl, sym, ap, subst, ◌∙◌, arith}
use Rattle.std.specs.Prelude.{slice_get, slice_index_or}
use Rattle.std.proofs.lemmas.Option.{slice_get_within, slice_get_read}
use Rattle.hdl_tree.specs.declared.tree.Part.{Part}
use Rattle.hdl_tree.specs.declared.library.Entry.{Entry}
use Rattle.hdl_tree.specs.declared.ends.End.{End}
use Rattle.hdl_tree.specs.declared.ends.End.TheVariants as ends
use Rattle.hdl_tree.specs.Chips.{Chips, end_of, find_chip, parts_of}
use Rattle.hdl_flatten.specs.declared.nest.Nested.{Nested}
use Rattle.hdl_flatten.specs.declared.nest.Nest.{Nest}
use Rattle.hdl_flatten.specs.declared.size.Size.{Size}
use Rattle.hdl_flatten.specs.Trees.{PartIn, within, AreListed, none, next, end_nodes, chip_nodes, part_nodes, bit_count, capped_count, HasSize}
use Rattle.hdl_flatten.specs.Inner.Nests.{AreAt, IsNested, IsNest, IsNestOf}
use Rattle.hdl_flatten.specs.Inner.Sizes.{joined_size, joined_if, all_joined, IsSmall, IsSizeAt, IsSizeOf, AreRight, AreSizes}
use Rattle.hdl_flatten.proofs.Lists.{get_there, last_or}

pub end_small : (o : Option End) → end_nodes o ≤ 16
end_small None = omega arith
end_small (Some ends.Nand) = omega arith
end_small (Some ends.Dff) = omega arith
end_small (Some ends.Keyboard) = omega arith
end_small (Some ends.Rom) = omega arith
end_small (Some (ends.Block bits)) = omega arith

pub part_nodes-append : (chips : Chips) (a b : List PartIn) → part_nodes chips (a ++ b) ≡ part_nodes chips a + part_nodes chips b
part_nodes-append chips [] b = omega arith
part_nodes-append chips (p ∷ a) b = let h = part_nodes-append chips a b in omega (arith, h)

pub part_nodes-within : (chips : Chips) (i : ℕ) (t : List PartIn) → part_nodes chips (within i t) ≡ part_nodes chips t
part_nodes-within chips i [] = refl
part_nodes-within chips i (p ∷ t) = ap (λ n. chip_nodes chips p.chip + n) (part_nodes-within chips i t)

pub length-within : (i : ℕ) (t : List PartIn) → length (within i t) ≡ length t
length-within i [] = refl
length-within i (p ∷ t) = ap suc (length-within i t)

length_both : {X : Type 0} (a b : List X) → length (a ++ b) ≡ length a + length b
length_both [] b = omega arith
length_both (x ∷ a) b = let h = length_both a b in omega (arith, h)

pub nodes_sum : (a z c t o w : ℕ) → z ≡ capped_count (c + t) → w ≡ t + o → capped_count (capped_count (a + z) + o) ≡ capped_count (a + (c + w))
nodes_sum a z c t o w e f = omega arith

parts_sum : (a z t o w : ℕ) → z ≡ capped_count t → w ≡ t + o → capped_count (capped_count (capped_count (a + 1) + z) + o) ≡ capped_count (a + suc w)
parts_sum a z t o w e f = omega arith

-- parts after one another, added to a size
pub record IsJoined (chips : Chips) (k : ℕ) (parts : List Part) (size sum : Size) : Type 0 where
  pub tree : List PartIn
  pub listed : AreListed chips k parts tree
  pub nodes : sum.nodes ≡ capped_count (size.nodes + part_nodes chips tree)
  pub parts_are : sum.parts ≡ capped_count (size.parts + length tree)

-- a part in front of others
pub in_front : (chips : Chips) (k : ℕ) (p : Part) (ps : List Part) (size z sum more : Size) (chip : Entry) → find_chip chips p.chip ≡ Some chip → IsSizeOf chips chip z → IsJoined chips (suc k) ps (joined_size size z) more → sum ≡ more → IsJoined chips k (p ∷ ps) size sum
in_front chips k p ps size z sum more chip found inner rest is =
    let nodes_are : part_nodes chips (within k inner.tree ++ rest.tree) ≡ part_nodes chips inner.tree + part_nodes chips rest.tree =
    part_nodes-append chips (within k inner.tree) rest.tree ∙ ap (λ n. n + part_nodes chips rest.tree) (part_nodes-within chips k inner.tree) in
    let length_is : length (within k inner.tree ++ rest.tree) ≡ length inner.tree + length rest.tree =
    length_both (within k inner.tree) rest.tree ∙ ap (λ n. n + length rest.tree) (length-within k inner.tree) in
    let nodes_sum_is = nodes_sum size.nodes z.nodes (chip_nodes chips chip) (part_nodes chips inner.tree) (part_nodes chips rest.tree) (part_nodes chips (within k inner.tree ++ rest.tree)) inner.nodes nodes_are in
    let parts_sum_is = parts_sum size.parts z.parts (length inner.tree) (length rest.tree) (length (within k inner.tree ++ rest.tree)) inner.parts length_is in
    record {
      tree = record { path = k ∷ []; chip = chip } ∷ (within k inner.tree ++ rest.tree);
      listed = next found inner.listed rest.listed;
      nodes = ap (λ (x : Size). x.nodes) is ∙ (rest.nodes ∙ nodes_sum_is);
      parts_are = ap (λ (x : Size). x.parts) is ∙ (rest.parts_are ∙ parts_sum_is);
    }

pub told_small : (n : ℕ) → capped_count n ≤ 1000000000
told_small n = omega arith

module _ (chips : Chips) (nest : List Nested) (sizes : List Size) (right : AreRight chips nest sizes) (i : ℕ) (long : i ≡ length sizes) where
  join_parts : (k : ℕ) (parts : List Part) (rs : List ℕ) (size : Size) → AreAt chips nest i parts rs → IsSmall size → IsJoined chips k parts size (all_joined sizes size rs)
  join_parts k [] [] size at small = record { tree = []; listed = none; nodes = omega (arith, small.0); parts_are = omega (arith, small.1) }
  join_parts k [] (r ∷ rs) size at small = absurd at
  join_parts k (p ∷ ps) [] size at small = absurd at
  join_parts k (p ∷ ps) (r ∷ rs) size at small =
      let before : r < i = at.0.before in
      let lt : r < length sizes = omega arith in
      let got = get_there sizes r lt in
      in_front chips k p ps size got.0 (all_joined sizes size (r ∷ rs)) (all_joined sizes (joined_size size got.0) rs) at.0.chip at.0.found (right r at.0.nested at.0.chip got.0 at.0.at at.0.there got.1)
      (join_parts (suc k) ps rs (joined_size size got.0) at.1 (told_small _, told_small _))
      (ap (λ (o : Option Size). all_joined sizes (joined_if size o) rs) got.1)

  pub size_is : IsNest chips nest → (nested : Nested) (chip : Entry) (result : Size) → slice_get nest i ≡ Some nested → slice_get chips.entries nested.number ≡ Some chip →
      result ≡ all_joined sizes (record { nodes = chip_nodes chips chip; parts = 0 }) nested.parts.items → IsSizeOf chips chip result
  size_is are nested chip result e there is =
      let n : IsNested chips nest i nested = are i nested e in
      let both : Some n.chip ≡ Some chip = sym n.there ∙ there in
      let same : n.chip ≡ chip = cc in
      let at = subst (λ (x : Entry). AreAt chips nest i (parts_of chips x) nested.parts.items) same n.parts in
      let few = end_small (end_of chips.memories chip) in
      let j = join_parts 0 (parts_of chips chip) nested.parts.items (record { nodes = chip_nodes chips chip; parts = 0 }) at (omega (arith, few), omega arith) in
      record {
        tree = j.tree;
        listed = j.listed;
        nodes = ap (λ (z : Size). z.nodes) is ∙ j.nodes;
        parts = ap (λ (z : Size). z.parts) is ∙ j.parts_are ∙ omega arith;
      }

  at_within : (parts : List Part) (rs : List ℕ) → AreAt chips nest i parts rs → (k d : ℕ) → k < length rs → slice_index_or rs k d < length sizes
  at_within [] [] at k d lt = absurd (omega (arith, lt))
  at_within [] (r ∷ rs) at k d lt = absurd at
  at_within (p ∷ ps) [] at k d lt = absurd at
  at_within (p ∷ ps) (r ∷ rs) at zero d lt = let b : r < i = at.0.before in omega arith
  at_within (p ∷ ps) (r ∷ rs) at (suc k) d lt = at_within ps rs at.1 k d (omega (arith, lt))

  pub size_at : IsNest chips nest → (nested : Nested) → slice_get nest i ≡ Some nested → IsSizeAt chips nested sizes
  size_at are nested e =
      let n : IsNested chips nest i nested = are i nested e in
      record {
        number = slice_get_within chips.entries nested.number n.chip n.there;
        parts = at_within (parts_of chips n.chip) nested.parts.items n.parts;
      }

  pub right_next : (size : Size) → ((nested : Nested) (chip : Entry) → slice_get nest i ≡ Some nested → slice_get chips.entries nested.number ≡ Some chip → IsSizeOf chips chip size) → AreRight chips nest (sizes ++ size ∷ [])
  right_next size here j nested chip other e there got = by (last_or sizes size other j got)
    where
      by : (slice_get sizes j ≡ Some other) ⊎ ((j ≡ length sizes) × (size ≡ other)) → IsSizeOf chips chip other
      by (inl h) = right j nested chip other e there h
      by (inr h) =
          let same : j ≡ i = h.0 ∙ sym long in
          subst (λ (z : Size). IsSizeOf chips chip z) h.1 (here nested chip (subst (λ (m : ℕ). slice_get nest m ≡ Some nested) same e) there)

-- one part more
pub joined_next : (sizes : List Size) (size z : Size) (r : ℕ) (rs : List ℕ) → slice_get sizes r ≡ Some z → all_joined sizes (joined_size size z) rs ≡ all_joined sizes size (r ∷ rs)
joined_next sizes size z r rs e = sym (ap (λ (o : Option Size). all_joined sizes (joined_if size o) rs) e)

pub joined_small : (size z s : Size) → s ≡ joined_size size z → IsSmall s
joined_small size z s e = subst IsSmall (sym e) (omega arith, omega arith)

-- ---- a whole chip

count_sum : (n b c p : ℕ) → n ≡ capped_count (capped_count (capped_count b + capped_count (c + p)) + 2) → n ≡ capped_count ((b + (c + p)) + 2)
count_sum n b c p e = omega arith

pub size_of_chip : (chips : Chips) (chip : Entry) (size : Size) (n bits : ℕ) → IsSizeOf chips chip size → bits ≡ capped_count (bit_count chip.chip.inputs) → n ≡ capped_count (capped_count (bits + size.nodes) + 2) → HasSize chips chip (record { nodes = n; parts = size.parts })
size_of_chip chips chip size n bits s b e = record {
  tree = s.tree;
  listed = s.listed;
  nodes = count_sum n (bit_count chip.chip.inputs) (chip_nodes chips chip) (part_nodes chips s.tree) (e ∙ ap (λ m. capped_count (capped_count (m + size.nodes) + 2)) b ∙ ap (λ m. capped_count (capped_count (capped_count (bit_count chip.chip.inputs) + m) + 2)) s.nodes);
  parts = s.parts;
}

pub counted : (chips : Chips) (top : List ℕ) (nest : Nest) (sizes : List Size) (entry : Entry) (got : Nested) (size : Size) (n bits : ℕ) → IsNestOf chips top nest → AreSizes chips nest.chips.items sizes → size ≡ get_or sizes nest.top size → got ≡ get_or nest.chips.items nest.top got → slice_get chips.entries got.number ≡ Some entry →
    bits ≡ capped_count (bit_count entry.chip.inputs) → n ≡ capped_count (capped_count (bits + size.nodes) + 2) → (chip : Entry) → find_chip chips top ≡ Some chip → HasSize chips chip (record { nodes = n; parts = size.parts })
counted chips top nest sizes entry got size n bits w s e f there b is chip found =
    let lt : nest.top < length nest.chips.items = slice_get_within nest.chips.items nest.top w.nested w.at in
    let long = s.long in
    let inside : nest.top < length sizes = omega arith in
    let at : slice_get sizes nest.top ≡ Some size = slice_get_read sizes (length sizes) nest.top size refl inside e in
    let here : slice_get nest.chips.items nest.top ≡ Some got = slice_get_read nest.chips.items (length nest.chips.items) nest.top got refl lt f in
    let both : Some w.nested ≡ Some got = sym w.at ∙ here in
    let same : w.nested ≡ got = cc in
    let entry_is : Some w.chip ≡ Some entry = sym w.there ∙ ap (λ (x : Nested). slice_get chips.entries x.number) same ∙ there in
    let chip_is : Some w.chip ≡ Some chip = sym w.found ∙ found in
    let entry_same : entry ≡ chip = cc in
    let z : IsSizeOf chips entry size = s.right nest.top got entry size here there at in
    subst (λ (x : Entry). HasSize chips x (record { nodes = n; parts = size.parts })) entry_same (size_of_chip chips entry size n bits z b is)
