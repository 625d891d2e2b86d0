-- A flat chip whose nodes have other numbers is flat.
use Rattle.std.proofs.Common.{◌≡◌, ℕ, suc, ◌<◌, codes, List, [], ◌∷◌, ◌++◌, length, map, Option, Some, None, refl, sym, ap, ap₂, subst, ◌∙◌, arith}
use Rattle.std.specs.Prelude.{slice_get, slice_index, MatchOption}
use Rattle.std.specs.List.{All}
use Rattle.std.proofs.lemmas.Option.{slice_get_within}
use Rattle.std.proofs.lemmas.List.Elements.{All-map}
use Rattle.hdl_tree.specs.declared.tree.Pin.{Pin}
use Rattle.hdl_tree.specs.declared.library.Entry.{Entry}
use Rattle.hdl_tree.specs.declared.ends.End.{End}
use Rattle.hdl_tree.specs.declared.ends.End.TheVariants as ends
use Rattle.hdl_tree.specs.Chips.{Chips, end_of}
use Rattle.hdl_tree.specs.Behaviour.{Wires, ChipWired}
use Rattle.hdl_check.specs.Tables.{BitOf}
use Rattle.netlist.specs.declared.node.Node.{Node}
use Rattle.netlist.specs.declared.node.Node.TheVariants as nodes
use Rattle.netlist.specs.declared.node.Block.{Block}
use Rattle.netlist.specs.Net.{Net}
use Rattle.netlist.specs.Order.{FitsAt, IsReadable, AreOrdered}
use Rattle.netlist.specs.Renamed.{renamed_node, renamed_block}
use Rattle.hdl_nodes.specs.Numbering.{EndStands}
use Rattle.hdl_nodes.proofs.Renamed.{renamed_numbering}
use Rattle.hdl_flatten.specs.declared.flat.PinAt.{PinAt}
use Rattle.hdl_flatten.specs.declared.flat.PartAt.{PartAt}
use Rattle.hdl_flatten.specs.declared.flat.Flat.{Flat}
use Rattle.hdl_flatten.specs.Trees.{PartIn, all_bits, end_nodes}
use Rattle.hdl_flatten.specs.Flat.{Reads, nodes_at, pin_at, block_at, part_at, IsEndBit, IsFlat}
use Rattle.hdl_elab.specs.declared.put.Elab.{Elab}
use Rattle.hdl_elab.specs.Elaborated.{flat_of, ElaboratedLaw}
use Rattle.hdl_elab.specs.Moved.{net_of, moved_pin, moved_part, IsMoved}
use Rattle.hdl_elab.proofs.Places.{item_at, place_there, from_place}

-- ---- the directory

nodes_moved : (places : List ℕ) (at : Wires ℕ) (bits : List BitOf) → map (slice_index places) (nodes_at at bits) ≡ nodes_at (λ name bit. slice_index places (at name bit)) bits
nodes_moved places at [] = refl
nodes_moved places at (b ∷ bs) = ap (λ (xs : List ℕ). slice_index places (at b.name b.bit) ∷ xs) (nodes_moved places at bs)

pins_moved : (places : List ℕ) (at : Wires ℕ) (pins : List Pin) → map (moved_pin places) (map (pin_at at) pins) ≡ map (pin_at (λ name bit. slice_index places (at name bit))) pins
pins_moved places at [] = refl
pins_moved places at (p ∷ ps) = ap₂ (λ (xs : List ℕ) (rest : List PinAt). record { name = p.name; nodes = xs } ∷ rest) (nodes_moved places at _) (pins_moved places at ps)

parts_moved : (places : List ℕ) (chips : Chips) (at : List ℕ → Wires ℕ) (block : List ℕ → ℕ) (tree : List PartIn) → map (moved_part places) (map (part_at chips at block) tree) ≡ map (part_at chips (λ path name bit. slice_index places (at path name bit)) block) tree
parts_moved places chips at block [] = refl
parts_moved places chips at block (p ∷ ps) = ap₂ (λ (xs : List ℕ) (rest : List PartAt). record { chip = p.chip.name; outs = xs; block = block_at (end_of chips.memories p.chip) (block p.path) } ∷ rest) (nodes_moved places (at p.path) _) (parts_moved places chips at block ps)

length_moved : (places : List ℕ) (blocks : List Block) → length (map (renamed_block places) blocks) ≡ length blocks
length_moved places [] = refl
length_moved places (b ∷ bs) = ap suc (length_moved places bs)

-- ---- what stands in order reads what is there

word_reads : (k n b bit : ℕ) (blocks : List Block) (o : Option Block) → slice_get blocks b ≡ o → bit < 16 → MatchOption o ⊥ (IsReadable k n) → (b < length blocks) × (bit < 16)
word_reads k n b bit blocks None e lt h = absurd h
word_reads k n b bit blocks (Some block) e lt h = (slice_get_within blocks b block e, lt)

node_reads : (k n : ℕ) (blocks : List Block) (node : Node) → k < n → FitsAt k n blocks node → Reads n (length blocks) node
node_reads k n blocks nodes.Pin lt h = tt
node_reads k n blocks (nodes.Nand i j) lt h = let a = h.0 in let b = h.1 in (omega (arith, a), omega (arith, b))
node_reads k n blocks (nodes.Flip i) lt h = h
node_reads k n blocks (nodes.Word b bit) lt h = word_reads k n b bit blocks (slice_get blocks b) refl h.0 h.1
node_reads k n blocks nodes.Zero lt h = tt

-- ---- the nodes of the ends

end_node : (net : Net) (low b : ℕ) (e : End) (at : Wires ℕ) (bit : ℕ) → EndStands net low b e at → bit < end_nodes (Some e) → at (codes "out") bit < length net.nodes
end_node net low b ends.Nand at bit s lt = let zero_is : 0 ≡ bit = omega arith in subst (λ (k : ℕ). at (codes "out") k < length net.nodes) zero_is (slice_get_within net.nodes (at (codes "out") 0) _ s)
end_node net low b ends.Dff at bit s lt = let zero_is : 0 ≡ bit = omega arith in subst (λ (k : ℕ). at (codes "out") k < length net.nodes) zero_is (slice_get_within net.nodes (at (codes "out") 0) _ s)
end_node net low b ends.Keyboard at bit s lt = slice_get_within net.nodes (at (codes "out") bit) _ (s bit lt)
end_node net low b ends.Rom at bit s lt = slice_get_within net.nodes (at (codes "out") bit) _ (s.words bit lt)
end_node net low b (ends.Block bits) at bit s lt = slice_get_within net.nodes (at (codes "out") bit) _ (s.words bit lt)

not_pin : (places : List ℕ) (old node : Node) → renamed_node places old ≡ node → (node ≡ nodes.Pin → ⊥) → old ≡ nodes.Pin → ⊥
not_pin places old node e ne p = ne (sym e ∙ ap (renamed_node places) p)

-- ---- the whole

module _ (chips : Chips) (top : Entry) (flat : Flat) (e : Elab) (is : IsFlat chips top flat) (moved : IsMoved flat e) where
  abbrev places : List ℕ
  places = moved.places

  abbrev at : List ℕ → Wires ℕ
  at path name bit = slice_index moved.places (is.at path name bit)

  bit_below : (k : ℕ) (x : IsEndBit chips top at k) → is.at x.path (codes "out") x.bit < length flat.nodes
  bit_below k x =
      let wired = is.numbering.wired x.path x.chip x.there in
      let stands : EndStands (net_of flat) is.low (is.block x.path) x.e (is.at x.path) = subst (λ (o : Option End). ChipWired is.low is.high chips x.chip o (is.at x.path) (λ i. is.at (x.path ++ i ∷ [])) (λ e. EndStands (net_of flat) is.low (is.block x.path) e (is.at x.path))) x.is_end wired in
      end_node (net_of flat) is.low (is.block x.path) x.e (is.at x.path) x.bit stands x.below

  apart_here : (i j : ℕ) → i < length flat.nodes → j < length flat.nodes → slice_index places i ≡ slice_index places j → i ≡ j
  apart_here i j a b same = let long = moved.renamed.places_number in moved.renamed.apart i j (omega (arith, a, long)) (omega (arith, b, long)) same

  -- an output bit of an end, by its node of before
  bit_before : (k m : ℕ) (x : IsEndBit chips top at k) → m < length flat.nodes → slice_index places m ≡ k → IsEndBit chips top is.at m
  bit_before k m x lt same = record { path = x.path; chip = x.chip; e = x.e; bit = x.bit; there = x.there; is_end = x.is_end; below = x.below; node = apart_here (is.at x.path (codes "out") x.bit) m (bit_below k x) lt (x.node ∙ sym same) }

  bit_after : (k m : ℕ) → slice_index places m ≡ k → IsEndBit chips top is.at m → IsEndBit chips top at k
  bit_after k m same x = record { path = x.path; chip = x.chip; e = x.e; bit = x.bit; there = x.there; is_end = x.is_end; below = x.below; node = ap (slice_index places) x.node ∙ same }

  ends_here : (k : ℕ) (node : Node) → slice_get e.net.nodes k ≡ Some node → (node ≡ nodes.Pin → ⊥) → (k ≡ slice_index places is.low → ⊥) → (k ≡ slice_index places is.high → ⊥) → IsEndBit chips top at k
  ends_here k node f no_pin no_low no_high =
      let s = from_place (net_of flat) e.net places moved.renamed k (slice_get_within e.net.nodes k node f) in
      let long = moved.renamed.places_number in
      let below = s.below in
      let x = item_at flat.nodes s.i (omega (arith, below, long)) in
      let there = moved.renamed.nodes s.i x.item x.there in
      let same : Some (renamed_node places x.item) ≡ Some node = sym there ∙ ap (slice_get e.net.nodes) s.at ∙ f in
      let same_node : renamed_node places x.item ≡ node = cc in
      bit_after k s.i s.at
      (is.ends s.i x.item x.there (not_pin places x.item node same_node no_pin) (λ q. no_low (sym s.at ∙ ap (slice_index places) q)) (λ q. no_high (sym s.at ∙ ap (slice_index places) q)))

  alone_here : (k : ℕ) (x y : IsEndBit chips top at k) → (x.path ≡ y.path) × (x.bit ≡ y.bit)
  unfolding bit_before
  alone_here k x y =
      let m = is.at x.path (codes "out") x.bit in
      let lt : m < length flat.nodes = bit_below k x in
      is.alone m (bit_before k m x lt x.node) (bit_before k m y lt x.node)

  input_below : (i : ℕ) (b : BitOf) → slice_get (all_bits top.chip.inputs) i ≡ Some b → is.at [] b.name b.bit < length flat.nodes
  input_below i b f = slice_get_within flat.nodes (is.at [] b.name b.bit) nodes.Pin (is.inputs i b f)

  all_there : (xs : List ℕ) → All (λ i. i < length flat.nodes) xs → All (λ i. i < length e.net.nodes) (map (slice_index places) xs)
  all_there xs h = All-map (λ i. i < length e.net.nodes) (slice_index places) xs (λ j d lt. place_there (net_of flat) e.net places moved.renamed _ (h j d lt))

  pins_there_here : All (λ p. All (λ node. node < length e.net.nodes) p.nodes) e.pins
  pins_there_here =
      subst (λ (ps : List PinAt). All (λ p. All (λ node. node < length e.net.nodes) p.nodes) ps) (sym moved.pins)
      (All-map (λ p. All (λ node. node < length e.net.nodes) p.nodes) (moved_pin places) flat.pins (λ k d lt. all_there _ (is.pins_there k d lt)))

  parts_there_here : All (λ p. All (λ node. node < length e.net.nodes) p.outs) e.parts
  parts_there_here =
      subst (λ (ps : List PartAt). All (λ p. All (λ node. node < length e.net.nodes) p.outs) ps) (sym moved.parts)
      (All-map (λ p. All (λ node. node < length e.net.nodes) p.outs) (moved_part places) flat.parts (λ k d lt. all_there _ (is.parts_there k d lt)))

  block_count : length e.net.blocks ≡ length flat.blocks
  block_count = ap length moved.renamed.blocks ∙ length_moved moved.places flat.blocks

  elaborated_here : AreOrdered e.net.nodes e.net.blocks → IsFlat chips top (flat_of e)
  elaborated_here ordered = record {
    tree = is.tree;
    listed = is.listed;
    count = moved.renamed.nodes_number ∙ is.count;
    low = slice_index moved.places is.low;
    high = slice_index moved.places is.high;
    at = at;
    block = is.block;
    numbering = renamed_numbering (net_of flat) e.net moved.places is.low is.high chips top is.block is.at moved.renamed is.numbering;
    read = record {
      node = λ k node h. node_reads k (length e.net.nodes) e.net.blocks node (slice_get_within e.net.nodes k node h) (ordered.fit k node h);
      block = ordered.read;
    };
    pins = moved.pins ∙ ap (map (moved_pin moved.places)) is.pins ∙ pins_moved moved.places (is.at []) (top.chip.inputs ++ top.chip.outputs);
    parts = moved.parts ∙ ap (map (moved_part moved.places)) is.parts ∙ parts_moved moved.places chips is.at is.block is.tree;
    pins_there = pins_there_here;
    parts_there = parts_there_here;
    inputs = λ k b h. moved.renamed.nodes (is.at [] b.name b.bit) nodes.Pin (is.inputs k b h);
    apart = λ i j a b f g same. is.apart i j a b f g (apart_here (is.at [] a.name a.bit) (is.at [] b.name b.bit) (input_below i a f) (input_below j b g) same);
    ends = ends_here;
    alone = alone_here;
    outside = λ i b f x. is.outside i b f (bit_before (at [] b.name b.bit) (is.at [] b.name b.bit) x (input_below i b f) refl);
    blocks_used = λ b lt. is.blocks_used b (let count = block_count in omega (arith, lt, count));
    blocks_apart = is.blocks_apart;
    blocks_few = let count = block_count in let long = moved.renamed.nodes_number in let few = is.blocks_few in omega (arith, count, long, few);
  }

pub elaborated : ElaboratedLaw
elaborated chips top flat e is moved ordered = elaborated_here chips top flat e is moved ordered
