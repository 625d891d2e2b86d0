-- A flat chip without faults and without a loop reads what is there, and never in a circle.
use Rattle.std.proofs.Common.{◌≡◌, ℕ, suc, ◌⊎◌, inl, inr, Bool, true, false, ◌&&◌, ◌||◌, nat_eq, codes, List, [], ◌∷◌, length, Option, Some, None, refl, sym, ap, subst, ◌∙◌}
use Rattle.std.specs.Prelude.{slice_get}
use Rattle.std.specs.Str.{bytes_eq}
use Rattle.std.specs.Cmp.Lexicographic.{bytes_decides}
use Rattle.std.proofs.lemmas.Bool.Decides.{Decides-eqb}
use Rattle.hdl_tree.specs.declared.tree.Part.{Part}
use Rattle.hdl_tree.specs.declared.library.Entry.{Entry}
use Rattle.hdl_tree.specs.Chips.{Chips, find_chip, parts_of}
use Rattle.hdl_tree.specs.Behaviour.{chip_at, chip_of}
use Rattle.hdl_check.specs.Tables.{BitOf, is_in}
use Rattle.hdl_check.proofs.MarkLemmas.{both}
use Rattle.hdl_plans.proofs.Walks.{at_part}
use Rattle.netlist.specs.declared.node.Node.{Node}
use Rattle.netlist.specs.declared.node.Node.TheVariants as nodes
use Rattle.netlist.specs.declared.node.Block.{Block}
use Rattle.net_order.specs.Reads.{HasReads}
use Rattle.hdl_behaviours.specs.Reads.{ArePins, AreOutputs, IsOutput}
use Rattle.hdl_behaviours.proofs.Traced.{reads_loop}
use Rattle.hdl_flatten.specs.declared.flat.Flat.{Flat}
use Rattle.hdl_flatten.specs.Ends.{EndsHavePins}
use Rattle.hdl_flatten.specs.Trees.{all_bits}
use Rattle.hdl_flatten.specs.Flat.{Reads, IsEndBit, IsFlat}
use Rattle.hdl_flatten.proofs.Reading.{has_bit}
use Rattle.hdl_flatten.proofs.Ending.{has_ends}
use Rattle.hdl_elab.specs.Moved.{net_of}
use Rattle.hdl_elab.specs.Orderly.{OrderlyLaw}
use Rattle.hdl_elab.proofs.Ending.{are_wide, out_alone, out_there}
use Rattle.hdl_elab.proofs.Places.{same_or_not}

reads_there : (n : ℕ) (blocks : List Block) (node : Node) → Reads n (length blocks) node → HasReads n blocks node
reads_there n blocks nodes.Pin h = tt
reads_there n blocks (nodes.Nand i j) h = h
reads_there n blocks (nodes.Flip i) h = h
reads_there n blocks (nodes.Word b bit) h = (h.1, h.0)
reads_there n blocks nodes.Zero h = tt

-- a bit that is one of these
record StandsIn (bits : List BitOf) (name : List ℕ) (bit : ℕ) : Type 0 where
  k : ℕ
  at : BitOf
  there : slice_get bits k ≡ Some at
  name_is : name ≡ at.name
  bit_is : bit ≡ at.bit

stands_by : (b : BitOf) (bs : List BitOf) (name : List ℕ) (bit : ℕ) (t : Bool) → (bytes_eq name b.name && nat_eq bit b.bit) ≡ t → (t || is_in name bit bs) ≡ true → (is_in name bit bs ≡ true → StandsIn bs name bit) → StandsIn (b ∷ bs) name bit
stands_by b bs name bit true e h go =
    let p = both (bytes_eq name b.name) (nat_eq bit b.bit) e in
    record { k = 0; at = b; there = refl; name_is = (bytes_decides name b.name).0 p.0; bit_is = (Decides-eqb bit b.bit).0 p.1 }
stands_by b bs name bit false e h go = let r = go h in record { k = suc r.k; at = r.at; there = r.there; name_is = r.name_is; bit_is = r.bit_is }

stands_in : (bits : List BitOf) (name : List ℕ) (bit : ℕ) → is_in name bit bits ≡ true → StandsIn bits name bit
stands_in [] name bit h = absurd cc
stands_in (b ∷ bs) name bit h = stands_by b bs name bit (bytes_eq name b.name && nat_eq bit b.bit) refl h (stands_in bs name bit)

are_pins : (chips : Chips) (top : Entry) (flat : Flat) (is : IsFlat chips top flat) → ArePins (net_of flat) top is.at
are_pins chips top flat is = λ name bit has.
    let n = stands_in (all_bits top.chip.inputs) name bit (has_bit top.chip.inputs name has.width bit has.there has.below) in
    let same : is.at [] name bit ≡ is.at [] n.at.name n.at.bit = ap (λ (x : List ℕ). is.at [] x bit) n.name_is ∙ ap (is.at [] n.at.name) n.bit_is in
    subst (λ (k : ℕ). slice_get flat.nodes k ≡ Some nodes.Pin) (sym same) (is.inputs n.k n.at n.there)

-- ---- chips of the tree are in the library

pub record IsNamed (chips : Chips) (chip : Entry) : Type 0 where
  pub name : List ℕ
  pub found : find_chip chips name ≡ Some chip

named_by : (chips : Chips) (chip : Entry) (o : Option Part) → chip_of chips o ≡ Some chip → IsNamed chips chip
named_by chips chip None e = absurd cc
named_by chips chip (Some part) e = record { name = part.chip; found = e }

pub named_at : (chips : Chips) (path : List ℕ) (top chip : Entry) → IsNamed chips top → chip_at chips top path ≡ Some chip → IsNamed chips chip
named_at chips [] top chip named there = let same : top ≡ chip = cc in subst (IsNamed chips) same named
named_at chips (i ∷ path) top chip named there =
    let a = at_part chips top i path chip there in
    named_at chips path a.inner chip (named_by chips a.inner (slice_get (parts_of chips top) i) a.found) a.rest

-- ---- nodes that are no pins and no constants

pin_or_not : (node : Node) → (node ≡ nodes.Pin) ⊎ (node ≡ nodes.Pin → ⊥)
pin_or_not nodes.Pin = inl refl
pin_or_not (nodes.Nand i j) = inr (λ e. absurd cc)
pin_or_not (nodes.Flip i) = inr (λ e. absurd cc)
pin_or_not (nodes.Word b bit) = inr (λ e. absurd cc)
pin_or_not nodes.Zero = inr (λ e. absurd cc)

module _ (chips : Chips) (name : List ℕ) (top : Entry) (flat : Flat) (pins : EndsHavePins chips) (found : find_chip chips name ≡ Some top) (is : IsFlat chips top flat) where
  output_of : (k : ℕ) → IsEndBit chips top is.at k → IsOutput chips top is.at k
  output_of k x =
      let named = named_at chips x.path top x.chip (record { name = name; found = found }) x.there in
      record {
        path = x.path;
        chip = x.chip;
        e = x.e;
        there = x.there;
        is = x.is_end;
        pin = codes "out";
        bit = x.bit;
        has = out_there x.chip x.e (pins named.name x.chip x.e named.found x.is_end) x.bit x.below;
        node = x.node;
      }

  output_by : (k : ℕ) (node : Node) → slice_get flat.nodes k ≡ Some node → (node ≡ nodes.Pin) ⊎ (node ≡ nodes.Pin → ⊥) → (k ≡ is.low) ⊎ (k ≡ is.low → ⊥) → (k ≡ is.high) ⊎ (k ≡ is.high → ⊥) → (node ≡ nodes.Pin) ⊎ ((k ≡ is.low) ⊎ ((k ≡ is.high) ⊎ IsOutput chips top is.at k))
  output_by k node f (inl p) low high = inl p
  output_by k node f (inr p) (inl l) high = inr (inl l)
  output_by k node f (inr p) (inr l) (inl h) = inr (inr (inl h))
  output_by k node f (inr p) (inr l) (inr h) = inr (inr (inr (output_of k (is.ends k node f p l h))))

  are_outputs : AreOutputs (net_of flat) is.low is.high chips top is.at
  are_outputs k node f = output_by k node f (pin_or_not node) (same_or_not k is.low) (same_or_not k is.high)

pub orderly : OrderlyLaw
orderly chips name top flat pins found sound no_loop is = record {
  closed = record { by_nodes = λ k node h. reads_there (length flat.nodes) flat.blocks node (is.read.node k node h); by_blocks = is.read.block };
  no_circle = λ circle c.
      let h =
      reads_loop chips name top (has_ends chips pins) (are_wide chips pins) (out_alone chips pins) found sound (net_of flat) is.low is.high is.block is.at is.numbering (are_outputs chips name top flat pins found is)
      (are_pins chips top flat is) circle c in
      no_loop h.nets h.is;
}
