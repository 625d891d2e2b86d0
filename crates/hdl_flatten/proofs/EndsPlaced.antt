-- An end whose nodes stand is placed.
use Rattle.std.proofs.Common.{◌≡◌, ◌≤◌, ◌<◌, ℕ, ◌+◌, ◌-◌, ◌^◌, false, List, [], ◌∷◌, ◌++◌, length, take, drop, Option, Some, None, codes, refl, sym, ap, subst, ◌∙◌, arith}
use Rattle.std.specs.Prelude.{slice_get, slice_index, unwrap_or}
use Rattle.hdl_tree.specs.declared.tree.Part.{Part}
use Rattle.hdl_tree.specs.declared.library.Entry.{Entry}
use Rattle.hdl_tree.specs.declared.ends.End.{End}
use Rattle.hdl_tree.specs.declared.ends.End.TheVariants as ends
use Rattle.hdl_tree.specs.Chips.{Chips, end_of, parts_of, parts_of_body, parts_unless}
use Rattle.hdl_tree.specs.Behaviour.{Wires, chip_of, chip_at, ChipWired, Wired}
use Rattle.name_table.specs.Names.{first_of}
use Rattle.hdl_check.specs.Tables.{BitOf, bits_of}
use Rattle.hdl_plans.specs.Plans.{is_input}
use Rattle.hdl_plans.proofs.Walks.{at_part}
use Rattle.netlist.specs.declared.node.Node.{Node}
use Rattle.netlist.specs.declared.node.Node.TheVariants as nodes
use Rattle.netlist.specs.declared.node.Block.{Block}
use Rattle.netlist.specs.Net.{Net}
use Rattle.hdl_nodes.specs.Numbering.{nodes_of, memory_block, rom_block, BlockStands, EndStands}
use Rattle.hdl_flatten.specs.declared.size.Size.{Size}
use Rattle.hdl_flatten.specs.declared.wires.Origin.{Origin as Fed}
use Rattle.hdl_flatten.specs.declared.wires.Origin.TheVariants as fed
use Rattle.hdl_flatten.specs.declared.plan.Plan.{Plan}
use Rattle.hdl_flatten.specs.Ends.{end_inputs, HasPins, EndsHavePins}
use Rattle.hdl_flatten.specs.Trees.{all_bits, end_nodes}
use Rattle.hdl_flatten.specs.Inner.Wired.{wires_of, found_bit, origin_at}
use Rattle.hdl_flatten.specs.Inner.Plans.{numbered_bits, end_gates, parts_driven, all_sized, own_size, places, HavePlans, IsPlanned}
use Rattle.hdl_flatten.specs.Inner.Puts.{node_of, BlockPut, EndPut, IsPlaced}
use Rattle.hdl_flatten.specs.Flat.{IsEndBit}
use Rattle.hdl_flatten.proofs.Lists.{nil_after}
use Rattle.hdl_flatten.proofs.Ending.{input_is, out_is_none}
use Rattle.hdl_flatten.proofs.Wiring.{found-append}
use Rattle.hdl_flatten.proofs.Planning.{length_map}
use Rattle.hdl_flatten.proofs.Gates.{rest, no_input}
use Rattle.hdl_flatten.proofs.Pins.{row_is, index_take, index_drop, take_long, drop_long, bit_number, bits_named, bits_are, out_bits, block_long}

no_inner : (chips : Chips) (plans : List Plan) (i : ℕ) (ps : List Part) (xs : List Plan) (rs : List ℕ) → ps ≡ [] → HavePlans chips plans i ps xs rs → xs ≡ []
no_inner chips plans i [] [] rs e h = refl
no_inner chips plans i [] (x ∷ xs) rs e h = absurd h
no_inner chips plans i (p ∷ ps) xs rs e h = absurd cc

first_found : (a b : Option Fed) (o : Fed) → a ≡ Some o → first_of a b ≡ Some o
first_found None b o h = absurd cc
first_found (Some p) b o h = h

module _ (chips : Chips) (net : Net) (plans : List Plan) (i : ℕ) (plan : Plan) (planned : IsPlanned chips plans i plan) (shipped : EndsHavePins chips) (e : End) (is : end_of chips.memories plan.entry.now ≡ Some e)
    (base : ℕ) (inputs : List ℕ) (b : ℕ) (at : List ℕ → Wires ℕ) (long : length inputs ≡ length plan.inputs.items) (own : (name : List ℕ) (bit : ℕ) → at [] name bit ≡ node_of base inputs (origin_at (wires_of plan.wires) name bit)) where
  abbrev entry : Entry
  entry = plan.entry.now

  pins : HasPins entry e
  pins = shipped planned.fine.name entry e planned.fine.found is

  -- ---- no parts

  no_parts : parts_of chips entry ≡ []
  no_parts = ap (λ (o : Option End). parts_unless o (parts_of_body entry.chip.body)) is

  size_is : plan.size.nodes ≡ end_nodes (Some e)
  size_is = ap (λ (s : Size). s.nodes) (planned.size ∙ ap (all_sized (own_size chips entry)) (no_inner chips plans i (parts_of chips entry) planned.inner (places plan.parts.items) no_parts planned.placed)) ∙ ap end_nodes is

  -- ---- nodes of pins

  input_bits : all_bits entry.chip.inputs ≡ bits_named (end_inputs e)
  input_bits = bits_are entry.chip.inputs ∙ ap bits_named pins.inputs

  inputs_long : length inputs ≡ length (bits_named (end_inputs e))
  inputs_long = long ∙ sym (length_map plan.inputs.items) ∙ ap length (planned.inputs ∙ input_bits)

  input_at : (name : List ℕ) (bit k : ℕ) → found_bit name bit (numbered_bits fed.Input 0 (bits_named (end_inputs e))) ≡ Some (fed.Input k) → at [] name bit ≡ slice_index inputs k
  input_at name bit k h =
      let bits = all_bits entry.chip.inputs in
      let after = rest chips plans shipped i plan planned in
      own name bit
      ∙ ap (λ (o : Option Fed). node_of base inputs (unwrap_or o fed.Low))
      (planned.wires name bit ∙ found-append name bit (numbered_bits fed.Input 0 bits) after
      ∙ first_found (found_bit name bit (numbered_bits fed.Input 0 bits)) (found_bit name bit after) (fed.Input k) (ap (λ (t : List BitOf). found_bit name bit (numbered_bits fed.Input 0 t)) input_bits ∙ h))

  output_bits : all_bits entry.chip.outputs ≡ bits_of (codes "out") 0 (end_nodes (Some e))
  output_bits = bits_are entry.chip.outputs ∙ ap bits_named pins.outputs ∙ out_bits e

  out_at : (k : ℕ) → k < end_nodes (Some e) → at [] (codes "out") k ≡ base + k
  out_at k lt =
      let outs = all_bits entry.chip.outputs in
      let name = codes "out" in
      let driven = parts_driven (own_size chips entry) (parts_of chips entry) planned.inner in
      let way : is_input entry name ≡ false = input_is entry e name pins ∙ out_is_none e in
      let zero_plus : base + (0 + k) ≡ base + k = omega arith in
      let gate : found_bit name k (end_gates (end_of chips.memories entry) outs) ≡ Some (fed.Gate (0 + k)) =
      ap (λ (o : Option End). found_bit name k (end_gates o outs)) is ∙ ap (λ (t : List BitOf). found_bit name k (numbered_bits fed.Gate 0 t)) output_bits ∙ bit_number fed.Gate 0 name (end_nodes (Some e)) k lt in
      own name k
      ∙ ap (λ (o : Option Fed). node_of base inputs (unwrap_or o fed.Low))
      (no_input chips plans shipped i plan planned name k way ∙ found-append name k (end_gates (end_of chips.memories entry) outs) driven ∙ first_found (found_bit name k (end_gates (end_of chips.memories entry) outs)) (found_bit name k driven) (fed.Gate (0 + k)) gate)
      ∙ zero_plus

  -- ---- the whole

  end_bit : (k : ℕ) → base ≤ k → k < base + plan.size.nodes → IsEndBit chips entry at k
  end_bit k from to =
      let back : base + (k - base) ≡ k = omega (arith, from) in
      let lt : k - base < end_nodes (Some e) = omega (arith, size_is, from, to) in
      record { path = []; chip = entry; e = e; bit = k - base; there = refl; is_end = is; below = lt; node = out_at (k - base) lt ∙ back }

  own_bit : (k : ℕ) (path : List ℕ) (chip : Entry) (f : End) (bit : ℕ) → chip_at chips entry path ≡ Some chip → end_of chips.memories chip ≡ Some f → bit < end_nodes (Some f) → at path (codes "out") bit ≡ k → (path ≡ []) × (base + bit ≡ k) × (bit < end_nodes (Some e))
  own_bit k [] chip f bit h g lt node =
      let same : entry ≡ chip = cc in
      let both : Some e ≡ Some f = sym is ∙ ap (λ (c : Entry). end_of chips.memories c) same ∙ g in
      let end_same : e ≡ f = cc in
      let here : bit < end_nodes (Some e) = subst (λ (x : End). bit < end_nodes (Some x)) (sym end_same) lt in
      (refl, sym (out_at bit here) ∙ node, here)
  own_bit k (j ∷ path) chip f bit h g lt node =
      let a = at_part chips entry j path chip h in
      let none : None ≡ Some a.inner = sym (ap (λ (ps : List Part). chip_of chips (slice_get ps j)) no_parts) ∙ a.found in
      absurd cc

  inside : (k : ℕ) → IsEndBit chips entry at k → (base ≤ k) × (k < base + plan.size.nodes)
  inside k x =
      let h = own_bit k x.path x.chip x.e x.bit x.there x.is_end x.below x.node in
      let node : base + x.bit ≡ k = h.1 in
      let lt : x.bit < end_nodes (Some e) = h.2 in
      (omega (arith, node), omega (arith, node, lt, size_is))

  alone : (k : ℕ) (x y : IsEndBit chips entry at k) → (x.path ≡ y.path) × (x.bit ≡ y.bit)
  alone k x y =
      let h = own_bit k x.path x.chip x.e x.bit x.there x.is_end x.below x.node in
      let g = own_bit k y.path y.chip y.e y.bit y.there y.is_end y.below y.node in
      let sums : base + x.bit ≡ base + y.bit = h.1 ∙ sym g.1 in
      (h.0 ∙ sym g.0, omega (arith, sums))

  abbrev works : List ℕ → End → Type 0
  works path f = EndStands net 0 b f (at path)

  all_wired : EndStands net 0 b e (at []) → Wired 0 1 chips entry works at
  all_wired stands [] c h =
      let same : entry ≡ c = cc in
      subst (λ (x : Entry). ChipWired 0 1 chips x (end_of chips.memories x) (at []) (λ j. at (j ∷ [])) (works [])) same
      (subst (λ (o : Option End). ChipWired 0 1 chips entry o (at []) (λ j. at (j ∷ [])) (works [])) (sym is) stands)
  all_wired stands (j ∷ path) c h =
      let a = at_part chips entry j path c h in
      let none : None ≡ Some a.inner = sym (ap (λ (ps : List Part). chip_of chips (slice_get ps j)) no_parts) ∙ a.found in
      absurd cc

-- ---- end by end

module _ (net : Net) (base : ℕ) (inputs : List ℕ) (b : ℕ) (at : Wires ℕ) where
  first_node : (node : Node) → at (codes "out") 0 ≡ base + 0 → slice_get net.nodes base ≡ Some node → slice_get net.nodes (at (codes "out") 0) ≡ Some node
  first_node node out put = let plus : base + 0 ≡ base = omega arith in ap (slice_get net.nodes) (out ∙ plus) ∙ put

  block_stands : (x y : Block) → x ≡ y → ((k : ℕ) → k < 16 → at (codes "out") k ≡ base + k) → BlockPut net base b x → BlockStands net b y at
  block_stands x y same out put = record {
    there = put.there ∙ ap (λ (z : Block). Some z) same;
    words = λ k lt. ap (slice_get net.nodes) (out k lt) ∙ put.words k lt;
  }

  -- what is known of the end's pins
  abbrev Reads : End → Type 0
  Reads e = (name : List ℕ) (bit k : ℕ) → found_bit name bit (numbered_bits fed.Input 0 (bits_named (end_inputs e))) ≡ Some (fed.Input k) → at name bit ≡ slice_index inputs k

  rom_is : length inputs ≡ 15 → Reads ends.Rom → record { words = 32768; «data» = []; load = 0; address = inputs } ≡ rom_block 0 at
  rom_is long reads =
      let row = row_is (at (codes "address")) 15 0 inputs long (λ k lt. sym (let zero_plus : 0 + k ≡ k = omega arith in ap (at (codes "address")) zero_plus ∙ reads (codes "address") k k (bit_number fed.Input 0 (codes "address") 15 k lt ∙ ap (λ (m : ℕ). Some (fed.Input m)) zero_plus))) in
      ap (λ (t : List ℕ). record { words = 32768; «data» = []; load = 0; address = t }) row

  module _ (bits : ℕ) (long : length inputs ≡ 17 + bits) (reads : Reads (ends.Block bits)) where
    abbrev others : List BitOf
    others = bits_of (codes "load") 0 1 ++ (bits_of (codes "address") 0 bits ++ [])

    in_at : (k : ℕ) → k < 16 → at (codes "in") k ≡ slice_index inputs k
    in_at k lt =
        let zero_plus : 0 + k ≡ k = omega arith in
        let here : found_bit (codes "in") k (numbered_bits fed.Input 0 (bits_of (codes "in") 0 16)) ≡ Some (fed.Input k) = bit_number fed.Input 0 (codes "in") 16 k lt ∙ ap (λ (m : ℕ). Some (fed.Input m)) zero_plus in
        reads (codes "in") k k (found-append (codes "in") k (numbered_bits fed.Input 0 (bits_of (codes "in") 0 16)) (numbered_bits fed.Input 16 others)
        ∙ first_found (found_bit (codes "in") k (numbered_bits fed.Input 0 (bits_of (codes "in") 0 16))) (found_bit (codes "in") k (numbered_bits fed.Input 16 others)) (fed.Input k) here)

    address_at : (k : ℕ) → k < bits → at (codes "address") k ≡ slice_index inputs (17 + k)
    address_at k lt =
        reads (codes "address") k (17 + k) (ap (λ (t : List BitOf). found_bit (codes "address") k (numbered_bits fed.Input 17 t)) (nil_after (bits_of (codes "address") 0 bits)) ∙ bit_number fed.Input 17 (codes "address") bits k lt)

    data_row : take 16 inputs ≡ nodes_of 16 (at (codes "in"))
    data_row = row_is (at (codes "in")) 16 0 (take 16 inputs) (take_long 16 inputs (omega (arith, long))) (λ k lt. let zero_plus : k ≡ 0 + k = omega arith in index_take 16 inputs k lt ∙ sym (in_at k lt) ∙ ap (at (codes "in")) zero_plus)

    address_row : drop 17 inputs ≡ nodes_of bits (at (codes "address"))
    address_row = row_is (at (codes "address")) bits 0 (drop 17 inputs) (drop_long 17 bits inputs long) (λ k lt. let zero_plus : k ≡ 0 + k = omega arith in index_drop 17 inputs k ∙ sym (address_at k lt) ∙ ap (at (codes "address")) zero_plus)

    load_is : slice_index inputs 16 ≡ at (codes "load") 0
    load_is = sym (reads (codes "load") 0 16 refl)

    memory_is : record { words = 2 ^ bits; «data» = take 16 inputs; load = slice_index inputs 16; address = drop 17 inputs } ≡ memory_block bits at
    memory_is =
        ap (λ (t : List ℕ). record { words = 2 ^ bits; «data» = t; load = slice_index inputs 16; address = drop 17 inputs }) data_row
        ∙ ap (λ (n : ℕ). record { words = 2 ^ bits; «data» = nodes_of 16 (at (codes "in")); load = n; address = drop 17 inputs }) load_is
        ∙ ap (λ (t : List ℕ). record { words = 2 ^ bits; «data» = nodes_of 16 (at (codes "in")); load = at (codes "load") 0; address = t }) address_row

  stands : (e : End) → length inputs ≡ length (bits_named (end_inputs e)) → Reads e → ((k : ℕ) → k < end_nodes (Some e) → at (codes "out") k ≡ base + k) → EndPut net base e inputs b → EndStands net 0 b e at
  stands ends.Nand long reads out put =
      first_node (nodes.Nand (slice_index inputs 0) (slice_index inputs 1)) (out 0 (omega arith)) put
      ∙ ap (λ (n : ℕ). Some (nodes.Nand n (slice_index inputs 1))) (sym (reads (codes "a") 0 0 refl))
      ∙ ap (λ (n : ℕ). Some (nodes.Nand (at (codes "a") 0) n)) (sym (reads (codes "b") 0 1 refl))
  stands ends.Dff long reads out put =
      first_node (nodes.Flip (slice_index inputs 0)) (out 0 (omega arith)) put ∙ ap (λ (n : ℕ). Some (nodes.Flip n)) (sym (reads (codes "in") 0 0 refl))
  stands ends.Keyboard long reads out put = λ k lt. ap (slice_get net.nodes) (out k lt) ∙ put k lt
  stands ends.Rom long reads out put = block_stands (record { words = 32768; «data» = []; load = 0; address = inputs }) (rom_block 0 at) (rom_is long reads) out put
  stands (ends.Block bits) long reads out put = block_stands (record { words = 2 ^ bits; «data» = take 16 inputs; load = slice_index inputs 16; address = drop 17 inputs }) (memory_block bits at) (memory_is bits (long ∙ block_long bits) reads) out put

pub end_placed : (chips : Chips) (net : Net) (plans : List Plan) (i : ℕ) (plan : Plan) → IsPlanned chips plans i plan → EndsHavePins chips → (e : End) → end_of chips.memories plan.entry.now ≡ Some e →
    (base : ℕ) (inputs : List ℕ) (b : ℕ) (at : List ℕ → Wires ℕ) → length inputs ≡ length plan.inputs.items →
    ((name : List ℕ) (bit : ℕ) → at [] name bit ≡ node_of base inputs (origin_at (wires_of plan.wires) name bit)) → EndPut net base e inputs b → IsPlaced chips net plan base inputs (λ path. b) at
end_placed chips net plans i plan planned shipped e is base inputs b at long own put =
    let here = stands net base inputs b (at []) e
    (inputs_long chips net plans i plan planned shipped e is base inputs b at long own)
    (input_at chips net plans i plan planned shipped e is base inputs b at long own)
    (out_at chips net plans i plan planned shipped e is base inputs b at long own) put in
    record {
      own = own;
      wired = all_wired chips net plans i plan planned shipped e is base inputs b at long own here;
      ends = end_bit chips net plans i plan planned shipped e is base inputs b at long own;
      inside = inside chips net plans i plan planned shipped e is base inputs b at long own;
      alone = alone chips net plans i plan planned shipped e is base inputs b at long own;
    }
