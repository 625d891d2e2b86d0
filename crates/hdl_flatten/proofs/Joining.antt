-- The input bits of a part are the nodes that the text joins them with.
use Rattle.std.proofs.Common.{◌≡◌, ℕ, ◌+◌, ◌<◌, true, false, List, ◌++◌, map, Option, Some, sym, ap, ◌∙◌, arith}
use Rattle.std.specs.Prelude.{slice_get, slice_index, unwrap_or}
use Rattle.hdl_tree.specs.declared.tree.Connection.{Connection}
use Rattle.hdl_tree.specs.declared.tree.Part.{Part}
use Rattle.hdl_tree.specs.declared.library.Entry.{Entry}
use Rattle.hdl_tree.specs.Chips.{Chips, end_of, find_chip, parts_of, first, count}
use Rattle.hdl_tree.specs.Behaviour.{Wires, width_in, width_of, source_value, reaches, some}
use Rattle.name_table.specs.Names.{first_of}
use Rattle.hdl_check.specs.Tables.{BitOf}
use Rattle.hdl_check.specs.Faults.{ports_of}
use Rattle.hdl_plans.specs.Plans.{Origin, Low, is_input, IsPlan}
use Rattle.hdl_plans.specs.Planned.{origin_at as text_origin, origin_in, origin_among, plan_of}
use Rattle.hdl_flatten.specs.declared.wires.Origin.{Origin as Fed}
use Rattle.hdl_flatten.specs.declared.wires.Origin.TheVariants as fed
use Rattle.hdl_flatten.specs.declared.plan.Plan.{Plan}
use Rattle.hdl_flatten.specs.Trees.{all_bits}
use Rattle.hdl_flatten.specs.Inner.Wired.{wires_of, found_bit, origins_at}
use Rattle.hdl_flatten.specs.Inner.Plans.{numbered_bits, end_gates, parts_driven, own_size, all_fed, part_origins, IsPlanned}
use Rattle.hdl_flatten.proofs.Wiring.{found-append}
use Rattle.hdl_flatten.proofs.Bridges.{resolved, all_fed_is}
use Rattle.hdl_flatten.proofs.Reading.{IsNumbered, number_of, has_bit, node_at, own_nodes, source_nodes, resolved_or, index_of}

-- part j of a chip, with the plan x of its chip; inside are the nodes of its bits
module _ (chips : Chips) (plans : List Plan) (r : ℕ) (entry : Entry) (j : ℕ) (part : Part) (x : Plan) (px : IsPlanned chips plans r x) (there : slice_get (parts_of chips entry) j ≡ Some part) (found : find_chip chips part.chip ≡ Some x.entry.now)
    (wires : List (BitOf × Fed)) (base from : ℕ) (outer inputs : List ℕ) (inputs_are : inputs ≡ map (λ o. node_at o base outer) (part_origins wires part x)) (inside : Wires ℕ) (is : (name : List ℕ) (bit : ℕ) → inside name bit ≡ own_nodes (wires_of x.wires) from inputs name bit) where
  text_is : (name : List ℕ) (bit : ℕ) → (plan_of chips entry).origin j name bit ≡ unwrap_or (origin_among name bit (ports_of x.entry.now.chip) part.connections) Low
  text_is name bit = ap (λ (o : Option Part). unwrap_or (text_origin chips name bit o) Low) there ∙ ap (λ (e : Option Entry). unwrap_or (origin_in name bit part.connections e) Low) found

  pub input_node : (name : List ℕ) (width bit : ℕ) → width_in x.entry.now.chip.inputs name ≡ Some width → bit < width → inside name bit ≡ node_at (resolved wires ((plan_of chips entry).origin j name bit)) base outer
  input_node name width bit wide lt =
      let bits = all_bits x.entry.now.chip.inputs in
      let n : IsNumbered fed.Input 0 bits name bit = number_of fed.Input 0 bits name bit (has_bit x.entry.now.chip.inputs name width bit wide lt) in
      let rest = end_gates (end_of chips.memories x.entry.now) (all_bits x.entry.now.chip.outputs) ++ parts_driven (own_size chips x.entry.now) (parts_of chips x.entry.now) px.inner in
      let own : found_bit name bit (wires_of x.wires) ≡ Some (fed.Input (0 + n.k)) = px.wires name bit ∙ found-append name bit (numbered_bits fed.Input 0 bits) rest ∙ ap (λ (o : Option Fed). first_of o (found_bit name bit rest)) n.found in
      let zero_plus : 0 + n.k ≡ n.k = omega arith in
      let fed_list = all_fed wires (ports_of x.entry.now.chip) part.connections in
      is name bit
      ∙ ap (λ (o : Option Fed). node_at (unwrap_or o fed.Low) from inputs) own
      ∙ ap (slice_index inputs) zero_plus
      ∙ ap (λ (t : List ℕ). slice_index t n.k) inputs_are
      ∙ ap (λ (bs : List BitOf). slice_index (map (λ o. node_at o base outer) (origins_at fed_list bs)) n.k) px.inputs
      ∙ index_of fed_list base outer bits n.k n.at n.there
      ∙ ap (λ (m : List ℕ). own_nodes fed_list base outer m n.at.bit) (sym n.name_is)
      ∙ ap (λ (b : ℕ). own_nodes fed_list base outer name b) (sym n.bit_is)
      ∙ ap (λ (o : Option Fed). node_at (unwrap_or o fed.Low) base outer) (sym (all_fed_is wires name bit (ports_of x.entry.now.chip) part.connections))
      ∙ ap (λ (o : Fed). node_at o base outer) (resolved_or wires (origin_among name bit (ports_of x.entry.now.chip) part.connections))
      ∙ ap (λ (o : Origin). node_at (resolved wires o) base outer) (sym (text_is name bit))

  -- a bit that is joined, and one that is not
  pub input_joined : IsPlan chips entry (plan_of chips entry) → (c k width : ℕ) (conn : Connection) → slice_get part.connections c ≡ Some conn → is_input x.entry.now conn.pin.name ≡ true → k < count conn.pin.subscript (width_of x.entry.now conn.pin.name) → width_in x.entry.now.chip.inputs conn.pin.name ≡ Some width → first conn.pin.subscript + k < width →
      inside conn.pin.name (first conn.pin.subscript + k) ≡ source_value 0 1 conn.source (own_nodes wires base outer) k
  input_joined plan c k width conn here way lt wide below =
      input_node conn.pin.name width (first conn.pin.subscript + k) wide below
      ∙ ap (λ (o : Origin). node_at (resolved wires o) base outer) (plan.input j c k part x.entry.now conn there found here way lt)
      ∙ source_nodes wires base outer conn.source k

  pub input_unjoined : IsPlan chips entry (plan_of chips entry) → (name : List ℕ) (width bit : ℕ) → width_in x.entry.now.chip.inputs name ≡ Some width → bit < width → some (reaches x.entry.now name bit) part.connections ≡ false → inside name bit ≡ 0
  input_unjoined plan name width bit wide lt free =
      input_node name width bit wide lt ∙ ap (λ (o : Origin). node_at (resolved wires o) base outer) (plan.unjoined j width bit name part x.entry.now there found wide lt free)
