-- What feeds the bits of a chip lies within it.
use Rattle.std.proofs.Common.{◌≡◌, ℕ, zero, suc, ◌+◌, ◌<◌, ◌≤◌, Bool, true, false, cond, ◌&&◌, nat_eq, List, [], ◌∷◌, ◌++◌, length, length-append, Option, Some, None, refl, sym, ap, subst, ◌∙◌, arith}
use Rattle.std.specs.Prelude.{slice_get, unwrap_or}
use Rattle.std.specs.List.{All}
use Rattle.std.specs.Str.{bytes_eq}
use Rattle.hdl_tree.specs.declared.tree.Pin.{Pin}
use Rattle.hdl_tree.specs.declared.tree.Source.{Source}
use Rattle.hdl_tree.specs.declared.tree.Source.TheVariants as source
use Rattle.hdl_tree.specs.declared.tree.Connection.{Connection}
use Rattle.hdl_tree.specs.declared.tree.Part.{Part}
use Rattle.hdl_tree.specs.declared.ends.End.{End}
use Rattle.hdl_tree.specs.declared.ends.End.TheVariants as ends
use Rattle.hdl_tree.specs.Chips.{Chips, end_of, parts_of, first, count, pin_width}
use Rattle.name_table.specs.Names.{find_value, first_of}
use Rattle.hdl_check.specs.Tables.{BitOf, bits_of}
use Rattle.hdl_check.specs.Faults.{ports_of}
use Rattle.hdl_check.specs.declared.check.Port.{Port}
use Rattle.hdl_flatten.specs.declared.size.Size.{Size}
use Rattle.hdl_flatten.specs.declared.wires.Origin.{Origin}
use Rattle.hdl_flatten.specs.declared.wires.Origin.TheVariants.{Low, High, Input, Gate}
use Rattle.hdl_flatten.specs.declared.plan.Plan.{Plan}
use Rattle.hdl_flatten.specs.Trees.{all_bits, end_nodes, chip_nodes}
use Rattle.hdl_flatten.specs.Ends.{named_pins, end_outputs, EndsHavePins}
use Rattle.hdl_flatten.specs.Inner.Sizes.{joined_size}
use Rattle.hdl_flatten.specs.Inner.Wired.{wires_of, found_bit, origin_at, origins_at}
use Rattle.hdl_flatten.specs.Inner.Plans.{numbered_bits, moved_by, driven_bits, driven_to, driven_by, all_driven, source_at, fed_bits, fed_by, all_fed, parts_driven, HavePlans, all_sized, places, end_gates, own_size, IsPlanned, ArePlans}
use Rattle.hdl_flatten.specs.Inner.Putting.{IsWithin, AreWithin}
use Rattle.hdl_flatten.proofs.Wiring.{found-append}
use Rattle.hdl_flatten.proofs.Planning.{length_map}

-- ---- sizes

pub sized_grows : (xs : List Plan) (s : Size) → (all_sized s xs).nodes ≤ 16777216 → s.nodes ≤ (all_sized s xs).nodes
sized_grows [] s h = omega arith
sized_grows (x ∷ xs) s h = let g = sized_grows xs (joined_size s x.size) h in omega (arith, g, h)

-- ---- tables

module _ (n m : ℕ) where
  first_by : (a b : Option Origin) → IsWithin n m (unwrap_or a Low) → IsWithin n m (unwrap_or b Low) → IsWithin n m (unwrap_or (first_of a b) Low)
  first_by None b f g = g
  first_by (Some o) b f g = f

  with_append : (es fs : List (BitOf × Origin)) → AreWithin n m es → AreWithin n m fs → AreWithin n m (es ++ fs)
  with_append es fs f g name bit = subst (λ (o : Option Origin). IsWithin n m (unwrap_or o Low)) (sym (found-append name bit es fs)) (first_by (found_bit name bit es) (found_bit name bit fs) (f name bit) (g name bit))

  with_by : (b : Bool) (o : Origin) (p : Option Origin) → IsWithin n m o → IsWithin n m (unwrap_or p Low) → IsWithin n m (unwrap_or (cond b (Some o) p) Low)
  with_by true o p f g = f
  with_by false o p f g = g

  with_cons : (e : BitOf × Origin) (es : List (BitOf × Origin)) → IsWithin n m e.1 → AreWithin n m es → AreWithin n m (e ∷ es)
  with_cons e es f g name bit = with_by (bytes_eq name e.0.name && nat_eq bit e.0.bit) e.1 (found_bit name bit es) f (g name bit)

  with_none : AreWithin n m []
  with_none name bit = tt

  with_inputs : (k : ℕ) (bits : List BitOf) → k + length bits ≤ n → AreWithin n m (numbered_bits Input k bits)
  with_inputs k [] h = with_none
  with_inputs k (b ∷ bits) h = with_cons (b, Input k) (numbered_bits Input (suc k) bits) (omega (arith, h)) (with_inputs (suc k) bits (omega (arith, h)))

  with_gates : (k : ℕ) (bits : List BitOf) → k + length bits ≤ m → AreWithin n m (numbered_bits Gate k bits)
  with_gates k [] h = with_none
  with_gates k (b ∷ bits) h = with_cons (b, Gate k) (numbered_bits Gate (suc k) bits) (omega (arith, h)) (with_gates (suc k) bits (omega (arith, h)))

  -- ---- what parts drive

  with_moved : (j size offset : ℕ) (o : Origin) → IsWithin j size o → offset + size ≤ m → IsWithin n m (moved_by offset o)
  with_moved j size offset Low f h = tt
  with_moved j size offset High f h = tt
  with_moved j size offset (Input k) f h = tt
  with_moved j size offset (Gate k) f h = omega (arith, f, h)

  module _ (inner : List (BitOf × Origin)) (j size offset : ℕ) (good : AreWithin j size inner) (room : offset + size ≤ m) where
    with_driven_bits : (pin : List ℕ) (from : ℕ) (net : List ℕ) (to k : ℕ) → AreWithin n m (driven_bits inner offset pin from net to k)
    with_driven_bits pin from net to zero = with_none
    with_driven_bits pin from net to (suc k) =
        with_append (driven_bits inner offset pin from net to k) ((record { name = net; bit = to + k }, moved_by offset (origin_at inner pin (from + k))) ∷ []) (with_driven_bits pin from net to k)
        (with_cons (record { name = net; bit = to + k }, moved_by offset (origin_at inner pin (from + k))) [] (with_moved j size offset (origin_at inner pin (from + k)) (good pin (from + k)) room) with_none)

    with_driven_to : (conn : Connection) (k : ℕ) (s : Source) → AreWithin n m (driven_to inner offset conn k s)
    with_driven_to conn k (source.Net w) = with_driven_bits conn.pin.name (first conn.pin.subscript) w.name (first w.subscript) k
    with_driven_to conn k (source.Constant b) = with_none

    with_port : (conn : Connection) (k : ℕ) (b : Bool) → AreWithin n m (cond b [] (driven_to inner offset conn k conn.source))
    with_port conn k true = with_none
    with_port conn k false = with_driven_to conn k conn.source

    with_driven : (conn : Connection) (o : Option Port) → AreWithin n m (driven_by inner offset o conn)
    with_driven conn None = with_none
    with_driven conn (Some port) = with_port conn (count conn.pin.subscript port.width) port.input

    with_all_driven : (ports : List (List ℕ × Port)) (conns : List Connection) → AreWithin n m (all_driven inner offset ports conns)
    with_all_driven ports [] = with_none
    with_all_driven ports (conn ∷ conns) = with_append (driven_by inner offset (find_value conn.pin.name ports) conn) (all_driven inner offset ports conns) (with_driven conn (find_value conn.pin.name ports)) (with_all_driven ports conns)

  -- ---- what parts are fed

  with_source : (wires : List (BitOf × Origin)) → AreWithin n m wires → (s : Source) (k : ℕ) → IsWithin n m (source_at wires s k)
  with_source wires good (source.Net w) k = good w.name (first w.subscript + k)
  with_source wires good (source.Constant true) k = tt
  with_source wires good (source.Constant false) k = tt

  module _ (wires : List (BitOf × Origin)) (good : AreWithin n m wires) where
    with_fed_bits : (s : Source) (pin : List ℕ) (at k : ℕ) → AreWithin n m (fed_bits wires s pin at k)
    with_fed_bits s pin at zero = with_none
    with_fed_bits s pin at (suc k) =
        with_append (fed_bits wires s pin at k) ((record { name = pin; bit = at + k }, source_at wires s k) ∷ []) (with_fed_bits s pin at k) (with_cons (record { name = pin; bit = at + k }, source_at wires s k) [] (with_source wires good s k) with_none)

    with_fed_port : (conn : Connection) (k : ℕ) (b : Bool) → AreWithin n m (cond b (fed_bits wires conn.source conn.pin.name (first conn.pin.subscript) k) [])
    with_fed_port conn k true = with_fed_bits conn.source conn.pin.name (first conn.pin.subscript) k
    with_fed_port conn k false = with_none

    with_fed : (conn : Connection) (o : Option Port) → AreWithin n m (fed_by wires o conn)
    with_fed conn None = with_none
    with_fed conn (Some port) = with_fed_port conn (count conn.pin.subscript port.width) port.input

    pub with_all_fed : (ports : List (List ℕ × Port)) (conns : List Connection) → AreWithin n m (all_fed wires ports conns)
    with_all_fed ports [] = with_none
    with_all_fed ports (conn ∷ conns) = with_append (fed_by wires (find_value conn.pin.name ports) conn) (all_fed wires ports conns) (with_fed conn (find_value conn.pin.name ports)) (with_all_fed ports conns)

  pub with_origins : (es : List (BitOf × Origin)) → AreWithin n m es → (bits : List BitOf) → All (IsWithin n m) (origins_at es bits)
  with_origins es good [] k d lt = absurd (omega (arith, lt))
  with_origins es good (b ∷ bits) zero d lt = good b.name b.bit
  with_origins es good (b ∷ bits) (suc k) d lt = with_origins es good bits k d (omega (arith, lt))

-- ---- chips

module _ (chips : Chips) (plans : List Plan) (i n m : ℕ) (small : m ≤ 16777216) (good : (r : ℕ) (x : Plan) → r < i → slice_get plans r ≡ Some x → x.size.nodes ≤ 16777216 → AreWithin (length x.inputs.items) x.size.nodes (wires_of x.wires)) where
  with_parts : (ps : List Part) (xs : List Plan) (rs : List ℕ) (sum : Size) → HavePlans chips plans i ps xs rs → (all_sized sum xs).nodes ≤ m → AreWithin n m (parts_driven sum ps xs)
  with_parts [] xs rs sum h few = with_none n m
  with_parts (p ∷ ps) [] rs sum h few = with_none n m
  with_parts (p ∷ ps) (x ∷ xs) [] sum h few = absurd h
  with_parts (p ∷ ps) (x ∷ xs) (r ∷ rs) sum h few =
      let grows = sized_grows xs (joined_size sum x.size) (omega (arith, few, small)) in
      let room : sum.nodes + x.size.nodes ≤ m = omega (arith, grows, few, small) in
      with_append n m (all_driven (wires_of x.wires) sum.nodes (ports_of x.entry.now.chip) p.connections) (parts_driven (joined_size sum x.size) ps xs)
      (with_all_driven n m (wires_of x.wires) (length x.inputs.items) x.size.nodes sum.nodes (good r x h.0.before h.0.at (omega (arith, room, small))) room (ports_of x.entry.now.chip) p.connections)
      (with_parts ps xs rs (joined_size sum x.size) h.1 few)

length_bits : (name : List ℕ) (from n : ℕ) → length (bits_of name from n) ≡ n
length_bits name from zero = refl
length_bits name from (suc n) = omega (arith, length-append (bits_of name from n) (record { name = name; bit = from + n } ∷ []), length_bits name from n)

abbrev pub widths : List (List ℕ × ℕ) → ℕ
widths [] = 0
widths (e ∷ es) = e.1 + widths es

pub length_all : (pins : List Pin) → length (all_bits pins) ≡ widths (named_pins pins)
length_all [] = refl
length_all (p ∷ ps) = omega (arith, length-append (bits_of p.name 0 (pin_width p)) (all_bits ps), length_bits p.name 0 (pin_width p), length_all ps)

end_wide : (e : End) → widths (end_outputs e) ≡ end_nodes (Some e)
end_wide ends.Nand = refl
end_wide ends.Dff = refl
end_wide ends.Keyboard = refl
end_wide ends.Rom = refl
end_wide (ends.Block bits) = refl

module _ (chips : Chips) (plans : List Plan) (planned : ArePlans chips plans) (ends_have : EndsHavePins chips) where
  with_end : (n : ℕ) (plan : Plan) (i : ℕ) → IsPlanned chips plans i plan → (o : Option End) → end_of chips.memories plan.entry.now ≡ o → AreWithin n (end_nodes o) (end_gates o (all_bits plan.entry.now.chip.outputs))
  with_end n plan i p None e = with_none n 0
  with_end n plan i p (Some x) e =
      let pins = ends_have p.fine.name plan.entry.now x p.fine.found e in
      let long = length_all plan.entry.now.chip.outputs ∙ ap widths pins.outputs ∙ end_wide x in
      with_gates n (end_nodes (Some x)) 0 (all_bits plan.entry.now.chip.outputs) (omega (arith, long))

  wider : (n m k : ℕ) (o : Origin) → m ≤ k → IsWithin n m o → IsWithin n k o
  wider n m k Low h f = tt
  wider n m k High h f = tt
  wider n m k (Input j) h f = f
  wider n m k (Gate j) h f = omega (arith, h, f)

  good_below : (d i : ℕ) (plan : Plan) → i < d → slice_get plans i ≡ Some plan → plan.size.nodes ≤ 16777216 → AreWithin (length plan.inputs.items) plan.size.nodes (wires_of plan.wires)
  good_below zero i plan lt there small name bit = absurd (omega (arith, lt))
  good_below (suc d) i plan lt there small name bit =
      let p : IsPlanned chips plans i plan = planned i plan there in
      let n = length plan.inputs.items in
      let m = plan.size.nodes in
      let size : (all_sized (own_size chips plan.entry.now) p.inner).nodes ≡ m = ap (λ (s : Size). s.nodes) (sym p.size) in
      let grows = sized_grows p.inner (own_size chips plan.entry.now) (omega (arith, size, small)) in
      let ins : AreWithin n m (numbered_bits Input 0 (all_bits plan.entry.now.chip.inputs)) = with_inputs n m 0 (all_bits plan.entry.now.chip.inputs) (omega (arith, length_map plan.inputs.items, ap length p.inputs)) in
      let gates : AreWithin n m (end_gates (end_of chips.memories plan.entry.now) (all_bits plan.entry.now.chip.outputs)) =
      λ name bit. wider n (chip_nodes chips plan.entry.now) m (origin_at (end_gates (end_of chips.memories plan.entry.now) (all_bits plan.entry.now.chip.outputs)) name bit) (omega (arith, grows, size)) (with_end n plan i p (end_of chips.memories plan.entry.now) refl name bit) in
      let driven : AreWithin n m (parts_driven (own_size chips plan.entry.now) (parts_of chips plan.entry.now) p.inner) =
      with_parts chips plans i n m small (λ r x below at few. good_below d r x (omega (arith, below, lt)) at few) (parts_of chips plan.entry.now) p.inner (places plan.parts.items) (own_size chips plan.entry.now) p.placed (omega (arith, size)) in
      subst (λ (o : Option Origin). IsWithin n m (unwrap_or o Low)) (sym (p.wires name bit))
      (with_append n m (numbered_bits Input 0 (all_bits plan.entry.now.chip.inputs)) (end_gates (end_of chips.memories plan.entry.now) (all_bits plan.entry.now.chip.outputs) ++ parts_driven (own_size chips plan.entry.now) (parts_of chips plan.entry.now) p.inner) ins
      (with_append n m (end_gates (end_of chips.memories plan.entry.now) (all_bits plan.entry.now.chip.outputs)) (parts_driven (own_size chips plan.entry.now) (parts_of chips plan.entry.now) p.inner) gates driven) name bit)

  pub chip_within : (i : ℕ) (plan : Plan) → slice_get plans i ≡ Some plan → plan.size.nodes ≤ 16777216 → AreWithin (length plan.inputs.items) plan.size.nodes (wires_of plan.wires)
  chip_within i plan there small = good_below (suc i) i plan (omega arith) there small
