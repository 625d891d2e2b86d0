-- What feeds a chip's bits from within it: nodes of the chip, and nothing else but the constant 0.
use Rattle.std.proofs.Common.{◌≡◌, ℕ, zero, suc, ◌+◌, ◌<◌, ◌≤◌, Bool, true, false, cond, ◌&&◌, nat_eq, List, [], ◌∷◌, ◌++◌, length, Option, Some, None, is_some, refl, sym, ap, subst, ◌∙◌, arith}
use Rattle.std.specs.Str.{bytes_eq}
use Rattle.std.specs.Prelude.{slice_get, unwrap_or}
use Rattle.hdl_tree.specs.declared.tree.Source.{Source}
use Rattle.hdl_tree.specs.declared.tree.Source.TheVariants as source
use Rattle.hdl_tree.specs.declared.tree.Connection.{Connection}
use Rattle.hdl_tree.specs.declared.tree.Part.{Part}
use Rattle.hdl_tree.specs.declared.ends.End.{End}
use Rattle.hdl_tree.specs.Chips.{Chips, end_of, parts_of, first, count}
use Rattle.hdl_tree.specs.Behaviour.{width_in}
use Rattle.name_table.specs.Names.{find_value, first_of}
use Rattle.hdl_check.specs.Tables.{BitOf}
use Rattle.hdl_check.specs.Faults.{ports_of}
use Rattle.hdl_check.specs.declared.check.Port.{Port}
use Rattle.hdl_plans.specs.Plans.{is_input}
use Rattle.hdl_flatten.specs.declared.size.Size.{Size}
use Rattle.hdl_flatten.specs.declared.wires.Origin.{Origin as Fed}
use Rattle.hdl_flatten.specs.declared.wires.Origin.TheVariants as fed
use Rattle.hdl_flatten.specs.declared.plan.Plan.{Plan}
use Rattle.hdl_flatten.specs.Ends.{EndsHavePins}
use Rattle.hdl_flatten.specs.Trees.{all_bits, end_nodes}
use Rattle.hdl_flatten.specs.Inner.Sizes.{joined_size}
use Rattle.hdl_flatten.specs.Inner.Wired.{wires_of, found_bit, origin_at}
use Rattle.hdl_flatten.specs.Inner.Plans.{numbered_bits, moved_by, driven_bits, driven_to, driven_by, all_driven, parts_driven, all_sized, end_gates, own_size, places, HavePlans, IsPlanned, ArePlans}
use Rattle.hdl_flatten.proofs.Wiring.{found-append}
use Rattle.hdl_flatten.proofs.Planning.{widths, length_all, end_wide}
use Rattle.hdl_flatten.proofs.Reading.{no_number, no_bit}
use Rattle.hdl_flatten.proofs.Slots.{sum_grows, sum_exact}

-- a node of the chip's n is one of them
abbrev pub IsBelow : ℕ → Fed → Type 0
IsBelow n fed.Low = Unit {0}
IsBelow n fed.High = Unit {0}
IsBelow n (fed.Input k) = Unit {0}
IsBelow n (fed.Gate m) = m < n

-- one of the chip's n nodes, or 0
abbrev pub IsOwn : ℕ → Fed → Type 0
IsOwn n fed.Low = Unit {0}
IsOwn n fed.High = ⊥
IsOwn n (fed.Input k) = ⊥
IsOwn n (fed.Gate m) = m < n

abbrev IsOwnIf : ℕ → Option Fed → Type 0
IsOwnIf n None = Unit {0}
IsOwnIf n (Some o) = IsOwn n o

-- for all bits of a chip of n nodes
abbrev pub AreBelow : ℕ → List (BitOf × Fed) → Type 0
AreBelow n wires = (name : List ℕ) (bit : ℕ) → IsBelow n (origin_at wires name bit)

own_or : (n : ℕ) (o : Option Fed) → IsOwnIf n o → IsOwn n (unwrap_or o fed.Low)
own_or n None h = tt
own_or n (Some o) h = h

own_first : (n : ℕ) (a b : Option Fed) → IsOwnIf n a → IsOwnIf n b → IsOwnIf n (first_of a b)
own_first n None b f g = g
own_first n (Some o) b f g = f

own_cond : (n : ℕ) (t : Bool) (o : Fed) (a : Option Fed) → IsOwn n o → IsOwnIf n a → IsOwnIf n (cond t (Some o) a)
own_cond n true o a f g = f
own_cond n false o a f g = g

own_append : (n : ℕ) (name : List ℕ) (bit : ℕ) (es fs : List (BitOf × Fed)) → IsOwnIf n (found_bit name bit es) → IsOwnIf n (found_bit name bit fs) → IsOwnIf n (found_bit name bit (es ++ fs))
own_append n name bit es fs f g = subst (IsOwnIf n) (sym (found-append name bit es fs)) (own_first n (found_bit name bit es) (found_bit name bit fs) f g)

-- ---- what parts drive

own_moved : (n m offset : ℕ) (o : Fed) → offset + m ≤ n → IsBelow m o → IsOwn n (moved_by offset o)
own_moved n m offset fed.Low le h = tt
own_moved n m offset fed.High le h = tt
own_moved n m offset (fed.Input k) le h = tt
own_moved n m offset (fed.Gate k) le h = omega (arith, le, h)

module _ (n m offset : ℕ) (inner : List (BitOf × Fed)) (le : offset + m ≤ n) (below : AreBelow m inner) (name : List ℕ) (bit : ℕ) where
  own_bits : (pin : List ℕ) (from : ℕ) (net : List ℕ) (to k : ℕ) → IsOwnIf n (found_bit name bit (driven_bits inner offset pin from net to k))
  own_bits pin from net to zero = tt
  own_bits pin from net to (suc k) =
      own_append n name bit (driven_bits inner offset pin from net to k) ((record { name = net; bit = to + k }, moved_by offset (origin_at inner pin (from + k))) ∷ []) (own_bits pin from net to k)
      (own_cond n (bytes_eq name net && nat_eq bit (to + k)) (moved_by offset (origin_at inner pin (from + k))) None (own_moved n m offset (origin_at inner pin (from + k)) le (below pin (from + k))) tt)

  own_source : (conn : Connection) (k : ℕ) (s : Source) → IsOwnIf n (found_bit name bit (driven_to inner offset conn k s))
  own_source conn k (source.Net w) = own_bits conn.pin.name (first conn.pin.subscript) w.name (first w.subscript) k
  own_source conn k (source.Constant b) = tt

  own_port : (conn : Connection) (k : ℕ) (b : Bool) → IsOwnIf n (found_bit name bit (cond b [] (driven_to inner offset conn k conn.source)))
  own_port conn k true = tt
  own_port conn k false = own_source conn k conn.source

  own_conn : (conn : Connection) (o : Option Port) → IsOwnIf n (found_bit name bit (driven_by inner offset o conn))
  own_conn conn None = tt
  own_conn conn (Some port) = own_port conn (count conn.pin.subscript port.width) port.input

  own_conns : (ports : List (List ℕ × Port)) (conns : List Connection) → IsOwnIf n (found_bit name bit (all_driven inner offset ports conns))
  own_conns ports [] = tt
  own_conns ports (conn ∷ conns) = own_append n name bit (driven_by inner offset (find_value conn.pin.name ports) conn) (all_driven inner offset ports conns) (own_conn conn (find_value conn.pin.name ports)) (own_conns ports conns)

-- the plans before place i are so
abbrev AreSo : List Plan → ℕ → Type 0
AreSo plans i = (r : ℕ) (x : Plan) → r < i → slice_get plans r ≡ Some x → x.size.nodes ≤ 16777216 → AreBelow x.size.nodes (wires_of x.wires)

own_parts : (chips : Chips) (plans : List Plan) (i n : ℕ) (name : List ℕ) (bit : ℕ) (size : Size) (ps : List Part) (xs : List Plan) (rs : List ℕ) → HavePlans chips plans i ps xs rs → AreSo plans i → (all_sized size xs).nodes ≡ n → n ≤ 16777216 → IsOwnIf n (found_bit name bit (parts_driven size ps xs))
own_parts chips plans i n name bit size [] xs rs have so sum small = tt
own_parts chips plans i n name bit size (p ∷ ps) [] rs have so sum small = absurd have
own_parts chips plans i n name bit size (p ∷ ps) (x ∷ xs) [] have so sum small = absurd have
own_parts chips plans i n name bit size (p ∷ ps) (x ∷ xs) (r ∷ rs) have so sum small =
    let less : (all_sized (joined_size size x.size) xs).nodes ≤ 16777216 = omega (arith, sum, small) in
    let exact = sum_exact size x xs less in
    let grows = sum_grows (joined_size size x.size) xs less in
    let le : size.nodes + x.size.nodes ≤ n = omega (arith, sum, exact, grows) in
    let few : x.size.nodes ≤ 16777216 = omega (arith, le, small) in
    own_append n name bit (all_driven (wires_of x.wires) size.nodes (ports_of x.entry.now.chip) p.connections) (parts_driven (joined_size size x.size) ps xs)
    (own_conns n x.size.nodes size.nodes (wires_of x.wires) le (so r x have.0.before have.0.at few) name bit (ports_of x.entry.now.chip) p.connections)
    (own_parts chips plans i n name bit (joined_size size x.size) ps xs rs have.1 so sum small)

-- ---- the bits of an end

own_gates : (n from : ℕ) (bits : List BitOf) (name : List ℕ) (bit : ℕ) → from + length bits ≤ n → IsOwnIf n (found_bit name bit (numbered_bits fed.Gate from bits))
own_gates n from [] name bit le = tt
own_gates n from (b ∷ bits) name bit le =
    let here : from < n = omega (arith, le) in
    let rest : suc from + length bits ≤ n = omega (arith, le) in
    own_cond n (bytes_eq name b.name && nat_eq bit b.bit) (fed.Gate from) (found_bit name bit (numbered_bits fed.Gate (suc from) bits)) here (own_gates n (suc from) bits name bit rest)

module _ (chips : Chips) (plans : List Plan) (shipped : EndsHavePins chips) (i : ℕ) (plan : Plan) (planned : IsPlanned chips plans i plan) where
  pub end_bits : (e : End) → end_of chips.memories plan.entry.now ≡ Some e → length (all_bits plan.entry.now.chip.outputs) ≡ end_nodes (end_of chips.memories plan.entry.now)
  end_bits e is = length_all plan.entry.now.chip.outputs ∙ ap widths (shipped planned.fine.name plan.entry.now e planned.fine.found is).outputs ∙ end_wide e ∙ ap end_nodes (sym is)

  own_end : (n : ℕ) (name : List ℕ) (bit : ℕ) (o : Option End) → end_of chips.memories plan.entry.now ≡ o → end_nodes (end_of chips.memories plan.entry.now) ≤ n → IsOwnIf n (found_bit name bit (end_gates o (all_bits plan.entry.now.chip.outputs)))
  own_end n name bit None is le = tt
  own_end n name bit (Some e) is le =
      let all : 0 + length (all_bits plan.entry.now.chip.outputs) ≤ n = omega (arith, le, end_bits e is) in
      own_gates n 0 (all_bits plan.entry.now.chip.outputs) name bit all

  -- all but the inputs
  abbrev pub rest : List (BitOf × Fed)
  rest = end_gates (end_of chips.memories plan.entry.now) (all_bits plan.entry.now.chip.outputs) ++ parts_driven (own_size chips plan.entry.now) (parts_of chips plan.entry.now) planned.inner

  pub whole_is : all_sized (own_size chips plan.entry.now) planned.inner ≡ plan.size
  whole_is = sym planned.size

  own_rest : plan.size.nodes ≤ 16777216 → AreSo plans i → (name : List ℕ) (bit : ℕ) → IsOwnIf plan.size.nodes (found_bit name bit rest)
  own_rest small so name bit =
      let sum : (all_sized (own_size chips plan.entry.now) planned.inner).nodes ≡ plan.size.nodes = ap (λ (s : Size). s.nodes) whole_is in
      let less : (all_sized (own_size chips plan.entry.now) planned.inner).nodes ≤ 16777216 = omega (arith, sum, small) in
      let le : end_nodes (end_of chips.memories plan.entry.now) ≤ plan.size.nodes = omega (arith, sum, sum_grows (own_size chips plan.entry.now) planned.inner less) in
      own_append plan.size.nodes name bit (end_gates (end_of chips.memories plan.entry.now) (all_bits plan.entry.now.chip.outputs)) (parts_driven (own_size chips plan.entry.now) (parts_of chips plan.entry.now) planned.inner)
      (own_end plan.size.nodes name bit (end_of chips.memories plan.entry.now) refl le)
      (own_parts chips plans i plan.size.nodes name bit (own_size chips plan.entry.now) (parts_of chips plan.entry.now) planned.inner (places plan.parts.items) planned.placed so sum small)

  -- what is found for a bit that is no input
  none_of : (o : Option ℕ) → is_some o ≡ false → o ≡ None
  none_of None h = refl
  none_of (Some w) h = absurd cc

  pub no_input : (name : List ℕ) (bit : ℕ) → is_input plan.entry.now name ≡ false → found_bit name bit (wires_of plan.wires) ≡ found_bit name bit rest
  no_input name bit way =
      let bits = all_bits plan.entry.now.chip.inputs in
      planned.wires name bit ∙ found-append name bit (numbered_bits fed.Input 0 bits) rest
      ∙ ap (λ (o : Option Fed). first_of o (found_bit name bit rest)) (no_number fed.Input 0 bits name bit (no_bit plan.entry.now.chip.inputs name bit (none_of (width_in plan.entry.now.chip.inputs name) way)))

below_first : (n from : ℕ) (bits : List BitOf) (name : List ℕ) (bit : ℕ) (a : Option Fed) → IsOwnIf n a → IsBelow n (unwrap_or (first_of (found_bit name bit (numbered_bits fed.Input from bits)) a) fed.Low)
below_first n from [] name bit None h = tt
below_first n from [] name bit (Some fed.Low) h = tt
below_first n from [] name bit (Some fed.High) h = absurd h
below_first n from [] name bit (Some (fed.Input k)) h = absurd h
below_first n from [] name bit (Some (fed.Gate m)) h = h
below_first n from (b ∷ bits) name bit a h = by (below_first n (suc from) bits name bit a h) (bytes_eq name b.name && nat_eq bit b.bit)
  where
    by : IsBelow n (unwrap_or (first_of (found_bit name bit (numbered_bits fed.Input (suc from) bits)) a) fed.Low) → (t : Bool) → IsBelow n (unwrap_or (first_of (cond t (Some (fed.Input from)) (found_bit name bit (numbered_bits fed.Input (suc from) bits))) a) fed.Low)
    by g true = tt
    by g false = g

-- each node of a plan is one of its chip's
pub gates_below : (chips : Chips) (plans : List Plan) → EndsHavePins chips → ArePlans chips plans → (d i : ℕ) → i < d → (plan : Plan) → slice_get plans i ≡ Some plan → plan.size.nodes ≤ 16777216 → AreBelow plan.size.nodes (wires_of plan.wires)
gates_below chips plans shipped are zero i lt plan there small name bit = absurd (omega (arith, lt))
gates_below chips plans shipped are (suc d) i lt plan there small name bit =
    let planned = are i plan there in
    let bits = all_bits plan.entry.now.chip.inputs in
    let after = rest chips plans shipped i plan planned in
    let so : AreSo plans i = λ r x before at few. gates_below chips plans shipped are d r (omega (arith, lt, before)) x at few in
    subst (λ (o : Option Fed). IsBelow plan.size.nodes (unwrap_or o fed.Low)) (sym (planned.wires name bit ∙ found-append name bit (numbered_bits fed.Input 0 bits) after))
    (below_first plan.size.nodes 0 bits name bit (found_bit name bit after) (own_rest chips plans shipped i plan planned small so name bit))

-- an output of a plan is a node of its chip, or 0
pub output_own : (chips : Chips) (plans : List Plan) → EndsHavePins chips → ArePlans chips plans → (i : ℕ) (plan : Plan) → slice_get plans i ≡ Some plan → plan.size.nodes ≤ 16777216 → (name : List ℕ) (bit : ℕ) → is_input plan.entry.now name ≡ false → IsOwn plan.size.nodes (origin_at (wires_of plan.wires) name bit)
output_own chips plans shipped are i plan there small name bit way =
    let planned = are i plan there in
    let so : AreSo plans i = λ r x before at few. gates_below chips plans shipped are i r before x at few in
    let own = own_rest chips plans shipped i plan planned small so name bit in
    subst (λ (o : Option Fed). IsOwn plan.size.nodes (unwrap_or o fed.Low)) (sym (no_input chips plans shipped i plan planned name bit way)) (own_or plan.size.nodes (found_bit name bit (rest chips plans shipped i plan planned)) own)
