-- A chip whose parts are placed is placed.
use Rattle.std.proofs.Common.{◌≡◌, ◌≤◌, ◌<◌, ℕ, suc, ◌+◌, ◌-◌, inl, inr, Bool, true, false, List, [], ◌∷◌, map, Option, Some, None, codes, refl, sym, ap, subst, ◌∙◌, arith}
use Rattle.std.specs.Prelude.{slice_get, unwrap_or}
use Rattle.std.proofs.lemmas.Bool.Decides.{leb_tells}
use Rattle.hdl_tree.specs.declared.tree.Source.{Source}
use Rattle.hdl_tree.specs.declared.tree.Source.TheVariants as source
use Rattle.hdl_tree.specs.declared.tree.Connection.{Connection}
use Rattle.hdl_tree.specs.declared.tree.Part.{Part}
use Rattle.hdl_tree.specs.declared.library.Entry.{Entry}
use Rattle.hdl_tree.specs.declared.ends.End.{End}
use Rattle.hdl_tree.specs.Chips.{Chips, end_of, find_chip, parts_of, parts_of_body, parts_unless, first}
use Rattle.hdl_tree.specs.Behaviour.{Wires, chip_of, chip_at, source_value, Joins, Each, UndrivenIsLow, PartWired, PartsWired, ChipWired, Wired}
use Rattle.name_table.specs.Names.{first_of}
use Rattle.hdl_check.specs.Tables.{BitOf}
use Rattle.hdl_plans.specs.Plans.{is_input, IsPlan, IsDriver}
use Rattle.hdl_plans.specs.Planned.{plan_of, output_of}
use Rattle.hdl_plans.proofs.Unjoined.{faultless_plan}
use Rattle.hdl_plans.proofs.Fits.{conn_fits}
use Rattle.hdl_plans.proofs.Walks.{at_part, part_at}
use Rattle.netlist.specs.Net.{Net}
use Rattle.hdl_nodes.specs.Numbering.{EndStands}
use Rattle.hdl_flatten.specs.declared.size.Size.{Size}
use Rattle.hdl_flatten.specs.declared.wires.Origin.{Origin as Fed}
use Rattle.hdl_flatten.specs.declared.wires.Origin.TheVariants as fed
use Rattle.hdl_flatten.specs.declared.plan.Plan.{Plan}
use Rattle.hdl_flatten.specs.declared.plan.PartPlan.{PartPlan}
use Rattle.hdl_flatten.specs.Ends.{EndsHavePins}
use Rattle.hdl_flatten.specs.Trees.{all_bits, end_nodes}
use Rattle.hdl_flatten.specs.Inner.Wired.{wires_of, found_bit, origin_at}
use Rattle.hdl_flatten.specs.Inner.Feeds.{feed_origins}
use Rattle.hdl_flatten.specs.Inner.Plans.{moved_by, all_sized, parts_driven, end_gates, own_size, part_origins, places, IsPlanned, ArePlans}
use Rattle.hdl_flatten.specs.Inner.Puts.{node_of, IsPlaced}
use Rattle.hdl_flatten.specs.Flat.{IsEndBit}
use Rattle.hdl_flatten.proofs.Wiring.{found-append}
use Rattle.hdl_flatten.proofs.Bridges.{with_place, gate_at, parts_driven_are}
use Rattle.hdl_flatten.proofs.Reading.{node_at, own_nodes}
use Rattle.hdl_flatten.proofs.Joining.{input_joined, input_unjoined}
use Rattle.hdl_flatten.proofs.Slots.{Slot, slot_of, covered, stands_behind}
use Rattle.hdl_flatten.proofs.Gates.{IsOwn, output_own, no_input}

-- ---- nodes

node_is : (base : ℕ) (inputs : List ℕ) (o : Fed) → node_of base inputs o ≡ node_at o base inputs
node_is base inputs fed.Low = refl
node_is base inputs fed.High = refl
node_is base inputs (fed.Input k) = refl
node_is base inputs (fed.Gate k) = refl

nodes_are : (base : ℕ) (inputs : List ℕ) (os : List Fed) → map (node_of base inputs) os ≡ map (λ o. node_at o base inputs) os
nodes_are base inputs [] = refl
nodes_are base inputs (o ∷ os) = ap (λ (t : List ℕ). node_of base inputs o ∷ t) (nodes_are base inputs os) ∙ ap (λ (n : ℕ). n ∷ map (λ o. node_at o base inputs) os) (node_is base inputs o)

-- a node of a part is that of the chip around it
moved_node : (base offset n : ℕ) (inputs outer : List ℕ) (o : Fed) → IsOwn n o → offset + n ≤ 16777216 → node_of (base + offset) inputs o ≡ node_of base outer (moved_by offset o)
moved_node base offset n inputs outer fed.Low h le = refl
moved_node base offset n inputs outer fed.High h le = absurd h
moved_node base offset n inputs outer (fed.Input k) h le = absurd h
moved_node base offset n inputs outer (fed.Gate k) h le = omega (arith, h, le)

each_of : {X : Type 0} (P : X → Type 0) (xs : List X) → ((c : ℕ) (x : X) → slice_get xs c ≡ Some x → P x) → Each P xs
each_of P [] h = tt
each_of P (x ∷ xs) h = (h 0 x refl, each_of P xs (λ c y e. h (suc c) y e))

record PartThere (chips : Chips) (o : Option Part) (inner : Entry) : Type 0 where
  part : Part
  there : o ≡ Some part
  found : find_chip chips part.chip ≡ Some inner

part_there : (chips : Chips) (o : Option Part) (inner : Entry) → chip_of chips o ≡ Some inner → PartThere chips o inner
part_there chips None inner h = absurd cc
part_there chips (Some part) inner h = record { part = part; there = refl; found = h }

-- the part that an output bit of an end is in
record InPart (chips : Chips) (xs : List Plan) (qs : List PartPlan) (at : List ℕ → Wires ℕ) (size k : ℕ) (path : List ℕ) (bit : ℕ) : Type 0 where
  j : ℕ
  x : Plan
  q : PartPlan
  plan_there : slice_get xs j ≡ Some x
  part_there : slice_get qs j ≡ Some q
  fits : q.offset + x.size.nodes ≤ size
  inner : IsEndBit chips x.entry.now (λ rest. at (j ∷ rest)) k
  path_is : path ≡ j ∷ inner.path
  bit_is : bit ≡ inner.bit

plan_is : (x y : Plan) → Some x ≡ Some y → x ≡ y
plan_is x y h = cc

module _ (chips : Chips) (net : Net) (plans : List Plan) (i : ℕ) (plan : Plan) (planned : IsPlanned chips plans i plan) (are : ArePlans chips plans) (shipped : EndsHavePins chips) (no_end : end_of chips.memories plan.entry.now ≡ None) (small : plan.size.nodes ≤ 16777216)
    (base : ℕ) (inputs : List ℕ) (block : List ℕ → ℕ) (at : List ℕ → Wires ℕ) (own : (name : List ℕ) (bit : ℕ) → at [] name bit ≡ node_of base inputs (origin_at (wires_of plan.wires) name bit))
    (placed : (j : ℕ) (x : Plan) (q : PartPlan) → slice_get planned.inner j ≡ Some x → slice_get plan.parts.items j ≡ Some q → IsPlaced chips net x (base + q.offset) (map (node_of base inputs) (feed_origins q.feeds)) (λ path. block (j ∷ path)) (λ path. at (j ∷ path))) where
  abbrev entry : Entry
  entry = plan.entry.now

  abbrev start : Size
  start = own_size chips entry

  abbrev wires : List (BitOf × Fed)
  wires = wires_of plan.wires

  -- ---- the parts

  sum_is : (all_sized start planned.inner).nodes ≡ plan.size.nodes
  sum_is = ap (λ (s : Size). s.nodes) (sym planned.size)

  sum_small : (all_sized start planned.inner).nodes ≤ 16777216
  sum_small = omega (arith, sum_is, small)

  slot : (j : ℕ) (part : Part) → slice_get (parts_of chips entry) j ≡ Some part → Slot chips plans i wires start 0 planned.inner plan.parts.items j part
  slot j part there = slot_of chips plans i wires start 0 (parts_of chips entry) planned.inner plan.parts.items j part there planned.placed planned.parts sum_small

  text : IsPlan chips entry (plan_of chips entry)
  text = faultless_plan chips planned.fine.outer entry planned.fine.faultless no_end

  -- ---- what drives a bit that is no input

  driven_is : (name : List ℕ) (bit : ℕ) → is_input entry name ≡ false → found_bit name bit wires ≡ with_place (gate_at start 0 planned.inner) (output_of chips 0 name bit (parts_of chips entry))
  driven_is name bit way =
      let outs = all_bits entry.chip.outputs in
      let driven = parts_driven start (parts_of chips entry) planned.inner in
      no_input chips plans shipped i plan planned name bit way
      ∙ found-append name bit (end_gates (end_of chips.memories entry) outs) driven
      ∙ ap (λ (o : Option End). first_of (found_bit name bit (end_gates o outs)) (found_bit name bit driven)) no_end
      ∙ sym (parts_driven_are chips plans i name bit start 0 (parts_of chips entry) planned.inner (places plan.parts.items) planned.placed)

  undriven : UndrivenIsLow 0 chips entry (at []) (parts_of chips entry)
  undriven name width bit wide lt free =
      let u = text.undriven width bit name wide lt free in
      own name bit ∙ ap (λ (o : Option Fed). node_of base inputs (unwrap_or o fed.Low)) (driven_is name bit u.0 ∙ ap (with_place (gate_at start 0 planned.inner)) u.1)

  -- ---- part j

  module _ (j : ℕ) (part : Part) (there : slice_get (parts_of chips entry) j ≡ Some part) (s : Slot chips plans i wires start 0 planned.inner plan.parts.items j part) where
    abbrev feeds : List ℕ
    feeds = map (node_of base inputs) (feed_origins s.q.feeds)

    p : IsPlaced chips net s.x (base + s.q.offset) feeds (λ path. block (j ∷ path)) (λ path. at (j ∷ path))
    p = placed j s.x s.q s.plan_there s.part_there

    feeds_are : feeds ≡ map (λ o. node_at o base inputs) (part_origins wires part s.x)
    feeds_are = nodes_are base inputs (feed_origins s.q.feeds) ∙ ap (map (λ o. node_at o base inputs)) s.origins

    inside_is : (name : List ℕ) (bit : ℕ) → at (j ∷ []) name bit ≡ own_nodes (wires_of s.x.wires) (base + s.q.offset) feeds name bit
    inside_is name bit = p.own name bit ∙ node_is (base + s.q.offset) feeds (origin_at (wires_of s.x.wires) name bit)

    source_is : (src : Source) (k : ℕ) → source_value 0 1 src (own_nodes wires base inputs) k ≡ source_value 0 1 src (at []) k
    source_is (source.Net w) k = sym (own w.name (first w.subscript + k) ∙ node_is base inputs (origin_at wires w.name (first w.subscript + k)))
    source_is (source.Constant b) k = refl

    few : s.q.offset + s.x.size.nodes ≤ 16777216
    few = omega (arith, s.fits, sum_small)

    output_joined : (conn : Connection) (k : ℕ) (src : Source) → is_input s.x.entry.now conn.pin.name ≡ false → IsDriver (plan_of chips entry) entry j conn k src → at (j ∷ []) conn.pin.name (first conn.pin.subscript + k) ≡ source_value 0 1 src (at []) k
    output_joined conn k (source.Constant b) way d = absurd d
    output_joined conn k (source.Net w) way d =
        let bit = first conn.pin.subscript + k in
        let origin = origin_at (wires_of s.x.wires) conn.pin.name bit in
        let few_own : s.x.size.nodes ≤ 16777216 = omega (arith, few) in
        let is_own : IsOwn s.x.size.nodes origin = output_own chips plans shipped are s.r s.x s.at few_own conn.pin.name bit way in
        let number : j ≡ 0 + j = omega arith in
        let outside : found_bit w.name (first w.subscript + k) wires ≡ Some (moved_by s.q.offset origin) = driven_is w.name (first w.subscript + k) d.0 ∙ ap (with_place (gate_at start 0 planned.inner)) d.1 ∙ ap (λ (o : Fed). Some o) (s.gate j conn.pin.name bit number) in
        p.own conn.pin.name bit
        ∙ moved_node base s.q.offset s.x.size.nodes feeds inputs origin is_own few
        ∙ sym (own w.name (first w.subscript + k) ∙ ap (λ (o : Option Fed). node_of base inputs (unwrap_or o fed.Low)) outside)

    joined_by : (c : ℕ) (conn : Connection) → slice_get part.connections c ≡ Some conn → (b : Bool) → is_input s.x.entry.now conn.pin.name ≡ b → Joins 0 1 s.x.entry.now (at []) (at (j ∷ [])) conn
    joined_by c conn here false way k lt = output_joined conn k conn.source way (text.output j c k part s.x.entry.now conn there s.found here way lt)
    joined_by c conn here true way k lt =
        let bit = conn_fits chips planned.fine.outer entry planned.fine.faultless j c k part s.x.entry.now conn true there s.found here way lt in
        input_joined chips plans s.r entry j part s.x (are s.r s.x s.at) there s.found wires base (base + s.q.offset) inputs feeds feeds_are (at (j ∷ [])) inside_is text c k bit.width conn here way lt bit.there bit.below
        ∙ source_is conn.source k

    part_wired : PartWired 0 1 s.x.entry.now part (at []) (at (j ∷ []))
    part_wired = record {
      joined = each_of (Joins 0 1 s.x.entry.now (at []) (at (j ∷ []))) part.connections (λ c conn here. joined_by c conn here (is_input s.x.entry.now conn.pin.name) refl);
      unjoined = λ name width bit wide lt free.
          input_unjoined chips plans s.r entry j part s.x (are s.r s.x s.at) there s.found wires base (base + s.q.offset) inputs feeds feeds_are (at (j ∷ [])) inside_is text name width bit wide lt free;
    }

  -- ---- the whole

  same_chip : (part : Part) (a b : Entry) → find_chip chips part.chip ≡ Some a → find_chip chips part.chip ≡ Some b → a ≡ b
  same_chip part a b e f = let both : Some a ≡ Some b = sym e ∙ f in cc

  parts_wired : PartsWired 0 1 chips entry (parts_of chips entry) (at []) (λ j. at (j ∷ []))
  parts_wired = record {
    part = λ j part inner there found.
        let s = slot j part there in
        subst (λ (c : Entry). PartWired 0 1 c part (at []) (at (j ∷ []))) (same_chip part s.x.entry.now inner s.found found) (part_wired j part there s);
    undriven = undriven;
  }

  parts_same : parts_of chips entry ≡ parts_of_body entry.chip.body
  parts_same = ap (λ (o : Option End). parts_unless o (parts_of_body entry.chip.body)) no_end

  abbrev works : List ℕ → End → Type 0
  works path e = EndStands net 0 (block path) e (at path)

  chip_wired : ChipWired 0 1 chips entry (end_of chips.memories entry) (at []) (λ j. at (j ∷ [])) (works [])
  chip_wired = subst (λ (o : Option End). ChipWired 0 1 chips entry o (at []) (λ j. at (j ∷ [])) (works [])) (sym no_end)
      (subst (λ (ps : List Part). PartsWired 0 1 chips entry ps (at []) (λ j. at (j ∷ []))) parts_same parts_wired)

  all_wired : Wired 0 1 chips entry works at
  all_wired [] c h = let same : entry ≡ c = cc in subst (λ (e : Entry). ChipWired 0 1 chips e (end_of chips.memories e) (at []) (λ j. at (j ∷ [])) (works [])) same chip_wired
  all_wired (j ∷ path) c h =
      let a = at_part chips entry j path c h in
      let t = part_there chips (slice_get (parts_of chips entry) j) a.inner a.found in
      let s = slot j t.part t.there in
      let same = same_chip t.part a.inner s.x.entry.now t.found s.found in
      (placed j s.x s.q s.plan_there s.part_there).wired path c (subst (λ (e : Entry). chip_at chips e path ≡ Some c) same a.rest)

  own_none : start.nodes ≡ 0
  own_none = ap end_nodes no_end

  end_bit : (k : ℕ) → base ≤ k → k < base + plan.size.nodes → IsEndBit chips entry at k
  end_bit k from to =
      let c = covered chips plans i wires (k - base) start (parts_of chips entry) planned.inner plan.parts.items planned.placed planned.parts sum_small (omega (arith, own_none)) (omega (arith, sum_is, from, to)) in
      let e = (placed c.j c.x c.q c.plan_there c.part_there).ends k (omega (arith, from, c.from)) (omega (arith, from, c.to)) in
      record {
        path = c.j ∷ e.path;
        chip = e.chip;
        e = e.e;
        bit = e.bit;
        there = part_at chips entry c.j e.path c.x.entry.now e.chip (ap (chip_of chips) c.there ∙ c.found) e.there;
        is_end = e.is_end;
        below = e.below;
        node = e.node;
      }

  in_part : (k : ℕ) (path : List ℕ) (chip : Entry) (e : End) (bit : ℕ) → chip_at chips entry path ≡ Some chip → end_of chips.memories chip ≡ Some e → bit < end_nodes (Some e) → at path (codes "out") bit ≡ k → InPart chips planned.inner plan.parts.items at plan.size.nodes k path bit
  in_part k [] chip e bit h is lt node =
      let same : entry ≡ chip = cc in
      let none : None ≡ Some e = sym no_end ∙ ap (λ (c : Entry). end_of chips.memories c) same ∙ is in
      absurd cc
  in_part k (j ∷ path) chip e bit h is lt node =
      let a = at_part chips entry j path chip h in
      let t = part_there chips (slice_get (parts_of chips entry) j) a.inner a.found in
      let s = slot j t.part t.there in
      let same = same_chip t.part a.inner s.x.entry.now t.found s.found in
      record {
        j = j;
        x = s.x;
        q = s.q;
        plan_there = s.plan_there;
        part_there = s.part_there;
        fits = omega (arith, s.fits, sum_is);
        inner = record { path = path; chip = chip; e = e; bit = bit; there = subst (λ (c : Entry). chip_at chips c path ≡ Some chip) same a.rest; is_end = is; below = lt; node = node };
        path_is = refl;
        bit_is = refl;
      }

  abbrev HasPart : ℕ → List ℕ → ℕ → Type 0
  HasPart k path bit = InPart chips planned.inner plan.parts.items at plan.size.nodes k path bit

  found_part : (k : ℕ) (x : IsEndBit chips entry at k) → HasPart k x.path x.bit
  found_part k x = in_part k x.path x.chip x.e x.bit x.there x.is_end x.below x.node

  part_inside : (k : ℕ) (path : List ℕ) (bit : ℕ) (a : HasPart k path bit) → (base + a.q.offset ≤ k) × (k < (base + a.q.offset) + a.x.size.nodes)
  part_inside k path bit a = (placed a.j a.x a.q a.plan_there a.part_there).inside k a.inner

  inside : (k : ℕ) → IsEndBit chips entry at k → (base ≤ k) × (k < base + plan.size.nodes)
  inside k x =
      let a = found_part k x in
      let h = part_inside k x.path x.bit a in
      let fits : a.q.offset + a.x.size.nodes ≤ plan.size.nodes = a.fits in
      (omega (arith, h.0), omega (arith, h.1, fits))

  not_before : (k : ℕ) (path other : List ℕ) (bit n : ℕ) (a : HasPart k path bit) (b : HasPart k other n) → a.j < b.j → ⊥
  not_before k path other bit n a b lt =
      let order = stands_behind wires start (parts_of chips entry) planned.inner plan.parts.items a.j b.j a.x a.q b.q planned.parts sum_small a.plan_there a.part_there b.part_there lt in
      omega (arith, order, (part_inside k path bit a).1, (part_inside k other n b).0)

  not_behind : (k : ℕ) (path other : List ℕ) (bit n : ℕ) (a : HasPart k path bit) (b : HasPart k other n) → b.j ≤ a.j
  not_behind k path other bit n a b = elim (leb_tells b.j a.j) [ inl h ↦ h.1 | inr h ↦ absurd (not_before k path other bit n a b h.1) ]

  same_bit : (k : ℕ) (path other : List ℕ) (bit n : ℕ) (a : HasPart k path bit) (b : HasPart k other n) → (path ≡ other) × (bit ≡ n)
  same_bit k path other bit n a b =
      let same : a.j ≡ b.j = omega (arith, not_behind k path other bit n a b, not_behind k other path n bit b a) in
      let both : Some a.x ≡ Some b.x = sym a.plan_there ∙ ap (slice_get planned.inner) same ∙ b.plan_there in
      let plan_same : a.x ≡ b.x = plan_is a.x b.x both in
      let moved : IsEndBit chips a.x.entry.now (λ rest. at (a.j ∷ rest)) k = record {
        path = b.inner.path;
        chip = b.inner.chip;
        e = b.inner.e;
        bit = b.inner.bit;
        there = subst (λ (z : Plan). chip_at chips z.entry.now b.inner.path ≡ Some b.inner.chip) (sym plan_same) b.inner.there;
        is_end = b.inner.is_end;
        below = b.inner.below;
        node = subst (λ (m : ℕ). at (m ∷ b.inner.path) (codes "out") b.inner.bit ≡ k) (sym same) b.inner.node;
      } in
      let h = (placed a.j a.x a.q a.plan_there a.part_there).alone k a.inner moved in
      (a.path_is ∙ ap (λ (p : List ℕ). a.j ∷ p) h.0 ∙ ap (λ (m : ℕ). m ∷ b.inner.path) same ∙ sym b.path_is, a.bit_is ∙ h.1 ∙ sym b.bit_is)

  alone : (k : ℕ) (x y : IsEndBit chips entry at k) → (x.path ≡ y.path) × (x.bit ≡ y.bit)
  alone k x y = same_bit k x.path y.path x.bit y.bit (found_part k x) (found_part k y)

pub composite : (chips : Chips) (net : Net) (plans : List Plan) (i : ℕ) (plan : Plan) (planned : IsPlanned chips plans i plan) → ArePlans chips plans → EndsHavePins chips → end_of chips.memories plan.entry.now ≡ None → plan.size.nodes ≤ 16777216 →
    (base : ℕ) (inputs : List ℕ) (block : List ℕ → ℕ) (at : List ℕ → Wires ℕ) →
    ((name : List ℕ) (bit : ℕ) → at [] name bit ≡ node_of base inputs (origin_at (wires_of plan.wires) name bit)) →
    ((j : ℕ) (x : Plan) (q : PartPlan) → slice_get planned.inner j ≡ Some x → slice_get plan.parts.items j ≡ Some q → IsPlaced chips net x (base + q.offset) (map (node_of base inputs) (feed_origins q.feeds)) (λ path. block (j ∷ path)) (λ path. at (j ∷ path))) →
    IsPlaced chips net plan base inputs block at
composite chips net plans i plan planned are shipped no_end small base inputs block at own placed = record {
  own = own;
  wired = all_wired chips net plans i plan planned are shipped no_end small base inputs block at own placed;
  ends = end_bit chips net plans i plan planned are shipped no_end small base inputs block at own placed;
  inside = inside chips net plans i plan planned are shipped no_end small base inputs block at own placed;
  alone = alone chips net plans i plan planned are shipped no_end small base inputs block at own placed;
}
