-- The plan of a chip in the code: its size, what feeds its bits, and what feeds the input bits of its parts.
use Rattle.std.specs.Prelude.{◌≡◌, ℕ, zero, suc, ◌+◌, ◌<◌, List, [], ◌∷◌, ◌++◌, map, Option, Some, None, cond, length, slice_get, slice_index_or, if◌then◌else◌}
use Rattle.hdl_tree.specs.declared.tree.Source.{Source}
use Rattle.hdl_tree.specs.declared.tree.Source.TheVariants as source
use Rattle.hdl_tree.specs.declared.tree.Connection.{Connection}
use Rattle.hdl_tree.specs.declared.tree.Part.{Part}
use Rattle.hdl_tree.specs.declared.library.Entry.{Entry}
use Rattle.hdl_tree.specs.declared.ends.End.{End}
use Rattle.hdl_tree.specs.Chips.{Chips, end_of, find_chip, parts_of, first, count}
use Rattle.name_table.specs.Names.{find_value}
use Rattle.hdl_check.specs.Tables.{BitOf}
use Rattle.hdl_check.specs.Faults.{ports_of}
use Rattle.hdl_check.specs.declared.check.Port.{Port}
use Rattle.hdl_flatten.specs.declared.size.Size.{Size}
use Rattle.hdl_flatten.specs.declared.wires.Origin.{Origin}
use Rattle.hdl_flatten.specs.declared.wires.Origin.TheVariants.{Low, High, Input, Gate}
use Rattle.hdl_flatten.specs.declared.nest.Nested.{Nested}
use Rattle.hdl_flatten.specs.declared.plan.Plan.{Plan}
use Rattle.hdl_flatten.specs.declared.plan.PartPlan.{PartPlan}
use Rattle.hdl_flatten.specs.Trees.{capped_count, all_bits, chip_nodes}
use Rattle.hdl_flatten.specs.Inner.Nests.{IsFine}
use Rattle.hdl_flatten.specs.Inner.Feeds.{feed_origins, FewAre}
use Rattle.hdl_flatten.specs.Inner.Sizes.{joined_size}
use Rattle.hdl_flatten.specs.Inner.Wired.{bit_of, wires_of, origin_at, origins_at, found_bit}

-- ---- entries

-- bits one after another, numbered from k on
abbrev pub numbered_bits : (ℕ → Origin) → ℕ → List BitOf → List (BitOf × Origin)
numbered_bits f k [] = []
numbered_bits f k (b ∷ bs) = (b, f k) ∷ numbered_bits f (suc k) bs

-- what an output bit of a part is in the chip around it, where the part's nodes begin at the offset
abbrev pub moved_by : ℕ → Origin → Origin
moved_by offset Low = Low
moved_by offset High = Low
moved_by offset (Input k) = Low
moved_by offset (Gate k) = Gate (capped_count (offset + k))

-- what n bits of a part's pin, from one on, drive: those of a net
abbrev pub driven_bits : List (BitOf × Origin) → ℕ → List ℕ → ℕ → List ℕ → ℕ → ℕ → List (BitOf × Origin)
driven_bits inner offset pin from net to zero = []
driven_bits inner offset pin from net to (suc n) = driven_bits inner offset pin from net to n ++ (record { name = net; bit = to + n }, moved_by offset (origin_at inner pin (from + n))) ∷ []

abbrev pub driven_to : List (BitOf × Origin) → ℕ → Connection → ℕ → Source → List (BitOf × Origin)
driven_to inner offset conn n (source.Net w) = driven_bits inner offset conn.pin.name (first conn.pin.subscript) w.name (first w.subscript) n
driven_to inner offset conn n (source.Constant b) = []

abbrev pub driven_by : List (BitOf × Origin) → ℕ → Option Port → Connection → List (BitOf × Origin)
driven_by inner offset None conn = []
driven_by inner offset (Some port) conn = if port.input then [] else driven_to inner offset conn (count conn.pin.subscript port.width) conn.source

abbrev pub all_driven : List (BitOf × Origin) → ℕ → List (List ℕ × Port) → List Connection → List (BitOf × Origin)
all_driven inner offset ports [] = []
all_driven inner offset ports (conn ∷ conns) = driven_by inner offset (find_value conn.pin.name ports) conn ++ all_driven inner offset ports conns

-- bit k of a right side
abbrev pub source_at : List (BitOf × Origin) → Source → ℕ → Origin
source_at wires (source.Net w) k = origin_at wires w.name (first w.subscript + k)
source_at wires (source.Constant b) k = cond b High Low

abbrev pub fed_bits : List (BitOf × Origin) → Source → List ℕ → ℕ → ℕ → List (BitOf × Origin)
fed_bits wires from pin at zero = []
fed_bits wires from pin at (suc n) = fed_bits wires from pin at n ++ (record { name = pin; bit = at + n }, source_at wires from n) ∷ []

abbrev pub fed_by : List (BitOf × Origin) → Option Port → Connection → List (BitOf × Origin)
fed_by wires None conn = []
fed_by wires (Some port) conn = if port.input then fed_bits wires conn.source conn.pin.name (first conn.pin.subscript) (count conn.pin.subscript port.width) else []

abbrev pub all_fed : List (BitOf × Origin) → List (List ℕ × Port) → List Connection → List (BitOf × Origin)
all_fed wires ports [] = []
all_fed wires ports (conn ∷ conns) = fed_by wires (find_value conn.pin.name ports) conn ++ all_fed wires ports conns

-- ---- parts, each with the plan of its chip

-- with the parts of these plans
abbrev pub all_sized : Size → List Plan → Size
all_sized size [] = size
all_sized size (x ∷ xs) = all_sized (joined_size size x.size) xs

abbrev pub parts_driven : Size → List Part → List Plan → List (BitOf × Origin)
parts_driven size [] xs = []
parts_driven size (p ∷ ps) [] = []
parts_driven size (p ∷ ps) (x ∷ xs) = all_driven (wires_of x.wires) size.nodes (ports_of x.entry.now.chip) p.connections ++ parts_driven (joined_size size x.size) ps xs

-- what feeds the input bits of a part
abbrev pub part_entries : List (BitOf × Origin) → Part → Plan → List (BitOf × Origin)
part_entries wires p x = all_fed wires (ports_of x.entry.now.chip) p.connections

abbrev pub part_origins : List (BitOf × Origin) → Part → Plan → List Origin
part_origins wires p x = origins_at (part_entries wires p x) (map bit_of x.inputs.items)

pub record IsPartPlan (wires : List (BitOf × Origin)) (size : Size) (p : Part) (x : Plan) (q : PartPlan) : Type 0 where
  pub offset : q.offset ≡ size.nodes
  pub origins : feed_origins q.feeds ≡ part_origins wires p x
  pub few : FewAre q.feeds (map bit_of x.inputs.items) (part_entries wires p x)

abbrev pub ArePartPlans : List (BitOf × Origin) → Size → List Part → List Plan → List PartPlan → Type 0
ArePartPlans wires size [] xs [] = Unit {0}
ArePartPlans wires size [] xs (q ∷ qs) = ⊥
ArePartPlans wires size (p ∷ ps) [] [] = Unit {0}
ArePartPlans wires size (p ∷ ps) [] (q ∷ qs) = ⊥
ArePartPlans wires size (p ∷ ps) (x ∷ xs) [] = ⊥
ArePartPlans wires size (p ∷ ps) (x ∷ xs) (q ∷ qs) = IsPartPlan wires size p x q × ArePartPlans wires (joined_size size x.size) ps xs qs

-- the plan of the part's chip stands at its place, before i
pub record HasPlan (chips : Chips) (plans : List Plan) (i : ℕ) (p : Part) (x : Plan) (r : ℕ) : Type 0 where
  pub before : r < i
  pub at : slice_get plans r ≡ Some x
  pub found : find_chip chips p.chip ≡ Some x.entry.now

abbrev pub HavePlans : Chips → List Plan → ℕ → List Part → List Plan → List ℕ → Type 0
HavePlans chips plans i [] [] [] = Unit {0}
HavePlans chips plans i [] [] (r ∷ rs) = ⊥
HavePlans chips plans i [] (x ∷ xs) rs = ⊥
HavePlans chips plans i (p ∷ ps) [] rs = ⊥
HavePlans chips plans i (p ∷ ps) (x ∷ xs) [] = ⊥
HavePlans chips plans i (p ∷ ps) (x ∷ xs) (r ∷ rs) = HasPlan chips plans i p x r × HavePlans chips plans i ps xs rs

-- the plans at these places
abbrev pub plan_or : List Plan → Option Plan → List Plan
plan_or rest None = rest
plan_or rest (Some x) = x ∷ rest

abbrev pub plans_at : List Plan → List ℕ → List Plan
plans_at plans [] = []
plans_at plans (r ∷ rs) = plan_or (plans_at plans rs) (slice_get plans r)

-- ---- a whole chip

abbrev pub places : List PartPlan → List ℕ
places qs = map (λ q. q.place) qs

-- an end has its output bits as nodes
abbrev pub end_gates : Option End → List BitOf → List (BitOf × Origin)
end_gates None bits = []
end_gates (Some e) bits = numbered_bits Gate 0 bits

abbrev pub own_size : Chips → Entry → Size
own_size chips entry = record { nodes = chip_nodes chips entry; parts = 0 }

-- what feeds each bit of the chip
abbrev pub own_wires : Chips → Entry → List Plan → List (BitOf × Origin)
own_wires chips entry inner = numbered_bits Input 0 (all_bits entry.chip.inputs) ++ (end_gates (end_of chips.memories entry) (all_bits entry.chip.outputs) ++ parts_driven (own_size chips entry) (parts_of chips entry) inner)

pub record IsPlanned (chips : Chips) (plans : List Plan) (i : ℕ) (plan : Plan) : Type 0 where
  pub there : slice_get chips.entries plan.number ≡ Some plan.entry.now
  pub fine : IsFine chips plan.entry.now
  pub is_end : plan.end ≡ end_of chips.memories plan.entry.now
  pub inner : List Plan
  pub placed : HavePlans chips plans i (parts_of chips plan.entry.now) inner (places plan.parts.items)
  pub size : plan.size ≡ all_sized (own_size chips plan.entry.now) inner
  pub inputs : map bit_of plan.inputs.items ≡ all_bits plan.entry.now.chip.inputs
  pub wires : (name : List ℕ) (bit : ℕ) → found_bit name bit (wires_of plan.wires) ≡ found_bit name bit (own_wires chips plan.entry.now inner)
  pub outs : plan.outs.items ≡ origins_at (wires_of plan.wires) (all_bits plan.entry.now.chip.outputs)
  pub parts : ArePartPlans (wires_of plan.wires) (own_size chips plan.entry.now) (parts_of chips plan.entry.now) inner plan.parts.items

abbrev pub ArePlans : Chips → List Plan → Type 0
ArePlans chips plans = (i : ℕ) (plan : Plan) → slice_get plans i ≡ Some plan → IsPlanned chips plans i plan

-- what the code wants of the plans at hand: each place has one, each of a chip that is there, with its input bits
pub record AreAtHand (chips : Chips) (plans : List Plan) (rs : List ℕ) : Type 0 where
  pub within : (k d : ℕ) → k < length rs → slice_index_or rs k d < length plans
  pub there : (i : ℕ) (plan : Plan) → slice_get plans i ≡ Some plan → slice_get chips.entries plan.number ≡ Some plan.entry.now
  pub inputs : (i : ℕ) (plan : Plan) → slice_get plans i ≡ Some plan → map bit_of plan.inputs.items ≡ all_bits plan.entry.now.chip.inputs

-- the plans are those of the chips that stand first in a nest
abbrev pub FollowNest : List Nested → List Plan → Type 0
FollowNest nest plans = (i : ℕ) (nested : Nested) (plan : Plan) → slice_get nest i ≡ Some nested → slice_get plans i ≡ Some plan → plan.number ≡ nested.number
