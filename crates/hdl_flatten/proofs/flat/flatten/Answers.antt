use Rattle.std.proofs.Common.{◌≡◌, ℕ, ◌+◌, ◌++◌, ◌≤◌, List, length, Some, ap, sym, subst, ◌∙◌, arith}
use Rattle.std.specs.Prelude.{slice_get}
use Rattle.hdl_tree.specs.Chips.{Chips}
use Rattle.hdl_check.specs.Inner.Progress.{chips_of}
use Rattle.hdl_check.specs.Whole.{chips_in, TopIsFaultless}
use Rattle.hdl_check.proofs.Tops.{same_chips}
use Rattle.hdl_flatten.specs.declared.plan.Plan.{Plan}
use Rattle.hdl_flatten.specs.declared.flat.Flat.{Flat}
use Rattle.hdl_flatten.specs.declared.flat.Growing.{Growing}
use Rattle.hdl_flatten.specs.Ends.{EndsHavePins}
use Rattle.hdl_flatten.specs.Inner.Plans.{ArePlans}
use Rattle.hdl_flatten.specs.Inner.Putting.{AreWithin, MayPut, IsPut, constants, from_two, pins}
use Rattle.hdl_flatten.specs.Inner.Wired.{wires_of}
use Rattle.hdl_flatten.proofs.Flattened.{Top, top_place, top_in, top_fits, top_may, flat_is, flat_in, long_two, all_within}
use Rattle.hdl_flatten.proofs.flat.flatten.Goals as goal

pub nest_of-requires-clause-fine : goal.nest_of-requires-clause-fine
nest_of-requires-clause-fine c =
    let seen = chips_of c.in_ok-catalog.catalog in
    let chips = chips_in c.args.library.now.entries c.args.memories in
    let same : seen ≡ chips = same_chips c.in_ok-catalog.catalog.entries.now c.args.library.now.entries c.in_ok-catalog.catalog.memories c.args.memories c.in_ok-catalog.ensures.entries c.in_ok-catalog.ensures.memories in
    subst (λ (name : List ℕ). TopIsFaultless seen name) (sym c.as_bytes.ensures) (subst (λ (x : Chips). TopIsFaultless x c.args.top.now) (sym same) c.requires.fine)

pub nest_of-requires-clause-ends : goal.nest_of-requires-clause-ends
nest_of-requires-clause-ends c =
    let seen = chips_of c.in_ok-catalog.catalog in
    let chips = chips_in c.args.library.now.entries c.args.memories in
    let same : seen ≡ chips = same_chips c.in_ok-catalog.catalog.entries.now c.args.library.now.entries c.in_ok-catalog.catalog.memories c.args.memories c.in_ok-catalog.ensures.entries c.in_ok-catalog.ensures.memories in
    subst EndsHavePins (sym same) c.requires.ends

pub plans_of-requires-clause-ends : goal.plans_of-requires-clause-ends
plans_of-requires-clause-ends c =
    let seen = chips_of c.in_ok-catalog.catalog in
    let chips = chips_in c.args.library.now.entries c.args.memories in
    let same : seen ≡ chips = same_chips c.in_ok-catalog.catalog.entries.now c.args.library.now.entries c.in_ok-catalog.catalog.memories c.args.memories c.in_ok-catalog.ensures.entries c.in_ok-catalog.ensures.memories in
    subst EndsHavePins (sym same) c.requires.ends

pub put-requires-clause-ends : goal.put-requires-clause-ends
put-requires-clause-ends c =
    let seen = chips_of c.in_ok-catalog.catalog in
    let chips = chips_in c.args.library.now.entries c.args.memories in
    let same : seen ≡ chips = same_chips c.in_ok-catalog.catalog.entries.now c.args.library.now.entries c.in_ok-catalog.catalog.memories c.args.memories c.in_ok-catalog.ensures.entries c.in_ok-catalog.ensures.memories in
    subst EndsHavePins (sym same) c.requires.ends

pub index-plan-requires : goal.index-plan-requires
index-plan-requires c =
    let lt = top_place (chips_of c.in_ok-catalog.catalog) c.as_bytes.result.now c.in_ok-nest.nest c.in_ok-plans.plans.items c.in_ok-nest.ensures (c.in_ok-plans.ensures.long ∙ ap length c.deref.ensures.value) in
    omega (arith, lt, c.in_ok-plans.plans.ok.0)

pub input_nodes-requires : goal.input_nodes-requires
input_nodes-requires c =
    let seen = chips_of c.in_ok-catalog.catalog in
    let chips = chips_in c.args.library.now.entries c.args.memories in
    let same : seen ≡ chips = same_chips c.in_ok-catalog.catalog.entries.now c.args.library.now.entries c.in_ok-catalog.catalog.memories c.args.memories c.in_ok-catalog.ensures.entries c.in_ok-catalog.ensures.memories in
    let nest = c.in_ok-nest.nest in
    let plans = c.in_ok-plans.plans.items in
    let plan = c.index-plan.result.now in
    let t : Top seen c.args.top.now plans nest.top plan = top_in seen chips c.args.top.now c.as_bytes.result.now nest c.deref.result.now plans plan same c.as_bytes.ensures c.deref.ensures.value c.in_ok-nest.ensures c.in_ok-plans.ensures.plans c.in_ok-plans.ensures.follow c.in_ok-plans.ensures.long c.requires.ends c.requires.few c.index-plan.ensures in
    let fits = top_fits seen c.args.top.now plans nest.top plan t in
    omega (arith, fits, c.len.ensures, plan.inputs.ok.0)

pub put-requires-clause-plans : goal.put-requires-clause-plans
put-requires-clause-plans c = subst (λ (ps : List Plan). ArePlans (chips_of c.in_ok-catalog.catalog) ps) (sym c.deref-2.ensures.value) c.in_ok-plans.ensures.plans

pub put-requires-clause-put : goal.put-requires-clause-put
put-requires-clause-put c =
    let seen = chips_of c.in_ok-catalog.catalog in
    let chips = chips_in c.args.library.now.entries c.args.memories in
    let same : seen ≡ chips = same_chips c.in_ok-catalog.catalog.entries.now c.args.library.now.entries c.in_ok-catalog.catalog.memories c.args.memories c.in_ok-catalog.ensures.entries c.in_ok-catalog.ensures.memories in
    let nest = c.in_ok-nest.nest in
    let plans = c.in_ok-plans.plans.items in
    let plan = c.index-plan.result.now in
    let t : Top seen c.args.top.now plans nest.top plan = top_in seen chips c.args.top.now c.as_bytes.result.now nest c.deref.result.now plans plan same c.as_bytes.ensures c.deref.ensures.value c.in_ok-nest.ensures c.in_ok-plans.ensures.plans c.in_ok-plans.ensures.follow c.in_ok-plans.ensures.long c.requires.ends c.requires.few c.index-plan.ensures in
    let count : c.len.result ≡ length plan.inputs.items = c.len.ensures ∙ plan.inputs.ok.0 in
    let fed : c.in_ok-inputs.inputs.items ≡ from_two (length plan.inputs.items) = c.in_ok-inputs.ensures ∙ ap from_two count in
    let long : length c.in_ok-inputs.inputs.items ≡ length plan.inputs.items = ap length fed ∙ long_two (length plan.inputs.items) in
    let begun : c.in_ok-flat.flat.nodes.items ≡ constants ++ pins (length c.in_ok-inputs.inputs.items) = c.in_ok-flat.ensures.nodes ∙ ap (λ (n : ℕ). constants ++ pins n) (c.len-2.ensures ∙ c.in_ok-inputs.inputs.ok.0) in
    subst (λ (ps : List Plan). MayPut ps nest.top c.deref-3.result.now c.in_ok-flat.flat) (sym c.deref-2.ensures.value)
    (subst (λ (is : List ℕ). MayPut plans nest.top is c.in_ok-flat.flat) (sym c.deref-3.ensures.value)
    (top_may seen c.args.top.now plans nest.top plan t c.in_ok-inputs.inputs.items c.in_ok-flat.flat long begun c.in_ok-flat.ensures.blocks))

pub directory-requires-clause-base : goal.directory-requires-clause-base
directory-requires-clause-base c =
    let seen = chips_of c.in_ok-catalog.catalog in
    let chips = chips_in c.args.library.now.entries c.args.memories in
    let same : seen ≡ chips = same_chips c.in_ok-catalog.catalog.entries.now c.args.library.now.entries c.in_ok-catalog.catalog.memories c.args.memories c.in_ok-catalog.ensures.entries c.in_ok-catalog.ensures.memories in
    let nest = c.in_ok-nest.nest in
    let plans = c.in_ok-plans.plans.items in
    let plan = c.index-plan.result.now in
    let t : Top seen c.args.top.now plans nest.top plan = top_in seen chips c.args.top.now c.as_bytes.result.now nest c.deref.result.now plans plan same c.as_bytes.ensures c.deref.ensures.value c.in_ok-nest.ensures c.in_ok-plans.ensures.plans c.in_ok-plans.ensures.follow c.in_ok-plans.ensures.long c.requires.ends c.requires.few c.index-plan.ensures in
    let count : c.len.result ≡ length plan.inputs.items = c.len.ensures ∙ plan.inputs.ok.0 in
    let fed : c.in_ok-inputs.inputs.items ≡ from_two (length plan.inputs.items) = c.in_ok-inputs.ensures ∙ ap from_two count in
    let long : length c.in_ok-inputs.inputs.items ≡ length plan.inputs.items = ap length fed ∙ long_two (length plan.inputs.items) in
    let begun : c.in_ok-flat.flat.nodes.items ≡ constants ++ pins (length c.in_ok-inputs.inputs.items) = c.in_ok-flat.ensures.nodes ∙ ap (λ (n : ℕ). constants ++ pins n) (c.len-2.ensures ∙ c.in_ok-inputs.inputs.ok.0) in
    let base : c.len-base.result ≡ length c.in_ok-flat.flat.nodes.items = c.len-base.ensures ∙ c.in_ok-flat.flat.nodes.ok.0 in
    let may = top_may seen c.args.top.now plans nest.top plan t c.in_ok-inputs.inputs.items c.in_ok-flat.flat long begun c.in_ok-flat.ensures.blocks in
    let room : length c.in_ok-flat.flat.nodes.items + may.plan.size.nodes ≤ 16777216 = may.room in
    omega (arith, room, base)

pub directory-requires-clause-within : goal.directory-requires-clause-within
directory-requires-clause-within c =
    let seen = chips_of c.in_ok-catalog.catalog in
    let chips = chips_in c.args.library.now.entries c.args.memories in
    let same : seen ≡ chips = same_chips c.in_ok-catalog.catalog.entries.now c.args.library.now.entries c.in_ok-catalog.catalog.memories c.args.memories c.in_ok-catalog.ensures.entries c.in_ok-catalog.ensures.memories in
    let nest = c.in_ok-nest.nest in
    let plans = c.in_ok-plans.plans.items in
    let plan = c.index-plan.result.now in
    let t : Top seen c.args.top.now plans nest.top plan = top_in seen chips c.args.top.now c.as_bytes.result.now nest c.deref.result.now plans plan same c.as_bytes.ensures c.deref.ensures.value c.in_ok-nest.ensures c.in_ok-plans.ensures.plans c.in_ok-plans.ensures.follow c.in_ok-plans.ensures.long c.requires.ends c.requires.few c.index-plan.ensures in
    let count : c.len.result ≡ length plan.inputs.items = c.len.ensures ∙ plan.inputs.ok.0 in
    let fed : c.in_ok-inputs.inputs.items ≡ from_two (length plan.inputs.items) = c.in_ok-inputs.ensures ∙ ap from_two count in
    let long : length c.in_ok-inputs.inputs.items ≡ length plan.inputs.items = ap length fed ∙ long_two (length plan.inputs.items) in
    subst (λ (n : ℕ). AreWithin n 16777216 (wires_of plan.wires)) (sym long) (all_within seen c.args.top.now plans nest.top plan t)

pub returns : goal.returns
returns c = λ chip found.
    let seen = chips_of c.in_ok-catalog.catalog in
    let chips = chips_in c.args.library.now.entries c.args.memories in
    let same : seen ≡ chips = same_chips c.in_ok-catalog.catalog.entries.now c.args.library.now.entries c.in_ok-catalog.catalog.memories c.args.memories c.in_ok-catalog.ensures.entries c.in_ok-catalog.ensures.memories in
    let nest = c.in_ok-nest.nest in
    let plans = c.in_ok-plans.plans.items in
    let plan = c.index-plan.result.now in
    let t : Top seen c.args.top.now plans nest.top plan = top_in seen chips c.args.top.now c.as_bytes.result.now nest c.deref.result.now plans plan same c.as_bytes.ensures c.deref.ensures.value c.in_ok-nest.ensures c.in_ok-plans.ensures.plans c.in_ok-plans.ensures.follow c.in_ok-plans.ensures.long c.requires.ends c.requires.few c.index-plan.ensures in
    let count : c.len.result ≡ length plan.inputs.items = c.len.ensures ∙ plan.inputs.ok.0 in
    let fed : c.in_ok-inputs.inputs.items ≡ from_two (length plan.inputs.items) = c.in_ok-inputs.ensures ∙ ap from_two count in
    let begun : c.in_ok-flat.flat.nodes.items ≡ constants ++ pins (length c.in_ok-inputs.inputs.items) = c.in_ok-flat.ensures.nodes ∙ ap (λ (n : ℕ). constants ++ pins n) (c.len-2.ensures ∙ c.in_ok-inputs.inputs.ok.0) in
    let base : c.len-base.result ≡ length c.in_ok-flat.flat.nodes.items = c.len-base.ensures ∙ c.in_ok-flat.flat.nodes.ok.0 in
    let inputs = c.in_ok-inputs.inputs.items in
    let old : Growing = c.in_ok-flat.flat in
    let new : Growing = c.put.new.flat in
    let flat : Flat = c.with_pins.result in
    let put : (x : Plan) → slice_get plans nest.top ≡ Some x → IsPut seen x inputs old new = subst (λ (is : List ℕ). (x : Plan) → slice_get plans nest.top ≡ Some x → IsPut seen x is old new) c.deref-3.ensures.value
    (subst (λ (ps : List Plan). (x : Plan) → slice_get ps nest.top ≡ Some x → IsPut seen x c.deref-3.result.now old new) c.deref-2.ensures.value c.in_ok-put.ensures) in
    flat_in seen chips c.args.top.now plans nest.top plan flat same t
    (flat_is seen c.args.top.now plans nest.top plan t inputs old new fed begun c.in_ok-flat.ensures.blocks c.in_ok-flat.ensures.parts put c.len-base.result base flat c.with_pins.ensures.nodes c.with_pins.ensures.blocks c.with_pins.ensures.parts (c.with_pins.ensures.pins ∙ c.in_ok-pins.ensures)) chip found
