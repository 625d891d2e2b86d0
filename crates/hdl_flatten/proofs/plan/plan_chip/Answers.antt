use Rattle.std.proofs.Common.{◌≡◌, ℕ, List, length, map, ap, sym, subst, ◌∙◌, refl}
use Rattle.hdl_tree.specs.declared.tree.Part.{Part}
use Rattle.hdl_check.specs.Inner.Progress.{chips_of}
use Rattle.hdl_flatten.specs.Trees.{all_bits, end_nodes}
use Rattle.hdl_flatten.specs.declared.size.Size.{Size}
use Rattle.hdl_flatten.specs.declared.wires.Bit.{Bit}
use Rattle.hdl_flatten.specs.Inner.Wired.{bit_of, wires_of, found_bit, origins_at}
use Rattle.hdl_flatten.specs.Inner.Plans.{AreAtHand, ArePartPlans, all_sized, plans_at, own_size, own_wires}
use Rattle.hdl_flatten.proofs.Planning.{at_hand, parts_long, placed, few_outputs, plan_is}
use Rattle.hdl_flatten.proofs.plan.plan_chip.Goals as goal

pub wires_in-requires-clause-plans : goal.wires_in-requires-clause-plans
wires_in-requires-clause-plans c =
    let chips = chips_of c.args.catalog.now in
    subst (λ (rs : List ℕ). AreAtHand chips c.args.plans.now rs) (sym c.deref.ensures.value) (at_hand chips c.args.nest.now c.args.plans.now c.args.nested.now c.requires.nested c.requires.planned)

pub wires_in-requires-clause-inputs : goal.wires_in-requires-clause-inputs
wires_in-requires-clause-inputs c = ap (λ (bs : List Bit). map bit_of bs) c.deref-2.ensures.value ∙ c.in_ok-inputs.ensures ∙ ap all_bits c.as_slice.ensures

pub wires_in-requires-clause-outputs : goal.wires_in-requires-clause-outputs
wires_in-requires-clause-outputs c = ap (λ (bs : List Bit). map bit_of bs) c.deref-3.ensures.value ∙ c.in_ok-outputs.ensures ∙ ap all_bits c.as_slice-2.ensures

pub wires_in-requires-clause-few : goal.wires_in-requires-clause-few
wires_in-requires-clause-few c =
    let chips = chips_of c.args.catalog.now in
    let entry = c.entry_at-entry.result.now in
    let f = placed chips c.args.nest.now c.args.plans.now c.args.nested.now c.requires.nested c.requires.planned c.requires.plans entry c.entry_at-entry.ensures in
    let bits : map bit_of c.deref-3.result.now ≡ all_bits entry.chip.outputs = ap (λ (bs : List Bit). map bit_of bs) c.deref-3.ensures.value ∙ c.in_ok-outputs.ensures ∙ ap all_bits c.as_slice-2.ensures in
    few_outputs chips entry c.deref-3.result.now c.requires.ends f.0 bits

pub plan_parts-requires-clause-plans : goal.plan_parts-requires-clause-plans
plan_parts-requires-clause-plans c =
    let chips = chips_of c.args.catalog.now in
    subst (λ (rs : List ℕ). AreAtHand chips c.args.plans.now rs) (sym c.deref-4.ensures.value) (at_hand chips c.args.nest.now c.args.plans.now c.args.nested.now c.requires.nested c.requires.planned)

pub plan_parts-requires-clause-long : goal.plan_parts-requires-clause-long
plan_parts-requires-clause-long c =
    let chips = chips_of c.args.catalog.now in
    ap length c.deref-4.ensures.value ∙ parts_long chips c.args.nest.now c.args.plans.now c.args.nested.now c.requires.nested c.entry_at-entry.result.now c.entry_at-entry.ensures ∙ ap length (sym c.parts_in.ensures)

pub size_with-requires-clause-within : goal.size_with-requires-clause-within
size_with-requires-clause-within c =
    let chips = chips_of c.args.catalog.now in
    (subst (λ (rs : List ℕ). AreAtHand chips c.args.plans.now rs) (sym c.deref-6.ensures.value) (at_hand chips c.args.nest.now c.args.plans.now c.args.nested.now c.requires.nested c.requires.planned)).within

pub returns-clause-plan : goal.returns-clause-plan
returns-clause-plan c =
    let chips = chips_of c.args.catalog.now in
    let plans = c.args.plans.now in
    let entry = c.entry_at-entry.result.now in
    let rs = c.args.nested.now.parts.items in
    let wires = wires_of c.in_ok-wires.wires in
    let own : Size = record { nodes = c.count_nodes.result; parts = 0 } in
    let own_is : own ≡ own_size chips entry = ap (λ (n : ℕ). record { nodes = n; parts = 0 }) (c.count_nodes.ensures ∙ ap end_nodes c.find_end-end.ensures) in
    let outputs : map bit_of c.deref-5.result.now ≡ all_bits entry.chip.outputs = ap (λ (bs : List Bit). map bit_of bs) c.deref-5.ensures.value ∙ c.in_ok-outputs.ensures ∙ ap all_bits c.as_slice-2.ensures in
    let parts = subst (λ (ps : List Part). ArePartPlans wires own ps (plans_at plans rs) c.in_ok-parts.parts.items) c.parts_in.ensures (subst (λ (t : List ℕ). ArePartPlans wires own c.parts_in.result.now (plans_at plans t) c.in_ok-parts.parts.items) c.deref-4.ensures.value c.in_ok-parts.ensures.parts) in
    plan_is chips c.args.nest.now plans c.args.nested.now c.requires.nested c.requires.planned c.requires.plans
    (record { number = c.args.nested.now.number; entry = c.entry_at-entry.result; end = c.find_end-end.result; size = c.size_with.result; inputs = c.in_ok-inputs.inputs; wires = c.in_ok-wires.wires; outs = c.in_ok-outs.outs; parts = c.in_ok-parts.parts })
    own refl c.entry_at-entry.ensures c.find_end-end.ensures own_is
    (c.size_with.ensures ∙ ap (λ (t : List ℕ). all_sized own (plans_at plans t)) c.deref-6.ensures.value)
    (c.in_ok-inputs.ensures ∙ ap all_bits c.as_slice.ensures)
    (λ name bit. c.in_ok-wires.ensures name bit ∙ ap (λ (t : List ℕ). found_bit name bit (own_wires chips entry (plans_at plans t))) c.deref.ensures.value)
    (c.in_ok-outs.ensures ∙ ap (origins_at wires) outputs)
    parts (c.in_ok-parts.ensures.places ∙ c.deref-4.ensures.value)
