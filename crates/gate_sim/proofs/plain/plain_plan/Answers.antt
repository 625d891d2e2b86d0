use Rattle.std.proofs.Common.{◌≡◌, ℕ, ◌+◌, ◌++◌, ◌∷◌, [], length, arith, ap, sym, subst, ◌∙◌}
use Rattle.std.specs.Prelude.{slice_index_or}
use Rattle.std.proofs.lemmas.Option.{same_Some, slice_get-get_or}
use Rattle.netlist.specs.declared.node.Node.TheVariants.{Pin}
use Rattle.gate_sim.specs.declared.plan.Lane.{Lane}
use Rattle.gate_sim.specs.Inner.Plain.{plain_node, IsPlain}
use Rattle.gate_sim.specs.Inner.Plans.{place_of}
use Rattle.gate_sim.proofs.Plainly.{plain_none, plain_more, plain_is_plan, plain_are_takes}
use Rattle.gate_sim.proofs.plain.plain_plan.Goals as goal

-- the lane with this slot
abbrev lane_with : ℕ → ℕ → Lane
lane_with slot at = record { slot = slot; at = at }

lane_same : (slot a b : ℕ) → a ≡ b → lane_with slot a ≡ lane_with slot b
lane_same slot a b e = ap (lane_with slot) e

pub op_of-op-requires-clause-long : goal.op_of-op-requires-clause-long
op_of-op-requires-clause-long c = ap length c.deref.ensures.value ∙ c.loop-k.invariant.places_long

pub op_of-op-requires-clause-places : goal.op_of-op-requires-clause-places
op_of-op-requires-clause-places c i less = ap (λ p. place_of p i) c.deref.ensures.value ∙ c.loop-k.invariant.place i less

pub loop-k-init : goal.loop-k-init
loop-k-init c =
    subst (λ o. IsPlain c.args.nodes.now 0 o c.new-lanes.result.items c.new-places.result.items c.new-takes.result.items) (sym c.new-ops.ensures.items)
    (subst (λ l. IsPlain c.args.nodes.now 0 [] l c.new-places.result.items c.new-takes.result.items) (sym c.new-lanes.ensures.items)
    (subst (λ p. IsPlain c.args.nodes.now 0 [] [] p c.new-takes.result.items) (sym c.new-places.ensures.items)
    (subst (IsPlain c.args.nodes.now 0 [] [] []) (sym c.new-takes.ensures.items) (plain_none c.args.nodes.now))))

pub loop-k-preserved : goal.loop-k-preserved
loop-k-preserved c =
    let nodes = c.args.nodes.now in
    let k = c.loop-k.k in
    let there = slice_get-get_or nodes k Pin c.loop-k-test.true in
    subst (λ o. IsPlain nodes (k + 1) o c.push_lanes.new.lanes.items c.push-in-loop-k.new.self.items c.push-in-loop-k-2.new.self.items) (sym c.in_ok-push.ensures.items)
    (subst (λ p. IsPlain nodes (k + 1) (c.loop-k.ops.items ++ c.op_of-op.result ∷ []) c.push_lanes.new.lanes.items p c.push-in-loop-k-2.new.self.items) (sym c.in_ok-push-2.ensures.items)
    (subst (IsPlain nodes (k + 1) (c.loop-k.ops.items ++ c.op_of-op.result ∷ []) c.push_lanes.new.lanes.items (c.loop-k.places.items ++ record { slot = k; at = c.lane_of-at.result } ∷ [])) (sym c.in_ok-push-3.ensures.items)
    (plain_more nodes k c.loop-k.ops.items c.loop-k.lanes.items c.push_lanes.new.lanes.items c.loop-k.places.items c.loop-k.takes.items c.op_of-op.result (record { slot = k; at = c.lane_of-at.result }) c.take_of.result
    c.op_of-op.ensures
    c.take_of.ensures
    (lane_same k _ _ c.lane_of-at.ensures)
    c.in_ok-push_lanes.ensures.long
    c.in_ok-push_lanes.ensures.kept
    (λ l node less at. c.in_ok-push_lanes.ensures.more l less ∙ ap (λ n. plain_node k n l) (same_Some (slice_index_or nodes k Pin) node (sym there ∙ at)))
    c.loop-k.invariant)))

pub returns-clause-plan : goal.returns-clause-plan
returns-clause-plan c =
    let e : c.loop-k.k ≡ length c.args.nodes.now = omega arith in
    plain_is_plan c.args.nodes.now c.args.blocks.now c.loop-k.ops.items c.loop-k.lanes.items c.loop-k.places.items c.loop-k.takes.items c.requires (subst (λ n. IsPlain c.args.nodes.now n c.loop-k.ops.items c.loop-k.lanes.items c.loop-k.places.items c.loop-k.takes.items) e c.loop-k.invariant)

pub returns-clause-takes : goal.returns-clause-takes
returns-clause-takes c =
    let e : c.loop-k.k ≡ length c.args.nodes.now = omega arith in
    plain_are_takes c.args.nodes.now c.args.blocks.now c.loop-k.ops.items c.loop-k.lanes.items c.loop-k.places.items c.loop-k.takes.items c.requires (subst (λ n. IsPlain c.args.nodes.now n c.loop-k.ops.items c.loop-k.lanes.items c.loop-k.places.items c.loop-k.takes.items) e c.loop-k.invariant)
