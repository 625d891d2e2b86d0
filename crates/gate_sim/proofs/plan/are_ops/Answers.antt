use Rattle.std.proofs.Common.{◌<◌, ℕ, arith, subst, sym, ap, ◌∙◌, inl, inr}
use Rattle.std.specs.Prelude.{slice_get}
use Rattle.std.proofs.lemmas.Bool.{cases_eq}
use Rattle.std.proofs.lemmas.Option.{same_Some, slice_get-get_or, slice_get_within}
use Rattle.gate_sim.specs.declared.plan.Op.TheVariants.{Held}
use Rattle.gate_sim.specs.Inner.Plans.{IsLane}
use Rattle.gate_sim.proofs.plan.are_ops.Goals as goal

pub loop-q-preserved : goal.loop-q-preserved
loop-q-preserved c p op less at =
    elim (cases_eq p c.loop-q.q) [
      | inl e ↦
          let there = slice_get-get_or c.args.ops.now c.loop-q.q Held c.loop-q-test.true in
          let same = same_Some _ op (sym there ∙ ap (slice_get c.args.ops.now) (sym e) ∙ at) in
          subst (λ x. (m : ℕ) → m < 16 → IsLane c.args.nodes.now c.args.blocks.now c.args.lanes.now c.args.places.now x m op) (sym e)
          (subst (λ x. (m : ℕ) → m < 16 → IsLane c.args.nodes.now c.args.blocks.now c.args.lanes.now c.args.places.now c.loop-q.q m x) same (c.are_lanes.ensures c.if-not-are_lanes.false))
      | inr ne ↦ c.loop-q.invariant p op (omega arith) at
    ]

pub returns : goal.returns
returns c e q op at = let inside = slice_get_within c.args.ops.now q op at in c.loop-q.invariant q op (omega arith) at
