use Rattle.std.proofs.Common.{arith, subst, sym, ap, ◌∙◌, inl, inr}
use Rattle.std.specs.Prelude.{slice_get}
use Rattle.std.proofs.lemmas.Bool.{cases_eq}
use Rattle.std.proofs.lemmas.Option.{same_Some, slice_get-get_or, slice_get_within}
use Rattle.gate_sim.specs.declared.plan.Op.TheVariants.{Held}
use Rattle.gate_sim.specs.Inner.Pieces.{piece_of, IsToldOp}
use Rattle.gate_sim.proofs.pieces.are_ops_told.Goals as goal

pub loop-q-preserved : goal.loop-q-preserved
loop-q-preserved c p op less at =
    elim (cases_eq p c.loop-q.q) [
      | inl e ↦
          let there = slice_get-get_or c.args.ops.now c.loop-q.q Held c.loop-q-test.true in
          let same = same_Some _ op (sym there ∙ ap (slice_get c.args.ops.now) (sym e) ∙ at) in
          subst (λ x. IsToldOp c.args.spans.now c.args.list.now c.args.always.now (piece_of x) op) (sym e)
          (subst (λ x. IsToldOp c.args.spans.now c.args.list.now c.args.always.now (piece_of c.loop-q.q) x) same (c.is_told_op.ensures c.if-not-is_told_op.false))
      | inr ne ↦ c.loop-q.invariant p op (omega arith) at
    ]

pub returns : goal.returns
returns c e q op at = let inside = slice_get_within c.args.ops.now q op at in c.loop-q.invariant q op (omega arith) at
