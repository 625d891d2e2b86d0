use Rattle.std.proofs.Common.{◌+◌, arith, subst, sym, ap, ◌∙◌, inl, inr}
use Rattle.std.specs.Prelude.{slice_get}
use Rattle.std.proofs.lemmas.Bool.{cases_eq}
use Rattle.std.proofs.lemmas.Option.{same_Some, slice_get-get_or, slice_get_within}
use Rattle.gate_sim.specs.Inner.Pieces.{piece_of, IsReader}
use Rattle.gate_sim.proofs.pieces.are_takes_told.Goals as goal

pub loop-t-preserved : goal.loop-t-preserved
loop-t-preserved c j take less at =
    elim (cases_eq j c.loop-t.t) [
      | inl e ↦
          let there = slice_get-get_or c.args.takes.now c.loop-t.t (record { slot = 0; source = 0; down = 0; mask = 0 }) c.loop-t-test.true in
          let same = same_Some _ take (sym there ∙ ap (slice_get c.args.takes.now) (sym e) ∙ at) in
          subst (λ x. IsReader c.args.spans.now c.args.list.now take.source (c.args.before + piece_of x)) (sym e)
          (subst (λ x. IsReader c.args.spans.now c.args.list.now x.source (c.args.before + piece_of c.loop-t.t)) same (c.is_told.ensures c.if-not-is_told.false))
      | inr ne ↦ c.loop-t.invariant j take (omega arith) at
    ]

pub returns : goal.returns
returns c e j take at = let inside = slice_get_within c.args.takes.now j take at in c.loop-t.invariant j take (omega arith) at
