use Rattle.std.proofs.Common.{arith, subst, sym, ap, ◌∙◌, inl, inr}
use Rattle.std.specs.Prelude.{slice_get}
use Rattle.std.proofs.lemmas.Bool.{cases_eq}
use Rattle.std.proofs.lemmas.Option.{same_Some, slice_get-get_or, slice_get_within}
use Rattle.gate_sim.specs.Inner.Takes.{IsTake}
use Rattle.gate_sim.proofs.takes.are_each_takes.Goals as goal

pub loop-j-preserved : goal.loop-j-preserved
loop-j-preserved c i take less at =
    elim (cases_eq i c.loop-j.j) [
      | inl e ↦
          let there = slice_get-get_or c.args.takes.now c.loop-j.j (record { slot = 0; source = 0; down = 0; mask = 0 }) c.loop-j-test.true in
          let same = same_Some _ take (sym there ∙ ap (slice_get c.args.takes.now) (sym e) ∙ at) in
          subst (IsTake c.args.nodes.now c.args.n c.args.lanes.now c.args.places.now) same (c.is_take.ensures c.if-not-is_take.false)
      | inr ne ↦ c.loop-j.invariant i take (omega arith) at
    ]

pub returns : goal.returns
returns c e i take at = let inside = slice_get_within c.args.takes.now i take at in c.loop-j.invariant i take (omega arith) at
