use Rattle.std.proofs.Common.{arith, subst, sym, ap, ◌∙◌, inl, inr}
use Rattle.std.specs.Prelude.{slice_get}
use Rattle.std.proofs.lemmas.Bool.{cases_eq}
use Rattle.std.proofs.lemmas.Option.{same_Some, slice_get-get_or, slice_get_within}
use Rattle.netlist.specs.declared.node.Node.TheVariants.{Pin, Flip}
use Rattle.gate_sim.specs.Inner.Takes.{IsServed}
use Rattle.gate_sim.proofs.takes.are_served.Goals as goal

pub loop-k-preserved : goal.loop-k-preserved
loop-k-preserved c m i less at =
    elim (cases_eq m c.loop-k.k) [
      | inl e ↦
          let there = slice_get-get_or c.args.nodes.now c.loop-k.k Pin c.loop-k-test.true in
          let same = same_Some _ (Flip i) (sym there ∙ ap (slice_get c.args.nodes.now) (sym e) ∙ at) in
          subst (IsServed c.args.places.now c.args.takes.now) (sym e) (c.is_served.ensures c.if-not-is_served.false i same)
      | inr ne ↦ c.loop-k.invariant m i (omega arith) at
    ]

pub returns : goal.returns
returns c e k i at = let inside = slice_get_within c.args.nodes.now k (Flip i) at in c.loop-k.invariant k i (omega arith) at
