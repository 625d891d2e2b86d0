use Rattle.std.proofs.Common.{arith, ap, ◌∙◌, inl, inr, true, false, set, get_or-set_same, get_or-set_other}
use Rattle.std.proofs.lemmas.Bool.{cases_eq}
use Rattle.netlist.specs.Present.{value_in}
use Rattle.gate_sim.proofs.marked.mark_all.Goals as goal

pub loop-m-preserved : goal.loop-m-preserved
loop-m-preserved c k less =
    elim (cases_eq k c.loop-m.m) [
      | inl e ↦ ap (value_in (set c.loop-m.marks c.loop-m.m true)) e ∙ get_or-set_same c.loop-m.marks c.loop-m.m true false (omega arith)
      | inr ne ↦ get_or-set_other c.loop-m.marks c.loop-m.m k true false ne ∙ c.loop-m.invariant k (omega arith)
    ]

pub returns : goal.returns
returns c k less = c.loop-m.invariant k (omega arith)
