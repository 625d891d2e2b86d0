use Rattle.std.proofs.Common.{◌≡◌, ℕ, List, subst}
use Rattle.netlist.specs.declared.node.Node.{Node}
use Rattle.netlist.specs.declared.node.Block.{Block}
use Rattle.gate_sim.specs.declared.plan.Lane.{Lane}
use Rattle.gate_sim.specs.declared.plan.Op.{Op}
use Rattle.gate_sim.specs.declared.plan.Take.{Take}
use Rattle.gate_sim.specs.Inner.Plans.{IsPlan}
use Rattle.gate_sim.specs.Inner.Takes.{AreTakes}
use Rattle.gate_sim.proofs.packed.Packed.new.Goals as goal

plan_from : (nodes nodes' : List Node) (blocks blocks' : List Block) (ops : List Op) (lanes : List ℕ) (places : List Lane) → nodes' ≡ nodes → blocks' ≡ blocks → IsPlan nodes' blocks' ops lanes places → IsPlan nodes blocks ops lanes places
plan_from nodes nodes' blocks blocks' ops lanes places en eb h =
    subst (λ x. IsPlan x blocks ops lanes places) en (subst (λ x. IsPlan nodes' x ops lanes places) eb h)

takes_from : (nodes nodes' : List Node) (n : ℕ) (lanes : List ℕ) (places : List Lane) (takes : List Take) → nodes' ≡ nodes → AreTakes nodes' n lanes places takes → AreTakes nodes n lanes places takes
takes_from nodes nodes' n lanes places takes en h = subst (λ x. AreTakes x n lanes places takes) en h

pub packed_of-requires-clause-plan : goal.packed_of-requires-clause-plan
packed_of-requires-clause-plan c = plan_from _ _ _ _ _ _ _ c.nodes.ensures.value c.blocks-2.ensures.value c.in_ok-plan.ensures.plan

pub packed_of-requires-clause-takes : goal.packed_of-requires-clause-takes
packed_of-requires-clause-takes c = takes_from _ _ _ _ _ _ c.nodes.ensures.value c.in_ok-plan.ensures.takes
