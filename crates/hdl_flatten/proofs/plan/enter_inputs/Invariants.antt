use Rattle.std.proofs.Common.{take, map}
use Rattle.hdl_flatten.specs.declared.wires.Origin.TheVariants.{Input}
use Rattle.hdl_flatten.specs.Inner.Wired.{bit_of, wires_of, FindsMore}
use Rattle.hdl_flatten.specs.Inner.Plans.{numbered_bits}
use Rattle.hdl_flatten.proofs.plan.enter_inputs.Given as goal

abbrev pub invariant-loop-k : goal.invariant-loop-k
invariant-loop-k l = FindsMore (wires_of l.fn.wires) (wires_of l.wires) (numbered_bits Input 0 (map bit_of (take l.k l.inputs)))
