use Rattle.hdl_flatten.specs.Inner.Wired.{wires_of, FindsMore}
use Rattle.hdl_flatten.specs.Inner.Plans.{driven_bits}
use Rattle.hdl_flatten.proofs.plan.drive.Given as goal

abbrev pub invariant-loop-k : goal.invariant-loop-k
invariant-loop-k l = FindsMore (wires_of l.fn.wires) (wires_of l.wires) (driven_bits (wires_of l.inner) l.offset l.pin l.from l.name l.to l.k)
