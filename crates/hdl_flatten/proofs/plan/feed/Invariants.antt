use Rattle.hdl_flatten.specs.Inner.Wired.{wires_of, FindsMore}
use Rattle.hdl_flatten.specs.Inner.Plans.{fed_bits}
use Rattle.hdl_flatten.proofs.plan.feed.Given as goal

abbrev pub invariant-loop-k : goal.invariant-loop-k
invariant-loop-k l = FindsMore (wires_of l.fn.fed) (wires_of l.fed) (fed_bits (wires_of l.wires) l.connection.source l.name l.from l.k)
