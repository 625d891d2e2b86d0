use Rattle.gate_sim.proofs.plain.node_take.Goals as goal

pub bounds-nodes-i : goal.bounds-nodes-i
bounds-nodes-i c = c.requires c.in-Flip.i c.in-Flip.is
