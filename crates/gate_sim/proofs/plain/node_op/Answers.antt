use Rattle.std.proofs.Common.{arith}
use Rattle.gate_sim.proofs.plain.node_op.Goals as goal

pub bounds-places-i : goal.bounds-places-i
bounds-places-i c = (c.requires.inputs c.in-Nand.i c.in-Nand.j c.in-Nand.is).0

pub bounds-places-j : goal.bounds-places-j
bounds-places-j c = (c.requires.inputs c.in-Nand.i c.in-Nand.j c.in-Nand.is).1

pub overflow_shl-result : goal.overflow_shl-result
overflow_shl-result c = let less = c.requires.bit c.in-Word.block c.in-Word.bit c.in-Word.is in omega arith
