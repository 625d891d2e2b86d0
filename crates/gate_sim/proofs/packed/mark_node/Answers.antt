use Rattle.std.proofs.Common.{true, false, get_or-set_same, get_or-set_other}
use Rattle.gate_sim.specs.Inner.Pieces.{piece_of}
use Rattle.gate_sim.specs.Inner.Plans.{place_of}
use Rattle.gate_sim.proofs.Idle.{grows_set}
use Rattle.gate_sim.proofs.packed.mark_node.Goals as goal

pub returns-clause-grows : goal.returns-clause-grows
returns-clause-grows c m off = grows_set c.args.marks.now (piece_of (place_of c.args.places.now c.args.k).slot) m c.requires.piece off

pub returns-clause-on : goal.returns-clause-on
returns-clause-on c = get_or-set_same c.args.marks.now (piece_of (place_of c.args.places.now c.args.k).slot) true false c.requires.piece

pub returns-clause-others : goal.returns-clause-others
returns-clause-others c m ne = get_or-set_other c.args.marks.now (piece_of (place_of c.args.places.now c.args.k).slot) m true false ne
