use Rattle.std.proofs.Common.{true, false, get_or-set_same}
use Rattle.gate_sim.specs.Inner.Pieces.{piece_of}
use Rattle.gate_sim.proofs.Idle.{grows_set}
use Rattle.gate_sim.proofs.leaving.mark_slot.Goals as goal

pub returns-clause-grows : goal.returns-clause-grows
returns-clause-grows c m off = grows_set c.args.marks.now (piece_of c.args.q) m c.requires off

pub returns-clause-on : goal.returns-clause-on
returns-clause-on c = get_or-set_same c.args.marks.now (piece_of c.args.q) true false c.requires
