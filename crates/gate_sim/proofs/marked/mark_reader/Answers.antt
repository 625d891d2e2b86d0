use Rattle.std.proofs.Common.{arith, get_or-set_same}
use Rattle.gate_sim.proofs.Idle.{grows_set}
use Rattle.gate_sim.proofs.marked.mark_reader.Goals as goal

pub returns-clause-grows : goal.returns-clause-grows
returns-clause-grows c m off = grows_set c.args.marks.now _ m (omega arith) off

pub returns-clause-told : goal.returns-clause-told
returns-clause-told c inside small = get_or-set_same c.args.marks.now _ _ _ (omega arith)
