use Rattle.std.proofs.Common.{rules}
use Rattle.gate_sim.specs.Inner.Slots.{value_at}
use Rattle.netlist.proofs.Rows.{exact_word}
use Rattle.gate_sim.proofs.leaving.data_word.Goals as goal

pub overflow_cast-result : goal.overflow_cast-result
overflow_cast-result c =
    let e = exact_word c.number.result (value_at c.args.places.now c.args.slots.now) c.args.block.now.data c.requires.block.3 (rw c.as_slice.ensures at c.number.ensures) in
    let below = e.1 in
    search rules

pub returns : goal.returns
returns c = (exact_word c.number.result (value_at c.args.places.now c.args.slots.now) c.args.block.now.data c.requires.block.3 (rw c.as_slice.ensures at c.number.ensures)).0
