use Rattle.std.proofs.Common.{rules}
use Rattle.netlist.specs.Order.{AreOrdered}
use Rattle.gate_computer.proofs.Simple.{simple_reads}
use Rattle.gate_computer.proofs.simplified.simple_shows.Goals as goal

pub returns : goal.returns
returns c =
    let whole = c.args.whole.now in
    let simple = c.args.simple.now in
    let ordered : AreOrdered whole.net.nodes whole.net.blocks = search rules in
    let own_ordered : AreOrdered simple.net.nodes simple.net.blocks = search rules in
    record { whole = whole.net; full = whole.wiring; wired = c.requires.wired; ordered = ordered; shown = simple_reads whole.net simple.net whole.wiring simple.wiring c.requires.simple own_ordered }
