use Rattle.std.proofs.Common.{rules}
use Rattle.netlist.specs.Order.{AreOrdered}
use Rattle.gate_computer.proofs.Simple.{whole_reads}
use Rattle.gate_computer.proofs.simplified.whole_shows.Goals as goal

pub returns : goal.returns
returns c =
    let whole = c.args.whole.now in
    let ordered : AreOrdered whole.net.nodes whole.net.blocks = search rules in
    record { whole = whole.net; full = whole.wiring; wired = c.requires; ordered = ordered; shown = whole_reads whole.net whole.wiring c.requires ordered }
