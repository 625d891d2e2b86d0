use Rattle.hdl_check.proofs.Places.{ports_next}
use Rattle.hdl_check.proofs.catalog.port_tables.Goals as goal

pub loop-entry-preserved : goal.loop-entry-preserved
loop-entry-preserved c = ports_next c.args.entries.now c.loop-entry.entry-index c.entry-item.result c.loop-entry.ports.items c.push.new.self.items c.in_ok-port_table.field-0 c.loop-entry-test.true c.entry-item.is c.loop-entry.invariant c.in_ok-push.ensures.items c.in_ok-port_table.ensures
