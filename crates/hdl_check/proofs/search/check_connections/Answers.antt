use Rattle.std.proofs.Common.{◌≡◌, ◌++◌, List, length, take, Option, Some, refl, sym, ap, subst, ◌∙◌, below_more, arith}
use Rattle.std.specs.Prelude.{slice_get}
use Rattle.std.proofs.lemmas.Option.{slice_get_read}
use Rattle.std.proofs.lemmas.List.{take_all}
use Rattle.std.proofs.lemmas.Result.{err_from_is_err_and}
use Rattle.hdl_tree.specs.declared.tree.Connection.{Connection}
use Rattle.hdl_tree.specs.Chips.{parts_of}
use Rattle.name_table.specs.Names.{find_value}
use Rattle.hdl_check.specs.Tables.{BitOf}
use Rattle.name_table.specs.Tables.{table_of}
use Rattle.hdl_check.specs.Inner.Marked.{HasMarks, MarksMore}
use Rattle.hdl_check.specs.Faults.{ports_of, context, bits_fed, bits_driven, fed_by, driver_by, drivers_by, drivers_of, connection_fault, connection_fault_in}
use Rattle.hdl_check.specs.Inner.Progress.{chips_of}
use Rattle.hdl_check.specs.declared.check.Port.{Port}
use Rattle.hdl_check.proofs.MarkLemmas.{has_more, more_then}
use Rattle.hdl_check.proofs.Telling.{tells_first, connection_is, no_connection, sees_round, all_clear}
use Rattle.hdl_check.proofs.Rows.{put_next, fed_next}
use Rattle.hdl_check.proofs.search.check_connections.Goals as goal

pub returns-in_err-check_connection-clause-fault : goal.returns-in_err-check_connection-clause-fault
returns-in_err-check_connection-clause-fault c =
    let q = err_from_is_err_and c.from_residual.result c.from_residual.ensures.1 in
    let chips = chips_of c.args.catalog.now in
    let ports = ports_of c.args.inner.now.chip in
    let conns = c.args.connections.now in
    let j = c.loop-connection.connection-index in
    let there : slice_get conns j ≡ Some c.connection-item.result = slice_get_read conns (length conns) j c.connection-item.result refl c.loop-connection-test.true c.connection-item.is in
    let a = context chips c.args.entry.now c.args.i ports conns j in
    rw (q.1, q.2) (tells_first (connection_fault_in chips c.args.entry.now c.args.i ports conns) j (connection_fault a ports c.connection-item.result) c.in_err-check_connection.field-0.0
    (connection_is chips c.args.entry.now c.args.i ports conns j c.connection-item.result there) c.loop-connection.invariant.clear
    (c.in_err-check_connection.ensures.checks a ports (sees_round chips c.args.entry.now c.args.scope c.args.i ports conns j c.requires.sees) c.requires.ports
    (has_more c.args.driven.now c.loop-connection.driven (bits_driven (drivers_of chips (take c.args.i (parts_of chips c.args.entry.now)))) (bits_driven (drivers_by ports (take j conns))) c.requires.driven c.loop-connection.invariant.driven)
    c.loop-connection.invariant.fed))

pub loop-connection-preserved : goal.loop-connection-preserved
loop-connection-preserved c =
    let chips = chips_of c.args.catalog.now in
    let ports = ports_of c.args.inner.now.chip in
    let conns = c.args.connections.now in
    let j = c.loop-connection.connection-index in
    let conn = c.connection-item.result in
    let pin = conn.pin.name in
    let there : slice_get conns j ≡ Some conn = slice_get_read conns (length conns) j conn refl c.loop-connection-test.true c.connection-item.is in
    let a = context chips c.args.entry.now c.args.i ports conns j in
    record {
      fed = subst (λ (bs : List BitOf). HasMarks c.check_connection.new.fed bs)
          (ap (λ (o : Option Port). bits_fed ports (take j conns) ++ fed_by o conn) (c.requires.ports pin) ∙ sym (fed_next ports conns j conn there))
          (has_more c.loop-connection.fed c.check_connection.new.fed (bits_fed ports (take j conns)) (fed_by (find_value pin (table_of c.args.ports.now)) conn) c.loop-connection.invariant.fed c.in_ok-check_connection.ensures.fed);
      driven = subst (λ (bs : List BitOf). MarksMore c.args.driven.now c.check_connection.new.driven bs)
          (ap (λ (o : Option Port). bits_driven (drivers_by ports (take j conns)) ++ bits_driven (driver_by o conn)) (c.requires.ports pin) ∙ sym (put_next ports conns j conn there))
          (more_then c.args.driven.now c.loop-connection.driven c.check_connection.new.driven (bits_driven (drivers_by ports (take j conns))) (bits_driven (driver_by (find_value pin (table_of c.args.ports.now)) conn)) c.loop-connection.invariant.driven c.in_ok-check_connection.ensures.driven);
      clear = below_more _ _ c.loop-connection.invariant.clear
          (connection_is chips c.args.entry.now c.args.i ports conns j conn there
          ∙ c.in_ok-check_connection.ensures.checks a ports (sees_round chips c.args.entry.now c.args.scope c.args.i ports conns j c.requires.sees) c.requires.ports
          (has_more c.args.driven.now c.loop-connection.driven (bits_driven (drivers_of chips (take c.args.i (parts_of chips c.args.entry.now)))) (bits_driven (drivers_by ports (take j conns))) c.requires.driven c.loop-connection.invariant.driven)
          c.loop-connection.invariant.fed);
    }

pub returns-clause-fault : goal.returns-clause-fault
returns-clause-fault c = all_clear (connection_fault_in (chips_of c.args.catalog.now) c.args.entry.now c.args.i (ports_of c.args.inner.now.chip) c.args.connections.now) c.args.connections.now
    (no_connection (chips_of c.args.catalog.now) c.args.entry.now c.args.i (ports_of c.args.inner.now.chip) c.args.connections.now) (λ k lt. c.loop-connection.invariant.clear k (omega arith))

pub returns-clause-driven : goal.returns-clause-driven
returns-clause-driven c =
    let all : take c.loop-connection.connection-index c.args.connections.now ≡ c.args.connections.now = take_all c.loop-connection.connection-index c.args.connections.now (omega arith) in
    subst (λ (cs : List Connection). MarksMore c.args.driven.now c.loop-connection.driven (bits_driven (drivers_by (ports_of c.args.inner.now.chip) cs))) all c.loop-connection.invariant.driven
