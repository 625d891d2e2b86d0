use Rattle.std.proofs.Common.{◌≡◌, List, ◌∷◌, ◌++◌, sym, ap, ◌∙◌}
use Rattle.hdl_tree.specs.declared.tree.Connection.{Connection}
use Rattle.name_table.specs.Names.{find_value}
use Rattle.name_table.specs.Tables.{table_of}
use Rattle.hdl_check.specs.Faults.{widths_of, driver_by, drivers_by}
use Rattle.name_table.proofs.Entries.{found_front}
use Rattle.hdl_check.proofs.Rows.{assoc, widths_of-append}
use Rattle.hdl_check.proofs.catalog.enter_nets.Goals as goal

pub loop-connection-preserved : goal.loop-connection-preserved
loop-connection-preserved c = λ inner x f.
    let rest : c.loop-connection.rest.now ≡ c.in-Some.connection.now ∷ c.in-Some.others.now = c.in-Some.ensures.cases.0 in
    let name = c.in-Some.connection.now.pin.name in
    let at : c.find-port.result ≡ find_value name inner = c.find-port.ensures ∙ ap (λ n. find_value n (table_of c.args.ports.now)) c.as_bytes.ensures ∙ f name in
    let more = widths_of (drivers_by inner c.in-Some.others.now) in
    let put = driver_by (find_value name inner) c.in-Some.connection.now in
    found_front x (table_of c.enter_net.new.nets) (table_of c.loop-connection.nets ++ widths_of (driver_by c.find-port.result c.in-Some.connection.now)) more (c.in_ok-enter_net.ensures x)
    ∙ ap (λ o. find_value x ((table_of c.loop-connection.nets ++ widths_of (driver_by o c.in-Some.connection.now)) ++ more)) at
    ∙ ap (find_value x) (assoc (table_of c.loop-connection.nets) (widths_of put) more)
    ∙ ap (λ t. find_value x (table_of c.loop-connection.nets ++ t)) (sym (widths_of-append put (drivers_by inner c.in-Some.others.now)))
    ∙ ap (λ (cs : List Connection). find_value x (table_of c.loop-connection.nets ++ widths_of (drivers_by inner cs))) (sym rest)
    ∙ c.loop-connection.invariant inner x f
