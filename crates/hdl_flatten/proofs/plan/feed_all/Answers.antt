use Rattle.std.proofs.Common.{◌≡◌, List, ◌∷◌, ◌++◌, Option, sym, ap, ◌∙◌}
use Rattle.hdl_tree.specs.declared.tree.Connection.{Connection}
use Rattle.name_table.specs.Names.{find_value}
use Rattle.name_table.specs.Tables.{table_of}
use Rattle.hdl_check.specs.declared.check.Port.{Port}
use Rattle.hdl_flatten.specs.Inner.Wired.{wires_of, found_bit}
use Rattle.hdl_flatten.specs.Inner.Plans.{fed_by, all_fed}
use Rattle.hdl_flatten.proofs.Planning.{front_more}
use Rattle.hdl_flatten.proofs.plan.feed_all.Goals as goal

pub loop-connection-preserved : goal.loop-connection-preserved
loop-connection-preserved c = λ list f name bit.
    let rest : c.loop-connection.rest.now ≡ c.in-Some.connection.now ∷ c.in-Some.others.now = c.in-Some.ensures.cases.0 in
    let pin = c.in-Some.connection.now.pin.name in
    let port : c.find-port.result ≡ find_value pin list = c.find-port.ensures ∙ ap (λ n. find_value n (table_of c.args.ports.now)) c.as_bytes.ensures ∙ f pin in
    let wires = wires_of c.args.wires.now in
    let more = all_fed wires list c.in-Some.others.now in
    front_more (wires_of c.loop-connection.fed) (wires_of c.feed.new.fed) (fed_by wires c.find-port.result c.in-Some.connection.now) more c.in_ok-feed.ensures name bit
    ∙ ap (λ (o : Option Port). found_bit name bit (wires_of c.loop-connection.fed ++ (fed_by wires o c.in-Some.connection.now ++ more))) port
    ∙ ap (λ (cs : List Connection). found_bit name bit (wires_of c.loop-connection.fed ++ all_fed wires list cs)) (sym rest)
    ∙ c.loop-connection.invariant list f name bit
