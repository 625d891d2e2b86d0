use Rattle.std.proofs.Common.{◌≡◌, ℕ, List, ◌∷◌, ◌++◌, sym, ap, ◌∙◌}
use Rattle.hdl_tree.specs.declared.tree.Pin.{Pin}
use Rattle.name_table.specs.Names.{find_value}
use Rattle.name_table.specs.Tables.{table_of}
use Rattle.hdl_check.specs.Faults.{ports_in, pin_name, port_of}
use Rattle.hdl_check.specs.declared.check.Port.{Port}
use Rattle.name_table.proofs.Entries.{front_next}
use Rattle.hdl_check.proofs.catalog.enter_ports.Goals as goal

pub loop-pin-preserved : goal.loop-pin-preserved
loop-pin-preserved c = λ x.
    let rest : c.loop-pin.rest.now ≡ c.in-Some.pin.now ∷ c.in-Some.others.now = c.in-Some.ensures.cases.0 in
    let made : Port = record { input = c.args.input; width = c.unwrap_or-width.result } in
    let port : made ≡ port_of c.args.input c.in-Some.pin.now = ap (λ (w : ℕ). record { input = c.args.input; width = w }) c.unwrap_or-width.ensures in
    front_next x c.as_bytes.result.now (table_of c.enter.new.self) (table_of c.loop-pin.table) (ports_in c.args.input c.in-Some.others.now) made c.in_ok-enter.ensures.entered
    ∙ ap (λ n. find_value x (table_of c.loop-pin.table ++ (n, made) ∷ ports_in c.args.input c.in-Some.others.now)) c.as_bytes.ensures
    ∙ ap (λ p. find_value x (table_of c.loop-pin.table ++ (pin_name c.in-Some.pin.now, p) ∷ ports_in c.args.input c.in-Some.others.now)) port
    ∙ ap (λ (ps : List Pin). find_value x (table_of c.loop-pin.table ++ ports_in c.args.input ps)) (sym rest)
    ∙ c.loop-pin.invariant x
