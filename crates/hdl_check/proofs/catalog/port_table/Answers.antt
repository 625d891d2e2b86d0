use Rattle.std.proofs.Common.{true, false, ◌++◌, ap, ◌∙◌}
use Rattle.name_table.specs.Names.{find_value}
use Rattle.name_table.specs.Tables.{table_of}
use Rattle.hdl_check.specs.Faults.{ports_in}
use Rattle.name_table.proofs.Entries.{found_front}
use Rattle.hdl_check.proofs.catalog.port_table.Goals as goal

pub returns : goal.returns
returns c = λ x.
    c.in_ok-enter_ports-2.ensures x
    ∙ found_front x (table_of c.enter_ports.new.table) (table_of c.new-table.result ++ ports_in true c.as_slice.result.now) (ports_in false c.as_slice-2.result.now) (c.in_ok-enter_ports.ensures x)
    ∙ ap (λ t. find_value x ((t ++ ports_in true c.as_slice.result.now) ++ ports_in false c.as_slice-2.result.now)) c.new-table.ensures
    ∙ ap (λ ps. find_value x (ports_in true ps ++ ports_in false c.as_slice-2.result.now)) c.as_slice.ensures
    ∙ ap (λ ps. find_value x (ports_in true c.args.chip.now.inputs ++ ports_in false ps)) c.as_slice-2.ensures
