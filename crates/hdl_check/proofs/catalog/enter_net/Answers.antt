use Rattle.std.proofs.Common.{◌≡◌, ◌++◌, sym, ap, ◌∙◌}
use Rattle.hdl_tree.specs.Chips.{count}
use Rattle.name_table.specs.Names.{find_value}
use Rattle.name_table.specs.Tables.{table_of}
use Rattle.name_table.proofs.Entries.{one_next}
use Rattle.hdl_check.proofs.Drivers.{widths_put}
use Rattle.hdl_check.proofs.catalog.enter_net.Goals as goal

pub returns-in_ok-enter-in-Net : goal.returns-in_ok-enter-in-Net
returns-in_ok-enter-in-Net c = λ x.
    let name : c.as_bytes.result.now ≡ c.in-Net.net.name = cc in
    let width : c.count_bits-width.result ≡ count c.args.connection.now.pin.subscript c.in-Some.port.width = cc in
    one_next x c.as_bytes.result.now (table_of c.enter.new.self) (table_of c.args.nets.now) c.count_bits-width.result c.in_ok-enter-in-Net.ensures.entered
    ∙ ap (λ es. find_value x (table_of c.args.nets.now ++ es)) (sym (widths_put c.args.port c.in-Some.port c.args.connection.now c.in-Net.net c.as_bytes.result.now c.count_bits-width.result c.in-Some.is c.if-port.false c.in-Net.is name width))
