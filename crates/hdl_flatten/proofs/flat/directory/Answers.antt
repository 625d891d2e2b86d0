use Rattle.std.proofs.Common.{◌≡◌, ◌++◌, map, ap, ◌∙◌}
use Rattle.hdl_flatten.specs.Flat.{pin_at}
use Rattle.hdl_flatten.specs.Inner.Fed.{nodes_in}
use Rattle.hdl_flatten.specs.Inner.Putting.{own_nodes}
use Rattle.hdl_flatten.specs.Inner.Wired.{wires_of}
use Rattle.hdl_flatten.proofs.flat.directory.Goals as goal

pub returns : goal.returns
returns c =
    let plan = c.args.plan.now in
    let own = pin_at (own_nodes (wires_of plan.wires) c.args.base (nodes_in c.args.inputs.now)) in
    let first : c.list_pins.new.listed.items ≡ map own plan.entry.now.chip.inputs =
    c.in_ok-list_pins.ensures ∙ ap (λ l. l ++ map own c.as_slice-pins.result.now) c.new-listed.ensures.items ∙ ap (λ ps. map own ps) c.as_slice-pins.ensures in
    c.in_ok-list_pins-2.ensures ∙ ap (λ l. l ++ map own c.as_slice-pins-2.result.now) first ∙ ap (λ ps. map own plan.entry.now.chip.inputs ++ map own ps) c.as_slice-pins-2.ensures
