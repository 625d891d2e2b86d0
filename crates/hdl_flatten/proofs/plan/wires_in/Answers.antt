use Rattle.std.proofs.Common.{◌≡◌, ℕ, ap, ◌∙◌, map}
use Rattle.hdl_check.specs.Inner.Progress.{chips_of}
use Rattle.hdl_flatten.specs.declared.size.Size.{Size}
use Rattle.hdl_flatten.specs.Trees.{end_nodes}
use Rattle.hdl_flatten.specs.Inner.Wired.{bit_of, wires_of}
use Rattle.hdl_flatten.specs.Inner.Plans.{plans_at, own_size}
use Rattle.hdl_flatten.proofs.Planning.{wires_are}
use Rattle.hdl_flatten.proofs.plan.wires_in.Goals as goal

pub returns : goal.returns
returns c =
    let chips = chips_of c.args.catalog.now in
    let own : Size = record { nodes = c.count_nodes.result; parts = 0 } in
    let own_is : own ≡ own_size chips c.args.entry.now = ap (λ (n : ℕ). record { nodes = n; parts = 0 }) (c.count_nodes.ensures ∙ ap end_nodes c.find_end-end.ensures) in
    wires_are chips c.args.entry.now (plans_at c.args.plans.now c.args.rs.now) (wires_of c.new-wires.result) (wires_of c.enter_inputs.new.wires) (wires_of c.enter_end.new.wires) (wires_of c.wire_parts.new.wires) (map bit_of c.args.inputs.now) (map bit_of c.args.outputs.now) c.find_end-end.result own c.parts_in.result.now
    c.new-wires.ensures c.requires.inputs c.requires.outputs c.find_end-end.ensures own_is c.parts_in.ensures c.in_ok-enter_inputs.ensures c.in_ok-enter_end.ensures c.in_ok-wire_parts.ensures
