use Rattle.std.proofs.Common.{ap, sym, ◌∙◌, length, ◌/◌, ◌%◌, ◌^◌}
use Rattle.gate_sim.proofs.Addresses.{number_side}
use Rattle.gate_sim.proofs.pass.number_in_row.Goals as goal

pub returns : goal.returns
returns c =
    c.bits_from.ensures ∙ ap (λ s. s.value / 2 ^ c.args.first.at % 2 ^ length c.args.nodes.now) c.slot_at.ensures
    ∙ sym (number_side c.args.places.now c.args.q c.args.nodes.now c.args.first c.requires.side c.args.slots.now)
