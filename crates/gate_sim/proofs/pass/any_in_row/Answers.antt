use Rattle.std.proofs.Common.{ap, sym, ◌∙◌, nat_eq, length, ◌/◌, ◌%◌, ◌^◌}
use Rattle.std.specs.Prelude.{not}
use Rattle.gate_sim.proofs.Addresses.{any_side}
use Rattle.gate_sim.proofs.pass.any_in_row.Goals as goal

pub returns : goal.returns
returns c =
    ap (λ n. not (nat_eq n 0)) (c.bits_from.ensures ∙ ap (λ s. s.change / 2 ^ c.args.first.at % 2 ^ length c.args.nodes.now) c.slot_at.ensures)
    ∙ sym (any_side c.args.places.now c.args.q c.args.nodes.now c.args.first c.requires.side c.args.slots.now)
