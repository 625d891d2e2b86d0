use Rattle.std.proofs.Common.{◌∷◌, ap, ◌∙◌}
use Rattle.netlist.specs.Histories.{rank}
use Rattle.netlist.specs.Net.{Net}
use Rattle.gate_sim.specs.Calls.{pins_of}
use Rattle.gate_sim.specs.Calls.Call.{Set}
use Rattle.gate_sim.proofs.Inputs.{pins_set}
use Rattle.gate_computer.proofs.reading.set_pin.Goals as goal

pub returns-then-old-new-clause-told : goal.returns-then-old-new-clause-told
returns-then-old-new-clause-told c calls stands was =
    let nodes = c.args.sim.now.net.nodes in
    let now = Set (rank nodes c.args.node) c.args.new ∷ calls in
    record {
      now = now;
      stands = c.set.ensures.stands calls stands;
      pins = λ k. ap (λ (m : Net). pins_of m.nodes now k) c.set.ensures.net ∙ pins_set nodes calls c.args.node c.args.new c.requires k;
      runs = λ h n r. record { cycle = r.cycle; pins = r.pins; earlier = r.earlier; words = r.words };
    }
