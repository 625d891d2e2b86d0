use Rattle.std.proofs.Common.{◌≡◌, ◌∙◌}
use Rattle.std.proofs.lemmas.List.Elements.{All-weaker}
use Rattle.netlist.proofs.Rows.{spelled_same}
use Rattle.gate_sim.specs.Calls.{cycle_of}
use Rattle.script_device.specs.Simulated.{IsSeen, stored_at}
use Rattle.script_device.proofs.bus.bus_word.Goals as goal

pub returns : goal.returns
returns c = λ calls told v stands last values.
    let s = c.args.sim.now in
    c.stored_word.ensures
    ∙ spelled_same (stored_at s) (λ i. v i (cycle_of told)) c.args.nodes.now
    (All-weaker (IsSeen s.frame) (λ i. stored_at s i ≡ v i (cycle_of told)) (c.stored_law.ensures calls told v stands last values) c.args.nodes.now c.requires.seen)
