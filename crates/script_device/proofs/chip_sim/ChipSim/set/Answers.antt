use Rattle.std.proofs.Common.{◌≡◌, ◌∷◌, Some, sym, ap, ◌∙◌, subst}
use Rattle.std.specs.Prelude.{slice_get}
use Rattle.netlist.specs.declared.node.Node.TheVariants.{Pin}
use Rattle.netlist.specs.Histories.{rank}
use Rattle.gate_sim.specs.Calls.Call.{Set}
use Rattle.gate_sim.specs.Stands.{StandsFor}
use Rattle.script_device.specs.Simulated.{net_of}
use Rattle.script_device.proofs.Placed.{pin_inside, told_next}
use Rattle.script_device.proofs.chip_sim.ChipSim.set.Goals as goal

pub set-requires : goal.set-requires
set-requires c =
    subst (λ n. slice_get c.self.inside.sim.net.nodes n ≡ Some Pin) (sym c.place_of-place.ensures)
    (pin_inside c.args.self.now c.self.inside.sim c.self.inside.whole c.self.view_is c.self.invariant c.args.node c.requires).0

pub returns-clause-stands : goal.returns-clause-stands
returns-clause-stands c = λ calls was.
    let same = (pin_inside c.args.self.now c.self.inside.sim c.self.inside.whole c.self.view_is c.self.invariant c.args.node c.requires).1 in
    let input = ap (rank c.self.inside.sim.net.nodes) c.place_of-place.ensures ∙ sym same in
    told_next c.args.self.now c.self.inside.sim c.set.new.self c.self.inside.whole c.self.view_is calls (Set (rank (net_of c.args.self.now.frame).nodes c.args.node) c.args.bit ∷ calls)
    (λ stands. subst (λ r. StandsFor c.set.new.self (Set r c.args.bit ∷ calls)) input (c.set.ensures.stands calls stands)) was
