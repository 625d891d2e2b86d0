use Rattle.std.proofs.Common.{◌≡◌, ◌<◌, length, get_or, arith, sym, subst}
use Rattle.std.specs.List.{All, Contains}
use Rattle.std.proofs.lemmas.Option.{slice_get_within}
use Rattle.netlist.specs.declared.node.Node.{Node}
use Rattle.netlist.specs.declared.node.Node.TheVariants.{Pin}
use Rattle.script_device.specs.Inner.Naming.{with_pin}
use Rattle.script_device.specs.Simulated.{IsWanted}
use Rattle.script_device.proofs.Keeping.{all_there, only_next, pin_next, still}
use Rattle.script_device.proofs.chip_sim.with_pins.Goals as goal

pub loop-k-preserved : goal.loop-k-preserved
loop-k-preserved c =
    let nodes = c.args.nodes.now in
    let k = c.loop-k.k in
    let kept = c.loop-k.kept.items in
    let node : Node = get_or nodes k Pin in
    let e : c.push_pin.new.kept.items ≡ with_pin kept k node = c.in_ok-push_pin.ensures in
    let i = c.loop-k.invariant in
    record {
      there = subst (All (λ j. j < length nodes)) (sym e) (all_there (λ j. j < length nodes) kept k node c.loop-k-test.true i.there);
      pins = λ j less pin. subst (λ l. Contains l j) (sym e) (pin_next nodes kept k i.pins j less pin);
      named = λ j h. subst (λ l. Contains l j) (sym e) (still kept k j node (i.named j h));
      only = subst (All (IsWanted nodes c.args.named.now)) (sym e) (only_next nodes c.args.named.now kept k c.loop-k-test.true i.only);
    }

pub returns-clause-pins : goal.returns-clause-pins
returns-clause-pins c = λ k pin.
    let within = slice_get_within c.args.nodes.now k Pin pin in
    let end = c.loop-k-test.false in
    c.loop-k.invariant.pins k (omega arith) pin
