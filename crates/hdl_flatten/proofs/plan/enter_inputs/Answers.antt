use Rattle.std.proofs.Common.{◌+◌, take, map}
use Rattle.std.proofs.lemmas.Option.{slice_get-get_or}
use Rattle.hdl_flatten.specs.declared.wires.Origin.TheVariants.{Input}
use Rattle.hdl_flatten.specs.Inner.Wired.{bit_of, wires_of}
use Rattle.hdl_flatten.specs.Inner.Plans.{numbered_bits}
use Rattle.hdl_flatten.proofs.Wiring.{more_then, more_is}
use Rattle.hdl_flatten.proofs.Planning.{numbered_take}
use Rattle.hdl_flatten.proofs.plan.enter_inputs.Goals as goal

pub loop-k-preserved : goal.loop-k-preserved
loop-k-preserved c =
    let bits = c.args.inputs.now in
    let k = c.loop-k.k in
    more_is (wires_of c.args.wires.now) (wires_of c.enter.new.self) _ (numbered_bits Input 0 (map bit_of (take (k + 1) bits))) (numbered_take Input bits k _ (slice_get-get_or bits k _ c.loop-k-test.true))
    (more_then (wires_of c.args.wires.now) (wires_of c.loop-k.wires) (wires_of c.enter.new.self) (numbered_bits Input 0 (map bit_of (take k bits))) _ c.loop-k.invariant c.in_ok-enter.ensures)
