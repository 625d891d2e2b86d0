use Rattle.std.proofs.Common.{List, [], ap, sym, subst, ◌∙◌, map}
use Rattle.hdl_tree.specs.declared.tree.Connection.{Connection}
use Rattle.hdl_check.specs.Faults.{ports_of}
use Rattle.hdl_flatten.specs.declared.wires.Bit.{Bit}
use Rattle.hdl_flatten.specs.Trees.{all_bits}
use Rattle.hdl_flatten.specs.Inner.Wired.{bit_of, wires_of, origins_at, FindsMore}
use Rattle.hdl_flatten.specs.Inner.Plans.{all_fed}
use Rattle.hdl_flatten.proofs.Planning.{origins_same, few_same}
use Rattle.hdl_flatten.proofs.plan.plan_part.Goals as goal

pub of-requires : goal.of-requires
of-requires c = ap (λ (bs : List Bit). map bit_of bs) c.deref.ensures.value ∙ c.requires.inputs ∙ ap all_bits (sym c.as_slice-pins.ensures)

pub returns-clause-origins : goal.returns-clause-origins
returns-clause-origins c =
    let x = c.args.inner.now in
    let ports = ports_of x.entry.now.chip in
    let fed = wires_of c.in_ok-fed.fed in
    let more = subst (λ (cs : List Connection). FindsMore [] fed (all_fed (wires_of c.args.wires.now) ports cs)) c.as_slice.ensures (c.in_ok-fed.ensures ports (c.ports_at-ports.ensures x.entry.now c.requires.there)) in
    c.in_ok-feeds.ensures.origins ∙ ap (λ (bs : List Bit). origins_at fed (map bit_of bs)) c.deref.ensures.value ∙ origins_same fed (all_fed (wires_of c.args.wires.now) ports c.args.part.now.connections) (map bit_of x.inputs.items) more

pub returns-clause-few : goal.returns-clause-few
returns-clause-few c =
    let x = c.args.inner.now in
    let ports = ports_of x.entry.now.chip in
    let fed = wires_of c.in_ok-fed.fed in
    let more = subst (λ (cs : List Connection). FindsMore [] fed (all_fed (wires_of c.args.wires.now) ports cs)) c.as_slice.ensures (c.in_ok-fed.ensures ports (c.ports_at-ports.ensures x.entry.now c.requires.there)) in
    few_same c.in_ok-feeds.feeds (map bit_of c.deref.result.now) (map bit_of x.inputs.items) fed (all_fed (wires_of c.args.wires.now) ports c.args.part.now.connections) (ap (λ (bs : List Bit). map bit_of bs) c.deref.ensures.value) more c.in_ok-feeds.ensures.few
