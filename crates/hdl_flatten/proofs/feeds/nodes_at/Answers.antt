use Rattle.std.proofs.Common.{◌≡◌, ℕ, ◌+◌, ◌∷◌, [], ◌++◌, take, ap, ◌∙◌, arith}
use Rattle.std.proofs.lemmas.List.{take_all}
use Rattle.hdl_flatten.specs.declared.wires.Origin.TheVariants.{Gate}
use Rattle.hdl_flatten.specs.Inner.Wired.{bit_of, wires_of}
use Rattle.hdl_flatten.specs.Inner.Fed.{nodes_in, as_nodes}
use Rattle.hdl_flatten.proofs.Wiring.{more_then, more_is}
use Rattle.hdl_flatten.proofs.Feeding.{as_nodes_next, nodes_found}
use Rattle.hdl_flatten.proofs.feeds.nodes_at.Goals as goal

pub loop-k-preserved : goal.loop-k-preserved
loop-k-preserved c =
    let k = c.loop-k.k in
    let bit = bit_of c.entry-origin.result.0 in
    let es = wires_of c.args.wires.now in
    let is = nodes_in c.args.inputs.now in
    let front = as_nodes c.args.base is (take k es) in
    let next = as_nodes_next c.args.base is es k (bit, c.entry-origin.result.1) c.entry-origin.ensures.there in
    more_is [] (wires_of c.enter.new.self) (front ++ (bit, Gate c.node_of.result) ∷ []) (as_nodes c.args.base is (take (k + 1) es)) (ap (λ (n : ℕ). front ++ (bit, Gate n) ∷ []) c.node_of.ensures ∙ next)
    (more_then [] (wires_of c.loop-k.nodes) (wires_of c.enter.new.self) front ((bit, Gate c.node_of.result) ∷ []) c.loop-k.invariant c.in_ok-enter.ensures)

pub returns : goal.returns
returns c =
    let es = wires_of c.args.wires.now in
    let is = nodes_in c.args.inputs.now in
    let new = wires_of c.loop-k.nodes in
    let all : take c.loop-k.k es ≡ es = take_all c.loop-k.k es (omega (arith, c.len-k-end.ensures)) in
    nodes_found c.args.base is new es (more_is [] new (as_nodes c.args.base is (take c.loop-k.k es)) (as_nodes c.args.base is es) (ap (as_nodes c.args.base is) all) c.loop-k.invariant)
