use Rattle.std.proofs.Common.{List, subst}
use Rattle.netlist.specs.declared.node.Node.{Node}
use Rattle.netlist.specs.declared.node.Block.{Block}
use Rattle.netlist.specs.Net.{Net}
use Rattle.net_simplify.specs.Inner.Twice.{IsWhole}
use Rattle.net_simplify.specs.Twice.{IsFoldedTwice}
use Rattle.net_simplify.proofs.Lists.{ok_weaker}
use Rattle.net_simplify.proofs.simplifying.simplify.Goals as goal

abbrev the_net : List Node → List Block → Net
the_net nodes blocks = record { nodes = nodes; blocks = blocks }

pub returns-clause-folded : goal.returns-clause-folded
returns-clause-folded c =
    let net = c.args.net.now in
    let keep = c.args.keep.now in
    ok_weaker c.simplified.result (λ s. IsWhole (the_net c.nodes.result.now c.blocks-2.result.now) s.net keep s.place.items) (λ s. IsFoldedTwice net s.net keep s.place.items)
    (λ s h. subst (λ bs. IsFoldedTwice (the_net net.nodes bs) s.net keep s.place.items) c.blocks-2.ensures.value
    (subst (λ ns. IsFoldedTwice (the_net ns c.blocks-2.result.now) s.net keep s.place.items) c.nodes.ensures.value h.folded))
    c.simplified.ensures
