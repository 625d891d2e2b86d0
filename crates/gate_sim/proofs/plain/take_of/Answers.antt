use Rattle.std.proofs.Common.{Some, ap, sym, ◌∙◌}
use Rattle.std.specs.Prelude.{slice_index_or}
use Rattle.std.proofs.lemmas.Option.{same_Some, slice_get-get_or}
use Rattle.netlist.specs.declared.node.Node.TheVariants.{Pin, Flip}
use Rattle.gate_sim.specs.Inner.Plain.{plain_take}
use Rattle.gate_sim.proofs.plain.take_of.Goals as goal

pub node_take-requires : goal.node_take-requires
node_take-requires c i e =
    let there = slice_get-get_or c.args.nodes.now c.args.k Pin c.requires.node in
    c.requires.ordered.fit c.args.k (Flip i) (there ∙ ap Some e)

pub returns : goal.returns
returns c node at =
    let there = slice_get-get_or c.args.nodes.now c.args.k Pin c.requires.node in
    c.node_take.ensures ∙ ap (plain_take c.args.nodes.now c.args.k) (same_Some (slice_index_or c.args.nodes.now c.args.k Pin) node (sym there ∙ at))
