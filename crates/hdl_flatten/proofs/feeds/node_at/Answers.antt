use Rattle.std.proofs.Common.{[], ap, ◌∙◌}
use Rattle.hdl_flatten.specs.Inner.Wired.{wires_of}
use Rattle.hdl_flatten.specs.Inner.Puts.{node_of}
use Rattle.hdl_flatten.proofs.Feeding.{few_at}
use Rattle.hdl_flatten.proofs.feeds.node_at.Goals as goal

pub returns : goal.returns
returns c = c.whole_node.ensures ∙ ap (node_of 0 []) c.origin.ensures ∙ few_at (node_of 0 []) (wires_of c.args.wires.now) c.args.bits.now c.args.k _ c.requires
