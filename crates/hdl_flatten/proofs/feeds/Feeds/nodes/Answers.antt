use Rattle.std.proofs.Common.{map}
use Rattle.hdl_flatten.specs.Inner.Wired.{bit_of, wires_of}
use Rattle.hdl_flatten.specs.Inner.Fed.{nodes_in}
use Rattle.hdl_flatten.proofs.Feeding.{feeds_placed}
use Rattle.hdl_flatten.proofs.feeds.Feeds.nodes.Goals as goal

pub returns-in_ok-nodes_at-in-Few : goal.returns-in_ok-nodes_at-in-Few
returns-in_ok-nodes_at-in-Few c = feeds_placed c.args.base (nodes_in c.args.inputs.now) c.args.self.now c.in-Few.field-0 c.in-Few.wires (wires_of c.in_ok-nodes_at-in-Few.field-0) (map bit_of c.args.bits.now) c.in-Few.is c.requires.may c.in_ok-nodes_at-in-Few.ensures
