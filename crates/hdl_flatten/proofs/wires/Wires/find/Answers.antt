use Rattle.std.proofs.Common.{◌∙◌}
use Rattle.hdl_flatten.proofs.Wiring.{wire_at}
use Rattle.hdl_flatten.proofs.wires.Wires.find.Goals as goal

pub returns : goal.returns
returns c = c.copied.ensures ∙ c.get.ensures.value ∙ wire_at c.args.bit.name.now c.args.bit.bit c.args.self.now.entries.entries
