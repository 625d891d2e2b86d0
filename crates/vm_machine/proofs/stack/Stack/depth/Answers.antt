use Rattle.std.proofs.Common.{sym}
use Rattle.vm_machine.proofs.Laying.{in_below}
use Rattle.vm_machine.proofs.stack.Stack.depth.Goals as goal

pub returns : goal.returns
returns c = sym (in_below c.self.inside.words.items c.self.inside.calls.items c.self.inside.depth c.self.inside.top c.self.inside.end c.args.self.now c.self.view_is)
