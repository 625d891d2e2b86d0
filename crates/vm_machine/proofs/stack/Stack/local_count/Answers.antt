use Rattle.std.proofs.Common.{sym}
use Rattle.vm_machine.proofs.Laying.{in_locals}
use Rattle.vm_machine.proofs.stack.Stack.local_count.Goals as goal

pub returns : goal.returns
returns c = sym (in_locals c.self.inside.words.items c.self.inside.calls.items c.self.inside.depth c.self.inside.top c.self.inside.end c.args.self.now c.self.view_is)
