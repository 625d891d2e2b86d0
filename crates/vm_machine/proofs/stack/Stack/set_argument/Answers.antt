use Rattle.std.proofs.Common.{◌+◌, length, arith}
use Rattle.vm_machine.proofs.Laying.{argument_test, in_arguments, argument_set, same_arguments, below_kept, set_after}
use Rattle.vm_machine.proofs.stack.Stack.set_argument.Goals as goal

pub returns-then-is_there-clause-there : goal.returns-then-is_there-clause-there
returns-then-is_there-clause-there c = argument_test c.self.inside.top.arguments c.args.i c.self.inside.top.locals (length c.args.self.now.top.arguments) (in_arguments c.self.inside.words.items c.self.inside.calls.items c.self.inside.depth c.self.inside.top c.self.inside.end c.args.self.now c.self.view_is)

pub returns-else-is_there-clause-there : goal.returns-else-is_there-clause-there
returns-else-is_there-clause-there c = argument_test c.self.inside.top.arguments c.args.i c.self.inside.top.locals (length c.args.self.now.top.arguments) (in_arguments c.self.inside.words.items c.self.inside.calls.items c.self.inside.depth c.self.inside.top c.self.inside.end c.args.self.now c.self.view_is)

pub returns-then-is_there-clause-top : goal.returns-then-is_there-clause-top
returns-then-is_there-clause-top c =
    let l = c.self.invariant.top_laid in
    rw (← c.self.view_is) (argument_set c.self.inside.words.items c.self.inside.top c.self.inside.end c.args.i c.args.w l (omega (arith, c.if-is_there.true)) (omega (arith, c.if-is_there.true, l.locals, l.values, c.self.invariant.room, c.self.invariant.within)))

pub returns-then-is_there-clause-below : goal.returns-then-is_there-clause-below
returns-then-is_there-clause-below c =
    let l = c.self.invariant.top_laid in
    rw (← c.self.view_is) (below_kept c.self.inside.words.items _ c.self.inside.calls.items c.self.inside.depth c.self.inside.top c.self.inside.top.arguments
    (set_after c.self.inside.words.items (c.self.inside.top.arguments + c.args.i) c.args.w 0 c.self.inside.top.arguments (omega (arith, l.arguments))) c.self.invariant.laid (omega arith))

pub returns-else-is_there-clause-top : goal.returns-else-is_there-clause-top
returns-else-is_there-clause-top c =
    let n = in_arguments c.self.inside.words.items c.self.inside.calls.items c.self.inside.depth c.self.inside.top c.self.inside.end c.args.self.now c.self.view_is in
    same_arguments c.args.self.now.top c.args.i c.args.w (omega (arith, n, c.if-is_there.false))
