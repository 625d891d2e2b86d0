use Rattle.std.proofs.Common.{◌≡◌, drop, take}
use Rattle.vm_tree.specs.Printed.{functions_text}
use Rattle.outer_world.proofs.Prints.{Prints}
use Rattle.vm_tree.proofs.printing.put_functions.Given as goal

abbrev pub invariant-loop-function : goal.invariant-loop-function
invariant-loop-function g l = (l.out.sink.ghost_name ≡ l.fn.out.sink.ghost_name)
    × Prints (functions_text l.functions) (functions_text (drop l.function-index l.functions)) (g.S.Sink.state l.fn.out.sink.now) (take l.fn.out.len l.fn.out.buffer)
    (g.S.Sink.state l.out.sink.now) (take l.out.len l.out.buffer)
