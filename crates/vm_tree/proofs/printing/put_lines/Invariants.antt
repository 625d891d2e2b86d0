use Rattle.std.proofs.Common.{◌≡◌, drop, take}
use Rattle.vm_tree.specs.Printed.{lines_text}
use Rattle.outer_world.proofs.Prints.{Prints}
use Rattle.vm_tree.proofs.printing.put_lines.Given as goal

abbrev pub invariant-loop-line : goal.invariant-loop-line
invariant-loop-line g l = (l.out.sink.ghost_name ≡ l.fn.out.sink.ghost_name)
    × Prints (lines_text l.lines) (lines_text (drop l.line-index l.lines)) (g.S.Sink.state l.fn.out.sink.now) (take l.fn.out.len l.fn.out.buffer)
    (g.S.Sink.state l.out.sink.now) (take l.out.len l.out.buffer)
