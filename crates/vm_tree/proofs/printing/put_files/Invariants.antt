use Rattle.std.proofs.Common.{◌≡◌, drop, take}
use Rattle.vm_tree.specs.Printed.{program_text}
use Rattle.outer_world.proofs.Prints.{Prints}
use Rattle.vm_tree.proofs.printing.put_files.Given as goal

abbrev pub invariant-loop-file : goal.invariant-loop-file
invariant-loop-file g l = (l.out.sink.ghost_name ≡ l.fn.out.sink.ghost_name)
    × Prints (program_text l.files) (program_text (drop l.file-index l.files)) (g.S.Sink.state l.fn.out.sink.now) (take l.fn.out.len l.fn.out.buffer)
    (g.S.Sink.state l.out.sink.now) (take l.out.len l.out.buffer)
