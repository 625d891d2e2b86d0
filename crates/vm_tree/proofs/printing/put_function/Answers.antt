use Rattle.std.proofs.Common.{codes}
use Rattle.outer_world.proofs.Passing.{Passes-then, Passes-cut}
use Rattle.vm_tree.specs.Printed.{with_number, lines_text}
use Rattle.vm_tree.proofs.printing.put_function.Goals as goal

pub returns-in-Done-clause-passes : goal.returns-in-Done-clause-passes
returns-in-Done-clause-passes g c =
    let head = rw c.as_str.ensures at c.in-Done.ensures.passes in
    let tail = rw c.as_slice.ensures at c.put_lines.ensures.passes in
    Passes-then _ _ _ _ _ _ (with_number (codes "function ") c.args.function.now.name c.args.function.now.locals) (lines_text c.args.function.now.lines) c.put_lines.result head tail

pub returns-in-Failed-clause-passes : goal.returns-in-Failed-clause-passes
returns-in-Failed-clause-passes g c =
    let head = rw c.as_str.ensures at c.in-Failed.ensures.passes in
    Passes-cut _ _ _ _ (with_number (codes "function ") c.args.function.now.name c.args.function.now.locals) (lines_text c.args.function.now.lines) head
