use Rattle.outer_world.proofs.Passing.{Passes-then, Passes-cut}
use Rattle.vm_tree.specs.Printed.{lines_text, functions_text}
use Rattle.vm_tree.proofs.printing.put_file.Goals as goal

pub returns-in-Done-clause-passes : goal.returns-in-Done-clause-passes
returns-in-Done-clause-passes g c =
    let head = rw c.as_slice.ensures at c.in-Done.ensures.passes in
    let tail = rw c.as_slice-in-Done.ensures at c.put_functions.ensures.passes in
    Passes-then _ _ _ _ _ _ (lines_text c.args.file.now.opening) (functions_text c.args.file.now.functions) c.put_functions.result head tail

pub returns-in-Failed-clause-passes : goal.returns-in-Failed-clause-passes
returns-in-Failed-clause-passes g c =
    let head = rw c.as_slice.ensures at c.in-Failed.ensures.passes in
    Passes-cut _ _ _ _ (lines_text c.args.file.now.opening) (functions_text c.args.file.now.functions) head
