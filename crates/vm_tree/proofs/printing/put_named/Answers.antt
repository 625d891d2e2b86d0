use Rattle.outer_world.proofs.Passing.{Passes-then, Passes-cut}
use Rattle.vm_tree.specs.Printed.{file_line, file_text}
use Rattle.vm_tree.proofs.printing.put_named.Goals as goal

pub returns-in-Done-clause-passes : goal.returns-in-Done-clause-passes
returns-in-Done-clause-passes g c =
    let head = rw c.as_str.ensures at c.in-Done.ensures.passes in
    Passes-then _ _ _ _ _ _ (file_line c.args.file.now.name) (file_text c.args.file.now) c.put_file.result head c.put_file.ensures.passes

pub returns-in-Failed-clause-passes : goal.returns-in-Failed-clause-passes
returns-in-Failed-clause-passes g c =
    let head = rw c.as_str.ensures at c.in-Failed.ensures.passes in
    Passes-cut _ _ _ _ (file_line c.args.file.now.name) (file_text c.args.file.now) head
