use Rattle.std.proofs.Common.{List, ℕ, take, subst}
use Rattle.outer_world.specs.Written.{Passes}
use Rattle.outer_world.specs.declared.sink.Put.TheVariants as put
use Rattle.outer_world.proofs.Passing.{Puts-finished}
use Rattle.vm_tree.specs.Printed.{program_text}
use Rattle.vm_tree.proofs.printing.put_program.Goals as goal

pub returns-in-Done-clause-put : goal.returns-in-Done-clause-put
returns-in-Done-clause-put g c =
    let P : List ℕ → Type 0 = λ p. Passes (g.S.Sink.state c.args.out.now.sink.now) p (g.S.Sink.state c.put_files.new.out.sink.now) (take c.put_files.new.out.len c.put_files.new.out.buffer)
    (program_text c.args.program.now) put.Done in
    Puts-finished _ _ _ _ _ _ (subst P c.requires (rw c.as_slice.ensures at c.in-Done.ensures.passes)) c.finish.ensures.put
