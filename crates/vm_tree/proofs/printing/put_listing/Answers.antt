use Rattle.std.proofs.Common.{List, ℕ, take, subst}
use Rattle.outer_world.specs.Written.{Passes}
use Rattle.outer_world.specs.declared.sink.Put.TheVariants as put
use Rattle.outer_world.proofs.Passing.{Puts-finished}
use Rattle.vm_tree.specs.Printed.{files_text}
use Rattle.vm_tree.proofs.printing.put_listing.Goals as goal

pub returns-in-Done-clause-put : goal.returns-in-Done-clause-put
returns-in-Done-clause-put g c =
    let P : List ℕ → Type 0 = λ p. Passes (g.S.Sink.state c.args.pieces.now.sink.now) p (g.S.Sink.state c.put_all_named.new.out.sink.now) (take c.put_all_named.new.out.len c.put_all_named.new.out.buffer)
    (files_text c.args.files.now) put.Done in
    Puts-finished _ _ _ _ _ _ (subst P c.requires c.in-Done.ensures.passes) c.finish.ensures.put
