use Rattle.std.proofs.lemmas.Grind.{common_steps, elements}
use Rattle.std.proofs.Common.{false, sym, ◌∙◌, arith}
use Rattle.vm_machine.proofs.Making.{operates_two, as_outcome}
use Rattle.vm_machine.proofs.commands.operate.Goals as goal

pub returns : goal.returns
returns c = as_outcome _ _ _ _ _ (operates_two _ _ _ c.args.o c.in-Some-value.x c.in-Some.y (sym c.takes_one.ensures ∙ c.if-takes_one.false) c.in-Some.ensures c.in-Some-value.ensures) (rw c.word_of-2.ensures at (c.give-2.ensures false))

pub give-requires-clause-count : goal.give-requires-clause-count
give-requires-clause-count c = grind (arith, common_steps)

pub give-requires-2-clause-count : goal.give-requires-2-clause-count
give-requires-2-clause-count c = grind (arith, elements)
