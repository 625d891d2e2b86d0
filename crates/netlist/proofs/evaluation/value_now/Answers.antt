use Rattle.std.proofs.Common.{arith}
use Rattle.std.proofs.lemmas.Grind.{elements}
use Rattle.netlist.proofs.evaluation.value_now.Goals as goal

pub bounds-blocks-b : goal.bounds-blocks-b
bounds-blocks-b c = grind (arith, elements)

pub bounds-memory-b : goal.bounds-memory-b
bounds-memory-b c = grind (arith, elements)

pub shown_word-requires-clause-address : goal.shown_word-requires-clause-address
shown_word-requires-clause-address c = grind (arith, elements)

pub shown_word-requires-clause-row : goal.shown_word-requires-clause-row
shown_word-requires-clause-row c = grind (arith, elements)

pub returns-in-Word : goal.returns-in-Word
returns-in-Word c = grind (arith, elements)
