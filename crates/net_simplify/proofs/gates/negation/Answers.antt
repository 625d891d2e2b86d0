use Rattle.std.proofs.Common.{arith}
use Rattle.std.proofs.lemmas.Grind.{elements}
use Rattle.net_simplify.proofs.gates.negation.Goals as goal

pub returns-then-i-j : goal.returns-then-i-j
returns-then-i-j c = grind (arith, elements)

pub returns-else-i-j : goal.returns-else-i-j
returns-else-i-j c = grind (arith, elements)

pub returns-in_default : goal.returns-in_default
returns-in_default c = grind (arith, elements)
