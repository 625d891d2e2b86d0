use Rattle.std.proofs.Common.{◌≡◌, length, ℕ, map, List}
use Rattle.std.specs.Prelude.{Option}
use Rattle.grammar.proofs.Repeats.{Along}
use Rattle.vm_tree.specs.declared.command.Command.{Command}
use Rattle.vm_parser.specs.Tokens.{Word, view}
use Rattle.vm_parser.specs.Grammar.{Said, vm, line, greatest}
use Rattle.vm_parser.specs.Trees.{line_tree, commands}
use Rattle.vm_parser.proofs.rules.lines.Given as goal

abbrev pub invariant-lines : goal.invariant-lines
invariant-lines l = (xs : List (Option Command)) × (l.lines ≡ commands xs) × Along Word ℕ (Unit {0}) Said (Option Command) (vm l.end) line line_tree greatest (map view l.tokens) xs greatest (map view l.rest)

abbrev pub decreases-lines : goal.decreases-lines
decreases-lines l = length l.rest
