use Rattle.std.proofs.Common.{◌≡◌, length, ℕ, map, List}
use Rattle.grammar.proofs.Repeats.{Along}
use Rattle.vm_parser.specs.Tokens.{Word, view}
use Rattle.vm_parser.specs.Grammar.{Said, vm, function, greatest}
use Rattle.vm_parser.specs.Trees.{WrittenFunction, function_tree, function_of}
use Rattle.vm_parser.proofs.rules.functions.Given as goal

abbrev pub invariant-functions : goal.invariant-functions
invariant-functions l = (fs : List WrittenFunction) × (l.functions ≡ map function_of fs) × Along Word ℕ (Unit {0}) Said WrittenFunction (vm l.end) function function_tree greatest (map view l.tokens) fs greatest (map view l.rest)

abbrev pub decreases-functions : goal.decreases-functions
decreases-functions l = length l.rest
