use Rattle.std.proofs.Common.{◌≡◌, ◌<◌, ◌≤◌, ◌+◌, ◌*◌, length, map, Ok}
use Rattle.grammar.specs.Rules.{name, repeat, here, Node, Pair, tree_of_list}
use Rattle.grammar.proofs.Continues.{Continues}
use Rattle.jack_tree.specs.Tokens.{Word, view}
use Rattle.jack_parser.specs.declared.counts.Counts.{Counts}
use Rattle.jack_parser.specs.Grammar.{jack, Part, Said, deeper, expression, operation, argument_list, next_argument}
use Rattle.jack_parser.specs.Trees.{term_tree, operation_tree, list_with}
use Rattle.jack_parser.proofs.expressions.+reading.Given as goal

-- at one place a nested expression, an expression, a term and a kind of term are read in this order
abbrev pub decreases-arguments : goal.decreases-arguments
decreases-arguments l = 5 * length l.tokens.now + 4

abbrev pub decreases-argument : goal.decreases-argument
decreases-argument l = 5 * length l.tokens.now + 3

abbrev pub decreases-nested : goal.decreases-nested
decreases-nested l = 5 * length l.tokens.now + 3

abbrev pub decreases-expression : goal.decreases-expression
decreases-expression l = 5 * length l.tokens.now + 2

abbrev pub decreases-term : goal.decreases-term
decreases-term l = 5 * length l.tokens.now + 1

abbrev pub decreases-grouped : goal.decreases-grouped
decreases-grouped l = 5 * length l.tokens.now

abbrev pub decreases-negation : goal.decreases-negation
decreases-negation l = 5 * length l.tokens.now

abbrev pub decreases-variable : goal.decreases-variable
decreases-variable l = 5 * length l.tokens.now

abbrev pub invariant-expression-operators : goal.invariant-expression-operators
invariant-expression-operators l = record {
  so_far : Continues Word Counts Part Said (jack l.end) (name expression) l.counts (map view l.tokens) (λ x. Node (Pair (term_tree l.first) (tree_of_list operation_tree l.operations.items x))) (repeat operation) l.counts (map view l.rest);
  shorter : length l.rest < length l.tokens;
}

abbrev pub decreases-expression-operators : goal.decreases-expression-operators
decreases-expression-operators l = length l.rest

abbrev pub invariant-arguments-more : goal.invariant-arguments-more
invariant-arguments-more l = record {
  so_far : (inner : Counts) × (deeper l.fn.counts (here (jack l.end) (map view l.tokens)) ≡ Ok inner) × Continues Word Counts Part Said (jack l.end) argument_list inner (map view l.tokens) (list_with l.arguments.items) (repeat next_argument) l.so_far (map view l.rest);
  shorter : length l.rest < length l.tokens;
  some : 1 ≤ length l.arguments.items;
}

abbrev pub decreases-arguments-more : goal.decreases-arguments-more
decreases-arguments-more l = length l.rest

abbrev pub decreases-called : goal.decreases-called
decreases-called l = 5 * length l.tokens.now

abbrev pub decreases-call_of : goal.decreases-call_of
decreases-call_of l = 5 * length l.tokens.now + 1
