use Rattle.std.proofs.Common.{◌≤◌, length, map}
use Rattle.grammar.proofs.Repeats.{Along}
use Rattle.jack_tree.specs.declared.tree.ClassVariables.{ClassVariables}
use Rattle.jack_tree.specs.Tokens.{Word, view}
use Rattle.jack_parser.specs.declared.counts.Counts.{Counts}
use Rattle.jack_parser.specs.Grammar.{jack, Part, Said, class_variables}
use Rattle.jack_parser.specs.ClassTrees.{variables_tree}
use Rattle.jack_parser.proofs.classes.all_variables.Given as goal

abbrev pub invariant-all : goal.invariant-all
invariant-all l = record {
  along : Along Word Counts Part Said ClassVariables (jack l.end) class_variables variables_tree l.fn.counts (map view l.tokens) l.all.items l.so_far (map view l.rest);
  no_longer : length l.rest ≤ length l.tokens;
}

abbrev pub decreases-all : goal.decreases-all
decreases-all l = length l.rest
