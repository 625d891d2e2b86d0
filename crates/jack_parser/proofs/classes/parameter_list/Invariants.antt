use Rattle.std.proofs.Common.{◌<◌, ◌≤◌, length, map}
use Rattle.grammar.specs.Rules.{repeat}
use Rattle.grammar.proofs.Continues.{Continues}
use Rattle.jack_tree.specs.Tokens.{Word, view}
use Rattle.jack_parser.specs.declared.counts.Counts.{Counts}
use Rattle.jack_parser.specs.Grammar.{jack, Part, Said, parameter_list, next_parameter}
use Rattle.jack_parser.specs.ClassTrees.{parameters_with}
use Rattle.jack_parser.proofs.classes.parameter_list.Given as goal

abbrev pub invariant-more : goal.invariant-more
invariant-more l = record {
  so_far : Continues Word Counts Part Said (jack l.end) parameter_list l.fn.counts (map view l.tokens) (parameters_with l.parameters.items) (repeat next_parameter) l.so_far (map view l.rest);
  shorter : length l.rest < length l.tokens;
  some : 1 ≤ length l.parameters.items;
}

abbrev pub decreases-more : goal.decreases-more
decreases-more l = length l.rest
