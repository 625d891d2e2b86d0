use Rattle.std.proofs.Common.{◌≤◌, length, map}
use Rattle.grammar.proofs.Repeats.{Along}
use Rattle.jack_tree.specs.declared.tree.Name.{Name}
use Rattle.jack_tree.specs.Tokens.{Word, view}
use Rattle.jack_parser.specs.declared.counts.Counts.{Counts}
use Rattle.jack_parser.specs.Grammar.{jack, Part, Said, next_name}
use Rattle.jack_parser.specs.ClassTrees.{next_name_tree}
use Rattle.jack_parser.proofs.classes.names.Given as goal

abbrev pub invariant-more : goal.invariant-more
invariant-more l = record {
  along : Along Word Counts Part Said Name (jack l.end) (next_name l.counted) next_name_tree l.initial.so_far (map view l.initial.rest) l.more.items l.so_far (map view l.rest);
  no_longer : length l.rest ≤ length l.initial.rest;
}

abbrev pub decreases-more : goal.decreases-more
decreases-more l = length l.rest
