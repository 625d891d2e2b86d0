use Rattle.std.proofs.Common.{◌≤◌, length, map}
use Rattle.grammar.proofs.Repeats.{Along}
use Rattle.jack_tree.specs.declared.tree.Subroutine.{Subroutine}
use Rattle.jack_tree.specs.Tokens.{Word, view}
use Rattle.jack_parser.specs.declared.counts.Counts.{Counts}
use Rattle.jack_parser.specs.Grammar.{jack, Part, Said, subroutine}
use Rattle.jack_parser.specs.ClassTrees.{subroutine_tree}
use Rattle.jack_parser.proofs.classes.subroutines.Given as goal

abbrev pub invariant-all : goal.invariant-all
invariant-all l = record {
  along : Along Word Counts Part Said Subroutine (jack l.end) subroutine subroutine_tree l.counts (map view l.tokens) l.all.items l.counts (map view l.rest);
  no_longer : length l.rest ≤ length l.tokens;
}

abbrev pub decreases-all : goal.decreases-all
decreases-all l = length l.rest
