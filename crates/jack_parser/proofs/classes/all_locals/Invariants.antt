use Rattle.std.proofs.Common.{◌≤◌, length, map}
use Rattle.grammar.proofs.Repeats.{Along}
use Rattle.jack_tree.specs.declared.tree.Locals.{Locals}
use Rattle.jack_tree.specs.Tokens.{Word, view}
use Rattle.jack_parser.specs.declared.counts.Counts.{Counts}
use Rattle.jack_parser.specs.Grammar.{jack, Part, Said, locals_rule}
use Rattle.jack_parser.specs.ClassTrees.{locals_tree}
use Rattle.jack_parser.proofs.classes.all_locals.Given as goal

abbrev pub invariant-all : goal.invariant-all
invariant-all l = record {
  along : Along Word Counts Part Said Locals (jack l.end) locals_rule locals_tree l.fn.counts (map view l.tokens) l.all.items l.so_far (map view l.rest);
  no_longer : length l.rest ≤ length l.tokens;
}

abbrev pub decreases-all : goal.decreases-all
decreases-all l = length l.rest
