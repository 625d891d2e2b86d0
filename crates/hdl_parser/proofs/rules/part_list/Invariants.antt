use Rattle.std.proofs.Common.{◌≤◌, ℕ, length, map}
use Rattle.grammar.proofs.Repeats.{Along}
use Rattle.hdl_tree.specs.declared.tree.Part.{Part}
use Rattle.hdl_parser.specs.Tokens.{Word, view}
use Rattle.hdl_parser.specs.Grammar.{hdl, Said, part}
use Rattle.hdl_parser.specs.Trees.{part_tree}
use Rattle.hdl_parser.proofs.rules.part_list.Given as goal

abbrev pub invariant-all : goal.invariant-all
invariant-all l = record {
  along : Along Word ℕ (Unit {0}) Said Part (hdl l.end) part part_tree 0 (map view l.tokens) l.parts.items 0 (map view l.rest);
  no_longer : length l.rest ≤ length l.tokens;
}

abbrev pub decreases-all : goal.decreases-all
decreases-all l = length l.rest
