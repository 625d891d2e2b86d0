use Rattle.std.proofs.Common.{◌<◌, ◌≤◌, ℕ, length, map}
use Rattle.grammar.specs.Rules.{repeat}
use Rattle.grammar.proofs.Continues.{Continues}
use Rattle.hdl_parser.specs.Tokens.{Word, view}
use Rattle.hdl_parser.specs.Grammar.{hdl, Said, row, next_of, name}
use Rattle.hdl_parser.specs.Trees.{row_with, name_leaf}
use Rattle.hdl_parser.proofs.rules.name_list.Given as goal

abbrev pub invariant-more : goal.invariant-more
invariant-more l = record {
  so_far : Continues Word ℕ (Unit {0}) Said (hdl l.end) (row name) 0 (map view l.tokens) (row_with name_leaf l.names.items) (repeat (next_of name)) 0 (map view l.rest);
  shorter : length l.rest < length l.tokens;
  some : 1 ≤ length l.names.items;
}

abbrev pub decreases-more : goal.decreases-more
decreases-more l = length l.rest
