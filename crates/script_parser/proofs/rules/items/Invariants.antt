use Rattle.std.proofs.Common.{◌<◌, ◌≤◌, length, map}
use Rattle.grammar.specs.Rules.{repeat}
use Rattle.grammar.proofs.Continues.{Continues}
use Rattle.script_parser.specs.declared.nesting.Nesting.{Nesting}
use Rattle.script_parser.specs.Tokens.{Word, view}
use Rattle.script_parser.specs.Grammar.{script, Part, Said, items, item}
use Rattle.script_parser.specs.Trees.{items_with}
use Rattle.script_parser.proofs.rules.items.Given as goal

abbrev pub invariant-more : goal.invariant-more
invariant-more l = record {
  so_far : Continues Word Nesting Part Said (script l.end) items l.nesting (map view l.tokens) (items_with l.items) (repeat item) l.nesting (map view l.rest);
  shorter : length l.rest < length l.tokens;
  some : 1 ≤ length l.items;
}

abbrev pub decreases-more : goal.decreases-more
decreases-more l = length l.rest
