use Rattle.std.proofs.Common.{◌≤◌, ◌+◌, ◌*◌, length, map}
use Rattle.grammar.specs.Rules.{name}
use Rattle.grammar.proofs.Repeats.{Along}
use Rattle.script_parser.specs.declared.tree.Command.{Command}
use Rattle.script_parser.specs.declared.nesting.Nesting.{Nesting}
use Rattle.script_parser.specs.Tokens.{Word, view}
use Rattle.script_parser.specs.Grammar.{script, Part, Said, command}
use Rattle.script_parser.specs.Trees.{command_tree}
use Rattle.script_parser.proofs.rules.+commands.Given as goal

abbrev pub decreases-commands : goal.decreases-commands
decreases-commands l = 4 * length l.tokens.now + 3

abbrev pub decreases-command : goal.decreases-command
decreases-command l = 4 * length l.tokens.now + 2

abbrev pub decreases-repeated : goal.decreases-repeated
decreases-repeated l = 4 * length l.tokens.now + 1

abbrev pub decreases-block : goal.decreases-block
decreases-block l = 4 * length l.tokens.now

abbrev pub invariant-commands-all : goal.invariant-commands-all
invariant-commands-all l = record {
  along : Along Word Nesting Part Said Command (script l.end) (name command) command_tree l.nesting (map view l.tokens) l.commands.items l.nesting (map view l.rest);
  no_longer : length l.rest ≤ length l.tokens;
}

abbrev pub decreases-commands-all : goal.decreases-commands-all
decreases-commands-all l = length l.rest
