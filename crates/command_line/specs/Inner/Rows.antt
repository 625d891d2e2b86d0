-- What the rows of the code's table stand for.
use Rattle.std.specs.Prelude.{List, [], ◌∷◌, map}
use Rattle.clap.specs.Walk.{Rule, Text}
use Rattle.clap.specs.Simple.{App, Shape, with_subcommand}
use Rattle.command_line.specs.Table.{command, default_rule, extra_rule, flag_rule, option_rule, word_rule}
use Rattle.command_line.specs.declared.commands.Cell.{Cell}
use Rattle.command_line.specs.declared.commands.Cell.TheVariants as cell
use Rattle.command_line.specs.declared.commands.Row.{Row}

-- the rule of a cell
abbrev pub rule_in : Cell → Rule
rule_in (cell.Word name) = word_rule name.now
rule_in (cell.Value name) = option_rule name.now
rule_in (cell.Extra name) = extra_rule name.now
rule_in (cell.Default name meant) = default_rule name.now meant.now
rule_in (cell.Flag name) = flag_rule name.now

-- the command of a row
abbrev pub shape_in : Row → Shape
shape_in row = command row.name.now (map rule_in row.cells.now)

-- commands added in order
abbrev pub with_subcommands : App → List Shape → App
with_subcommands app [] = app
with_subcommands app (shape ∷ shapes) = with_subcommands (with_subcommand app shape) shapes

-- a command of these cells, without commands of its own
abbrev pub leaf : Text → List Rule → App
leaf name rules = record { top = command name rules; subs = [] }
