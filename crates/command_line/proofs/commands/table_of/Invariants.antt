use Rattle.std.proofs.Common.{◌≡◌, map, take}
use Rattle.clap.specs.Words.{app_of}
use Rattle.command_line.specs.Table.{bare_table}
use Rattle.command_line.specs.Inner.Rows.{shape_in, with_subcommands}
use Rattle.command_line.proofs.commands.table_of.Given as goal

abbrev pub invariant-loop-row : goal.invariant-loop-row
invariant-loop-row l = app_of l.top ≡ with_subcommands bare_table (map shape_in (take l.row-index l.rows))
