use Rattle.std.proofs.Common.{◌≡◌, false, map, take}
use Rattle.clap.specs.Words.{app_of}
use Rattle.clap.specs.declared.builder.Command.TheViews.{out-Command as fields_of}
use Rattle.command_line.specs.Inner.Rows.{leaf, rule_in}
use Rattle.command_line.proofs.commands.command_of.Given as goal

abbrev pub invariant-loop-cell : goal.invariant-loop-cell
invariant-loop-cell l = record {
  app : app_of l.command ≡ leaf l.fn.name (map rule_in (take l.cell-index l.cells));
  local : (fields_of l.command).has_globals ≡ false;
}
