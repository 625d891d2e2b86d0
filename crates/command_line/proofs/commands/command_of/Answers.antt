use Rattle.std.proofs.Common.{◌<◌, ◌||◌, ap₂, length, arith, ◌∙◌}
use Rattle.clap.specs.Words.{app_of, rule_of}
use Rattle.command_line.proofs.Tables.{next_cell}
use Rattle.command_line.proofs.commands.command_of.Goals as goal

pub loop-cell-preserved : goal.loop-cell-preserved
loop-cell-preserved c =
    let lt : c.loop-cell.cell-index < length c.args.cells.now = omega arith in
    let more = c.in_ok-command.ensures in
    let local = c.argument.ensures.local in
    record {
      app = next_cell c.args.name.now c.args.cells.now c.loop-cell.cell-index _ (app_of c.loop-cell.command) (app_of c.in_ok-command.command) (rule_of c.argument.result) lt (more.shape local) c.loop-cell.invariant.app c.argument.ensures.rule;
      local = more.globals ∙ ap₂ ◌||◌ c.loop-cell.invariant.local local;
    }
