use Rattle.std.proofs.Common.{◌<◌, length, arith}
use Rattle.clap.specs.Words.{app_of}
use Rattle.command_line.specs.Table.{bare_table}
use Rattle.command_line.proofs.Tables.{next_row}
use Rattle.command_line.proofs.commands.table_of.Goals as goal

pub loop-row-preserved : goal.loop-row-preserved
loop-row-preserved c =
    let lt : c.loop-row.row-index < length c.args.rows.now = omega arith in
    next_row bare_table (app_of c.loop-row.top) (app_of c.in_ok-top.top) c.args.rows.now c.loop-row.row-index _ lt c.in_ok-top.ensures c.loop-row.invariant
