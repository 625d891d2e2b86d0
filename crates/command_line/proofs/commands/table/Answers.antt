use Rattle.command_line.specs.Table.{debug_command, map_command, run_command, soak_command, source_command, test_command, vm_command}
use Rattle.command_line.proofs.commands.table.Goals as goal

pub returns : goal.returns
unfolding debug_command map_command run_command soak_command source_command test_command vm_command
returns c = c.table_of.ensures
