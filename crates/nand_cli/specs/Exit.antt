-- The exit statuses of the program.
use Rattle.std.specs.Prelude.{ℕ}
use Rattle.nand_cli.specs.declared.command.Status.{Status}
use Rattle.nand_cli.specs.declared.command.Status.TheVariants as status

-- the number that the program ends with
abbrev pub exit_of : Status → ℕ
exit_of status.Done = 0
exit_of status.Refused = 1
exit_of status.Usage = 2
exit_of status.ReadFault = 3
exit_of status.WriteFault = 4
exit_of status.NoMemory = 5
exit_of status.Differs = 6
