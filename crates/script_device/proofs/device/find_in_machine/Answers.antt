use Rattle.std.proofs.Common.{◌≡◌, true}
use Rattle.script_device.proofs.MachineNames.{no_register}
use Rattle.script_device.proofs.device.find_in_machine.Goals as goal

pub returns-in-None : goal.returns-in-None
returns-in-None c = λ machine. no_register machine c.args.text.now (λ e. let yes : c.is_time.result ≡ true = c.is_time.ensures.1 e in absurd cc) c.in-None.ensures
