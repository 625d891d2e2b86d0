use Rattle.std.proofs.Common.{ap, sym, ◌∙◌}
use Rattle.script_device.specs.Running.{register_of, running_of}
use Rattle.script_device.specs.Machines.{after_set}
use Rattle.script_device.proofs.MachineNames.{same_machine}
use Rattle.script_device.proofs.machine.ScriptMachine.set.Goals as goal

pub returns-in-Word : goal.returns-in-Word
returns-in-Word c =
    let m = c.args.self.now in
    same_machine c.set_ram.ensures.image c.set_ram.ensures.put m.key m.cycle m.ticked
    ∙ ap (λ r. after_set (running_of m) (register_of r) c.args.word) (sym c.in-Word.is)
