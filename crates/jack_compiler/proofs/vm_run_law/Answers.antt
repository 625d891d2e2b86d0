use Rattle.jack_compiler.proofs.Running.{vm_run}
use Rattle.jack_compiler.proofs.vm_run_law.Goals as goal

pub returns : goal.returns
returns c = vm_run
