use Rattle.vm_machine.proofs.memory.Memory.new.Goals as goal

pub returns : goal.returns
returns c = λ i. record { statics = c.in_ok-zeros.ensures i; temps = c.in_ok-zeros-2.ensures i; heap_and_screen = c.in_ok-zeros-3.ensures i }
