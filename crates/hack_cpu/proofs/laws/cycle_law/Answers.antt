use Rattle.hack_cpu.specs.Computer.{of_blocks}
use Rattle.hack_cpu.proofs.Cycle.{same}
use Rattle.hack_cpu.proofs.laws.cycle_law.Goals as goal

pub returns : goal.returns
returns c image keys entries n wires has h no_reset k lt = same image keys (of_blocks entries) has n wires h no_reset k lt
