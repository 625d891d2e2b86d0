use Rattle.std.proofs.Common.{◌≡◌, drop}
use Rattle.script_device.specs.Simulated.{stored_at}
use Rattle.netlist.specs.Value.{spelled_number}
use Rattle.script_device.proofs.bus.stored_word.Given as goal

abbrev pub invariant-loop-k : goal.invariant-loop-k
invariant-loop-k l = l.word ≡ spelled_number (stored_at l.sim) (drop l.k l.nodes)
