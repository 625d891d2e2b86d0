use Rattle.std.proofs.Common.{◌≡◌, List, take}
use Rattle.gate_sim.specs.Calls.{Call}
use Rattle.script_device.specs.Simulated.{WasTold, net_of}
use Rattle.script_device.specs.Driven.{set_nodes}
use Rattle.script_device.proofs.bus.set_bus.Given as goal

abbrev pub invariant-loop-k : goal.invariant-loop-k
invariant-loop-k l = record {
  frame : l.sim.frame ≡ l.fn.sim.frame;
  stands : (calls : List Call) → WasTold l.fn.sim calls → WasTold l.sim (set_nodes (net_of l.fn.sim.frame).nodes 0 l.word (take l.k l.nodes) calls);
}
