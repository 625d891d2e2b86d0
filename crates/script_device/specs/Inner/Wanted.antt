-- Which nodes a simplified netlist keeps, by computation.
use Rattle.std.specs.Prelude.{ℕ, Bool, true, ◌&&◌, ◌||◌, List, [], ◌∷◌, Option, Some, None, slice_get}
use Rattle.netlist.specs.declared.node.Node.{Node}
use Rattle.gate_sim.specs.Calls.{is_pin}
use Rattle.script_device.specs.declared.chip_sim.WholeNet.{WholeNet}
use Rattle.script_device.specs.Simulated.{is_among}

-- each of them is a pin, or has a name
abbrev pub are_wanted : List Node → List ℕ → List ℕ → Bool
are_wanted nodes named [] = true
are_wanted nodes named (k ∷ kept) = (is_pin (slice_get nodes k) || is_among named k) && are_wanted nodes named kept

-- where the netlist that runs is a simplified one, no other node is kept
abbrev pub keeps_wanted : List ℕ → Option WholeNet → Bool
keeps_wanted named None = true
keeps_wanted named (Some whole) = are_wanted whole.net.nodes named whole.kept.items
