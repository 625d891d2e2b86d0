use Rattle.std.proofs.Common.{◌≡◌, ◌++◌, take}
use Rattle.std.specs.List.{flat_map}
use Rattle.script_device.specs.Directory.{out_nodes}
use Rattle.script_device.proofs.naming.push_outs.Given as goal

abbrev pub invariant-loop-part : goal.invariant-loop-part
invariant-loop-part l = l.nodes.items ≡ l.fn.nodes.items ++ flat_map out_nodes (take l.part-index l.parts)
