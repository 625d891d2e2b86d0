use Rattle.std.proofs.Common.{◌≡◌, ◌++◌, drop, map}
use Rattle.vm_link.specs.Resolved.{function_of}
use Rattle.vm_link.specs.Inner.Maps.{all_seen}
use Rattle.vm_link.proofs.linking.functions.Given as goal

abbrev pub invariant-loop-part : goal.invariant-loop-part
invariant-loop-part l = l.functions.items ++ map (function_of (all_seen l.kept)) (all_seen (drop l.part-index l.kept))
    ≡ map (function_of (all_seen l.kept)) (all_seen l.kept)
