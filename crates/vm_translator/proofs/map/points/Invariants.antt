use Rattle.std.proofs.Common.{◌≡◌, ◌++◌, map, take}
use Rattle.vm_translator.specs.Image.{merged_ranges, range_of, start_ranges}
use Rattle.vm_translator.proofs.map.points.Given as goal

abbrev pub invariant-loop-placed : goal.invariant-loop-placed
invariant-loop-placed l = l.points.items ≡ merged_ranges (start_ranges l.linked ++ map range_of (take l.placed-index l.layout.placed.items))
