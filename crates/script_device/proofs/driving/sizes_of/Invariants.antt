use Rattle.std.proofs.Common.{◌≡◌, map, take}
use Rattle.script_device.proofs.driving.sizes_of.Given as goal

abbrev pub invariant-loop-block : goal.invariant-loop-block
invariant-loop-block l = l.sizes.items ≡ map (λ b. b.words) (take l.block-index l.block-items)
