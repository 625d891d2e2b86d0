use Rattle.std.proofs.Common.{◌≡◌, true}
use Rattle.script_device.specs.Driven.{chip_of}
use Rattle.script_device.proofs.Memories.{no_memory, has_memory, not_whole}
use Rattle.script_device.proofs.device.memory_block.Goals as goal

pub returns-in_default : goal.returns-in_default
returns-in_default c = no_memory (chip_of c.args.chip.now) c.directory.result.now c.as_slice.result.now c.directory.ensures c.as_slice.ensures c.in_default.ensures

pub returns-then-is_whole : goal.returns-then-is_whole
returns-then-is_whole c = has_memory (chip_of c.args.chip.now) c.directory.result.now c.as_slice.result.now c.directory.ensures c.as_slice.ensures c.sizes.result.now c.in-Some.block c.sizes.ensures c.in-Some.ensures (c.is_whole.ensures.0 c.if-is_whole.true)

pub returns-else-is_whole : goal.returns-else-is_whole
returns-else-is_whole c = not_whole (chip_of c.args.chip.now) c.directory.result.now c.as_slice.result.now c.directory.ensures c.as_slice.ensures c.sizes.result.now c.in-Some.block c.sizes.ensures c.in-Some.ensures (λ w. let yes : c.is_whole.result ≡ true = c.is_whole.ensures.1 w in absurd cc)
