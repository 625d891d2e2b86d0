use Rattle.std.proofs.Common.{ap}
use Rattle.script_columns.specs.declared.layout.Value.TheVariants.{Wide}
use Rattle.script_device.proofs.chip.DrivenChip.word.Goals as goal

pub returns : goal.returns
returns c = λ calls told v d sees. ap Wide (c.block_word.ensures calls told v d.stands sees.last sees.values)
