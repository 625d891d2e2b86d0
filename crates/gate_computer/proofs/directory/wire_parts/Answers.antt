use Rattle.std.proofs.Common.{◌∙◌, ap, sym, Some}
use Rattle.std.proofs.lemmas.Option.{slice_get-get_or}
use Rattle.gate_computer.proofs.directory.wire_parts.Goals as goal

pub wire_part-requires : goal.wire_part-requires
wire_part-requires c = c.requires c.loop-part.part-index c.part-item.result (slice_get-get_or c.args.parts.now c.loop-part.part-index c.part-item.result c.loop-part-test.true ∙ ap Some (sym c.part-item.is))
