use Rattle.vm_debug.proofs.Few.{placed_if}
use Rattle.vm_debug.proofs.built.program_places.Goals as goal

pub returns : goal.returns
returns c = placed_if c.args.own.now c.args.system.now c.args.core.now c.args.map.now c.in_ok-linked.linked c.places_of.result c.in_ok-linked.ensures.links c.places_of.ensures
