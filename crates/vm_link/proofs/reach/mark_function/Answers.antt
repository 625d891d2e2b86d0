use Rattle.std.proofs.Common.{sym}
use Rattle.vm_link.proofs.reach.mark_function.Goals as goal

pub mark-requires : goal.mark-requires
mark-requires c = c.requires c.in-Some.text.now c.in-Some-get.place.now (sym c.in-Some-get.ensures.value)
