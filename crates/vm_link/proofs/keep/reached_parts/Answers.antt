use Rattle.vm_link.specs.Inner.Maps.{all_seen}
use Rattle.vm_link.proofs.Keeping.{kept_by}
use Rattle.vm_link.proofs.keep.reached_parts.Goals as goal

pub returns : goal.returns
returns c = rw (c.in_ok-kept.ensures, c.deref.ensures.value) (kept_by (all_seen c.args.parts.now) c.in_ok-marks.marks.items c.in_ok-marks.ensures)
