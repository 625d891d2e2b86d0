use Rattle.std.proofs.Common.{◌-◌, length}
use Rattle.hdl_check.specs.Inner.Progress.{chips_of}
use Rattle.hdl_check.specs.Inner.Frames.{IsFrame, HasSameChip}
use Rattle.hdl_check.proofs.walk.advance.Given as goal

abbrev pub invariant-parts : goal.invariant-parts
invariant-parts l = record {
  right : IsFrame (chips_of l.catalog) l.stages l.frame;
  same : HasSameChip l.fn.frame l.frame;
}

abbrev pub decreases-parts : goal.decreases-parts
decreases-parts l = length l.frame.parts.now - l.frame.place
