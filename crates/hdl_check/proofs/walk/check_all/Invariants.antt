use Rattle.std.proofs.Common.{◌+◌, ◌*◌, length}
use Rattle.std.specs.Prelude.{count_by, vec_len}
use Rattle.hdl_check.specs.Inner.Progress.{chips_of, is_new}
use Rattle.hdl_check.specs.Inner.Frames.{IsSearch}
use Rattle.hdl_check.proofs.walk.check_all.Given as goal

abbrev pub invariant-frames : goal.invariant-frames
invariant-frames l = IsSearch (chips_of l.catalog) l.k l.stages.items (vec_len l.order) l.frames.items

abbrev pub decreases-frames : goal.decreases-frames
decreases-frames l = 2 * count_by is_new l.stages.items + length l.frames.items
