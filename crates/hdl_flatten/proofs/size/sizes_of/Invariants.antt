use Rattle.std.proofs.Common.{◌≡◌, vec_len}
use Rattle.hdl_check.specs.Inner.Progress.{chips_of}
use Rattle.hdl_flatten.specs.Inner.Sizes.{AreRight}
use Rattle.hdl_flatten.proofs.size.sizes_of.Given as goal

abbrev pub invariant-loop-nested : goal.invariant-loop-nested
invariant-loop-nested l = record {
  long : vec_len l.sizes ≡ l.nested-index;
  right : AreRight (chips_of l.catalog) l.nest l.sizes.items;
}
