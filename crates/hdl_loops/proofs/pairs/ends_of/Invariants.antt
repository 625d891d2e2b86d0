use Rattle.std.proofs.Common.{◌≡◌, ℕ, ◌<◌, Some, true}
use Rattle.std.specs.Prelude.{slice_get}
use Rattle.hdl_tree.specs.declared.tree.Pin.{Pin}
use Rattle.hdl_loops.specs.Inner.Pairs.{has_name}
use Rattle.hdl_loops.proofs.pairs.ends_of.Given as goal

abbrev pub invariant-loop-pin : goal.invariant-loop-pin
invariant-loop-pin l = (j : ℕ) → j < l.pin-index → (pin : Pin) → slice_get l.pins j ≡ Some pin → has_name l.ends pin.name ≡ true
