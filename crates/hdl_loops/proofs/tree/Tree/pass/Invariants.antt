use Rattle.std.proofs.Common.{◌≡◌, ℕ, ◌<◌, Some, true}
use Rattle.std.specs.Prelude.{slice_get}
use Rattle.hdl_loops.specs.Inner.Hops.{bit}
use Rattle.hdl_loops.specs.Inner.Bundles.{hops_in}
use Rattle.hdl_loops.specs.Inner.Trees.{is_marked, IsTree, IsReached, KeepsMarks, KeepsPassed, LeftBefore}
use Rattle.hdl_loops.specs.declared.joint.Joint.{Joint}
use Rattle.hdl_loops.proofs.tree.Tree.pass.Given as goal

abbrev pub invariant-loop-leave : goal.invariant-loop-leave
invariant-loop-leave l = record {
  right : IsTree (hops_in l.graph) l.self;
  kept : KeepsMarks l.initial.self l.self;
  passed : KeepsPassed l.initial.self l.self;
  reached : IsReached l.self (bit l.from);
  before : LeftBefore (hops_in l.graph) l.self (bit l.from);
  there : (j : ℕ) → j < l.leave-index → (a : Joint) → slice_get l.leaves j ≡ Some a → is_marked l.self (bit a.net) ≡ true;
}
