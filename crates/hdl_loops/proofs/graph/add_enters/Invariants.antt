use Rattle.std.proofs.Common.{◌≡◌, ℕ, ◌<◌, ◌⊎◌, Some}
use Rattle.std.specs.Prelude.{slice_get}
use Rattle.hdl_check.specs.Whole.{chips_in}
use Rattle.hdl_loops.specs.Inner.Knowing.{Leads}
use Rattle.hdl_loops.specs.Inner.Ties.{In}
use Rattle.hdl_loops.specs.declared.joint.Joint.{Joint}
use Rattle.hdl_loops.proofs.graph.add_enters.Given as goal

abbrev pub invariant-loop-enter : goal.invariant-loop-enter
invariant-loop-enter l = record {
  kept : (a : Joint) → In a l.initial.enters.items → In a l.enters.items;
  only : (a : Joint) → In a l.enters.items → (In a l.initial.enters.items) ⊎ (In a l.some × Leads (chips_in l.entries l.memories) l.known l.chip a l.leave);
  all : (q : ℕ) → q < l.enter-index → (a : Joint) → slice_get l.some q ≡ Some a → Leads (chips_in l.entries l.memories) l.known l.chip a l.leave → In a l.enters.items;
}
