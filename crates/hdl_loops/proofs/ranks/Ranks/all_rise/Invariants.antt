use Rattle.std.proofs.Common.{◌≡◌, ℕ, ◌<◌, Some}
use Rattle.std.specs.Prelude.{slice_get}
use Rattle.hdl_loops.specs.Inner.Ranked.{BundleRises}
use Rattle.hdl_loops.specs.declared.bundle.Bundle.{Bundle}
use Rattle.hdl_loops.proofs.ranks.Ranks.all_rise.Given as goal

abbrev pub invariant-loop-bundle : goal.invariant-loop-bundle
invariant-loop-bundle l = (g : ℕ) → g < l.bundle-index → (b : Bundle) → slice_get l.graph g ≡ Some b → BundleRises l.self b
