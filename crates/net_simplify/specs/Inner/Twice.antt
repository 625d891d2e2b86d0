use Rattle.std.specs.Prelude.{ℕ, List}
use Rattle.netlist.specs.Net.{Net}
use Rattle.net_simplify.specs.Simplified.{IsSimplified}
use Rattle.net_simplify.specs.Twice.{IsFoldedTwice}

-- the whole of what the simplifier does
pub record IsWhole (old new : Net) (keep place : List ℕ) : Type 0 where
  pub simplified : IsSimplified old new keep place
  pub folded : IsFoldedTwice old new keep place
