-- A netlist that shows the same of the nodes that are kept, in normal form.
use Rattle.std.specs.Prelude.{ℕ, List}
use Rattle.netlist.specs.Net.{Net}
use Rattle.net_simplify.specs.Normal.{HasNoTwins, HasOneZero, HasNoDoubleNot, ReadsNoConstant, AllReached, IsSmall}
use Rattle.net_simplify.specs.Same.{ShowsSame}

-- The new netlist shows of the kept nodes, at their places, what the old one shows, and it is in normal form. Each gate is there once, and one Zero
-- at most. No negation is negated, no gate but a One reads a constant, no node is dead, and there is at most one node more.
pub record IsSimplified (old new : Net) (keep place : List ℕ) : Type 0 where
  pub same : ShowsSame old new keep place
  pub twins : HasNoTwins new.nodes
  pub zeros : HasOneZero new.nodes
  pub nots : HasNoDoubleNot new.nodes
  pub constants : ReadsNoConstant new.nodes
  pub reached : AllReached new place
  pub small : IsSmall old new
