-- A simulator just after an evaluation, and what one takes.
use Rattle.std.specs.Prelude.{◌≡◌, ℕ, Bool, false, List}
use Rattle.std.specs.List.{count_by}
use Rattle.netlist.specs.Order.{AreOrdered}
use Rattle.netlist.specs.Present.{IsRow, value_in}
use Rattle.netlist.specs.Touched.{is_other}
use Rattle.netlist.specs.Words.{word_at}
use Rattle.netlist.specs.Inner.Taken.{is_taken}
use Rattle.gate_sim.specs.State.{SimState}

-- nothing is to be evaluated
pub record IsEvaluated (s : SimState) : Type 0 where
  pub ordered : AreOrdered s.net.nodes s.net.blocks
  pub begun : s.whole ≡ false
  pub unwritten : (b : ℕ) → value_in s.written b ≡ false
  pub row : IsRow s.net.nodes s.net.blocks (value_in s.start) (word_at s.memory) (value_in s.values)

-- how many nodes an evaluation takes that begins in this state and ends with these values
abbrev pub taken_by : SimState → List Bool → ℕ
taken_by s values = count_by (is_taken s.whole s.net.blocks (λ k. is_other (value_in s.values k) (value_in values k)) (value_in s.written)) s.net.nodes
