-- What contracts see of a netlist with the values of its nodes.
use Rattle.std.specs.Prelude.{◌≡◌, ◌+◌, Bool, false, ℕ, List, length}
use Rattle.netlist.specs.Net.{Net}
use Rattle.netlist.specs.Present.{value_in}
use Rattle.gate_sim.specs.declared.plan.Lane.{Lane}
use Rattle.gate_sim.specs.declared.plan.Op.{Op}
use Rattle.gate_sim.specs.declared.plan.Slot.{Slot}
use Rattle.gate_sim.specs.declared.plan.Take.{Take}
use Rattle.gate_sim.specs.declared.pieces.Span.{Span}
use Rattle.gate_sim.specs.Inner.Pieces.{piece_of, pieces_in, AreReaders, AreIdle, AreStill, AreGiven, take_mark}
use Rattle.gate_sim.specs.Inner.Plans.{IsPlan, place_of}
use Rattle.gate_sim.specs.Inner.Slots.{AreStored, values_of, bits_of, word_lane}
use Rattle.gate_sim.specs.Inner.Takes.{AreTakes}

-- the netlist, the values, the inputs and the states of the flip-flops, and the states that the next tock takes
pub record PackedState : Type 0 where
  pub net : Net
  pub values : List Bool
  pub start : List Bool
  pub fixed : List Bool

-- The operations, the lanes and the places are a plan, flip-flops take what they read, and each lane has the value of the node that it stands for.
-- Where the plan is not passed whole, the readers are right, nothing changed, and pieces whose mark is off need not be passed. Takes whose mark is
-- off would fix what is fixed, and those that are not due would give the states that there are.
pub record PackedFits (net : Net) (ops : List Op) (lanes : List ℕ) (places : List Lane) (takes : List Take) (slots : List Slot) (start fixed : List ℕ) (spans : List Span) (list : List ℕ) (always marks due : List Bool) (is_small : Bool) : Type 0 where
  pub is_plan : IsPlan net.nodes net.blocks ops lanes places
  pub are_takes : AreTakes net.nodes (length ops) lanes places takes
  pub slots_long : length slots ≡ length ops
  pub start_long : length start ≡ length ops
  pub fixed_long : length fixed ≡ length ops
  pub stored : AreStored (length net.nodes) lanes (value_in (values_of places slots)) slots
  pub readers : is_small ≡ false → AreReaders ops takes spans list always
  pub marks_long : length marks ≡ pieces_in (length ops) + pieces_in (length takes)
  pub due_long : length due ≡ pieces_in (length takes)
  pub idle : is_small ≡ false
      → AreIdle (length net.nodes) lanes (value_in (bits_of places start)) ops slots marks
  pub still : is_small ≡ false → AreStill slots
  pub given : AreGiven net.nodes places takes (take_mark (pieces_in (length ops)) marks)
      (λ k i. value_in (values_of places slots) i) fixed
  pub taken : AreGiven net.nodes places takes (λ t. value_in due (piece_of t))
      (λ k i. word_lane fixed (place_of places k)) start
