-- The calls of a simulator, the newest first. (The book, chapters 1 to 3, and the appendix on test scripts.)
use Rattle.std.specs.Prelude.{ℕ, suc, if◌then◌else◌, nat_eq, nat_lt, Bool, true, false, ◌&&◌, ◌||◌, List, [], ◌∷◌, length, Option, Some, None, slice_get}
use Rattle.netlist.specs.declared.node.Node.{Node}
use Rattle.netlist.specs.declared.node.Node.TheVariants.{Pin, Nand, Flip, Word, Zero}
use Rattle.netlist.specs.Histories.{rank}

-- Words are put into a block from an address on. An input is set: it is named by its rank, how many pins stand before it. The nodes are
-- evaluated. At a tick they are evaluated, and what the flip-flops and the blocks take in is fixed. At a tock they take in what was fixed, and
-- the nodes are evaluated. So the same calls can be made of any netlist with as many pins and blocks.
pub data Call : Type 0 where
  Load : (block from : ℕ) (words : List ℕ) → Call
  Set : (input : ℕ) (bit : Bool) → Call
  Eval : Call
  Tick : Call
  Tock : Call

-- a tick came after the last tock
abbrev pub is_ticked : List Call → Bool
is_ticked [] = false
is_ticked (Load block from words ∷ calls) = is_ticked calls
is_ticked (Set input bit ∷ calls) = is_ticked calls
is_ticked (Eval ∷ calls) = is_ticked calls
is_ticked (Tick ∷ calls) = true
is_ticked (Tock ∷ calls) = false

-- the cycle: how many tocks followed a tick of their own
abbrev pub cycle_of : List Call → ℕ
cycle_of [] = 0
cycle_of (Load block from words ∷ calls) = cycle_of calls
cycle_of (Set input bit ∷ calls) = cycle_of calls
cycle_of (Eval ∷ calls) = cycle_of calls
cycle_of (Tick ∷ calls) = cycle_of calls
cycle_of (Tock ∷ calls) = if is_ticked calls then suc (cycle_of calls) else cycle_of calls

-- the inputs: what the one of rank r was set to last, and at first 0
abbrev pub input_bit : List Call → ℕ → Bool
input_bit [] r = false
input_bit (Load block from words ∷ calls) r = input_bit calls r
input_bit (Set input bit ∷ calls) r = if nat_eq input r then bit else input_bit calls r
input_bit (Eval ∷ calls) r = input_bit calls r
input_bit (Tick ∷ calls) r = input_bit calls r
input_bit (Tock ∷ calls) r = input_bit calls r

abbrev pub is_pin : Option Node → Bool
is_pin None = false
is_pin (Some Pin) = true
is_pin (Some (Nand i j)) = false
is_pin (Some (Flip i)) = false
is_pin (Some (Word b bit)) = false
is_pin (Some Zero) = false

-- the pins of a netlist by their nodes: each has what the input of its rank was set to
abbrev pub pins_of : List Node → List Call → ℕ → Bool
pins_of nodes calls k = is_pin (slice_get nodes k) && input_bit calls (rank nodes k)

-- the calls before the last tick of cycle c
abbrev pub at_tick : List Call → ℕ → List Call
at_tick [] c = []
at_tick (Load block from words ∷ calls) c = at_tick calls c
at_tick (Set input bit ∷ calls) c = at_tick calls c
at_tick (Eval ∷ calls) c = at_tick calls c
at_tick (Tick ∷ calls) c = if nat_eq c (cycle_of calls) then calls else at_tick calls c
at_tick (Tock ∷ calls) c = at_tick calls c

-- the calls up to the last evaluation, where there was one
abbrev pub evaluated_calls : List Call → Option (List Call)
evaluated_calls [] = None
evaluated_calls (Load block from words ∷ calls) = evaluated_calls calls
evaluated_calls (Set input bit ∷ calls) = evaluated_calls calls
evaluated_calls (Eval ∷ calls) = Some (Eval ∷ calls)
evaluated_calls (Tick ∷ calls) = Some (Tick ∷ calls)
evaluated_calls (Tock ∷ calls) = Some (Tock ∷ calls)

-- the input of rank r was set since the last evaluation
abbrev pub was_input_set : List Call → ℕ → Bool
was_input_set [] r = false
was_input_set (Load block from words ∷ calls) r = was_input_set calls r
was_input_set (Set input bit ∷ calls) r = nat_eq input r || was_input_set calls r
was_input_set (Eval ∷ calls) r = false
was_input_set (Tick ∷ calls) r = false
was_input_set (Tock ∷ calls) r = false

-- node k is a pin that was set since the last evaluation
abbrev pub was_set : List Node → List Call → ℕ → Bool
was_set nodes calls k = is_pin (slice_get nodes k) && was_input_set calls (rank nodes k)

-- words were put into the block since the last evaluation
abbrev pub was_put : List Call → ℕ → Bool
was_put [] b = false
was_put (Load block from words ∷ calls) b = (nat_eq block b && nat_lt 0 (length words)) || was_put calls b
was_put (Set input bit ∷ calls) b = was_put calls b
was_put (Eval ∷ calls) b = false
was_put (Tick ∷ calls) b = false
was_put (Tock ∷ calls) b = false
