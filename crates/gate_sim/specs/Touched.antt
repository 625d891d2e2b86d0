-- What an evaluation may take: what was touched since the one before it.
use Rattle.std.specs.Prelude.{◌≡◌, ℕ, zero, suc, ◌≤◌, Bool, false, ◌||◌, List, ◌∷◌, Some, slice_get}
use Rattle.std.specs.List.{count_by}
use Rattle.netlist.specs.declared.node.Node.{Node}
use Rattle.netlist.specs.declared.node.Block.{Block}
use Rattle.netlist.specs.Net.{Net}
use Rattle.netlist.specs.Value.{is_loaded}
use Rattle.netlist.specs.Touched.{is_other, is_step, is_touched}
use Rattle.gate_sim.specs.Calls.{Call, cycle_of, evaluated_calls, was_set, was_put}
use Rattle.gate_sim.specs.Calls.Call.{Load, Set, Eval, Tick, Tock}
use Rattle.gate_sim.specs.Values.{AreValues}

-- a word comes into block b when cycle n begins: the one that the cycle before took in. In the first cycle none does
abbrev pub stores_at : List Block → (ℕ → ℕ → Bool) → ℕ → ℕ → Bool
stores_at blocks v zero b = false
stores_at blocks v (suc c) b = is_loaded (slice_get blocks b) (λ i. v i c)

-- since the last evaluation block b was written: words were put into it, or the tock that evaluates now stores one
abbrev pub was_written : List Block → (ℕ → ℕ → Bool) → List Call → Call → ℕ → Bool
was_written blocks v calls (Load block from words) b = was_put calls b
was_written blocks v calls (Set input bit) b = was_put calls b
was_written blocks v calls Eval b = was_put calls b
was_written blocks v calls Tick b = was_put calls b
was_written blocks v calls Tock b = was_put calls b || stores_at blocks v (cycle_of (Tock ∷ calls)) b

-- since the last evaluation, which is given, node k was set, or its value differs: v gives the values then, and w those of the evaluation
-- by the call
abbrev pub differs : List Node → List Call → List Call → Call → (ℕ → ℕ → Bool) → (ℕ → ℕ → Bool) → ℕ → Bool
differs nodes calls told call v w k = was_set nodes calls k || is_other (v k (cycle_of told)) (w k (cycle_of (call ∷ calls)))

-- Of an evaluation by a call after these calls: It never takes more steps than there are gates and bits of words. After an earlier
-- evaluation, which is given, it takes no more than nodes that were touched since.
pub record AreFewSteps (net : Net) (calls : List Call) (call : Call) (taken : ℕ) : Type 0 where
  pub first : taken ≤ count_by is_step net.nodes
  pub later : (told : List Call) (v w : ℕ → ℕ → Bool)
      → evaluated_calls calls ≡ Some told → AreValues net told v → AreValues net (call ∷ calls) w
      → taken ≤ count_by (is_touched net.blocks (differs net.nodes calls told call v w)
      (was_written net.blocks w calls call)) net.nodes
