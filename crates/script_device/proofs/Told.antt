-- Calls after the last evaluation.
use Rattle.std.proofs.Common.{◌≡◌, ℕ, suc, Bool, cond, List, [], ◌∷◌, Some, sym, ap, ◌∙◌, subst}
use Rattle.netlist.specs.Net.{Net}
use Rattle.gate_sim.specs.Calls.{Call, cycle_of, evaluated_calls}
use Rattle.gate_sim.specs.Calls.Call.{Load, Set, Eval, Tick, Tock}
use Rattle.gate_sim.specs.Values.{ArePast}

same_some : (x y : List Call) → Some x ≡ Some y → x ≡ y
same_some x y e = cc

-- what is past at the last evaluation is past now
pub past_now : (net : Net) (calls told : List Call) (v : ℕ → ℕ → Bool) → evaluated_calls calls ≡ Some told → ArePast net told (cycle_of told) v → ArePast net calls (cycle_of calls) v
past_now net [] told v e p = absurd cc
past_now net (Load block from words ∷ calls) told v e p = past_now net calls told v e p
past_now net (Set node bit ∷ calls) told v e p = past_now net calls told v e p
past_now net (Eval ∷ calls) told v e p = subst (λ t. ArePast net t (cycle_of t) v) (sym (same_some (Eval ∷ calls) told e)) p
past_now net (Tick ∷ calls) told v e p = subst (λ t. ArePast net t (cycle_of t) v) (sym (same_some (Tick ∷ calls) told e)) p
past_now net (Tock ∷ calls) told v e p = subst (λ t. ArePast net t (cycle_of t) v) (sym (same_some (Tock ∷ calls) told e)) p

-- the cycle after a tock
pub next_cycle : (ticked ticked' : Bool) (cycle cycle' : ℕ) → cycle ≡ cycle' → ticked ≡ ticked' → cond ticked (suc cycle) cycle ≡ cond ticked' (suc cycle') cycle'
next_cycle ticked ticked' cycle cycle' e f = ap (λ n. cond ticked (suc n) n) e ∙ ap (λ b. cond b (suc cycle') cycle') f
