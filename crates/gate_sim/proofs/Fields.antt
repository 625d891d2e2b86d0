-- A state of which one field is another one.
use Rattle.std.proofs.Common.{◌≡◌, ◌≤◌, ◌+◌, ℕ, Bool, false, List, Option, Vec, ap, sym, subst}
use Rattle.std.specs.Global.{Global}
use Rattle.std.specs.List.{count_by}
use Rattle.netlist.specs.declared.step.BlockWrite.{BlockWrite}
use Rattle.netlist.specs.Present.{IsRow, value_in}
use Rattle.netlist.specs.Touched.{is_other}
use Rattle.netlist.specs.Inner.Taken.{is_taken}
use Rattle.gate_sim.specs.Calls.{Call}
use Rattle.gate_sim.specs.Stands.{Keeps}
use Rattle.gate_sim.specs.State.{SimState}
use Rattle.gate_sim.specs.Inner.Evaluated.{IsEvaluated}
use Rattle.gate_sim.specs.Inner.Fits.{SimFits}
use Rattle.gate_sim.specs.Inner.PackedState.{PackedState}
use Rattle.gate_sim.proofs.Refreshing.{over}

-- ---- a netlist with its values

abbrev with_values : List Bool → PackedState → PackedState
with_values values s = record s { values = values }

abbrev with_start : List Bool → PackedState → PackedState
with_start start s = record s { start = start }

abbrev with_fixed : List Bool → PackedState → PackedState
with_fixed fixed s = record s { fixed = fixed }

pub state_values : (s t : PackedState) (values : List Bool) → s ≡ t → record s { values = values } ≡ record t { values = values }
state_values s t values e = ap (with_values values) e

pub state_start : (s t : PackedState) (start : List Bool) → s ≡ t → record s { start = start } ≡ record t { start = start }
state_start s t start e = ap (with_start start) e

pub state_fixed : (s t : PackedState) (fixed : List Bool) → s ≡ t → record s { fixed = fixed } ≡ record t { fixed = fixed }
state_fixed s t fixed e = ap (with_fixed fixed) e

pub row_of : (s t : PackedState) (words : ℕ → ℕ → ℕ) (values : List Bool) → s ≡ t → IsRow s.net.nodes s.net.blocks (value_in s.start) words (value_in values) → IsRow t.net.nodes t.net.blocks (value_in t.start) words (value_in values)
row_of s t words values e row = subst (λ x. IsRow x.net.nodes x.net.blocks (value_in x.start) words (value_in values)) e row

pub count_of : (s t : PackedState) (new old : ℕ) (whole : Bool) (written : ℕ → Bool) (values : List Bool) → s ≡ t → new ≤ old + count_by (is_taken whole s.net.blocks (λ k. is_other (value_in s.values k) (value_in values k)) written) s.net.nodes → new ≤ old + count_by (is_taken whole t.net.blocks (λ k. is_other (value_in t.values k) (value_in values k)) written) t.net.nodes
count_of s t new old whole written values e few = subst (λ x. new ≤ old + count_by (is_taken whole x.net.blocks (λ k. is_other (value_in x.values k) (value_in values k)) written) x.net.nodes) e few

-- ---- a simulator over it

module _ (p q : PackedState) (same : q ≡ record p { fixed = q.fixed }) where
  pub fits_fixed : (writes : List (Option BlockWrite)) (memory : List (Vec ℕ Global)) (fresh : Bool) (written : List Bool) (whole : Bool) → SimFits p.net p.start p.values writes memory fresh written whole → SimFits q.net q.start q.values writes memory fresh written whole
  fits_fixed writes memory fresh written whole fits = subst (λ x. SimFits x.net x.start x.values writes memory fresh written whole) (sym same) fits

  pub keeps_fixed : (s : SimState) (writes : List (Option BlockWrite)) (calls : List Call) → Keeps (record (over s (record p { fixed = q.fixed })) { writes = writes }) calls → Keeps (record (over s q) { writes = writes }) calls
  keeps_fixed s writes calls keeps = subst (λ x. Keeps (record (over s x) { writes = writes }) calls) (sym same) keeps

  pub evaluated_fixed : (s : SimState) (writes : List (Option BlockWrite)) → IsEvaluated (record (over s (record p { fixed = q.fixed })) { writes = writes }) → IsEvaluated (record (over s q) { writes = writes })
  evaluated_fixed s writes is = subst (λ x. IsEvaluated (record (over s x) { writes = writes })) (sym same) is

pub keeps_started : (p q : PackedState) → q ≡ record p { start = q.start } → (s : SimState) (memory : List (Vec ℕ Global)) (written : List Bool) (calls : List Call) → Keeps (record (over s (record p { start = q.start })) { memory = memory; fresh = false; written = written }) calls → Keeps (record (over s q) { memory = memory; fresh = false; written = written }) calls
keeps_started p q same s memory written calls keeps = subst (λ x. Keeps (record (over s x) { memory = memory; fresh = false; written = written }) calls) (sym same) keeps
