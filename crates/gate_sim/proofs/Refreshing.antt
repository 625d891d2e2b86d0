-- A simulator after its netlist got other values, inputs or states.
use Rattle.std.proofs.Common.{◌≡◌, ℕ, ◌+◌, ◌≤◌, Bool, true, false, List, length, Option, Vec, refl, sym, ◌∙◌, subst}
use Rattle.std.specs.Global.{Global}
use Rattle.std.specs.List.{count_by}
use Rattle.std.proofs.lemmas.Bool.{false≢true}
use Rattle.netlist.specs.declared.step.BlockWrite.{BlockWrite}
use Rattle.netlist.specs.Order.{AreOrdered}
use Rattle.netlist.specs.Present.{IsRow, value_in}
use Rattle.netlist.specs.Settled.{AreSettled}
use Rattle.netlist.specs.Steps.{AreWrites}
use Rattle.netlist.specs.Touched.{is_other}
use Rattle.netlist.specs.Words.{HasWords, word_at}
use Rattle.netlist.specs.Inner.Taken.{is_taken}
use Rattle.netlist.proofs.Following.{settled_row}
use Rattle.netlist.proofs.Same.{rows_same}
use Rattle.gate_sim.specs.Calls.{Call, cycle_of}
use Rattle.gate_sim.specs.Stands.{Keeps, IsFresh}
use Rattle.gate_sim.specs.State.{SimState}
use Rattle.gate_sim.specs.Inner.Evaluated.{IsEvaluated, taken_by}
use Rattle.gate_sim.specs.Inner.Fits.{SimFits}
use Rattle.gate_sim.specs.Inner.PackedState.{PackedState}
use Rattle.gate_sim.proofs.Standing.{keeps_values}
use Rattle.gate_sim.proofs.Past.{present_row}

-- a simulator over other values, inputs and states of its netlist
abbrev pub over : SimState → PackedState → SimState
over s p = record s { net = p.net; values = p.values; start = p.start; fixed = p.fixed }

-- what is so of one is so of the other
pub moved : (P : SimState → Type 0) (s : SimState) (p q : PackedState) → p ≡ q → P (over s q) → P (over s p)
moved P s p q same h = subst (λ x. P (over s x)) (sym same) h

-- lists under other names
pub row_over : (p : PackedState) (memory memory' : List (Vec ℕ Global)) (values : List Bool) → memory' ≡ memory → IsRow p.net.nodes p.net.blocks (value_in p.start) (word_at memory') (value_in values) → IsRow p.net.nodes p.net.blocks (value_in p.start) (word_at memory) (value_in values)
row_over p memory memory' values em row = subst (λ x. IsRow p.net.nodes p.net.blocks (value_in p.start) (word_at x) (value_in values)) em row

-- the values are those of an evaluation
module _ (p q : PackedState) (same : q ≡ record p { values = q.values }) where
  pub fits_after : (writes : List (Option BlockWrite)) (memory : List (Vec ℕ Global)) (fresh : Bool) (written written' : List Bool) (whole : Bool) → SimFits p.net p.start p.values writes memory fresh written whole → IsRow p.net.nodes p.net.blocks (value_in p.start) (word_at memory) (value_in q.values) → length written' ≡ length written → ((b : ℕ) → value_in written' b ≡ false) → SimFits q.net q.start q.values writes memory true written' false
  fits_after writes memory fresh written written' whole fits row long none =
      subst (λ x. SimFits x.net x.start q.values writes memory true written' false) (sym same)
      (record {
        ordered = fits.ordered;
        are_writes = fits.are_writes;
        has_words = fits.has_words;
        written_long = long ∙ fits.written_long;
        settled = λ e. settled_row p.net.nodes p.net.blocks (value_in written') (value_in p.start) (word_at memory) (value_in q.values) row;
        passed = λ e. row;
        begun = λ e. refl;
        unwritten = λ e. none;
      })

  module _ (s : SimState) (written : List Bool) (ordered : AreOrdered p.net.nodes p.net.blocks) (row : IsRow p.net.nodes p.net.blocks (value_in p.start) (word_at s.memory) (value_in q.values)) where
    pub evaluated_after : ((b : ℕ) → value_in written b ≡ false) → IsEvaluated (record (over s q) { fresh = true; written = written; whole = false })
    evaluated_after none = subst (λ x. IsEvaluated (record (over s (record x { values = q.values })) { fresh = true; written = written; whole = false })) (sym same) (record { ordered = ordered; begun = refl; unwritten = none; row = row })

    pub keeps_after : (calls : List Call) → Keeps (over s p) calls → Keeps (record (over s q) { fresh = true; written = written; whole = false }) calls
    keeps_after calls keeps = subst (λ x. Keeps (record (over s (record x { values = q.values })) { fresh = true; written = written; whole = false }) calls) (sym same) (keeps_values (over s p) calls q.values true written false keeps)

    pub fresh_after : (calls : List Call) → Keeps (over s p) calls → IsFresh (record (over s q) { fresh = true; written = written; whole = false }) calls
    fresh_after calls keeps =
        subst (λ x. IsFresh (record (over s (record x { values = q.values })) { fresh = true; written = written; whole = false }) calls) (sym same)
        (λ v are k less. rows_same p.net.nodes p.net.blocks (value_in p.start) (word_at s.memory) (value_in q.values) (λ i. v i (cycle_of calls)) ordered row (present_row (over s p) calls v keeps are) k less)

pub few_after : (s t : SimState) (values written : List Bool) (new old : ℕ) → s ≡ t → written ≡ s.written → new ≤ old + count_by (is_taken s.whole s.net.blocks (λ k. is_other (value_in s.values k) (value_in values k)) (value_in written)) s.net.nodes → new ≤ old + taken_by t values
few_after s t values written new old same e bound =
    subst (λ x. new ≤ old + taken_by x values) same (subst (λ w. new ≤ old + count_by (is_taken s.whole s.net.blocks (λ k. is_other (value_in s.values k) (value_in values k)) (value_in w)) s.net.nodes) e bound)

-- the inputs and states are other ones
pub fits_started : (p q : PackedState) → q ≡ record p { start = q.start } → (writes : List (Option BlockWrite)) (memory : List (Vec ℕ Global)) (written : List Bool) (whole : Bool) → AreOrdered p.net.nodes p.net.blocks → AreWrites p.net.blocks writes → HasWords p.net.blocks memory → length written ≡ length p.net.blocks → (whole ≡ false → AreSettled p.net.nodes p.net.blocks (value_in written) (word_at memory) (value_in p.values)) → SimFits q.net q.start q.values writes memory false written whole
fits_started p q same writes memory written whole ordered are_writes words long settled =
    subst (λ x. SimFits x.net q.start x.values writes memory false written whole) (sym same)
    (record {
      ordered = ordered;
      are_writes = are_writes;
      has_words = words;
      written_long = long;
      settled = settled;
      passed = λ e. absurd (false≢true e);
      begun = λ e. absurd (false≢true e);
      unwritten = λ e. absurd (false≢true e);
    })
