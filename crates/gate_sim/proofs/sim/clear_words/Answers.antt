use Rattle.std.proofs.Common.{length, arith, ap, sym, ◌∙◌, inl, inr}
use Rattle.std.specs.Prelude.{slice_index, slice_set, vec_len}
use Rattle.std.proofs.lemmas.Bool.{cases_eq, cases_lt}
use Rattle.std.proofs.lemmas.List.{length-replicate}
use Rattle.netlist.specs.Words.{row_of, word_at}
use Rattle.netlist.proofs.Pushed.{zero_row}
use Rattle.gate_sim.proofs.Blank.{row_here, row_elsewhere, row_read, row_past}
use Rattle.gate_sim.proofs.sim.clear_words.Goals as goal

pub loop-b-preserved : goal.loop-b-preserved
loop-b-preserved c =
    let items = c.fill.ensures.items (λ y e. e) in
    let here = row_here c.loop-b.memory c.loop-b.b c.fill.new.self (omega arith) ∙ items in
    record {
      sizes = λ i. elim (cases_eq i c.loop-b.b) [
        | inl e ↦
            ap (λ j. length (row_of (slice_set c.loop-b.memory c.loop-b.b c.fill.new.self) j)) e ∙ ap length here ∙ length-replicate _ _ ∙ ap vec_len (sym c.index-memory-b.is) ∙ c.index-memory-b.result.ok.0
            ∙ sym (row_read c.loop-b.memory c.loop-b.b c.index-memory-b.result c.index-memory-b.result (omega arith) c.index-memory-b.is) ∙ c.loop-b.invariant.sizes c.loop-b.b ∙ ap (λ j. length (row_of c.args.memory.now j)) (sym e)
        | inr ne ↦ ap length (row_elsewhere c.loop-b.memory c.loop-b.b i c.fill.new.self ne) ∙ c.loop-b.invariant.sizes i
      ];
      zeros = λ i a less. elim (cases_eq i c.loop-b.b) [
        | inl e ↦ ap (λ j. word_at (slice_set c.loop-b.memory c.loop-b.b c.fill.new.self) j a) e ∙ ap (λ r. slice_index r a) here ∙ zero_row _ a
        | inr ne ↦ ap (λ r. slice_index r a) (row_elsewhere c.loop-b.memory c.loop-b.b i c.fill.new.self ne) ∙ c.loop-b.invariant.zeros i a (omega arith)
      ];
    }

pub returns-clause-zeros : goal.returns-clause-zeros
returns-clause-zeros c b a =
    elim (cases_lt b c.loop-b.b) [
      | inl less ↦ c.loop-b.invariant.zeros b a less
      | inr past ↦ ap (λ r. slice_index r a) (row_past c.loop-b.memory b (omega arith))
    ]
