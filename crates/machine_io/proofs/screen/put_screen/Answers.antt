use Rattle.std.proofs.Common.{refl, ◌∙◌, arith}
use Rattle.machine_io.proofs.Pixels.{rows-none, rows-more, screen-all, screen-whole}
use Rattle.machine_io.proofs.Handed.{nothing_handed, handed_as, handed_more, handed_cut}
use Rattle.machine_io.proofs.screen.put_screen.Goals as goal

pub loop-row-init : goal.loop-row-init
loop-row-init g c = record { same_sink = refl; passes = λ words gives. nothing_handed _ _ _ (rows-none words); counts = refl }

pub loop-row-preserved : goal.loop-row-preserved
loop-row-preserved g c = record {
  same_sink = c.in-Done.ensures.same_sink ∙ c.loop-row.invariant.same_sink;
  passes = λ words gives. handed_more _ _ _ _ _ _ _ _ _ _ (rows-more words c.loop-row.row) (c.loop-row.invariant.passes words gives) (c.in-Done.ensures.passes words gives);
  counts = c.in-Done.ensures.counts ∙ c.loop-row.invariant.counts;
}

pub returns-in-Failed-clause-passes : goal.returns-in-Failed-clause-passes
returns-in-Failed-clause-passes g c = λ words gives.
    let whole = screen-whole words c.loop-row.row c.loop-row-test.true in
    handed_cut _ _ _ _ _ _ _ _ _ whole.0 whole.1 (c.loop-row.invariant.passes words gives) (c.in-Failed.ensures.passes words gives)

pub returns-clause-passes : goal.returns-clause-passes
returns-clause-passes g c = λ words gives. handed_as _ _ _ _ _ _ _ (screen-all words c.loop-row.row (omega arith)) (c.loop-row.invariant.passes words gives)
