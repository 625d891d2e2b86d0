use Rattle.std.proofs.Common.{◌≤◌, ◌<◌, ◌+◌, ◌*◌, refl, ◌∙◌, ap, arith}
use Rattle.machine_io.specs.Screen.{pixels_of}
use Rattle.machine_io.proofs.Pixels.{pixels-none, pixels-more, row-all, row-whole}
use Rattle.machine_io.proofs.Handed.{nothing_handed, handed_as, handed_more, handed_cut}
use Rattle.machine_io.proofs.screen.put_row.Goals as goal

pub loop-k-init : goal.loop-k-init
loop-k-init g c = record { same_sink = refl; passes = λ words gives. nothing_handed _ _ _ (pixels-none words c.args.row); counts = refl }

pub loop-k-preserved : goal.loop-k-preserved
loop-k-preserved g c = record {
  same_sink = c.in-Done.ensures.same_sink ∙ c.loop-k.invariant.same_sink;
  passes = λ words gives.
      let row : c.args.row < 256 = c.requires.row in
      let place = 16384 + 32 * c.args.row + c.loop-k.k in
      let from_on : 16384 ≤ 16384 + 32 * c.args.row + c.loop-k.k = omega arith in
      let up_to : 16384 + 32 * c.args.row + c.loop-k.k ≤ 24575 = omega (arith, c.loop-k-test.true) in
      let is_word = gives place c.word.result from_on up_to c.word.ensures in
      handed_more _ _ _ _ _ _ _ _ _ _ (pixels-more words c.args.row c.loop-k.k) (c.loop-k.invariant.passes words gives)
      (handed_as _ _ _ _ _ _ _ (c.pixels.ensures ∙ ap pixels_of is_word) c.in-Done.ensures.passes);
  counts = c.in-Done.ensures.passes.counts ∙ c.loop-k.invariant.counts;
}

pub returns-in-Failed-clause-passes : goal.returns-in-Failed-clause-passes
returns-in-Failed-clause-passes g c = λ words gives.
    let row : c.args.row < 256 = c.requires.row in
    let place = 16384 + 32 * c.args.row + c.loop-k.k in
    let from_on : 16384 ≤ 16384 + 32 * c.args.row + c.loop-k.k = omega arith in
    let up_to : 16384 + 32 * c.args.row + c.loop-k.k ≤ 24575 = omega (arith, c.loop-k-test.true) in
    let is_word = gives place c.word.result from_on up_to c.word.ensures in
    let whole = row-whole words c.args.row c.loop-k.k c.loop-k-test.true in
    handed_cut _ _ _ _ _ _ _ _ _ whole.0 whole.1 (c.loop-k.invariant.passes words gives)
    (handed_as _ _ _ _ _ _ _ (c.pixels.ensures ∙ ap pixels_of is_word) c.in-Failed.ensures.passes)

pub returns-clause-passes : goal.returns-clause-passes
returns-clause-passes g c = λ words gives.
    handed_more _ _ _ _ _ _ _ _ _ _ (row-all words c.args.row c.loop-k.k (omega arith)) (c.loop-k.invariant.passes words gives) c.put-2.ensures.passes
