use Rattle.std.proofs.Common.{◌≤◌, refl, ◌∙◌, ap, arith}
use Rattle.machine_io.specs.Words.{shown_line}
use Rattle.machine_io.proofs.Lines.{lines-none, lines-step, lines-whole, lines-all}
use Rattle.machine_io.proofs.Handed.{nothing_handed, handed_as, handed_more, handed_cut}
use Rattle.machine_io.proofs.words.put_words.Goals as goal

pub loop-address-init : goal.loop-address-init
loop-address-init g c = record {
  same_sink = refl;
  passes = λ words gives. nothing_handed _ _ _ (lines-none words c.args.zeros c.args.from);
  counts = refl;
  near = omega arith;
}

pub loop-address-preserved : goal.loop-address-preserved
loop-address-preserved g c = record {
  same_sink = c.in-Done.ensures.same_sink ∙ c.loop-address.invariant.same_sink;
  passes = λ words gives.
      let from_on : c.args.from ≤ c.loop-address.address = omega arith in
      let up_to : c.loop-address.address ≤ c.args.to = omega arith in
      let is_word = gives c.loop-address.address c.word.result from_on up_to c.word.ensures in
      handed_more _ _ _ _ _ _ _ _ _ _ (lines-step words c.args.zeros c.args.from c.loop-address.address from_on)
      (c.loop-address.invariant.passes words gives)
      (handed_as _ _ _ _ _ _ _ (ap (shown_line c.args.zeros c.loop-address.address) is_word) c.in-Done.ensures.passes);
  counts = c.in-Done.ensures.passes.counts ∙ c.loop-address.invariant.counts;
  near = omega arith;
}

pub returns-in-Failed-clause-passes : goal.returns-in-Failed-clause-passes
returns-in-Failed-clause-passes g c = λ words gives.
    let from_on : c.args.from ≤ c.loop-address.address = omega arith in
    let up_to : c.loop-address.address ≤ c.args.to = omega arith in
    let is_word = gives c.loop-address.address c.word.result from_on up_to c.word.ensures in
    let whole = lines-whole words c.args.zeros c.args.from c.loop-address.address c.args.to from_on up_to in
    handed_cut _ _ _ _ _ _ _ _ _ whole.0 whole.1
    (c.loop-address.invariant.passes words gives)
    (handed_as _ _ _ _ _ _ _ (ap (shown_line c.args.zeros c.loop-address.address) is_word) c.in-Failed.ensures.passes)

pub returns-clause-passes : goal.returns-clause-passes
returns-clause-passes g c = λ words gives.
    handed_as _ _ _ _ _ _ _ (lines-all words c.args.zeros c.args.from c.loop-address.address c.args.to (omega arith) c.loop-address.invariant.near)
    (c.loop-address.invariant.passes words gives)
