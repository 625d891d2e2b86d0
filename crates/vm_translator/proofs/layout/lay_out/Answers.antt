use Rattle.std.proofs.Common.{◌≡◌, ◌+◌, ◌∙◌, ap, length, arith, length-append}
use Rattle.vm_translator.proofs.Emitted.{firsts_more, steps_more, words_more}
use Rattle.vm_translator.proofs.Laid.{length_placed}
use Rattle.vm_translator.specs.Places.{placed_code}
use Rattle.vm_translator.proofs.layout.lay_out.Goals as goal

pub loop-number-preserved : goal.loop-number-preserved
loop-number-preserved c =
    let fs = c.args.functions.now in
    let i = c.loop-number.number in
    let f = c.index-functions-number.result in
    let ps = c.loop-number.placed.items in
    let inv = c.loop-number.invariant in
    let h = c.loop-number-test.true in
    let e = c.index-functions-number.is in
    let own = c.as_slice.ensures in
    let cs = c.as_slice.result.now in
    let made = c.in_ok-at.ensures.placed in
    let n : length ps ≡ c.len.result = let ok = c.loop-number.placed.ok in omega (arith, ok.0, c.len.ensures) in
    let more : length c.place_code.new.placed.items ≡ length ps + length cs
    = ap length made ∙ length-append ps (placed_code i f.number c.loop-number.at cs) ∙ ap (λ k. length ps + k) (length_placed i f.number c.loop-number.at cs) in
    record {
      steps = steps_more fs i f h e c.loop-number.at c.in_ok-at.at cs ps c.place_code.new.placed.items _ own inv.steps made c.in_ok-at.ensures.end;
      firsts = firsts_more fs i f h e (length ps) (length c.place_code.new.placed.items) cs c.loop-number.firsts.items c.push.new.self.items _ own inv.firsts
          (rw n c.in_ok-push.ensures.items) more;
      words = words_more fs i f h e c.loop-number.at c.in_ok-at.at cs _ own inv.words c.in_ok-at.ensures.end;
    }
