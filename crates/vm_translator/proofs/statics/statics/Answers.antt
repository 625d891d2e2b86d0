use Rattle.std.proofs.Common.{◌≡◌, ◌<◌, length, get_or, arith, ap, ◌∙◌, subst}
use Rattle.vm_translator.proofs.StaticWords.{before_more, file_more}
use Rattle.vm_translator.proofs.statics.statics.Goals as goal

pub loop-number-preserved : goal.loop-number-preserved
loop-number-preserved c =
    let l = c.args.linked.now in
    let k = c.loop-number.number in
    let file = c.file-item.result in
    let files = c.as_slice-file-items.ensures in
    let near : k < length l.files = subst (λ fs. k < length fs) files c.loop-number-test.true in
    let here : file ≡ get_or l.files k file = c.file-item.is ∙ ap (λ fs. get_or fs k file) files in
    let more = before_more l k file near here in (
      file_more l k file c.loop-number.statics.items c.add_statics.new.statics.items near here c.loop-number.invariant.0 (c.in_ok-add_statics.ensures l c.loop-number.invariant.1),
      omega (arith, more, c.loop-number.invariant.1, c.saturating_add-before.ensures),
    )
