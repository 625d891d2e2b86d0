use Rattle.vm_translator.specs.Statics.{words_before}
use Rattle.vm_translator.proofs.StaticWords.{word_more}
use Rattle.vm_translator.proofs.statics.add_statics.Goals as goal

pub loop-index-preserved : goal.loop-index-preserved
loop-index-preserved c = λ p before.
    word_more p c.args.file c.loop-index.index c.address.result c.args.statics.now.items c.loop-index.statics.items c.push.new.self.items
    (c.loop-index.invariant p before) (c.address.ensures (words_before p c.args.file) before) c.in_ok-push.ensures.items
