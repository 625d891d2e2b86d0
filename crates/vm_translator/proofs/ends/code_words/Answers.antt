use Rattle.vm_translator.proofs.Answering.{words_closed}
use Rattle.vm_translator.proofs.ends.code_words.Goals as goal

pub returns : goal.returns
returns c =
    words_closed c.args.linked.now c.args.closing c.base_of.result c.count-words.result c.size.result c.saturating_add.result c.requires c.base_of.ensures
    (rw c.as_slice.ensures at c.count-words.ensures) c.size.ensures c.saturating_add.ensures
