use Rattle.std.proofs.Common.{subst, sym}
use Rattle.vm_link.specs.Inner.Words.{AreBases, AreWords}
use Rattle.vm_link.specs.Inner.Maps.{all_seen}
use Rattle.vm_link.proofs.linking.linked.Goals as goal

pub functions-requires-clause-fits : goal.functions-requires-clause-fits
functions-requires-clause-fits c =
    let words = c.requires.words in
    let same = subst (λ n. AreWords (all_seen c.args.kept.now) n c.args.words.now) (sym words.count) words in
    let bases = c.in_ok-bases.ensures (all_seen c.args.kept.now) same in
    c.requires.fits c.deref.result.now (rw (c.deref.ensures.value) (subst (λ n. AreBases (all_seen c.args.kept.now) n c.in_ok-bases.bases.items) words.count bases))
