use Rattle.std.proofs.Common.{◌≡◌, length, arith, subst}
use Rattle.vm_link.specs.Inner.Words.{AreBases}
use Rattle.vm_link.proofs.WordLemmas.{sat_step, bases_more}
use Rattle.vm_link.proofs.statics.bases.Goals as goal

pub loop-more-preserved : goal.loop-more-preserved
loop-more-preserved c = λ kept a.
    let inv = c.loop-more.invariant kept a in (
      sat_step kept c.loop-more.more-index c.loop-more.before _ _ inv.0 (a.at c.loop-more.more-index c.loop-more-test.true) c.saturating_add-before.ensures,
      rw c.in_ok-push.ensures.items (bases_more kept c.loop-more.more-index c.loop-more.before c.loop-more.bases.items inv.1 inv.0),
    )

pub returns : goal.returns
returns c = λ kept a.
    let e : c.loop-more.more-index ≡ length c.args.words.now = omega arith in
    subst (λ n. AreBases kept n c.loop-more.bases.items) e (c.loop-more.invariant kept a).1
