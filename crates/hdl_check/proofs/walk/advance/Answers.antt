use Rattle.std.proofs.Common.{◌<◌, length, get_or, refl, sym, ap, subst, ◌∙◌, arith}
use Rattle.std.proofs.lemmas.Result.{err_from_is_err_and}
use Rattle.hdl_tree.specs.declared.library.Entry.{Entry}
use Rattle.hdl_check.specs.Whole.{Tells}
use Rattle.hdl_check.specs.Inner.Progress.{chips_of, PartsFail}
use Rattle.hdl_check.proofs.Advances.{part_here, is_new_there, is_done_there, part_wrong, wiring_wrong, frame_further, same_trans, further_less}
use Rattle.hdl_check.proofs.walk.advance.Goals as goal

pub returns-in_err-k-clause-fault : goal.returns-in_err-k-clause-fault
returns-in_err-k-clause-fault c =
    let q = err_from_is_err_and c.from_residual.result c.from_residual.ensures.1 in
    let chips = chips_of c.args.catalog.now in
    let frame = c.parts.frame in
    let right = c.parts.invariant.right in
    let there = part_here chips frame _ c.index-frame-frame.result right.wired c.parts-test.true refl in
    rw (q.1, q.2) (λ names done o p.
    subst (λ (x : Entry). Tells (PartsFail chips names x) c.in_err-k.field-0.0) c.parts.invariant.same.entry
    (part_wrong chips c.args.stages.now frame right c.in_err-k.field-0.0 names done o p (c.in_err-k.ensures.fault names frame.place o there)))

pub returns-then-is_new-clause-next : goal.returns-then-is_new-clause-next
returns-then-is_new-clause-next c =
    let chips = chips_of c.args.catalog.now in
    let frame = c.parts.frame in
    let k = c.in_ok-k.k in
    let there = part_here chips frame _ c.index-frame-frame.result c.parts.invariant.right.wired c.parts-test.true refl in
    let within = c.in_ok-k.ensures.inner.within in
    let long : k < length c.args.stages.now = omega (arith, within, c.requires.long) in
    (record { part = get_or frame.parts.now frame.place c.index-frame-frame.result; there = there; inner = c.in_ok-k.ensures.inner }, is_new_there c.args.stages.now k _ long (sym c.is_new.ensures ∙ c.if-is_new.true))

pub check_part-requires-clause-there : goal.check_part-requires-clause-there
check_part-requires-clause-there c = part_here (chips_of c.args.catalog.now) c.parts.frame _ c.index-frame-frame.result c.parts.invariant.right.wired c.parts-test.true refl

pub parts-preserved : goal.parts-preserved
parts-preserved c =
    let chips = chips_of c.args.catalog.now in
    let stages = c.args.stages.now in
    let frame = c.parts.frame in
    let k = c.in_ok-k.k in
    let right = c.parts.invariant.right in
    let part = get_or frame.parts.now frame.place c.index-frame-frame.result in
    let there = part_here chips frame part c.index-frame-frame.result right.wired c.parts-test.true refl in
    let inner = c.in_ok-k.ensures.inner in
    let within = inner.within in
    let long : k < length stages = omega (arith, within, c.requires.long) in
    let done = is_done_there stages k _ long (sym c.is_new.ensures ∙ c.if-is_new.false) c.in_ok-k.ensures.closed in
    let e = c.in_ok-check_part.ensures in
    record {
      right = frame_further chips stages frame right part k there inner done c.check_part.new.frame e.wired e.further e.fault;
      same = same_trans c.args.frame.now frame c.check_part.new.frame c.parts.invariant.same e.further.same;
    }

pub parts-smaller : goal.parts-smaller
parts-smaller c = further_less (chips_of c.args.catalog.now) c.parts.frame c.check_part.new.frame c.parts.invariant.right.wired c.in_ok-check_part.ensures.wired c.in_ok-check_part.ensures.further c.parts-test.true

pub returns-in_err-check_part-clause-fault : goal.returns-in_err-check_part-clause-fault
returns-in_err-check_part-clause-fault c =
    let q = err_from_is_err_and c.from_residual-in_err-check_part.result c.from_residual-in_err-check_part.ensures.1 in
    let chips = chips_of c.args.catalog.now in
    let stages = c.args.stages.now in
    let frame = c.parts.frame in
    let k = c.in_ok-k.k in
    let right = c.parts.invariant.right in
    let part = get_or frame.parts.now frame.place c.index-frame-frame.result in
    let there = part_here chips frame part c.index-frame-frame.result right.wired c.parts-test.true refl in
    let inner = c.in_ok-k.ensures.inner in
    let within = inner.within in
    let long : k < length stages = omega (arith, within, c.requires.long) in
    let closed = is_done_there stages k _ long (sym c.is_new.ensures ∙ c.if-is_new.false) c.in_ok-k.ensures.closed in
    let e = c.in_err-check_part.field-0.0 in
    rw (q.1, q.2) (λ names done o p.
    subst (λ (x : Entry). Tells (PartsFail chips names x) e) c.parts.invariant.same.entry
    (wiring_wrong chips stages frame right part k there inner closed e names done o p c.in_err-check_part.ensures.fault))

pub returns-clause-next : goal.returns-clause-next
returns-clause-next c =
    let long = ap length c.parts.invariant.right.wired.parts in
    let test = c.parts-test.false in
    omega (arith, long, test)
