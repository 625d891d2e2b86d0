use Rattle.std.proofs.Common.{◌≡◌, ℕ, List, ◌∷◌, [], ◌++◌, length, length-append, set, Some, sym, ap, subst, ◌∙◌, arith}
use Rattle.std.specs.Prelude.{slice_get, vec_len, count_by}
use Rattle.std.proofs.lemmas.Option.{slice_get_within}
use Rattle.std.proofs.lemmas.Result.{err_from_is_err_and}
use Rattle.hdl_check.specs.Inner.Progress.{chips_of, is_new}
use Rattle.hdl_check.specs.Inner.Frames.{IsSearch, names_of}
use Rattle.hdl_check.specs.declared.stage.Stage.{Stage}
use Rattle.hdl_check.specs.declared.stage.Stage.TheVariants.{New, Open, Done}
use Rattle.hdl_check.proofs.Advances.{next_none, next_some}
use Rattle.hdl_check.proofs.Descents.{on_top, further_on, top_wrong, inner_wrong, up, down}
use Rattle.hdl_check.proofs.Keeping.{open_named, same_new, fewer_new}
use Rattle.hdl_check.proofs.walk.step.Goals as goal

pub advance-requires-clause-frame : goal.advance-requires-clause-frame
advance-requires-clause-frame c =
    let chips = chips_of c.args.catalog.now in
    let stages = c.args.stages.now in
    let done = vec_len c.args.order.now in
    let frames = c.args.frames.now.items in
    (on_top chips c.requires.search.0 stages done frames c.args.frame c.requires.search.1).standing.right

pub returns-in_err-advance-clause-fault : goal.returns-in_err-advance-clause-fault
returns-in_err-advance-clause-fault c =
    let q = err_from_is_err_and c.from_residual.result c.from_residual.ensures.1 in
    let chips = chips_of c.args.catalog.now in
    let stages = c.args.stages.now in
    let done = vec_len c.args.order.now in
    let frames = c.args.frames.now.items in
    rw (q.1, q.2) (λ top s.
    let t = on_top chips top stages done frames c.args.frame s in
    top_wrong chips stages done top frames c.args.frame t c.in_err-advance.field-0.0 (c.in_err-advance.ensures.fault (names_of (c.args.frame ∷ t.below)) done t.opened t.progress))

pub close-requires : goal.close-requires
close-requires c =
    let frame = c.advance.new.frame in
    let there = c.in_ok-advance.ensures.frame.wired.there in
    let lt = slice_get_within c.args.catalog.now.entries.now frame.number frame.entry.now there in
    let long = c.requires.search.1.progress.long in
    omega (arith, lt, long)

pub returns-in_err-inner-in-Some-clause-fault : goal.returns-in_err-inner-in-Some-clause-fault
returns-in_err-inner-in-Some-clause-fault c =
    let q = err_from_is_err_and c.from_residual-in_err-inner-in-Some.result c.from_residual-in_err-inner-in-Some.ensures.1 in
    let chips = chips_of c.args.catalog.now in
    let stages = c.args.stages.now in
    let done = vec_len c.args.order.now in
    let frames = c.args.frames.now.items in
    let frame = c.advance.new.frame in
    let a = c.in_ok-advance.ensures in
    let next = next_some chips stages frame c.in_ok-advance.field-0 c.in-Some.k a.next c.in-Some.is in
    rw (q.1, q.2) (λ top s.
    let t = further_on chips top stages done frames c.args.frame frame a.same a.frame (on_top chips top stages done frames c.args.frame s) in
    inner_wrong chips stages done top frames frame c.in-Some.k t c.in_err-inner-in-Some.field-0.0 next.0 next.1 c.in_err-inner-in-Some.ensures.fault)

pub returns-in_ok-close-in-None-clause-search : goal.returns-in_ok-close-in-None-clause-search
returns-in_ok-close-in-None-clause-search c = λ top s.
    let chips = chips_of c.args.catalog.now in
    let stages = c.args.stages.now in
    let done = vec_len c.args.order.now in
    let frames = c.args.frames.now.items in
    let frame = c.advance.new.frame in
    let a = c.in_ok-advance.ensures in
    let t = further_on chips top stages done frames c.args.frame frame a.same a.frame (on_top chips top stages done frames c.args.frame s) in
    let last = next_none chips stages frame c.in_ok-advance.field-0 a.next c.in-None.is in
    let e = c.in_ok-close-in-None.ensures in
    subst (λ (st : List Stage). IsSearch chips top st (vec_len c.close.new.order) frames) (sym e.stages)
    (subst (λ (n : ℕ). IsSearch chips top (set stages frame.number (Done done)) n frames) (sym e.order) (up chips c.requires.catalog.distinct top stages done frames frame t last))

pub returns-in_ok-close-in-None-clause-less : goal.returns-in_ok-close-in-None-clause-less
returns-in_ok-close-in-None-clause-less c =
    let chips = chips_of c.args.catalog.now in
    let stages = c.args.stages.now in
    let done = vec_len c.args.order.now in
    let frames = c.args.frames.now.items in
    let frame = c.advance.new.frame in
    let a = c.in_ok-advance.ensures in
    let t = further_on chips c.requires.search.0 stages done frames c.args.frame frame a.same a.frame (on_top chips c.requires.search.0 stages done frames c.args.frame c.requires.search.1) in
    let at = open_named chips stages frame.number frame.entry.now (names_of t.below) a.frame.wired.there t.opened in
    let same = same_new stages frame.number done at in
    let e = ap (count_by is_new) c.in_ok-close-in-None.ensures.stages in
    omega (arith, same, e)

pub returns-in_ok-enter-in-Some-clause-search : goal.returns-in_ok-enter-in-Some-clause-search
returns-in_ok-enter-in-Some-clause-search c = λ top s.
    let chips = chips_of c.args.catalog.now in
    let stages = c.args.stages.now in
    let done = vec_len c.args.order.now in
    let frames = c.args.frames.now.items in
    let frame = c.advance.new.frame in
    let a = c.in_ok-advance.ensures in
    let t = further_on chips top stages done frames c.args.frame frame a.same a.frame (on_top chips top stages done frames c.args.frame s) in
    let k = c.in-Some.k in
    let next = next_some chips stages frame c.in_ok-advance.field-0 k a.next c.in-Some.is in
    let inner = c.in_ok-inner-in-Some.inner in
    let e = c.in_ok-enter-in-Some.ensures in
    let items : c.enter.new.frames.items ≡ (frames ++ frame ∷ []) ++ inner ∷ [] = e.frames ∙ ap (λ fs. fs ++ inner ∷ []) c.in_ok-put-in-Some.ensures in
    subst (λ (st : List Stage). IsSearch chips top st done c.enter.new.frames.items) (sym e.stages)
    (subst (λ fs. IsSearch chips top (set stages inner.number Open) done fs) (sym items) (down chips c.requires.catalog.distinct top stages done frames frame k inner t next.0 next.1 c.in_ok-inner-in-Some.ensures.begun))

pub returns-in_ok-enter-in-Some-clause-less : goal.returns-in_ok-enter-in-Some-clause-less
returns-in_ok-enter-in-Some-clause-less c =
    let chips = chips_of c.args.catalog.now in
    let stages = c.args.stages.now in
    let done = vec_len c.args.order.now in
    let frames = c.args.frames.now.items in
    let frame = c.advance.new.frame in
    let a = c.in_ok-advance.ensures in
    let next = next_some chips stages frame c.in_ok-advance.field-0 c.in-Some.k a.next c.in-Some.is in
    let inner = c.in_ok-inner-in-Some.inner in
    let new : slice_get stages inner.number ≡ Some New = ap (slice_get stages) c.in_ok-inner-in-Some.ensures.begun.number ∙ next.1 in
    let fewer = fewer_new stages inner.number new in
    let e = ap (count_by is_new) c.in_ok-enter-in-Some.ensures.stages in
    let long = ap length c.in_ok-enter-in-Some.ensures.frames ∙ length-append c.put.new.frames.items (inner ∷ []) in
    let middle = ap length c.in_ok-put-in-Some.ensures ∙ length-append frames (frame ∷ []) in
    omega (arith, fewer, e, long, middle)
