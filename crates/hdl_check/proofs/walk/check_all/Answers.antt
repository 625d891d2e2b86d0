use Rattle.std.proofs.Common.{◌≡◌, List, [], ◌∷◌, ◌++◌, length, length-append, set, drop, replicate, refl, sym, ap, subst, ◌∙◌, arith}
use Rattle.std.proofs.lemmas.Grind.{common_steps}
use Rattle.std.specs.Prelude.{vec_len, slice_get}
use Rattle.std.proofs.lemmas.Result.{err_from_is_err_and}
use Rattle.hdl_check.specs.Inner.Progress.{chips_of}
use Rattle.hdl_check.specs.Inner.Frames.{IsSearch}
use Rattle.hdl_check.specs.declared.walk.Frame.{Frame}
use Rattle.hdl_check.specs.declared.stage.Stage.{Stage}
use Rattle.hdl_check.specs.declared.stage.Stage.TheVariants.{New, Open}
use Rattle.hdl_check.proofs.Fresh.{new_at, fresh, fresh_names, faultless_at}
use Rattle.hdl_check.proofs.Descents.{first_down, at_end}
use Rattle.hdl_check.proofs.Stacks.{written_back}
use Rattle.hdl_check.proofs.walk.check_all.Goals as goal

pub returns-in_err-first-clause-fault : goal.returns-in_err-first-clause-fault
returns-in_err-first-clause-fault c =
    let q = err_from_is_err_and c.from_residual-in_err-first.result c.from_residual-in_err-first.ensures.1 in
    rw (q.1, q.2) (c.in_err-first.ensures.fault [])

pub frames-init : goal.frames-init
frames-init c =
    let chips = chips_of c.args.catalog.now in
    let k = c.args.k in
    let n = length c.args.catalog.now.entries.now in
    let first = c.in_ok-first.first in
    let stages = c.deref_mut.result.now in
    let done = vec_len c.new-order.result in
    let e : stages ≡ replicate n New = c.deref_mut.ensures.value ∙ c.in_ok-stages.ensures in
    let progress = fresh chips stages n done e refl c.new-order.ensures.len in
    let s = first_down chips c.requires.catalog.distinct stages done k first progress (fresh_names chips stages n e) (ap (λ (st : List Stage). slice_get st k) e ∙ new_at n k c.requires.there) c.in_ok-first.ensures.begun in
    let frames : c.enter.new.frames.items ≡ first ∷ [] = c.in_ok-enter.ensures.frames ∙ ap (λ (fs : List Frame). fs ++ first ∷ []) c.new-frames.ensures.items in
    let same = c.enter.auto.stages in
    let value = ap length c.deref_mut.ensures.value in
    let len = c.in_ok-stages.stages.ok.0 in
    let back = written_back c.in_ok-stages.stages.len c.enter.new.stages (drop (length c.enter.new.stages) c.in_ok-stages.stages.items) (omega (arith, same, value, len)) in
    subst (λ (st : List Stage). IsSearch chips k st done c.enter.new.frames.items) (sym (back ∙ c.in_ok-enter.ensures.stages))
    (subst (λ (fs : List Frame). IsSearch chips k (set stages first.number Open) done fs) (sym frames) s)

pub frames-preserved : goal.frames-preserved
frames-preserved c =
    let chips = chips_of c.args.catalog.now in
    let k = c.args.k in
    let frame = c.in-Some.frame in
    let frames = c.pop.new.self.items ++ frame ∷ [] in
    let n = vec_len c.frames.order in
    let old : IsSearch chips k c.deref_mut-in-Some.result.now n frames = subst (λ (st : List Stage). IsSearch chips k st n frames) (sym c.deref_mut-in-Some.ensures.value) (subst (λ (fs : List Frame). IsSearch chips k c.frames.stages.items n fs) c.in-Some.ensures.items c.frames.invariant) in
    let same = c.step.auto.stages in
    let value = ap length c.deref_mut-in-Some.ensures.value in
    let len = c.frames.stages.ok.0 in
    let back = written_back c.frames.stages.len c.step.new.stages (drop (length c.step.new.stages) c.frames.stages.items) (omega (arith, same, value, len)) in
    subst (λ (st : List Stage). IsSearch chips k st (vec_len c.step.new.order) c.step.new.frames.items) (sym back) (c.in_ok-step.ensures.search k old)

pub returns-in_err-step-clause-fault : goal.returns-in_err-step-clause-fault
returns-in_err-step-clause-fault c =
    let q = err_from_is_err_and c.from_residual-in_err-step.result c.from_residual-in_err-step.ensures.1 in
    let chips = chips_of c.args.catalog.now in
    let k = c.args.k in
    let frame = c.in-Some.frame in
    let frames = c.pop.new.self.items ++ frame ∷ [] in
    let n = vec_len c.frames.order in
    let old : IsSearch chips k c.deref_mut-in-Some.result.now n frames = subst (λ (st : List Stage). IsSearch chips k st n frames) (sym c.deref_mut-in-Some.ensures.value) (subst (λ (fs : List Frame). IsSearch chips k c.frames.stages.items n fs) c.in-Some.ensures.items c.frames.invariant) in
    rw (q.1, q.2) (c.in_err-step.ensures.fault k old)

pub returns-clause-fine : goal.returns-clause-fine
returns-clause-fine c = λ entry there.
    let chips = chips_of c.args.catalog.now in
    let k = c.args.k in
    let none : length c.pop.new.self.items ≡ 0 = omega (arith, c.pop.new.self.ok.0, c.in_default.ensures.cases.1) in
    let items = ap length c.in_default.ensures.items in
    let both = length-append c.pop.new.self.items [] in
    let stages = c.frames.stages.items in
    let n = vec_len c.frames.order in
    faultless_at chips stages n k c.frames.invariant.progress (at_end chips k stages n c.frames.frames.items c.frames.invariant (omega (arith, items, both, none))) entry there

pub enter-requires : goal.enter-requires
enter-requires c = grind (arith, common_steps)

pub frames-smaller : goal.frames-smaller
frames-smaller c = grind (arith, common_steps)
