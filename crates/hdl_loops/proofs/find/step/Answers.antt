use Rattle.std.proofs.Common.{◌<◌, ◌++◌, ◌∷◌, [], length, arith, rules}
use Rattle.std.proofs.lemmas.Result.{IfOk-weaker}
use Rattle.hdl_check.specs.Whole.{chips_in}
use Rattle.hdl_check.proofs.Stages.{entry_there}
use Rattle.hdl_loops.proofs.Nesting.{not_zero}
use Rattle.hdl_loops.proofs.Stacking.{frame_of, went_on, looked_at, finished, told_out}
use Rattle.hdl_loops.proofs.Tops.{none_of}
use Rattle.hdl_loops.proofs.find.step.Goals as goal

pub bounds-entries-frame : goal.bounds-entries-frame
bounds-entries-frame c =
    let chips = chips_in c.args.entries.now c.args.memories in
    let f = c.in-Some.frame in
    let init = c.pop.new.self.items in
    let old = c.args.stack.now.items in
    let frame = frame_of chips c.args.known.now c.args.top init old f c.in-Some.ensures.items c.requires.stack in
    frame.there

pub offset_bounds-entries-frame : goal.offset_bounds-entries-frame
offset_bounds-entries-frame c =
    let lt : c.in-Some.frame.chip < length c.args.entries.now = bounds-entries-frame c in search rules

pub overflow_sub-frame : goal.overflow_sub-frame
overflow_sub-frame c =
    let chips = chips_in c.args.entries.now c.args.memories in
    let f = c.in-Some.frame in
    let init = c.pop.new.self.items in
    let old = c.args.stack.now.items in
    let frame = frame_of chips c.args.known.now c.args.top init old f c.in-Some.ensures.items c.requires.stack in
    let e = entry_there chips.entries f.chip frame.there in
    let pos = not_zero f.depth chips e.0 (frame.nests e.0 e.1) in
    omega (arith, pos)

pub returns-then-frame-parts-clause-stack : goal.returns-then-frame-parts-clause-stack
returns-then-frame-parts-clause-stack c =
    let chips = chips_in c.args.entries.now c.args.memories in
    let f = c.in-Some.frame in
    let init = c.pop.new.self.items in
    let old = c.args.stack.now.items in
    let went = went_on chips c.args.known.now c.args.top init old f c.index-entries-frame.result c.parts_of-parts.result.now c.in-Some.ensures.items c.requires.stack c.index-entries-frame.is (c.parts_of-parts.ensures c.args.entries.now)
    c.push.new.self.items c.enter.new.stack.items c.index-parts-frame.result c.in_ok-push.ensures.items c.if-frame-parts.true c.index-parts-frame.is c.in_ok-enter.ensures in
    λ none. went.0

pub returns-then-frame-parts-clause-less : goal.returns-then-frame-parts-clause-less
returns-then-frame-parts-clause-less c =
    let chips = chips_in c.args.entries.now c.args.memories in
    let f = c.in-Some.frame in
    let init = c.pop.new.self.items in
    let old = c.args.stack.now.items in
    let went = went_on chips c.args.known.now c.args.top init old f c.index-entries-frame.result c.parts_of-parts.result.now c.in-Some.ensures.items c.requires.stack c.index-entries-frame.is (c.parts_of-parts.ensures c.args.entries.now)
    c.push.new.self.items c.enter.new.stack.items c.index-parts-frame.result c.in_ok-push.ensures.items c.if-frame-parts.true c.index-parts-frame.is c.in_ok-enter.ensures in
    λ none. went.1

pub find_here-requires-clause-there : goal.find_here-requires-clause-there
find_here-requires-clause-there c =
    let chips = chips_in c.args.entries.now c.args.memories in
    let f = c.in-Some.frame in
    let init = c.pop.new.self.items in
    let old = c.args.stack.now.items in
    let frame = frame_of chips c.args.known.now c.args.top init old f c.in-Some.ensures.items c.requires.stack in
    frame.there

pub find_here-requires-clause-no_end : goal.find_here-requires-clause-no_end
find_here-requires-clause-no_end c =
    let chips = chips_in c.args.entries.now c.args.memories in
    let f = c.in-Some.frame in
    let init = c.pop.new.self.items in
    let old = c.args.stack.now.items in
    let frame = frame_of chips c.args.known.now c.args.top init old f c.in-Some.ensures.items c.requires.stack in
    frame.no_end

pub find_here-requires-clause-done : goal.find_here-requires-clause-done
find_here-requires-clause-done c =
    let chips = chips_in c.args.entries.now c.args.memories in
    let f = c.in-Some.frame in
    let init = c.pop.new.self.items in
    let old = c.args.stack.now.items in
    looked_at chips c.args.known.now c.args.top init old f c.index-entries-frame.result c.parts_of-parts.result.now c.in-Some.ensures.items c.requires.stack c.index-entries-frame.is (c.parts_of-parts.ensures c.args.entries.now) (omega arith)

pub find_here-requires-clause-nests : goal.find_here-requires-clause-nests
find_here-requires-clause-nests c =
    let chips = chips_in c.args.entries.now c.args.memories in
    let f = c.in-Some.frame in
    let init = c.pop.new.self.items in
    let old = c.args.stack.now.items in
    let frame = frame_of chips c.args.known.now c.args.top init old f c.in-Some.ensures.items c.requires.stack in
    frame.nests

pub returns-clause-stack : goal.returns-clause-stack
returns-clause-stack c =
    let chips = chips_in c.args.entries.now c.args.memories in
    let f = c.in-Some.frame in
    let init = c.pop.new.self.items in
    let old = c.args.stack.now.items in
    none_of c.find_here.result c.find_here.ensures.stay c.find_here.ensures.done (λ done stays. (finished chips c.args.known.now c.find_here.new.known c.args.top init old f c.in-Some.ensures.items c.requires.stack stays done).0)

pub returns-clause-less : goal.returns-clause-less
returns-clause-less c =
    let chips = chips_in c.args.entries.now c.args.memories in
    let f = c.in-Some.frame in
    let init = c.pop.new.self.items in
    let old = c.args.stack.now.items in
    none_of c.find_here.result c.find_here.ensures.stay c.find_here.ensures.done (λ done stays. (finished chips c.args.known.now c.find_here.new.known c.args.top init old f c.in-Some.ensures.items c.requires.stack stays done).1)

pub returns-clause-told : goal.returns-clause-told
returns-clause-told c =
    let chips = chips_in c.args.entries.now c.args.memories in
    let f = c.in-Some.frame in
    let init = c.pop.new.self.items in
    let old = c.args.stack.now.items in
    let frame = frame_of chips c.args.known.now c.args.top init old f c.in-Some.ensures.items c.requires.stack in
    IfOk-weaker c.find_here.result _ _ (told_out chips c.args.known.now c.args.top (init ++ f ∷ []) (length init) f frame) c.find_here.ensures.told
