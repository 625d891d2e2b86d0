use Rattle.std.proofs.Common.{◌≡◌, ◌+◌, ◌∙◌, ◌++◌, ◌∷◌, [], arith, drop, map, append_assoc, ◌<◌, ℕ, List, length, get_or}
use Rattle.vm_link.specs.Sections.{Section}
use Rattle.vm_link.specs.declared.section.Part.{Part}
use Rattle.vm_link.specs.declared.linked.LinkedFunction.{LinkedFunction}
use Rattle.vm_link.specs.Resolved.{function_of}
use Rattle.vm_link.specs.Inner.Maps.{seen_section, all_seen}
use Rattle.vm_link.proofs.Marking.{seen_at, rest_at}
use Rattle.vm_link.proofs.linking.functions.Goals as goal

one_more : (f : Section → LinkedFunction) (kept : List Part) (i : ℕ) (x : Part) (fs gs : List LinkedFunction) (g : LinkedFunction) (whole : List LinkedFunction)
    → i < length kept → x ≡ get_or kept i x → gs ≡ fs ++ g ∷ [] → g ≡ f (seen_section x) → fs ++ map f (all_seen (drop i kept)) ≡ whole
    → gs ++ map f (all_seen (drop (i + 1) kept)) ≡ whole
one_more f kept i x fs gs g whole h e p q inv =
    rw (p, q, append_assoc) (rw (rest_at kept i x h e) at inv)

pub before_of-before-requires-clause-below : goal.before_of-before-requires-clause-below
before_of-before-requires-clause-below c = let f = c.requires.fits c.loop-part.part-index (seen_section c.part-item.result) (seen_at seen_section c.args.kept.now c.loop-part.part-index c.part-item.result c.part-item.result c.loop-part-test.true c.part-item.is) in f.below

pub before_of-before-requires-clause-room : goal.before_of-before-requires-clause-room
before_of-before-requires-clause-room c = let f = c.requires.fits c.loop-part.part-index (seen_section c.part-item.result) (seen_at seen_section c.args.kept.now c.loop-part.part-index c.part-item.result c.part-item.result c.loop-part-test.true c.part-item.is) in
    let b = f.base in let r = f.room in omega arith

pub function_of-requires : goal.function_of-requires
function_of-requires c = let f = c.requires.fits c.loop-part.part-index (seen_section c.part-item.result) (seen_at seen_section c.args.kept.now c.loop-part.part-index c.part-item.result c.part-item.result c.loop-part-test.true c.part-item.is) in
    let b = f.base in let r = f.room in let e = c.before_of-before.ensures in omega arith

pub loop-part-preserved : goal.loop-part-preserved
loop-part-preserved c = let f = c.requires.fits c.loop-part.part-index (seen_section c.part-item.result) (seen_at seen_section c.args.kept.now c.loop-part.part-index c.part-item.result c.part-item.result c.loop-part-test.true c.part-item.is) in
    let made = c.in_ok-function.ensures (all_seen c.args.kept.now) c.requires.numbers (c.before_of-before.ensures ∙ f.base) in
    one_more (function_of (all_seen c.args.kept.now)) c.args.kept.now c.loop-part.part-index c.part-item.result c.loop-part.functions.items c.push.new.self.items c.in_ok-function.function _
    c.loop-part-test.true c.part-item.is c.in_ok-push.ensures.items made c.loop-part.invariant
