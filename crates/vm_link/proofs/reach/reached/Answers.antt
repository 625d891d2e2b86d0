use Rattle.std.proofs.Common.{rules, ◌∙◌, ◌≡◌, ◌<◌, sym, length, get_or, refl}
use Rattle.vm_link.specs.Inner.Maps.{seen_section, all_seen}
use Rattle.vm_link.proofs.Marking.{below, looks_first, looks_next, looks_last, looks_below, seen_at, none_left, length_mapped}
use Rattle.vm_link.proofs.reach.reached.Goals as goal

pub mark_function-requires : goal.mark_function-requires
mark_function-requires c = below (all_seen c.args.parts.now) c.args.numbers.now c.requires (length c.in_ok-marks.marks.items)
    (length_mapped seen_section c.args.parts.now ∙ sym c.in_ok-marks.ensures.same_length)

pub waiting-init : goal.waiting-init
waiting-init c = looks_first (all_seen c.args.parts.now) c.args.numbers.now c.requires c.in_ok-marks.marks.items c.mark_function.new.marks.items c.mark_function.new.pending.items
    (c.in_ok-marks.ensures.same_length ∙ sym (length_mapped seen_section c.args.parts.now)) c.in_ok-marks.ensures.unset
    (rw c.new-pending.ensures.items at c.in_ok-mark_function.ensures.marks) c.in_ok-mark_function.ensures.marked

pub bounds-parts-place : goal.bounds-parts-place
bounds-parts-place c =
    let h = looks_below (all_seen c.args.parts.now) c.args.numbers.now c.requires c.waiting.marks.items c.pop.new.self.items c.in-Some.place (rw c.in-Some.ensures.items at c.waiting.invariant) in
    rw (length_mapped seen_section c.args.parts.now) at h

pub bounds-parts-place-in-Some : goal.bounds-parts-place-in-Some
bounds-parts-place-in-Some c =
    let h = looks_below (all_seen c.args.parts.now) c.args.numbers.now c.requires c.waiting.marks.items c.pop.new.self.items c.in-Some.place (rw c.in-Some.ensures.items at c.waiting.invariant) in
    rw (length_mapped seen_section c.args.parts.now) at h

pub visit-requires : goal.visit-requires
visit-requires c = below (all_seen c.args.parts.now) c.args.numbers.now c.requires (length c.waiting.marks.items) (sym c.waiting.invariant.same_length)

pub waiting-preserved : goal.waiting-preserved
waiting-preserved c =
    let old = rw c.in-Some.ensures.items at c.waiting.invariant in
    let h = looks_below (all_seen c.args.parts.now) c.args.numbers.now c.requires c.waiting.marks.items c.pop.new.self.items c.in-Some.place old in
    looks_next (all_seen c.args.parts.now) c.args.numbers.now c.requires c.in-Some.place (seen_section (get_or c.args.parts.now c.in-Some.place c.index-parts-place.result))
    c.waiting.marks.items c.visit.new.marks.items c.pop.new.self.items c.visit.new.pending.items
    (seen_at seen_section c.args.parts.now c.in-Some.place _ c.index-parts-place.result (rw (length_mapped seen_section c.args.parts.now) at h) refl)
    old c.in_ok-visit.ensures.marks c.in_ok-visit.ensures.all

pub offset_bounds-parts-place : goal.offset_bounds-parts-place
offset_bounds-parts-place c =
    let h : c.in-Some.place < length c.args.parts.now = bounds-parts-place c in search rules

pub returns : goal.returns
returns c =
    let z : c.waiting.pending.len ≡ 0 = c.in_default.ensures.cases.0 in
    let l : length c.waiting.pending.items ≡ 0 = search rules in
    let e = none_left c.waiting.pending.items l in
    looks_last (all_seen c.args.parts.now) c.args.numbers.now c.requires c.waiting.marks.items (rw e at c.waiting.invariant)
