use Rattle.std.proofs.Common.{rules, ◌∙◌, ◌≡◌, ◌<◌, sym, ap, length, arith}
use Rattle.std.proofs.lemmas.List.{length-map}
use Rattle.vm_link.proofs.Marking.{none_left}
use Rattle.jack_core.specs.Texts.{the_program, the_subroutine, the_block}
use Rattle.jack_compiler.specs.declared.reached.Search.{Search}
use Rattle.jack_compiler.proofs.Searching.{looks_first, looks_below, looks_next, looks_last, body_at}
use Rattle.jack_compiler.proofs.reached.reached.Goals as goal

pub waiting-init : goal.waiting-init
waiting-init c =
    let none : Search = record { marks = c.in_ok-no_marks.field-0; waiting = c.new.result } in
    looks_first (the_program c.args.core.now) none c.mark.new.search
    (c.in_ok-no_marks.ensures.same_length ∙ ap length c.deref.ensures.value ∙ sym (length-map c.args.core.now.subroutines.items the_subroutine)) c.in_ok-no_marks.ensures.unset
    c.new.ensures.items c.in_ok-mark.ensures

pub index-requires : goal.index-requires
index-requires c =
    let h = looks_below (the_program c.args.core.now) c.waiting.search.marks.items c.pop.new.self.items c.in-Some.number (rw c.in-Some.ensures.items at c.waiting.invariant) in
    let n = length-map c.args.core.now.subroutines.items the_subroutine in
    let b : c.in-Some.number < length c.args.core.now.subroutines.items = omega arith in search rules

pub waiting-preserved : goal.waiting-preserved
waiting-preserved c =
    let old : Search = record { marks = c.waiting.search.marks; waiting = c.pop.new.self } in
    let looks = rw c.in-Some.ensures.items at c.waiting.invariant in
    let h = looks_below (the_program c.args.core.now) c.waiting.search.marks.items c.pop.new.self.items c.in-Some.number looks in
    let n = length-map c.args.core.now.subroutines.items the_subroutine in
    let b : c.in-Some.number < length c.args.core.now.subroutines.items = omega arith in
    looks_next (the_program c.args.core.now) c.in-Some.number old c.mark_statements.new.search (the_block c.deref-in-Some.result.now)
    (body_at c.args.core.now.subroutines.items c.in-Some.number _ c.index.result.now c.deref-in-Some.result.now b c.index.ensures c.deref-in-Some.ensures.value)
    looks c.in_ok-mark_statements.ensures

pub returns : goal.returns
returns c =
    let z : c.waiting.search.waiting.len ≡ 0 = c.in_default.ensures.cases.0 in
    let l : length c.waiting.search.waiting.items ≡ 0 = search rules in
    let e = none_left c.waiting.search.waiting.items l in
    looks_last (the_program c.args.core.now) c.waiting.search.marks.items (rw e at c.waiting.invariant)
