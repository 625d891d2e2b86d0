use Rattle.std.proofs.Common.{◌≡◌, ◌+◌, ◌++◌, suc, sym, ap, ◌∙◌, arith}
use Rattle.std.proofs.lemmas.Result.{on_ok_weaker}
use Rattle.jack_meaning.specs.Linked.{calls, statement_calls, text_calls}
use Rattle.jack_core.specs.Reading.{the_expression}
use Rattle.jack_core.specs.Texts.{the_statement, the_block}
use Rattle.jack_core.proofs.Blocks.{if_reads, while_reads}
use Rattle.jack_compiler.proofs.Adding.{weight_of, weight_in, weight_item}
use Rattle.jack_compiler.proofs.Searching.{visits_then, visits_as, block_next}
use Rattle.jack_compiler.proofs.reached.+calling.Goals as goal

pub mark_statement-mark_statements-requires : goal.mark_statement-mark_statements-requires
mark_statement-mark_statements-requires t c =
    let size_is : weight_of (the_statement c.args.s.now) ≡ suc (suc (weight_in (the_block c.in-If.holds.items) + weight_in (the_block c.in-If.fails.items))) =
    ap (λ z. weight_of (the_statement z)) c.in-If.is ∙ ap weight_of (if_reads c.in-If.number c.in-If.has_else c.in-If.condition c.in-If.holds c.in-If.fails) in
    let holds : weight_in (the_block c.deref.result.now) ≡ weight_in (the_block c.in-If.holds.items) = ap (λ z. weight_in (the_block z)) c.deref.ensures.value in
    (omega (arith, c.decreases, size_is, holds), tt)

pub mark_statement-mark_statements-requires-in-If : goal.mark_statement-mark_statements-requires-in-If
mark_statement-mark_statements-requires-in-If t c =
    let size_is : weight_of (the_statement c.args.s.now) ≡ suc (suc (weight_in (the_block c.in-If.holds.items) + weight_in (the_block c.in-If.fails.items))) =
    ap (λ z. weight_of (the_statement z)) c.in-If.is ∙ ap weight_of (if_reads c.in-If.number c.in-If.has_else c.in-If.condition c.in-If.holds c.in-If.fails) in
    let fails : weight_in (the_block c.deref-in-If.result.now) ≡ weight_in (the_block c.in-If.fails.items) = ap (λ z. weight_in (the_block z)) c.deref-in-If.ensures.value in
    (omega (arith, c.decreases, size_is, fails), tt)

pub mark_statement-mark_statements-requires-in-While : goal.mark_statement-mark_statements-requires-in-While
mark_statement-mark_statements-requires-in-While t c =
    let size_is : weight_of (the_statement c.args.s.now) ≡ suc (suc (weight_in (the_block c.in-While.body.items))) =
    ap (λ z. weight_of (the_statement z)) c.in-While.is ∙ ap weight_of (while_reads c.in-While.number c.in-While.condition c.in-While.body) in
    let body : weight_in (the_block c.deref-in-While.result.now) ≡ weight_in (the_block c.in-While.body.items) = ap (λ z. weight_in (the_block z)) c.deref-in-While.ensures.value in
    (omega (arith, c.decreases, size_is, body), tt)

pub mark_statements-mark_statement-requires : goal.mark_statements-mark_statement-requires
mark_statements-mark_statement-requires t c =
    let less = weight_item c.args.ss.now c.loop-s.s-index c.s-item.result c.loop-s-test.true c.s-item.is in
    (omega (arith, c.decreases, less), tt)

pub mark_statement-returns-in_ok-mark_expression-in-Store-2 : goal.mark_statement-returns-in_ok-mark_expression-in-Store-2
mark_statement-returns-in_ok-mark_expression-in-Store-2 t c =
    let base = calls (the_expression c.in-Store.base) in
    let index = calls (the_expression c.in-Store.index) in
    let value = calls (the_expression c.in-Store.value) in
    on_ok_weaker c.mark_expression-in-Store-2.result
    (λ e. visits_as (base ++ (index ++ value)) (statement_calls (the_statement c.args.s.now)) c.args.search.now c.mark_expression-in-Store-2.new.search
    (ap (λ z. statement_calls (the_statement z)) (sym c.in-Store.is))
    (visits_then base (index ++ value) c.args.search.now c.mark_expression.new.search c.mark_expression-in-Store-2.new.search c.in_ok-mark_expression-in-Store.ensures
    (visits_then index value c.mark_expression.new.search c.mark_expression-in-Store.new.search c.mark_expression-in-Store-2.new.search c.in_ok-mark_expression-in-Store-2.ensures e)))
    c.mark_expression-in-Store-2.ensures

pub mark_statement-returns-in_ok-mark_statements-in-If : goal.mark_statement-returns-in_ok-mark_statements-in-If
mark_statement-returns-in_ok-mark_statements-in-If t c =
    let condition = calls (the_expression c.in-If.condition) in
    let holds = text_calls (the_block c.deref.result.now) in
    let fails = text_calls (the_block c.deref-in-If.result.now) in
    on_ok_weaker c.mark_statements-in-If.result
    (λ e. visits_as (condition ++ (holds ++ fails)) (statement_calls (the_statement c.args.s.now)) c.args.search.now c.mark_statements-in-If.new.search
    ((λ i. calls (the_expression c.in-If.condition) ++ (text_calls (the_block (c.deref.ensures.value i)) ++ text_calls (the_block (c.deref-in-If.ensures.value i))))
    ∙ sym (ap statement_calls (if_reads c.in-If.number c.in-If.has_else c.in-If.condition c.in-If.holds c.in-If.fails)) ∙ ap (λ z. statement_calls (the_statement z)) (sym c.in-If.is))
    (visits_then condition (holds ++ fails) c.args.search.now c.mark_expression-in-If.new.search c.mark_statements-in-If.new.search c.in_ok-mark_expression-in-If.ensures
    (visits_then holds fails c.mark_expression-in-If.new.search c.mark_statements.new.search c.mark_statements-in-If.new.search c.in_ok-mark_statements-in-If.ensures e)))
    c.mark_statements-in-If.ensures

pub mark_statement-returns-in_ok-mark_expression-in-While : goal.mark_statement-returns-in_ok-mark_expression-in-While
mark_statement-returns-in_ok-mark_expression-in-While t c =
    let condition = calls (the_expression c.in-While.condition) in
    let body = text_calls (the_block c.deref-in-While.result.now) in
    on_ok_weaker c.mark_statements-in-While.result
    (λ e. visits_as (condition ++ body) (statement_calls (the_statement c.args.s.now)) c.args.search.now c.mark_statements-in-While.new.search
    (ap (λ z. calls (the_expression c.in-While.condition) ++ text_calls (the_block z)) c.deref-in-While.ensures.value
    ∙ sym (ap statement_calls (while_reads c.in-While.number c.in-While.condition c.in-While.body)) ∙ ap (λ z. statement_calls (the_statement z)) (sym c.in-While.is))
    (visits_then condition body c.args.search.now c.mark_expression-in-While.new.search c.mark_statements-in-While.new.search c.in_ok-mark_expression-in-While.ensures e))
    c.mark_statements-in-While.ensures

pub mark_statements-loop-s-preserved : goal.mark_statements-loop-s-preserved
mark_statements-loop-s-preserved t c =
    block_next c.args.ss.now c.loop-s.s-index c.s-item.result c.args.search.now c.loop-s.search c.mark_statement.new.search c.loop-s-test.true c.s-item.is c.loop-s.invariant c.in_ok-mark_statement.ensures
