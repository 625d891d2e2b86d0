use Rattle.std.proofs.Common.{◌≡◌, ◌<◌, Some, ap, ◌∙◌, arith, List, Option, Vec, Global}
use Rattle.jack_tree.specs.declared.tree.Statement as statements
use Rattle.jack_parser.specs.StatementTrees.{statement_tree, statements_tree}
use Rattle.jack_parser.proofs.Parts.{parts, if_body, if_other, while_body, one_of}
use Rattle.jack_parser.proofs.Shown.{shows_if, shows_while}
use Rattle.grammar.proofs.Shown.{shows_both, shows_mark, shows_word, shows_left, shows_right, shows_present, shows_absent, shows_named, shows_inside, each_start, each_next, each_done}
use Rattle.jack_parser.proofs.printing.+printing_statements.Goals as goal

pub put_statement-returns-in-Let : goal.put_statement-returns-in-Let
put_statement-returns-in-Let g t c = rw c.in-Let.is (shows_named (shows_inside (shows_left (shows_both (shows_word c.put_keyword-begun.ensures) (shows_both (shows_word c.put_name-named.ensures) (shows_both c.put_index-indexed.ensures (shows_both (shows_mark c.put_symbol-assigned.ensures) (shows_both c.put_expression-valued.ensures (shows_mark c.put_symbol.ensures)))))))))

pub put_statement-returns-in-None : goal.put_statement-returns-in-None
put_statement-returns-in-None g t c = shows_if c.in-If.body c.in-If.other c.in-If.is (shows_both (shows_word c.put_keyword-asked.ensures) (shows_both (rw c.get.ensures at c.put_group-tested.ensures) (shows_both (shows_both (shows_mark c.put_symbol-opened.ensures) (shows_both (rw c.deref.ensures.value at c.put_statements-met.ensures) (shows_mark c.put_symbol-closed.ensures))) (rw c.in-None.is shows_absent))))

pub put_statement-returns-in-Some : goal.put_statement-returns-in-Some
put_statement-returns-in-Some g t c = shows_if c.in-If.body c.in-If.other c.in-If.is (shows_both (shows_word c.put_keyword-asked.ensures) (shows_both (rw c.get.ensures at c.put_group-tested.ensures) (shows_both (shows_both (shows_mark c.put_symbol-opened.ensures) (shows_both (rw c.deref.ensures.value at c.put_statements-met.ensures) (shows_mark c.put_symbol-closed.ensures))) (rw c.in-Some.is (shows_present (shows_both (shows_mark c.put_keyword-turned.ensures) (shows_both (shows_mark c.put_symbol-entered.ensures) (shows_both (rw c.deref-in-Some.ensures.value at c.put_statements-unmet.ensures) (shows_mark c.put_symbol-in-Some.ensures)))))))))

pub put_statement-returns-in-While : goal.put_statement-returns-in-While
put_statement-returns-in-While g t c = shows_while c.in-While.body c.in-While.is (shows_both (shows_word c.put_keyword-repeating.ensures) (shows_both c.put_group-guarded.ensures (shows_both (shows_mark c.put_symbol-entering.ensures) (shows_both (rw c.deref-in-While.ensures.value at c.put_statements-looped.ensures) (shows_mark c.put_symbol-in-While.ensures)))))

pub put_statement-returns-in-Do : goal.put_statement-returns-in-Do
put_statement-returns-in-Do g t c = rw c.in-Do.is (shows_named (shows_inside (shows_right (shows_right (shows_right (shows_left (shows_both (shows_word c.put_keyword-doing.ensures) (shows_both (shows_word c.put_front-fronted.ensures) (shows_both c.put_invoked-called.ensures (shows_mark c.put_symbol-in-Do.ensures))))))))))

pub put_statement-returns-in-Return : goal.put_statement-returns-in-Return
put_statement-returns-in-Return g t c = rw c.in-Return.is (shows_named (shows_inside (shows_right (shows_right (shows_right (shows_right (shows_both (shows_word c.put_keyword-returning.ensures) (shows_both c.put_value-returned.ensures (shows_mark c.put_symbol-in-Return.ensures)))))))))

pub put_statements-loop-one-init : goal.put_statements-loop-one-init
put_statements-loop-one-init g t c = each_start c.args.statements.now

pub put_statements-loop-one-preserved : goal.put_statements-loop-one-preserved
put_statements-loop-one-preserved g t c = each_next c.args.statements.now c.loop-one.one-index c.one-item.result c.loop-one-test.true c.one-item.is c.loop-one.invariant c.put_statement-status.ensures

pub put_statements-returns : goal.put_statements-returns
put_statements-returns g t c = each_done c.args.statements.now c.loop-one-test.false c.loop-one.invariant

pub put_statement-put_statements-met-requires : goal.put_statement-put_statements-met-requires
put_statement-put_statements-met-requires g t c κs within =
    let less : parts (statements_tree c.in-If.body.items) < parts (statement_tree c.args.one.now) = if_body c.in-If.body c.in-If.other c.in-If.is in
    let same : parts (statements_tree c.deref.result.now) ≡ parts (statements_tree c.in-If.body.items) = ap (λ (l : List statements.Statement). parts (statements_tree l)) c.deref.ensures.value in
    (omega (arith, c.decreases, less, same), within)

pub put_statement-put_statements-unmet-requires : goal.put_statement-put_statements-unmet-requires
put_statement-put_statements-unmet-requires g t c κs within =
    let is : c.args.one.now ≡ statements.If c.in-If.field-0 c.in-If.condition c.in-If.body (Some c.in-Some.other) = c.in-If.is ∙ ap (λ (o : Option (Vec statements.Statement Global)). statements.If c.in-If.field-0 c.in-If.condition c.in-If.body o) c.in-Some.is in
    let less : parts (statements_tree c.in-Some.other.items) < parts (statement_tree c.args.one.now) = if_other c.in-If.body c.in-Some.other is in
    let same : parts (statements_tree c.deref-in-Some.result.now) ≡ parts (statements_tree c.in-Some.other.items) = ap (λ (l : List statements.Statement). parts (statements_tree l)) c.deref-in-Some.ensures.value in
    (omega (arith, c.decreases, less, same), within)

pub put_statement-put_statements-looped-requires : goal.put_statement-put_statements-looped-requires
put_statement-put_statements-looped-requires g t c κs within =
    let less : parts (statements_tree c.in-While.body.items) < parts (statement_tree c.args.one.now) = while_body c.in-While.body c.in-While.is in
    let same : parts (statements_tree c.deref-in-While.result.now) ≡ parts (statements_tree c.in-While.body.items) = ap (λ (l : List statements.Statement). parts (statements_tree l)) c.deref-in-While.ensures.value in
    (omega (arith, c.decreases, less, same), within)

pub put_statements-put_statement-status-requires : goal.put_statements-put_statement-status-requires
put_statements-put_statement-status-requires g t c κs within =
    let less : parts (statement_tree c.one-item.result) < parts (statements_tree c.args.statements.now) = one_of statement_tree c.args.statements.now c.loop-one.one-index c.one-item.result c.loop-one-test.true c.one-item.is in
    (omega (arith, c.decreases, less), within)
