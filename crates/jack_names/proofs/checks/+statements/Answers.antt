use Rattle.std.proofs.Common.{◌++◌, sym, ap, ◌∙◌, Ok, Err, arith}
use Rattle.std.proofs.lemmas.Result.{err_from_is_err_and}
use Rattle.jack_tree.specs.Seen.{unbox}
use Rattle.jack_names.specs.Inner.Uses.{Variable, exp_uses, optional_uses, statement_uses, statements_uses}
use Rattle.jack_names.specs.Inner.Scopes.{use_fault, first_fault}
use Rattle.jack_names.specs.Inner.Scoped.{the_scope}
use Rattle.jack_names.proofs.Checking.{as_uses, in_second, uses_first, uses_second, in_each, one_clear}
use Rattle.jack_names.proofs.Rows.{if_uses, while_uses, else_uses}
use Rattle.std.proofs.lemmas.Grind.{common_steps}
use Rattle.jack_names.proofs.checks.+statements.Goals as goal

pub check_statement-returns-in_err-check_index-in-Let : goal.check_statement-returns-in_err-check_index-in-Let
check_statement-returns-in_err-check_index-in-Let t c =
    let s = the_scope c.args.scope.now in
    let p = err_from_is_err_and c.from_residual-in_err-check_index-in-Let.result c.from_residual-in_err-check_index-in-Let.ensures.1 in
    rw (p.1, p.2) (as_uses s _ _ (Err c.in_err-check_index-in-Let.field-0.0) (ap statement_uses c.in-Let.is)
    (in_second (use_fault s (Variable c.in-Let.name)) (first_fault s (optional_uses (unbox c.in-Let.index) ++ exp_uses c.in-Let.value)) (Err c.in_err-check_index-in-Let.field-0.0) c.in_ok-check_variable-in-Let.ensures
    (uses_first s (optional_uses (unbox c.in-Let.index)) (exp_uses c.in-Let.value) _ c.in_err-check_index-in-Let.ensures)))

pub check_statement-returns-in_ok-check_index-in-Let : goal.check_statement-returns-in_ok-check_index-in-Let
check_statement-returns-in_ok-check_index-in-Let t c =
    let s = the_scope c.args.scope.now in
    as_uses s _ _ _ (ap statement_uses c.in-Let.is)
    (in_second (use_fault s (Variable c.in-Let.name)) (first_fault s (optional_uses (unbox c.in-Let.index) ++ exp_uses c.in-Let.value)) _ c.in_ok-check_variable-in-Let.ensures
    (uses_second s (optional_uses (unbox c.in-Let.index)) (exp_uses c.in-Let.value) _ c.in_ok-check_index-in-Let.ensures c.check_expression.ensures))

pub check_statement-returns-in_err-check_expression-in-If : goal.check_statement-returns-in_err-check_expression-in-If
check_statement-returns-in_err-check_expression-in-If t c =
    let s = the_scope c.args.scope.now in
    let p = err_from_is_err_and c.from_residual-in_err-check_expression-in-If.result c.from_residual-in_err-check_expression-in-If.ensures.1 in
    rw (p.1, p.2) (as_uses s _ _ (Err c.in_err-check_expression-in-If.field-0.0) (ap statement_uses c.in-If.is ∙ if_uses c.in-If.field-0 c.in-If.condition c.in-If.holds c.in-If.fails)
    (uses_first s (exp_uses c.in-If.condition) (statements_uses c.in-If.holds.items ++ else_uses c.in-If.fails) _ (as_uses s (exp_uses c.in-If.condition) (exp_uses c.get.result.now) (Err c.in_err-check_expression-in-If.field-0.0) (ap exp_uses (sym c.get.ensures)) c.in_err-check_expression-in-If.ensures)))

pub check_statement-returns-in_err-check_statements-in-If : goal.check_statement-returns-in_err-check_statements-in-If
check_statement-returns-in_err-check_statements-in-If t c =
    let s = the_scope c.args.scope.now in
    let p = err_from_is_err_and c.from_residual-in_err-check_statements-in-If.result c.from_residual-in_err-check_statements-in-If.ensures.1 in
    let a = as_uses s (statements_uses c.in-If.holds.items) (statements_uses c.deref.result.now) (Err c.in_err-check_statements-in-If.field-0.0) (ap statements_uses (sym c.deref.ensures.value)) c.in_err-check_statements-in-If.ensures in
    rw (p.1, p.2) (as_uses s _ _ (Err c.in_err-check_statements-in-If.field-0.0) (ap statement_uses c.in-If.is ∙ if_uses c.in-If.field-0 c.in-If.condition c.in-If.holds c.in-If.fails)
    (uses_second s (exp_uses c.in-If.condition) (statements_uses c.in-If.holds.items ++ else_uses c.in-If.fails) (Err c.in_err-check_statements-in-If.field-0.0) (rw c.get.ensures at c.in_ok-check_expression-in-If.ensures) (uses_first s (statements_uses c.in-If.holds.items) (else_uses c.in-If.fails) _ a)))

pub check_statement-returns-in-None : goal.check_statement-returns-in-None
check_statement-returns-in-None t c =
    let s = the_scope c.args.scope.now in
    as_uses s (statement_uses c.args.s.now) (exp_uses c.in-If.condition ++ (statements_uses c.in-If.holds.items ++ else_uses c.in-If.fails)) (Ok tt) (ap statement_uses c.in-If.is ∙ if_uses c.in-If.field-0 c.in-If.condition c.in-If.holds c.in-If.fails)
    (uses_second s (exp_uses c.in-If.condition) (statements_uses c.in-If.holds.items ++ else_uses c.in-If.fails) (Ok tt) (rw c.get.ensures at c.in_ok-check_expression-in-If.ensures)
    (uses_second s (statements_uses c.in-If.holds.items) (else_uses c.in-If.fails) (Ok tt) (ap (λ ss. first_fault s (statements_uses ss)) (sym c.deref.ensures.value) ∙ c.in_ok-check_statements-in-If.ensures) (ap (λ o. first_fault s (else_uses o)) c.in-None.is)))

pub check_statement-returns-in-Some : goal.check_statement-returns-in-Some
check_statement-returns-in-Some t c =
    let s = the_scope c.args.scope.now in
    let b = as_uses s (else_uses c.in-If.fails) (statements_uses c.deref-in-Some.result.now) _ (ap else_uses c.in-Some.is ∙ ap statements_uses (sym c.deref-in-Some.ensures.value)) c.check_statements-in-Some.ensures in
    as_uses s (statement_uses c.args.s.now) (exp_uses c.in-If.condition ++ (statements_uses c.in-If.holds.items ++ else_uses c.in-If.fails)) _ (ap statement_uses c.in-If.is ∙ if_uses c.in-If.field-0 c.in-If.condition c.in-If.holds c.in-If.fails)
    (uses_second s (exp_uses c.in-If.condition) (statements_uses c.in-If.holds.items ++ else_uses c.in-If.fails) _ (rw c.get.ensures at c.in_ok-check_expression-in-If.ensures) (uses_second s (statements_uses c.in-If.holds.items) (else_uses c.in-If.fails) _ (ap (λ ss. first_fault s (statements_uses ss)) (sym c.deref.ensures.value) ∙ c.in_ok-check_statements-in-If.ensures) b))

pub check_statement-returns-in_err-check_expression-in-While : goal.check_statement-returns-in_err-check_expression-in-While
check_statement-returns-in_err-check_expression-in-While t c =
    let s = the_scope c.args.scope.now in
    let p = err_from_is_err_and c.from_residual-in_err-check_expression-in-While.result c.from_residual-in_err-check_expression-in-While.ensures.1 in
    rw (p.1, p.2) (as_uses s _ _ (Err c.in_err-check_expression-in-While.field-0.0) (ap statement_uses c.in-While.is ∙ while_uses c.in-While.field-0 c.in-While.condition c.in-While.body) (uses_first s (exp_uses c.in-While.condition) (statements_uses c.in-While.body.items) _ c.in_err-check_expression-in-While.ensures))

pub check_statement-returns-in_ok-check_expression-in-While : goal.check_statement-returns-in_ok-check_expression-in-While
check_statement-returns-in_ok-check_expression-in-While t c =
    let s = the_scope c.args.scope.now in
    let b = as_uses s (statements_uses c.in-While.body.items) (statements_uses c.deref-in-While.result.now) _ (ap statements_uses (sym c.deref-in-While.ensures.value)) c.check_statements-in-While.ensures in
    as_uses s _ _ _ (ap statement_uses c.in-While.is ∙ while_uses c.in-While.field-0 c.in-While.condition c.in-While.body) (uses_second s (exp_uses c.in-While.condition) (statements_uses c.in-While.body.items) _ c.in_ok-check_expression-in-While.ensures b)

pub check_statements-returns-in_err-check_statement : goal.check_statements-returns-in_err-check_statement
check_statements-returns-in_err-check_statement t c =
    let s = the_scope c.args.scope.now in
    let p = err_from_is_err_and c.from_residual.result c.from_residual.ensures.1 in
    rw (p.1, p.2) (in_each s statement_uses _ c.args.ss.now c.loop-s.s-index _ c.loop-s-test.true c.s-item.is c.loop-s.invariant c.in_err-check_statement.ensures)

pub check_statements-loop-s-preserved : goal.check_statements-loop-s-preserved
check_statements-loop-s-preserved t c =
    let s = the_scope c.args.scope.now in
    one_clear s statement_uses c.args.ss.now c.loop-s.s-index _ c.loop-s-test.true c.s-item.is c.loop-s.invariant c.in_ok-check_statement.ensures

pub check_statement-returns-in-Do : goal.check_statement-returns-in-Do
check_statement-returns-in-Do t c = grind (arith, common_steps)

pub check_statement-returns-in-Return : goal.check_statement-returns-in-Return
check_statement-returns-in-Return t c = grind (arith, common_steps)
