use Rattle.std.proofs.Common.{◌++◌, ◌∷◌, sym, ap, ◌∙◌, Err, arith}
use Rattle.std.proofs.lemmas.Result.{err_from_is_err_and}
use Rattle.jack_tree.specs.declared.tree.Call.{out-Call}
use Rattle.jack_tree.specs.declared.tree.Expression.{out-Expression}
use Rattle.jack_names.specs.Inner.Uses.{Calls, term_uses, exp_uses, operation_uses, operations_uses, arguments_uses}
use Rattle.jack_names.specs.Inner.Scopes.{use_fault, first_fault}
use Rattle.jack_names.specs.Inner.Scoped.{the_scope}
use Rattle.jack_names.proofs.Checking.{as_uses, in_first, in_second, uses_first, uses_second, in_each, one_clear}
use Rattle.jack_names.proofs.Rows.{call_is, exp_is}
use Rattle.std.proofs.lemmas.Grind.{common_steps}
use Rattle.jack_names.proofs.checks.+expressions.Goals as goal

pub check_arguments-returns-in_err-check_expression : goal.check_arguments-returns-in_err-check_expression
check_arguments-returns-in_err-check_expression t c =
    let s = the_scope c.args.scope.now in
    let p = err_from_is_err_and c.from_residual.result c.from_residual.ensures.1 in
    rw (p.1, p.2) (in_each s exp_uses _ c.args.arguments.now c.loop-e.e-index _ c.loop-e-test.true c.e-item.is c.loop-e.invariant c.in_err-check_expression.ensures)

pub check_arguments-loop-e-preserved : goal.check_arguments-loop-e-preserved
check_arguments-loop-e-preserved t c =
    let s = the_scope c.args.scope.now in
    one_clear s exp_uses c.args.arguments.now c.loop-e.e-index _ c.loop-e-test.true c.e-item.is c.loop-e.invariant c.in_ok-check_expression.ensures

pub check_operations-returns-in_err-check_operation : goal.check_operations-returns-in_err-check_operation
check_operations-returns-in_err-check_operation t c =
    let s = the_scope c.args.scope.now in
    let p = err_from_is_err_and c.from_residual.result c.from_residual.ensures.1 in
    rw (p.1, p.2) (in_each s operation_uses _ c.args.operations.now c.loop-operation.operation-index _ c.loop-operation-test.true c.operation-item.is c.loop-operation.invariant c.in_err-check_operation.ensures)

pub check_operations-loop-operation-preserved : goal.check_operations-loop-operation-preserved
check_operations-loop-operation-preserved t c =
    let s = the_scope c.args.scope.now in
    one_clear s operation_uses c.args.operations.now c.loop-operation.operation-index _ c.loop-operation-test.true c.operation-item.is c.loop-operation.invariant c.in_ok-check_operation.ensures

pub check_expression-returns-in_err-check_term : goal.check_expression-returns-in_err-check_term
check_expression-returns-in_err-check_term t c =
    let s = the_scope c.args.scope.now in
    let e = c.args.e.now in
    let p = err_from_is_err_and c.from_residual.result c.from_residual.ensures.1 in
    rw (p.1, p.2) (as_uses s _ _ (Err c.in_err-check_term.field-0.0) (exp_is e) (uses_first s (term_uses (out-Expression e).first) (operations_uses (out-Expression e).rest.items) _ c.in_err-check_term.ensures))

pub check_expression-returns : goal.check_expression-returns
check_expression-returns t c =
    let s = the_scope c.args.scope.now in
    let e = c.args.e.now in
    as_uses s _ _ _ (exp_is e ∙ ap (λ os. term_uses (out-Expression e).first ++ operations_uses os) (sym c.deref.ensures.value))
    (uses_second s (term_uses (out-Expression e).first) (operations_uses c.deref.result.now) _ c.in_ok-check_term.ensures c.check_operations.ensures)

pub check_whole_call-returns-in_err-check_call : goal.check_whole_call-returns-in_err-check_call
check_whole_call-returns-in_err-check_call t c =
    let s = the_scope c.args.scope.now in
    let k = out-Call c.args.call.now in
    let p = err_from_is_err_and c.from_residual.result c.from_residual.ensures.1 in
    rw (p.1, p.2) (as_uses s _ _ (Err c.in_err-check_call.field-0.0) (call_is c.args.call.now ∙ ap (λ n. Calls k.object k.name n ∷ arguments_uses k.arguments.items) (sym (c.len.ensures ∙ k.arguments.ok.0)))
    (in_first (use_fault s (Calls k.object k.name c.len.result)) (first_fault s (arguments_uses k.arguments.items)) _ c.in_err-check_call.ensures))

pub check_whole_call-returns : goal.check_whole_call-returns
check_whole_call-returns t c =
    let s = the_scope c.args.scope.now in
    let k = out-Call c.args.call.now in
    as_uses s _ _ _ (call_is c.args.call.now ∙ ap (λ n. Calls k.object k.name n ∷ arguments_uses k.arguments.items) (sym (c.len.ensures ∙ k.arguments.ok.0)) ∙ ap (λ es. Calls k.object k.name c.len.result ∷ arguments_uses es) (sym c.deref.ensures.value))
    (in_second (use_fault s (Calls k.object k.name c.len.result)) (first_fault s (arguments_uses c.deref.result.now)) _ c.in_ok-check_call.ensures c.check_arguments.ensures)

pub check_term-returns-in-Call : goal.check_term-returns-in-Call
check_term-returns-in-Call t c = grind (arith, common_steps)

pub check_term-returns-in-Group : goal.check_term-returns-in-Group
check_term-returns-in-Group t c = grind (arith, common_steps)

pub check_term-returns-in-Unary : goal.check_term-returns-in-Unary
check_term-returns-in-Unary t c = grind (arith, common_steps)

pub check_term-returns-in_ok-check_variable-in-Element : goal.check_term-returns-in_ok-check_variable-in-Element
check_term-returns-in_ok-check_variable-in-Element t c = grind (arith, common_steps)

pub check_term-returns-in_err-check_variable-in-Element : goal.check_term-returns-in_err-check_variable-in-Element
check_term-returns-in_err-check_variable-in-Element t c = grind (arith, common_steps)

pub check_operation-returns : goal.check_operation-returns
check_operation-returns t c = grind (arith, common_steps)
