-- What the parts of terms, calls and operations add to those before them.
use Rattle.std.proofs.Common.{◌≡◌, ◌+◌, [], length, map, take, sym, ap, ◌∙◌, refl, arith}
use Rattle.std.proofs.lemmas.List.{take_all, length-map}
use Rattle.std.proofs.lemmas.Result.{on_ok_weaker}
use Rattle.std.proofs.lemmas.Grind.{common_steps}
use Rattle.jack_meaning.specs.Text as meaning
use Rattle.jack_tree.specs.declared.tree.Call.{out-Call}
use Rattle.jack_tree.specs.declared.tree.Expression.{out-Expression}
use Rattle.jack_core.specs.Reading.{make_expression, the_sign}
use Rattle.jack_core.specs.declared.tree.Part.TheVariants as part
use Rattle.jack_names.specs.Inner.Scopes.{callee}
use Rattle.jack_names.specs.Inner.Meant.{exp_meant, term_meant, binary_meant, operation_meant, called_number, variable_meant, sign_meant, invocation, grouped_operations, arguments_meant, call_meant}
use Rattle.jack_names.specs.Inner.Scoped.{the_scope}
use Rattle.jack_names.specs.Inner.Pushed.{object_meant}
use Rattle.jack_names.proofs.Meanings.{call_means, exp_means, grouped_more}
use Rattle.jack_names.proofs.Pushing.{turned, turned_as, turns, joins, joined, called, added_as, added_turned}
use Rattle.jack_names.proofs.meant.+meant.Goals as goal

pub push_operation-returns : goal.push_operation-returns
push_operation-returns t c =
    let s = the_scope c.args.scope.now in
    let o = c.args.operation.now in
    on_ok_weaker c.push_operator.result
    (joined (binary_meant s o.operator) (term_meant s o.term) c.args.parts.now.items c.push_term.new.parts.items c.push_operator.new.parts.items c.in_ok-push_term.ensures)
    c.push_operator.ensures

pub push_operations-loop-operation-preserved : goal.push_operations-loop-operation-preserved
push_operations-loop-operation-preserved t c =
    let s = the_scope c.args.scope.now in
    let os = c.args.operations.now in
    let i = c.loop-operation.operation-index in
    let o = c.operation-item.result in
    turned (λ e. grouped_operations s e (take i os)) (λ e. operation_meant s e o) (λ e. grouped_operations s e (take (i + 1) os)) c.args.parts.now.items c.loop-operation.parts.items c.push_operation.new.parts.items
    (λ e. sym (grouped_more s e os i o c.loop-operation-test.true c.operation-item.is)) c.loop-operation.invariant c.in_ok-push_operation.ensures

pub push_operations-returns : goal.push_operations-returns
push_operations-returns t c =
    let s = the_scope c.args.scope.now in
    let os = c.args.operations.now in
    let i = c.loop-operation.operation-index in
    turned_as (λ e. grouped_operations s e (take i os)) (λ e. grouped_operations s e os) c.args.parts.now.items c.loop-operation.parts.items (λ e. ap (grouped_operations s e) (take_all i os (omega arith))) c.loop-operation.invariant

pub push_expression-returns : goal.push_expression-returns
push_expression-returns t c =
    let s = the_scope c.args.scope.now in
    let e = c.args.e.now in
    let first = term_meant s (out-Expression e).first in
    let os = c.deref.result.now in
    let same : grouped_operations s first os ≡ exp_meant s e = ap (grouped_operations s first) c.deref.ensures.value ∙ sym (exp_means s e) in
    on_ok_weaker c.push_operations.result
    (λ goes. added_as (grouped_operations s first os) (exp_meant s e) c.args.parts.now.items c.push_operations.new.parts.items same (added_turned first (λ x. grouped_operations s x os) c.args.parts.now.items c.push_term.new.parts.items c.push_operations.new.parts.items c.in_ok-push_term.ensures goes))
    c.push_operations.ensures

pub push_call-returns : goal.push_call-returns
push_call-returns t c =
    let s = the_scope c.args.scope.now in
    let k = out-Call c.args.call.now in
    let old = c.args.parts.now.items in
    let new = c.push_part.new.parts.items in
    let args = map (exp_meant s) c.deref.result.now in
    let number : c.called_number-number.result ≡ called_number s k.name.text (callee s k.object) = cc in
    let count : c.in_ok-arguments.arguments ≡ length (object_meant s k.object) + length args = omega (arith, c.in_ok-arguments.ensures, c.in_ok-objects.ensures.count, c.len.ensures, c.deref.ensures.len, length-map c.deref.result.now (exp_meant s), ap length c.deref.ensures.value) in
    let same : invocation s k.object k.name (arguments_meant s c.deref.result.now) ≡ call_meant s c.args.call.now = ap (λ es. invocation s k.object k.name (arguments_meant s es)) c.deref.ensures.value ∙ sym (call_means s c.args.call.now) in
    on_ok_weaker c.push_part.result
    (λ last. added_as (invocation s k.object k.name (arguments_meant s c.deref.result.now)) (call_meant s c.args.call.now) old new same
    (called s k.object k.name args c.called_number-number.result c.in_ok-arguments.arguments old c.push_object.new.parts.items c.push_arguments.new.parts.items new c.in_ok-objects.ensures.parts c.in_ok-push_arguments.ensures number count last))
    c.push_part.ensures

pub push_term-returns-in_ok-push_expression-in-Element : goal.push_term-returns-in_ok-push_expression-in-Element
push_term-returns-in_ok-push_expression-in-Element t c =
    let s = the_scope c.args.scope.now in
    let old = c.args.parts.now.items in
    let middle = c.push_value-in-Element.new.parts.items in
    let full = c.push_expression.new.parts.items in
    let new = c.push_part.new.parts.items in
    let base = make_expression c.variable_part-in-Element.result [] in
    let index = exp_meant s c.deref.result.now in
    let same : meaning.Load base index ≡ term_meant s c.args.term.now =
    ap (λ a. meaning.Load a index) (rw c.get.ensures at c.variable_part-in-Element.ensures.made) ∙ ap (λ e. meaning.Load (variable_meant s c.in-Element.name) (exp_meant s e)) c.deref.ensures ∙ ap (term_meant s) (sym c.in-Element.is) in
    on_ok_weaker c.push_part.result
    (λ last. added_as (meaning.Load base index) (term_meant s c.args.term.now) old new same
    (added_turned base (λ a. meaning.Load a index) old middle new c.in_ok-push_value-in-Element.ensures
    (joined meaning.Load index middle full new c.in_ok-push_expression-in-Element.ensures (joins part.Load meaning.Load full new refl (λ a b. refl) last))))
    c.push_part.ensures

pub push_term-returns-in_ok-push_term-in-Unary : goal.push_term-returns-in_ok-push_term-in-Unary
push_term-returns-in_ok-push_term-in-Unary t c =
    let s = the_scope c.args.scope.now in
    let old = c.args.parts.now.items in
    let middle = c.push_term.new.parts.items in
    let new = c.push_part-in-Unary.new.parts.items in
    let value = term_meant s c.deref-in-Unary.result.now in
    let o = the_sign c.sign_meant.result in
    let same : meaning.Unary o value ≡ term_meant s c.args.term.now =
    ap (λ x. meaning.Unary x value) c.sign_meant.ensures ∙ ap (λ a. meaning.Unary (sign_meant c.in-Unary.sign) (term_meant s a)) c.deref-in-Unary.ensures ∙ ap (term_meant s) (sym c.in-Unary.is) in
    on_ok_weaker c.push_part-in-Unary.result
    (λ last. added_as (meaning.Unary o value) (term_meant s c.args.term.now) old new same
    (added_turned value (meaning.Unary o) old middle new c.in_ok-push_term-in-Unary.ensures (turns (part.Unary c.sign_meant.result) (meaning.Unary o) middle new refl (λ e. refl) last)))
    c.push_part-in-Unary.ensures

pub push_arguments-loop-e-preserved : goal.push_arguments-loop-e-preserved
push_arguments-loop-e-preserved t c = grind (arith, common_steps)

pub push_arguments-returns : goal.push_arguments-returns
push_arguments-returns t c = grind (arith, common_steps)

pub push_term-returns-in-Call : goal.push_term-returns-in-Call
push_term-returns-in-Call t c = grind (arith, common_steps)

pub push_term-returns-in-Group : goal.push_term-returns-in-Group
push_term-returns-in-Group t c = grind (arith, common_steps)
