use Rattle.std.proofs.Common.{◌∙◌, sym, ap, arith, length-append, [], ◌∷◌, true, false, map}
use Rattle.std.specs.Prelude.{◌||◌}
use Rattle.std.proofs.lemmas.Result.{err_from_is_err_and}
use Rattle.grammar.specs.Rules.{both, inside, taken, passed, left, right, neither, not_inside}
use Rattle.grammar.specs.Reading.{fault, memory}
use Rattle.grammar.proofs.Steps.{next_left, next_right}
use Rattle.grammar.proofs.Continues.{begun_seq, begun_name, go_on_as, done, halt_more}
use Rattle.grammar.proofs.Exits.{halt_first, halt_second, halt_left, halt_right, halt_option, halt_within, halt_within_at, halt_too_far, inside_at}
use Rattle.jack_tree.specs.Tokens.{view}
use Rattle.jack_parser.specs.Grammar.{deeper, is_symbol}
use Rattle.jack_parser.proofs.Arguments.{list_with-push, args_tree-some, grown, made_expression, made_invoked}
use Rattle.jack_parser.proofs.Exits.{halt_variable, halt_expression, halt_negation}
use Rattle.jack_parser.proofs.Terms.{variable_term, negation_term, no_term}
use Rattle.jack_parser.proofs.expressions.+reading.Goals as goal

pub expression-returns-in_err-first-clause-reads : goal.expression-returns-in_err-first-clause-reads
expression-returns-in_err-first-clause-reads t c =
    let p = err_from_is_err_and c.from_residual.result c.from_residual.ensures.1 in
    rw (p.1, p.2) (halt_expression (halt_first c.in_err-first.ensures.reads))

pub expression-returns-in_err-push-clause-reads : goal.expression-returns-in_err-push-clause-reads
expression-returns-in_err-push-clause-reads t c =
    let p = err_from_is_err_and c.from_residual-in_err-push.result c.from_residual-in_err-push.ensures.1 in
    rw (p.1, p.2) (memory)

pub expression-operators-init : goal.expression-operators-init
expression-operators-init t c = rw c.new-operations.ensures.items record {
  so_far = begun_name (begun_seq c.in_ok-first.ensures.reads);
  shorter = c.in_ok-first.ensures.shorter;
}

pub expression-returns-in_err-operator-clause-reads : goal.expression-returns-in_err-operator-clause-reads
expression-returns-in_err-operator-clause-reads t c =
    let p = err_from_is_err_and c.from_residual-in_err-operator.result c.from_residual-in_err-operator.ensures.1 in
    rw (p.1, p.2) (halt_more c.operators.invariant.so_far (sym c.operates.ensures ∙ c.operators-test.true) (halt_first c.in_err-operator.ensures.reads))

pub expression-returns-in_err-right-clause-reads : goal.expression-returns-in_err-right-clause-reads
expression-returns-in_err-right-clause-reads t c =
    let p = err_from_is_err_and c.from_residual-in_err-right.result c.from_residual-in_err-right.ensures.1 in
    rw (p.1, p.2) (halt_more c.operators.invariant.so_far (sym c.operates.ensures ∙ c.operators-test.true) (halt_second c.in_ok-operator.ensures.reads c.in_err-right.ensures.reads))

pub expression-operators-preserved : goal.expression-operators-preserved
expression-operators-preserved t c = rw c.in_ok-push.ensures.items record {
  so_far = go_on_as _ (λ y. grown _ _ _ y) c.operators.invariant.so_far (sym c.operates.ensures ∙ c.operators-test.true) (both c.in_ok-operator.ensures.reads c.in_ok-right.ensures.reads);
  shorter = omega (arith, c.in_ok-right.ensures.shorter, c.in_ok-operator.ensures.shorter);
}

pub expression-returns-clause-reads : goal.expression-returns-clause-reads
expression-returns-clause-reads t c = rw (made_expression _, c.shrink_to_fit.ensures.items) (done c.operators.invariant.so_far (sym c.operates.ensures ∙ c.operators-test.false))

pub negation-returns-in_err-sign-clause-reads : goal.negation-returns-in_err-sign-clause-reads
negation-returns-in_err-sign-clause-reads t c =
    let p = err_from_is_err_and c.from_residual.result c.from_residual.ensures.1 in
    rw (p.1, p.2) (halt_negation c.requires.begun (halt_first c.in_err-sign.ensures.reads))

pub negation-returns-then-not-term_begins-clause-reads : goal.negation-returns-then-not-term_begins-clause-reads
negation-returns-then-not-term_begins-clause-reads t c = rw c.here.ensures (halt_negation c.requires.begun (halt_second c.in_ok-sign.ensures.reads (fault (not_inside (sym c.if-not-term_begins.ensures)))))

pub negation-returns-in_err-inner-clause-reads : goal.negation-returns-in_err-inner-clause-reads
negation-returns-in_err-inner-clause-reads t c =
    let p = err_from_is_err_and c.from_residual-in_err-inner.result c.from_residual-in_err-inner.ensures.1 in
    rw (p.1, p.2) (halt_negation c.requires.begun (halt_second c.in_ok-sign.ensures.reads (halt_too_far (sym c.if-not-term_begins.ensures) c.here-2.ensures (sym c.in_err-inner.ensures))))

pub negation-returns-in_err-term-clause-reads : goal.negation-returns-in_err-term-clause-reads
negation-returns-in_err-term-clause-reads t c =
    let p = err_from_is_err_and c.from_residual-in_err-term.result c.from_residual-in_err-term.ensures.1 in
    rw (p.1, p.2) (halt_negation c.requires.begun (halt_second c.in_ok-sign.ensures.reads (halt_within_at (sym c.if-not-term_begins.ensures) c.here-2.ensures (sym c.in_ok-inner.ensures) c.in_err-term.ensures.reads)))

pub negation-returns-in_err-new-clause-reads : goal.negation-returns-in_err-new-clause-reads
negation-returns-in_err-new-clause-reads t c =
    let p = err_from_is_err_and c.from_residual-in_err-new.result c.from_residual-in_err-new.ensures.1 in
    rw (p.1, p.2) (memory)

pub negation-returns-clause-reads : goal.negation-returns-clause-reads
negation-returns-clause-reads t c = rw c.in_ok-new.ensures.ok (negation_term c.requires.begun (both c.in_ok-sign.ensures.reads (inside_at (sym c.if-not-term_begins.ensures) c.here-2.ensures (sym c.in_ok-inner.ensures) c.in_ok-term.ensures.reads)))

pub nested-returns-then-not-term_begins-clause-reads : goal.nested-returns-then-not-term_begins-clause-reads
nested-returns-then-not-term_begins-clause-reads t c = rw c.here.ensures (fault (not_inside (sym c.if-not-term_begins.ensures)))

pub nested-returns-in_err-inner-clause-reads : goal.nested-returns-in_err-inner-clause-reads
nested-returns-in_err-inner-clause-reads t c =
    let p = err_from_is_err_and c.from_residual.result c.from_residual.ensures.1 in
    rw (p.1, p.2) (halt_too_far (sym c.if-not-term_begins.ensures) c.here-2.ensures (sym c.in_err-inner.ensures))

pub nested-returns-in_err-exp-clause-reads : goal.nested-returns-in_err-exp-clause-reads
nested-returns-in_err-exp-clause-reads t c =
    let p = err_from_is_err_and c.from_residual-in_err-exp.result c.from_residual-in_err-exp.ensures.1 in
    rw (p.1, p.2) (halt_within_at (sym c.if-not-term_begins.ensures) c.here-2.ensures (sym c.in_ok-inner.ensures) c.in_err-exp.ensures.reads)

pub nested-returns-clause-reads : goal.nested-returns-clause-reads
nested-returns-clause-reads t c = inside_at (sym c.if-not-term_begins.ensures) c.here-2.ensures (sym c.in_ok-inner.ensures) c.in_ok-exp.ensures.reads

pub term-returns-in-Other-clause-reads : goal.term-returns-in-Other-clause-reads
term-returns-in-Other-clause-reads t c = rw c.here.ensures (fault (no_term (sym c.start_at.ensures ∙ c.in-Other.is)))

pub variable-returns-in_err-name-clause-reads : goal.variable-returns-in_err-name-clause-reads
variable-returns-in_err-name-clause-reads t c =
    let p = err_from_is_err_and c.from_residual.result c.from_residual.ensures.1 in
    rw (p.1, p.2) (halt_variable c.requires.begun (halt_first c.in_err-name.ensures.reads))

pub variable-returns-in_err-new-clause-reads : goal.variable-returns-in_err-new-clause-reads
variable-returns-in_err-new-clause-reads t c =
    let p = err_from_is_err_and c.from_residual-in_err-new.result c.from_residual-in_err-new.ensures.1 in
    rw (p.1, p.2) (memory)

pub variable-returns-in_err-new-2-clause-reads : goal.variable-returns-in_err-new-2-clause-reads
variable-returns-in_err-new-2-clause-reads t c =
    let p = err_from_is_err_and c.from_residual-in_err-new-2.result c.from_residual-in_err-new-2.ensures.1 in
    rw (p.1, p.2) (memory)

pub variable-returns-in_err-rest-clause-reads : goal.variable-returns-in_err-rest-clause-reads
variable-returns-in_err-rest-clause-reads t c =
    let p = err_from_is_err_and c.from_residual-in_err-rest.result c.from_residual-in_err-rest.ensures.1 in
    rw (p.1, p.2) (halt_variable c.requires.begun (halt_second c.in_ok-name.ensures.reads (halt_option (next_left (is_symbol 91) (λ t. is_symbol 40 t || is_symbol 46 t) (map view c.in_ok-name.rest.now) (sym c.if-stands.ensures)) (halt_left (sym c.if-stands.ensures) (halt_first c.in_err-rest.ensures.reads)))))

pub variable-returns-in_err-index-clause-reads : goal.variable-returns-in_err-index-clause-reads
variable-returns-in_err-index-clause-reads t c =
    let p = err_from_is_err_and c.from_residual-in_err-index.result c.from_residual-in_err-index.ensures.1 in
    rw (p.1, p.2) (halt_variable c.requires.begun (halt_second c.in_ok-name.ensures.reads (halt_option (next_left (is_symbol 91) (λ t. is_symbol 40 t || is_symbol 46 t) (map view c.in_ok-name.rest.now) (sym c.if-stands.ensures)) (halt_left (sym c.if-stands.ensures) (halt_second c.in_ok-rest.ensures.reads (halt_first c.in_err-index.ensures.reads))))))

pub variable-returns-in_err-rest-2-clause-reads : goal.variable-returns-in_err-rest-2-clause-reads
variable-returns-in_err-rest-2-clause-reads t c =
    let p = err_from_is_err_and c.from_residual-in_err-rest-2.result c.from_residual-in_err-rest-2.ensures.1 in
    rw (p.1, p.2) (halt_variable c.requires.begun (halt_second c.in_ok-name.ensures.reads (halt_option (next_left (is_symbol 91) (λ t. is_symbol 40 t || is_symbol 46 t) (map view c.in_ok-name.rest.now) (sym c.if-stands.ensures)) (halt_left (sym c.if-stands.ensures) (halt_second c.in_ok-rest.ensures.reads (halt_second c.in_ok-index.ensures.reads c.in_err-rest-2.ensures.reads))))))

pub variable-returns-in_err-array-clause-reads : goal.variable-returns-in_err-array-clause-reads
variable-returns-in_err-array-clause-reads t c =
    let p = err_from_is_err_and c.from_residual-in_err-array.result c.from_residual-in_err-array.ensures.1 in
    rw (p.1, p.2) (memory)

pub variable-returns-then-stands-clause-reads : goal.variable-returns-then-stands-clause-reads
variable-returns-then-stands-clause-reads t c = rw (c.in_ok-array.ensures, c.in_ok-new.ensures.ok) (variable_term c.requires.begun (both c.in_ok-name.ensures.reads (taken (next_left (is_symbol 91) (λ t. is_symbol 40 t || is_symbol 46 t) (map view c.in_ok-name.rest.now) (sym c.if-stands.ensures)) (left (sym c.if-stands.ensures) (both c.in_ok-rest.ensures.reads (both c.in_ok-index.ensures.reads c.in_ok-rest-2.ensures.reads))))))

pub variable-returns-in_err-call-clause-reads : goal.variable-returns-in_err-call-clause-reads
variable-returns-in_err-call-clause-reads t c =
    let p = err_from_is_err_and c.from_residual-in_err-call.result c.from_residual-in_err-call.ensures.1 in
    rw (p.1, p.2) (halt_variable c.requires.begun (halt_second c.in_ok-name.ensures.reads (halt_option (next_right (is_symbol 91) (λ t. is_symbol 40 t || is_symbol 46 t) (map view c.in_ok-name.rest.now) true (sym c.if-stands.ensures) (sym c.if-call_begins.ensures)) (halt_right (sym c.if-stands.ensures) (sym c.if-call_begins.ensures) c.in_err-call.ensures.reads))))

pub variable-returns-clause-reads : goal.variable-returns-clause-reads
variable-returns-clause-reads t c = variable_term c.requires.begun (both c.in_ok-name.ensures.reads (passed (next_right (is_symbol 91) (λ t. is_symbol 40 t || is_symbol 46 t) (map view c.in_ok-name.rest.now) false (sym c.if-stands.ensures) (sym c.if-call_begins.ensures))))

pub call_of-returns-in_err-rest-clause-reads : goal.call_of-returns-in_err-rest-clause-reads
call_of-returns-in_err-rest-clause-reads t c =
    let p = err_from_is_err_and c.from_residual-in_err-rest.result c.from_residual-in_err-rest.ensures.1 in
    rw (p.1, p.2) (halt_right (sym c.if-stands.ensures) (sym c.if-not-stands.ensures) (halt_first c.in_err-rest.ensures.reads))

pub call_of-returns-in_err-arguments-clause-reads : goal.call_of-returns-in_err-arguments-clause-reads
call_of-returns-in_err-arguments-clause-reads t c =
    let p = err_from_is_err_and c.from_residual.result c.from_residual.ensures.1 in
    rw (p.1, p.2) (halt_left (sym c.if-stands.ensures) c.in_err-arguments.ensures.reads)

pub call_of-returns-then-stands-clause-reads : goal.call_of-returns-then-stands-clause-reads
call_of-returns-then-stands-clause-reads t c = rw (made_invoked _) (left (sym c.if-stands.ensures) c.in_ok-arguments.ensures.reads)

pub call_of-returns-then-not-stands-clause-reads : goal.call_of-returns-then-not-stands-clause-reads
call_of-returns-then-not-stands-clause-reads t c = rw c.here.ensures (fault (neither (sym c.if-stands.ensures) (sym c.if-not-stands.ensures)))

pub call_of-returns-in_err-name-clause-reads : goal.call_of-returns-in_err-name-clause-reads
call_of-returns-in_err-name-clause-reads t c =
    let p = err_from_is_err_and c.from_residual-in_err-name.result c.from_residual-in_err-name.ensures.1 in
    rw (p.1, p.2) (halt_right (sym c.if-stands.ensures) (sym c.if-not-stands.ensures) (halt_second c.in_ok-rest.ensures.reads (halt_first c.in_err-name.ensures.reads)))

pub call_of-returns-in_err-arguments-2-clause-reads : goal.call_of-returns-in_err-arguments-2-clause-reads
call_of-returns-in_err-arguments-2-clause-reads t c =
    let p = err_from_is_err_and c.from_residual-in_err-arguments-2.result c.from_residual-in_err-arguments-2.ensures.1 in
    rw (p.1, p.2) (halt_right (sym c.if-stands.ensures) (sym c.if-not-stands.ensures) (halt_second c.in_ok-rest.ensures.reads (halt_second c.in_ok-name.ensures.reads c.in_err-arguments-2.ensures.reads)))

pub call_of-returns-clause-reads : goal.call_of-returns-clause-reads
call_of-returns-clause-reads t c = rw (made_invoked _) (right (sym c.if-stands.ensures) (sym c.if-not-stands.ensures) (both c.in_ok-rest.ensures.reads (both c.in_ok-name.ensures.reads c.in_ok-arguments-2.ensures.reads)))

pub argument-returns-then-not-term_begins-clause-reads : goal.argument-returns-then-not-term_begins-clause-reads
argument-returns-then-not-term_begins-clause-reads t c = rw c.here.ensures (fault (not_inside (sym c.if-not-term_begins.ensures)))

pub argument-returns-in_err-with_it-clause-reads : goal.argument-returns-in_err-with_it-clause-reads
argument-returns-in_err-with_it-clause-reads t c =
    let p = err_from_is_err_and c.from_residual.result c.from_residual.ensures.1 in
    rw (p.1, p.2) (halt_too_far (sym c.if-not-term_begins.ensures) c.here-2.ensures (sym c.in_err-with_it.ensures))

pub argument-returns-in_err-exp-clause-reads : goal.argument-returns-in_err-exp-clause-reads
argument-returns-in_err-exp-clause-reads t c =
    let p = err_from_is_err_and c.from_residual-in_err-exp.result c.from_residual-in_err-exp.ensures.1 in
    rw (p.1, p.2) (halt_within_at (sym c.if-not-term_begins.ensures) c.here-2.ensures (sym c.in_ok-with_it.ensures) c.in_err-exp.ensures.reads)

pub argument-returns-clause-reads : goal.argument-returns-clause-reads
argument-returns-clause-reads t c = inside_at (sym c.if-not-term_begins.ensures) c.here-2.ensures (sym c.in_ok-with_it.ensures) c.in_ok-exp.ensures.reads

pub arguments-returns-in_err-push-clause-reads : goal.arguments-returns-in_err-push-clause-reads
arguments-returns-in_err-push-clause-reads t c =
    let p = err_from_is_err_and c.from_residual-in_err-push.result c.from_residual-in_err-push.ensures.1 in
    rw (p.1, p.2) (memory)

pub arguments-returns-in_err-push-2-clause-reads : goal.arguments-returns-in_err-push-2-clause-reads
arguments-returns-in_err-push-2-clause-reads t c =
    let p = err_from_is_err_and c.from_residual-in_err-push-2.result c.from_residual-in_err-push-2.ensures.1 in
    rw (p.1, p.2) (memory)

pub arguments-returns-then-not-term_begins-clause-reads : goal.arguments-returns-then-not-term_begins-clause-reads
arguments-returns-then-not-term_begins-clause-reads t c = rw c.new-arguments.ensures.items (passed (sym c.if-not-term_begins.ensures))

pub arguments-returns-in_err-inner-clause-reads : goal.arguments-returns-in_err-inner-clause-reads
arguments-returns-in_err-inner-clause-reads t c =
    let p = err_from_is_err_and c.from_residual.result c.from_residual.ensures.1 in
    rw (p.1, p.2) (halt_option (sym c.if-not-term_begins.ensures) (halt_too_far (sym c.if-not-term_begins.ensures) c.here.ensures (sym c.in_err-inner.ensures)))

pub arguments-returns-in_err-first-clause-reads : goal.arguments-returns-in_err-first-clause-reads
arguments-returns-in_err-first-clause-reads t c =
    let p = err_from_is_err_and c.from_residual-in_err-first.result c.from_residual-in_err-first.ensures.1 in
    rw (p.1, p.2) (halt_option (sym c.if-not-term_begins.ensures) (halt_within_at (sym c.if-not-term_begins.ensures) c.here.ensures (sym c.in_ok-inner.ensures) (halt_first c.in_err-first.ensures.reads)))

pub arguments-more-init : goal.arguments-more-init
arguments-more-init t c = rw (c.in_ok-push.ensures.items, c.new-arguments.ensures.items) record {
  so_far = (c.in_ok-inner.inner, ap (deeper c.args.counts) (sym c.here.ensures) ∙ sym c.in_ok-inner.ensures, begun_seq c.in_ok-first.ensures.reads);
  shorter = c.in_ok-first.ensures.shorter;
  some = omega arith;
}

pub arguments-returns-in_err-after_comma-clause-reads : goal.arguments-returns-in_err-after_comma-clause-reads
arguments-returns-in_err-after_comma-clause-reads t c =
    let p = err_from_is_err_and c.from_residual-in_err-after_comma.result c.from_residual-in_err-after_comma.ensures.1 in
    rw (p.1, p.2) (halt_option (sym c.if-not-term_begins.ensures) (halt_within (sym c.if-not-term_begins.ensures) c.more.invariant.so_far.1 (halt_more c.more.invariant.so_far.2 (sym c.stands.ensures ∙ c.more-test.true) (halt_first c.in_err-after_comma.ensures.reads))))

pub arguments-returns-in_err-one-clause-reads : goal.arguments-returns-in_err-one-clause-reads
arguments-returns-in_err-one-clause-reads t c =
    let p = err_from_is_err_and c.from_residual-in_err-one.result c.from_residual-in_err-one.ensures.1 in
    rw (p.1, p.2) (halt_option (sym c.if-not-term_begins.ensures) (halt_within (sym c.if-not-term_begins.ensures) c.more.invariant.so_far.1 (halt_more c.more.invariant.so_far.2 (sym c.stands.ensures ∙ c.more-test.true) (halt_second c.in_ok-after_comma.ensures.reads c.in_err-one.ensures.reads))))

pub arguments-more-preserved : goal.arguments-more-preserved
arguments-more-preserved t c = rw c.in_ok-push-2.ensures.items record {
  so_far = (c.more.invariant.so_far.0, c.more.invariant.so_far.1, go_on_as _ (λ y. sym (list_with-push c.more.arguments.items c.in_ok-one.one y c.more.invariant.some)) c.more.invariant.so_far.2 (sym c.stands.ensures ∙ c.more-test.true) (both c.in_ok-after_comma.ensures.reads c.in_ok-one.ensures.reads));
  shorter = omega (arith, c.in_ok-one.ensures.shorter, c.in_ok-after_comma.ensures.shorter, c.more.invariant.shorter);
  some = omega (arith, c.more.invariant.some, length-append c.more.arguments.items (c.in_ok-one.one ∷ []));
}

pub arguments-returns-clause-reads : goal.arguments-returns-clause-reads
arguments-returns-clause-reads t c = rw (c.shrink_to_fit.ensures.items, args_tree-some c.more.arguments.items c.more.invariant.some) (taken (sym c.if-not-term_begins.ensures) (inside (sym c.if-not-term_begins.ensures) c.more.invariant.so_far.1 (done c.more.invariant.so_far.2 (sym c.stands.ensures ∙ c.more-test.false))))

pub variable-returns-then-call_begins-clause-reads : goal.variable-returns-then-call_begins-clause-reads
variable-returns-then-call_begins-clause-reads t c =
    rw (c.in_ok-new-2.ensures.ok, c.in_ok-call.ensures.front) (variable_term c.requires.begun (both c.in_ok-name.ensures.reads (taken (next_right (is_symbol 91) (λ t. is_symbol 40 t || is_symbol 46 t) (map view c.in_ok-name.rest.now) true (sym c.if-stands.ensures) (sym c.if-call_begins.ensures)) (right (sym c.if-stands.ensures) (sym c.if-call_begins.ensures) c.in_ok-call.ensures.reads))))

pub called-returns-in_err-rest-clause-reads : goal.called-returns-in_err-rest-clause-reads
called-returns-in_err-rest-clause-reads t c =
    let p = err_from_is_err_and c.from_residual.result c.from_residual.ensures.1 in
    rw (p.1, p.2) (halt_first c.in_err-rest.ensures.reads)

pub called-returns-in_err-arguments-clause-reads : goal.called-returns-in_err-arguments-clause-reads
called-returns-in_err-arguments-clause-reads t c =
    let p = err_from_is_err_and c.from_residual-in_err-arguments.result c.from_residual-in_err-arguments.ensures.1 in
    rw (p.1, p.2) (halt_second c.in_ok-rest.ensures.reads (halt_first c.in_err-arguments.ensures.reads))

pub called-returns-in_err-rest-2-clause-reads : goal.called-returns-in_err-rest-2-clause-reads
called-returns-in_err-rest-2-clause-reads t c =
    let p = err_from_is_err_and c.from_residual-in_err-rest-2.result c.from_residual-in_err-rest-2.ensures.1 in
    rw (p.1, p.2) (halt_second c.in_ok-rest.ensures.reads (halt_second c.in_ok-arguments.ensures.reads c.in_err-rest-2.ensures.reads))

pub called-returns-clause-reads : goal.called-returns-clause-reads
called-returns-clause-reads t c = both c.in_ok-rest.ensures.reads (both c.in_ok-arguments.ensures.reads c.in_ok-rest-2.ensures.reads)

pub grouped-returns-in_err-rest-clause-reads : goal.grouped-returns-in_err-rest-clause-reads
grouped-returns-in_err-rest-clause-reads t c =
    let p = err_from_is_err_and c.from_residual.result c.from_residual.ensures.1 in
    rw (p.1, p.2) (halt_first c.in_err-rest.ensures.reads)

pub grouped-returns-in_err-inside-clause-reads : goal.grouped-returns-in_err-inside-clause-reads
grouped-returns-in_err-inside-clause-reads t c =
    let p = err_from_is_err_and c.from_residual-in_err-inside.result c.from_residual-in_err-inside.ensures.1 in
    rw (p.1, p.2) (halt_second c.in_ok-rest.ensures.reads (halt_first c.in_err-inside.ensures.reads))

pub grouped-returns-in_err-rest-2-clause-reads : goal.grouped-returns-in_err-rest-2-clause-reads
grouped-returns-in_err-rest-2-clause-reads t c =
    let p = err_from_is_err_and c.from_residual-in_err-rest-2.result c.from_residual-in_err-rest-2.ensures.1 in
    rw (p.1, p.2) (halt_second c.in_ok-rest.ensures.reads (halt_second c.in_ok-inside.ensures.reads c.in_err-rest-2.ensures.reads))

pub grouped-returns-clause-reads : goal.grouped-returns-clause-reads
grouped-returns-clause-reads t c = both c.in_ok-rest.ensures.reads (both c.in_ok-inside.ensures.reads c.in_ok-rest-2.ensures.reads)
