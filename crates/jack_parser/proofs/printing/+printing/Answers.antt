use Rattle.std.proofs.Common.{◌≡◌, ◌∷◌, ap}
use Rattle.std.proofs.lemmas.List.{nil_from_length}
use Rattle.std.proofs.lemmas.Option.{MatchOption-at_none}
use Rattle.jack_parser.proofs.Arguments.{expression_is, invoked_is}
use Rattle.grammar.proofs.Shown.{shows_both, shows_mark, shows_word, shows_left, shows_right, shows_present, shows_absent, shows_named, shows_inside, each_start, each_done, each_after, each_next, each_behind}
use Rattle.jack_parser.proofs.Shown.{head_text}
use Rattle.jack_parser.proofs.printing.+printing.Goals as goal

pub put_expression-returns : goal.put_expression-returns
put_expression-returns g t c = rw (expression_is c.args.value.now) (shows_named (shows_both c.put_term-begun.ensures (rw c.deref.ensures.value at c.put_operations.ensures)))

pub put_operations-loop-one-init : goal.put_operations-loop-one-init
put_operations-loop-one-init g t c = each_start c.args.operations.now

pub put_operations-loop-one-preserved : goal.put_operations-loop-one-preserved
put_operations-loop-one-preserved g t c = each_next c.args.operations.now c.loop-one.one-index c.one-item.result c.loop-one-test.true c.one-item.is c.loop-one.invariant (shows_both (shows_word (rw c.operator_byte.ensures at c.put_symbol-marked.ensures)) c.put_term-status.ensures)

pub put_operations-returns : goal.put_operations-returns
put_operations-returns g t c = each_done c.args.operations.now c.loop-one-test.false c.loop-one.invariant

pub put_term-returns-in-Constant : goal.put_term-returns-in-Constant
put_term-returns-in-Constant g t c = rw c.in-Constant.is (shows_named (shows_left (shows_word c.put_constant.ensures)))

pub put_term-returns-in-Variable : goal.put_term-returns-in-Variable
put_term-returns-in-Variable g t c = rw c.in-Variable.is (shows_named (shows_right (shows_left (shows_both (shows_word c.put_name.ensures) shows_absent))))

pub put_term-returns-in-Element : goal.put_term-returns-in-Element
put_term-returns-in-Element g t c = rw (c.in-Element.is, ← c.deref.ensures) (shows_named (shows_right (shows_left (shows_both (shows_word (rw c.get.ensures at c.put_name-named.ensures)) (shows_present (shows_left (shows_both (shows_mark c.put_symbol-opened.ensures) (shows_both (shows_inside c.put_expression-indexed.ensures) (shows_mark c.put_symbol.ensures)))))))))

pub put_term-returns-in-Group : goal.put_term-returns-in-Group
put_term-returns-in-Group g t c = rw (c.in-Group.is, ← c.deref-in-Group.ensures) (shows_named (shows_right (shows_right (shows_left (shows_both (shows_mark c.put_symbol-before.ensures) (shows_both (shows_inside c.put_expression-grouped.ensures) (shows_mark c.put_symbol-in-Group.ensures)))))))

pub put_term-returns-in-Unary : goal.put_term-returns-in-Unary
put_term-returns-in-Unary g t c = rw (c.in-Unary.is, ← c.deref-in-Unary.ensures) (shows_named (shows_right (shows_right (shows_right (shows_both (shows_word (rw c.sign_byte.ensures at c.put_symbol-marked.ensures)) (shows_inside c.put_term.ensures))))))

pub put_term-returns-in-Call : goal.put_term-returns-in-Call
put_term-returns-in-Call g t c = rw c.in-Call.is (shows_named (shows_right (shows_left (shows_both (shows_word (rw c.deref-in-Call.ensures at c.put_front-begun.ensures)) (shows_present (shows_right (rw c.deref-in-Call-2.ensures at c.put_invoked.ensures)))))))

pub put_invoked-returns-in-None : goal.put_invoked-returns-in-None
put_invoked-returns-in-None g t c = rw (invoked_is c.args.call.now, c.in-None.is) (shows_left (shows_both (shows_mark c.put_symbol-opened.ensures) (shows_both (rw c.deref.ensures.value at c.put_arguments-given.ensures) (shows_mark c.put_symbol.ensures))))

pub put_invoked-returns-in-Some : goal.put_invoked-returns-in-Some
put_invoked-returns-in-Some g t c = rw (invoked_is c.args.call.now, c.in-Some.is) (shows_right (shows_both (shows_mark c.put_symbol-through.ensures) (shows_both (shows_word c.put_name-named.ensures) (shows_both (shows_mark c.put_symbol-begun.ensures) (shows_both (rw c.deref-in-Some.ensures.value at c.put_arguments-passed.ensures) (shows_mark c.put_symbol-in-Some.ensures))))))

pub put_arguments-returns-in_default : goal.put_arguments-returns-in_default
put_arguments-returns-in_default g t c = rw (nil_from_length c.args.values.now (MatchOption-at_none _ _ c.in_default.is c.split_first.ensures.cases)) shows_absent

pub put_arguments-loop-value-init : goal.put_arguments-loop-value-init
put_arguments-loop-value-init g t c =
    let split : c.args.values.now ≡ c.in-Some.first.now ∷ c.in-Some.rest.now = c.in-Some.ensures.cases.0 in
    each_after c.in-Some.rest.now (rw (← ap head_text split) at c.put_expression-status.ensures.writes)

pub put_arguments-loop-value-preserved : goal.put_arguments-loop-value-preserved
put_arguments-loop-value-preserved g t c = each_next c.in-Some.rest.now c.loop-value.value-index c.value-item.result c.loop-value-test.true c.value-item.is c.loop-value.invariant (shows_both (shows_mark c.put_symbol-separated.ensures) (shows_inside c.put_expression-status-in-loop-value.ensures))

pub put_arguments-returns : goal.put_arguments-returns
put_arguments-returns g t c =
    let split : c.args.values.now ≡ c.in-Some.first.now ∷ c.in-Some.rest.now = c.in-Some.ensures.cases.0 in
    rw split (shows_present (shows_inside (each_behind c.in-Some.rest.now c.loop-value-test.false (rw (ap head_text split) at c.loop-value.invariant))))
