use Rattle.std.proofs.Common.{◌∙◌, sym, arith, [], refl}
use Rattle.std.proofs.lemmas.Result.{err_from_is_err_and}
use Rattle.grammar.specs.Rules.{name, both, named, in_name, passed, taken, ended, neither, not_inside}
use Rattle.grammar.specs.Reading.{fault, memory}
use Rattle.grammar.proofs.Entered.{skip_stops}
use Rattle.grammar.proofs.Repeats.{Along-start, Along-more, Along-ended, Along-halts}
use Rattle.grammar.proofs.Exits.{halt_second, halt_option, halt_repeat, halt_name, halt_within_at, halt_too_far, inside_at, halt_first}
use Rattle.jack_parser.specs.Grammar.{jack, statement}
use Rattle.jack_parser.specs.StatementTrees.{statement_tree}
use Rattle.jack_parser.proofs.Blocks.{while_is, if_is}
use Rattle.jack_parser.proofs.StatementRules.{while_read, if_read, while_halts, if_halts}
use Rattle.jack_parser.proofs.statements.+statements.Goals as goal

pub else_block-returns-in_err-rest-clause-reads : goal.else_block-returns-in_err-rest-clause-reads
else_block-returns-in_err-rest-clause-reads t c =
    let p = err_from_is_err_and c.from_residual.result c.from_residual.ensures.1 in
    rw (p.1, p.2) (halt_option (sym c.if-not-keyword_stands.ensures) (halt_first c.in_err-rest.ensures.reads))

pub else_block-returns-then-not-keyword_stands-clause-reads : goal.else_block-returns-then-not-keyword_stands-clause-reads
else_block-returns-then-not-keyword_stands-clause-reads t c = passed (sym c.if-not-keyword_stands.ensures)

pub else_block-returns-in_err-body-clause-reads : goal.else_block-returns-in_err-body-clause-reads
else_block-returns-in_err-body-clause-reads t c =
    let p = err_from_is_err_and c.from_residual-in_err-body.result c.from_residual-in_err-body.ensures.1 in
    rw (p.1, p.2) (halt_option (sym c.if-not-keyword_stands.ensures) (halt_second c.in_ok-rest.ensures.reads c.in_err-body.ensures.reads))

pub else_block-returns-clause-reads : goal.else_block-returns-clause-reads
else_block-returns-clause-reads t c = taken (sym c.if-not-keyword_stands.ensures) (both c.in_ok-rest.ensures.reads c.in_ok-body.ensures.reads)

pub statements-returns-in_err-push-clause-reads : goal.statements-returns-in_err-push-clause-reads
statements-returns-in_err-push-clause-reads t c =
    let p = err_from_is_err_and c.from_residual-in_err-push.result c.from_residual-in_err-push.ensures.1 in
    rw (p.1, p.2) (memory)

pub statements-returns-in_err-push-2-clause-reads : goal.statements-returns-in_err-push-2-clause-reads
statements-returns-in_err-push-2-clause-reads t c =
    let p = err_from_is_err_and c.from_residual-in_err-push-2.result c.from_residual-in_err-push-2.ensures.1 in
    rw (p.1, p.2) (memory)

pub statements-returns-then-not-statement_begins-clause-reads : goal.statements-returns-then-not-statement_begins-clause-reads
statements-returns-then-not-statement_begins-clause-reads t c = rw c.new-statements.ensures.items (ended (sym c.if-not-statement_begins.ensures))

pub statements-returns-in_err-first-clause-reads : goal.statements-returns-in_err-first-clause-reads
statements-returns-in_err-first-clause-reads t c =
    let p = err_from_is_err_and c.from_residual.result c.from_residual.ensures.1 in
    rw (p.1, p.2) (halt_repeat (sym c.if-not-statement_begins.ensures) c.in_err-first.ensures.reads)

pub statements-statements-init : goal.statements-statements-init
statements-statements-init t c = rw (c.in_ok-push.ensures.items, c.new-statements.ensures.items) record {
  along = Along-more (jack c.args.end) (name statement) statement_tree _ _ [] _ _ _ _ _ (Along-start (jack c.args.end) (name statement) statement_tree _ _ [] refl) (sym c.if-not-statement_begins.ensures) c.in_ok-first.ensures.reads;
  no_longer = omega (arith, c.in_ok-first.ensures.shorter);
}

pub statements-returns-in_err-statement-clause-reads : goal.statements-returns-in_err-statement-clause-reads
statements-returns-in_err-statement-clause-reads t c =
    let p = err_from_is_err_and c.from_residual-in_err-statement.result c.from_residual-in_err-statement.ensures.1 in
    rw (p.1, p.2) (Along-halts (jack c.args.end) (name statement) statement_tree _ _ _ _ _ _ c.statements.invariant.along (sym c.statement_begins-in-statements.ensures ∙ c.statements-test.true) c.in_err-statement.ensures.reads)

pub statements-statements-preserved : goal.statements-statements-preserved
statements-statements-preserved t c = rw c.in_ok-push-2.ensures.items record {
  along = Along-more (jack c.args.end) (name statement) statement_tree _ _ _ _ _ _ _ _ c.statements.invariant.along (sym c.statement_begins-in-statements.ensures ∙ c.statements-test.true) c.in_ok-statement.ensures.reads;
  no_longer = omega (arith, c.in_ok-statement.ensures.shorter, c.statements.invariant.no_longer);
}

pub statements-returns-clause-reads : goal.statements-returns-clause-reads
statements-returns-clause-reads t c = rw c.shrink_to_fit.ensures.items (Along-ended (jack c.args.end) (name statement) statement_tree _ _ _ _ _ c.statements.invariant.along (sym c.statement_begins-in-statements.ensures ∙ c.statements-test.false))

pub statement-returns-then-not-statement_begins-clause-reads : goal.statement-returns-then-not-statement_begins-clause-reads
statement-returns-then-not-statement_begins-clause-reads t c = rw c.here.ensures (fault (in_name (not_inside (sym c.if-not-statement_begins.ensures))))

pub statement-returns-in_err-inner-clause-reads : goal.statement-returns-in_err-inner-clause-reads
statement-returns-in_err-inner-clause-reads t c =
    let p = err_from_is_err_and c.from_residual.result c.from_residual.ensures.1 in
    rw (p.1, p.2) (halt_name (halt_too_far (sym c.if-not-statement_begins.ensures) c.here-2.ensures (sym c.in_err-inner.ensures)))

pub statement-returns-in_err-statement-clause-reads : goal.statement-returns-in_err-statement-clause-reads
statement-returns-in_err-statement-clause-reads t c =
    let p = err_from_is_err_and c.from_residual-in_err-statement.result c.from_residual-in_err-statement.ensures.1 in
    rw (p.1, p.2) (halt_name (halt_within_at (sym c.if-not-statement_begins.ensures) c.here-2.ensures (sym c.in_ok-inner.ensures) c.in_err-statement.ensures.reads))

pub statement-returns-clause-reads : goal.statement-returns-clause-reads
statement-returns-clause-reads t c = named (inside_at (sym c.if-not-statement_begins.ensures) c.here-2.ensures (sym c.in_ok-inner.ensures) c.in_ok-statement.ensures.reads)

pub any_statement-returns-clause-reads : goal.any_statement-returns-clause-reads
any_statement-returns-clause-reads t c = rw c.here.ensures (fault (skip_stops (sym c.if-keyword_stands.ensures) refl (skip_stops (sym c.if-keyword_stands-2.ensures) refl (skip_stops (sym c.if-keyword_stands-3.ensures) refl (neither (sym c.if-keyword_stands-4.ensures) (sym c.if-keyword_stands-5.ensures))))))

pub while_statement-returns-in_err-place-clause-reads : goal.while_statement-returns-in_err-place-clause-reads
while_statement-returns-in_err-place-clause-reads t c =
    let p = err_from_is_err_and c.from_residual.result c.from_residual.ensures.1 in
    rw (p.1, p.2) (while_halts c.requires.begun (halt_first c.in_err-place.ensures.reads))

pub while_statement-returns-in_err-condition-clause-reads : goal.while_statement-returns-in_err-condition-clause-reads
while_statement-returns-in_err-condition-clause-reads t c =
    let p = err_from_is_err_and c.from_residual-in_err-condition.result c.from_residual-in_err-condition.ensures.1 in
    rw (p.1, p.2) (while_halts c.requires.begun (halt_second c.in_ok-place.ensures.reads (halt_first c.in_err-condition.ensures.reads)))

pub while_statement-returns-in_err-body-clause-reads : goal.while_statement-returns-in_err-body-clause-reads
while_statement-returns-in_err-body-clause-reads t c =
    let p = err_from_is_err_and c.from_residual-in_err-body.result c.from_residual-in_err-body.ensures.1 in
    rw (p.1, p.2) (while_halts c.requires.begun (halt_second c.in_ok-place.ensures.reads (halt_second c.in_ok-condition.ensures.reads c.in_err-body.ensures.reads)))

pub while_statement-returns-clause-reads : goal.while_statement-returns-clause-reads
while_statement-returns-clause-reads t c = rw (while_is c.in_ok-place.place c.in_ok-condition.condition c.in_ok-body.body) (while_read c.requires.begun (both c.in_ok-place.ensures.reads (both c.in_ok-condition.ensures.reads c.in_ok-body.ensures.reads)))

pub if_statement-returns-in_err-place-clause-reads : goal.if_statement-returns-in_err-place-clause-reads
if_statement-returns-in_err-place-clause-reads t c =
    let p = err_from_is_err_and c.from_residual.result c.from_residual.ensures.1 in
    rw (p.1, p.2) (if_halts c.requires.begun (halt_first c.in_err-place.ensures.reads))

pub if_statement-returns-in_err-condition-clause-reads : goal.if_statement-returns-in_err-condition-clause-reads
if_statement-returns-in_err-condition-clause-reads t c =
    let p = err_from_is_err_and c.from_residual-in_err-condition.result c.from_residual-in_err-condition.ensures.1 in
    rw (p.1, p.2) (if_halts c.requires.begun (halt_second c.in_ok-place.ensures.reads (halt_first c.in_err-condition.ensures.reads)))

pub if_statement-returns-in_err-body-clause-reads : goal.if_statement-returns-in_err-body-clause-reads
if_statement-returns-in_err-body-clause-reads t c =
    let p = err_from_is_err_and c.from_residual-in_err-body.result c.from_residual-in_err-body.ensures.1 in
    rw (p.1, p.2) (if_halts c.requires.begun (halt_second c.in_ok-place.ensures.reads (halt_second c.in_ok-condition.ensures.reads (halt_first c.in_err-body.ensures.reads))))

pub if_statement-returns-in_err-other-clause-reads : goal.if_statement-returns-in_err-other-clause-reads
if_statement-returns-in_err-other-clause-reads t c =
    let p = err_from_is_err_and c.from_residual-in_err-other.result c.from_residual-in_err-other.ensures.1 in
    rw (p.1, p.2) (if_halts c.requires.begun (halt_second c.in_ok-place.ensures.reads (halt_second c.in_ok-condition.ensures.reads (halt_second c.in_ok-body.ensures.reads c.in_err-other.ensures.reads))))

pub if_statement-returns-in_err-asked-clause-reads : goal.if_statement-returns-in_err-asked-clause-reads
if_statement-returns-in_err-asked-clause-reads t c =
    let p = err_from_is_err_and c.from_residual-in_err-asked.result c.from_residual-in_err-asked.ensures.1 in
    rw (p.1, p.2) (memory)

pub if_statement-returns-clause-reads : goal.if_statement-returns-clause-reads
if_statement-returns-clause-reads t c = rw (c.in_ok-asked.ensures, if_is c.in_ok-place.place c.in_ok-condition.condition c.in_ok-body.body c.in_ok-other.other) (if_read c.requires.begun (both c.in_ok-place.ensures.reads (both c.in_ok-condition.ensures.reads (both c.in_ok-body.ensures.reads c.in_ok-other.ensures.reads))))

pub block-returns-in_err-rest-clause-reads : goal.block-returns-in_err-rest-clause-reads
block-returns-in_err-rest-clause-reads t c =
    let p = err_from_is_err_and c.from_residual.result c.from_residual.ensures.1 in
    rw (p.1, p.2) (halt_first c.in_err-rest.ensures.reads)

pub block-returns-in_err-statements-clause-reads : goal.block-returns-in_err-statements-clause-reads
block-returns-in_err-statements-clause-reads t c =
    let p = err_from_is_err_and c.from_residual-in_err-statements.result c.from_residual-in_err-statements.ensures.1 in
    rw (p.1, p.2) (halt_second c.in_ok-rest.ensures.reads (halt_first c.in_err-statements.ensures.reads))

pub block-returns-in_err-rest-2-clause-reads : goal.block-returns-in_err-rest-2-clause-reads
block-returns-in_err-rest-2-clause-reads t c =
    let p = err_from_is_err_and c.from_residual-in_err-rest-2.result c.from_residual-in_err-rest-2.ensures.1 in
    rw (p.1, p.2) (halt_second c.in_ok-rest.ensures.reads (halt_second c.in_ok-statements.ensures.reads c.in_err-rest-2.ensures.reads))

pub block-returns-clause-reads : goal.block-returns-clause-reads
block-returns-clause-reads t c = both c.in_ok-rest.ensures.reads (both c.in_ok-statements.ensures.reads c.in_ok-rest-2.ensures.reads)
