use Rattle.std.proofs.Common.{◌∙◌, sym, arith, map, [], refl, subst}
use Rattle.std.proofs.lemmas.Result.{err_from_is_err_and}
use Rattle.grammar.specs.Rules.{name, Reads, both, named, in_name, ended, left, right, neither}
use Rattle.grammar.specs.Reading.{fault}
use Rattle.grammar.proofs.Repeats.{Along-start, Along-more, Along-ended, Along-halts}
use Rattle.grammar.proofs.Exits.{halt_first, halt_second, halt_repeat, halt_name, halt_left, halt_right, halt_within_at, halt_too_far, inside_at}
use Rattle.script_parser.specs.declared.nesting.Nesting.{Nesting}
use Rattle.script_parser.specs.Tokens.{Word, view}
use Rattle.script_parser.specs.Grammar.{script, Part, Said, command, repetition_parts}
use Rattle.script_parser.specs.Trees.{command_tree, list_tree, parts_tree}
use Rattle.script_parser.proofs.Blocks.{repeat_is}
use Rattle.script_parser.proofs.rules.+commands.Goals as goal

pub commands-returns-then-not-command_begins-clause-reads : goal.commands-returns-then-not-command_begins-clause-reads
commands-returns-then-not-command_begins-clause-reads t c = rw c.new-commands.ensures.items (ended c.if-not-command_begins.ensures)

pub commands-returns-in_err-first-clause-reads : goal.commands-returns-in_err-first-clause-reads
commands-returns-in_err-first-clause-reads t c =
    let p = err_from_is_err_and c.from_residual.result c.from_residual.ensures.1 in
    rw (p.1, p.2) (halt_repeat c.if-not-command_begins.ensures c.in_err-first.ensures.reads)

pub commands-all-init : goal.commands-all-init
commands-all-init t c = rw (c.in_ok-push.ensures.items, c.new-commands.ensures.items) record {
  along = Along-more (script c.args.end) (name command) command_tree _ _ [] _ _ _ _ _ (Along-start (script c.args.end) (name command) command_tree _ _ [] refl) c.if-not-command_begins.ensures c.in_ok-first.ensures.reads;
  no_longer = omega (arith, c.in_ok-first.ensures.shorter);
}

pub commands-returns-in_err-one-clause-reads : goal.commands-returns-in_err-one-clause-reads
commands-returns-in_err-one-clause-reads t c =
    let p = err_from_is_err_and c.from_residual-in_err-one.result c.from_residual-in_err-one.ensures.1 in
    rw (p.1, p.2) (Along-halts (script c.args.end) (name command) command_tree _ _ _ _ _ _ c.all.invariant.along (c.command_begins-in-all.ensures ∙ c.all-test.true) c.in_err-one.ensures.reads)

pub commands-all-preserved : goal.commands-all-preserved
commands-all-preserved t c = rw c.in_ok-push-2.ensures.items record {
  along = Along-more (script c.args.end) (name command) command_tree _ _ _ _ _ _ _ _ c.all.invariant.along (c.command_begins-in-all.ensures ∙ c.all-test.true) c.in_ok-one.ensures.reads;
  no_longer = omega (arith, c.in_ok-one.ensures.shorter, c.all.invariant.no_longer);
}

pub commands-returns-clause-reads : goal.commands-returns-clause-reads
commands-returns-clause-reads t c = Along-ended (script c.args.end) (name command) command_tree _ _ _ _ _ c.all.invariant.along (c.command_begins-in-all.ensures ∙ c.all-test.false)

pub command-returns-in_err-inner-clause-reads : goal.command-returns-in_err-inner-clause-reads
command-returns-in_err-inner-clause-reads t c =
    let p = err_from_is_err_and c.from_residual.result c.from_residual.ensures.1 in
    rw (p.1, p.2) (halt_name (halt_left c.if-repetition_begins.ensures (halt_too_far c.if-repetition_begins.ensures c.here.ensures (sym c.in_err-inner.ensures))))

pub command-returns-in_err-times-clause-reads : goal.command-returns-in_err-times-clause-reads
command-returns-in_err-times-clause-reads t c =
    let p = err_from_is_err_and c.from_residual-in_err-times.result c.from_residual-in_err-times.ensures.1 in
    rw (p.1, p.2) (halt_name (halt_left c.if-repetition_begins.ensures (halt_within_at c.if-repetition_begins.ensures c.here.ensures (sym c.in_ok-inner.ensures) c.in_err-times.ensures.reads)))

pub command-returns-then-repetition_begins-clause-reads : goal.command-returns-then-repetition_begins-clause-reads
command-returns-then-repetition_begins-clause-reads t c =
    rw (repeat_is c.in_ok-times.times c.in_ok-times.body) (named (left c.if-repetition_begins.ensures (inside_at c.if-repetition_begins.ensures c.here.ensures (sym c.in_ok-inner.ensures) c.in_ok-times.ensures.reads)))

pub command-returns-then-not-act_begins-clause-reads : goal.command-returns-then-not-act_begins-clause-reads
command-returns-then-not-act_begins-clause-reads t c = rw (c.grammar_fault.ensures, c.here-then-not-act_begins.ensures) (fault (in_name (neither c.if-repetition_begins.ensures c.if-not-act_begins.ensures)))

pub command-returns-in_err-act-clause-reads : goal.command-returns-in_err-act-clause-reads
command-returns-in_err-act-clause-reads t c =
    let p = err_from_is_err_and c.from_residual-in_err-act.result c.from_residual-in_err-act.ensures.1 in
    rw (p.1, p.2) (halt_name (halt_right c.if-repetition_begins.ensures c.if-not-act_begins.ensures (halt_first c.in_err-act.ensures.reads)))

pub command-returns-in_err-rest-clause-reads : goal.command-returns-in_err-rest-clause-reads
command-returns-in_err-rest-clause-reads t c =
    let p = err_from_is_err_and c.from_residual-in_err-rest.result c.from_residual-in_err-rest.ensures.1 in
    rw (p.1, p.2) (halt_name (halt_right c.if-repetition_begins.ensures c.if-not-act_begins.ensures (halt_second c.in_ok-act.ensures.reads c.in_err-rest.ensures.reads)))

pub command-returns-clause-reads : goal.command-returns-clause-reads
command-returns-clause-reads t c = named (right c.if-repetition_begins.ensures c.if-not-act_begins.ensures (both c.in_ok-act.ensures.reads c.in_ok-rest.ensures.reads))

pub repeated-returns-clause-reads : goal.repeated-returns-clause-reads
repeated-returns-clause-reads t c =
    subst (λ (n : Nesting). Reads Word Nesting Part Said (script c.args.end) c.args.nesting repetition_parts (map view c.args.tokens.now) (parts_tree c.in_ok-times.times (list_tree c.in_ok-body.body.items)) n (map view c.in_ok-body.rest.now))
    c.in_ok-times.ensures.times
    (both c.in_ok-rest.ensures.reads (both c.in_ok-times.ensures.reads c.in_ok-body.ensures.reads))
