use Rattle.std.proofs.Common.{◌≡◌, map, false, refl, ap, ◌∙◌}
use Rattle.std.proofs.lemmas.Result.{err_from_is_err_and}
use Rattle.grammar.specs.Rules.{left, neither}
use Rattle.grammar.specs.Reading.{fault}
use Rattle.grammar.proofs.Exits.{halt_left}
use Rattle.script_parser.specs.Tokens.{view}
use Rattle.script_parser.specs.Grammar.{steps, load_or}
use Rattle.script_parser.proofs.Acts.{by_role, role_next, no_act}
use Rattle.script_parser.proofs.rules.act.Goals as goal

pub returns-in_err-step-clause-reads : goal.returns-in_err-step-clause-reads
returns-in_err-step-clause-reads c =
    let p = err_from_is_err_and c.from_residual.result c.from_residual.ensures.1 in
    rw (p.1, p.2) (halt_left c.if-step_stands.ensures c.in_err-step.ensures.reads)

pub returns-then-step_stands-clause-reads : goal.returns-then-step_stands-clause-reads
returns-then-step_stands-clause-reads c = left c.if-step_stands.ensures c.in_ok-step.ensures.reads

pub returns-in_default-clause-reads : goal.returns-in_default-clause-reads
returns-in_default-clause-reads c =
    let ts = map view c.args.tokens.now in
    let r = c.next_role.result in
    let no_step : steps r ≡ false = ap steps c.next_role.ensures ∙ role_next steps ts false refl c.if-step_stands.ensures in
    let no_other = no_act r no_step c.in_default.not-Load c.in_default.not-OutputFile c.in_default.not-CompareTo c.in_default.not-OutputList c.in_default.not-Set c.in_default.not-Echo c.in_default.not-Rom in
    rw (c.grammar_fault.ensures, c.here.ensures) (fault (neither c.if-step_stands.ensures (by_role load_or ts r false refl c.next_role.ensures no_other)))
