use Rattle.std.proofs.Common.{sym}
use Rattle.std.proofs.lemmas.Result.{err_from_is_err_and}
use Rattle.grammar.specs.Rules.{both, second, first}
use Rattle.grammar.proofs.Steps.{halt}
use Rattle.hack_asm.proofs.Letters.{several_assigned, several_stops, bare_assigned, bare_stops}
use Rattle.hack_asm.proofs.rules.assigned.Goals as goal

pub returns-in_err-rest : goal.returns-in_err-rest
returns-in_err-rest c =
    let p = err_from_is_err_and c.from_residual.result c.from_residual.ensures.1 in
    rw (p.1, p.2) (halt (λ f h. several_stops c.args.end (sym c.in-Some.ensures) (first h)) c.in_err-rest.ensures)

pub returns-in_err-comp : goal.returns-in_err-comp
returns-in_err-comp c =
    let p = err_from_is_err_and c.from_residual-in_err-comp.result c.from_residual-in_err-comp.ensures.1 in
    rw (p.1, p.2) (halt (λ f h. several_stops c.args.end (sym c.in-Some.ensures) (second c.in_ok-rest.ensures h)) c.in_err-comp.ensures)

pub returns-in-Some : goal.returns-in-Some
returns-in-Some c =
    several_assigned c.args.end (sym c.in-Some.ensures) (both c.in_ok-rest.ensures c.in_ok-comp.ensures)

pub returns-in_err-register : goal.returns-in_err-register
returns-in_err-register c =
    let p = err_from_is_err_and c.from_residual-in_err-register.result c.from_residual-in_err-register.ensures.1 in
    rw (p.1, p.2) (halt (λ f h. bare_stops c.args.end (sym c.in_default.ensures) h) c.in_err-register.ensures)

pub returns : goal.returns
returns c =
    bare_assigned c.args.end (sym c.in_default.ensures) c.in_ok-register.ensures
