use Rattle.std.proofs.Common.{sym, refl}
use Rattle.std.proofs.lemmas.Result.{err_from_is_err_and}
use Rattle.grammar.proofs.Steps.{halt}
use Rattle.hack_asm.proofs.Letters.{with_letter, with_letter_stops, without_letter, without_letter_stops, to_register, to_register_stops, continued_after, continued_after_stops, none_after}
use Rattle.hack_asm.specs.Grammar.{unary, after_letter}
use Rattle.hack_asm.proofs.Behind.{bare_tree_of}
use Rattle.hack_asm.proofs.rules.bare.Goals as goal

pub returns-in_err-prefix : goal.returns-in_err-prefix
returns-in_err-prefix c =
    let p = err_from_is_err_and c.from_residual.result c.from_residual.ensures.1 in
    rw (p.1, p.2) (halt (λ f h. without_letter_stops c.args.end after_letter unary (sym c.in_default.ensures) refl h) c.in_err-prefix.ensures)

pub returns-in_default : goal.returns-in_default
returns-in_default c =
    without_letter c.args.end after_letter unary (sym c.in_default.ensures) refl c.in_ok-prefix.ensures

pub returns-in_err-comp : goal.returns-in_err-comp
returns-in_err-comp c =
    let p = err_from_is_err_and c.from_residual-in_err-comp.result c.from_residual-in_err-comp.ensures.1 in
    rw (p.1, p.2) (halt (λ f h. with_letter_stops c.args.end after_letter unary (sym c.in-Some.ensures) (to_register_stops c.args.end _ (sym c.in-Some-assigns.ensures) h)) c.in_err-comp.ensures)

pub returns-in-Some-assigns : goal.returns-in-Some-assigns
returns-in-Some-assigns c =
    with_letter c.args.end after_letter unary (sym c.in-Some.ensures) (to_register c.args.end _ (sym c.in-Some-assigns.ensures) c.in_ok-comp.ensures)

pub returns-in_err-behind : goal.returns-in_err-behind
returns-in_err-behind c =
    let p = err_from_is_err_and c.from_residual-in_err-behind.result c.from_residual-in_err-behind.ensures.1 in
    rw (p.1, p.2) (halt (λ f h. with_letter_stops c.args.end after_letter unary (sym c.in-Some.ensures) (continued_after_stops c.args.end _ (sym c.in_default-assigns.ensures) c.in_err-behind.ensures.0 h)) c.in_err-behind.ensures.1)

pub returns-in-Some-2 : goal.returns-in-Some-2
returns-in-Some-2 c =
    rw (c.comp_of.ensures, bare_tree_of _ _) (with_letter c.args.end after_letter unary (sym c.in-Some.ensures) (continued_after c.args.end _ (sym c.in_default-assigns.ensures) (rw c.in-Some-2.is at c.in_ok-behind.ensures)))

pub returns-in-None : goal.returns-in-None
returns-in-None c =
    with_letter c.args.end after_letter unary (sym c.in-Some.ensures) (none_after c.args.end _ (sym c.in_default-assigns.ensures) (rw c.in-None.is at c.in_ok-behind.ensures))
