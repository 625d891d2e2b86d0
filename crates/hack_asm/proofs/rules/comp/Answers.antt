use Rattle.std.proofs.Common.{sym, refl}
use Rattle.std.proofs.lemmas.Result.{err_from_is_err_and}
use Rattle.grammar.specs.Rules.{passed, taken, in_option}
use Rattle.grammar.proofs.Steps.{halt}
use Rattle.hack_asm.specs.Grammar.{assembly}
use Rattle.hack_asm.proofs.Letters.{with_letter, with_letter_stops, without_letter, without_letter_stops}
use Rattle.hack_asm.specs.Grammar.{unary, maybe_behind}
use Rattle.hack_asm.specs.Tokens.{Word}
use Rattle.hack_asm.specs.Grammar.{Said}
use Rattle.grammar.proofs.Entered.{entered}
use Rattle.hack_asm.proofs.Behind.{comp_tree_of}
use Rattle.hack_asm.proofs.rules.comp.Goals as goal

pub returns-in_err-prefix : goal.returns-in_err-prefix
returns-in_err-prefix c =
    let p = err_from_is_err_and c.from_residual.result c.from_residual.ensures.1 in
    rw (p.1, p.2) (halt (λ f h. without_letter_stops c.args.end maybe_behind unary (sym c.in_default.ensures) refl h) c.in_err-prefix.ensures)

pub returns-in_default : goal.returns-in_default
returns-in_default c =
    without_letter c.args.end maybe_behind unary (sym c.in_default.ensures) refl c.in_ok-prefix.ensures

pub returns-in_err-behind : goal.returns-in_err-behind
returns-in_err-behind c =
    let p = err_from_is_err_and c.from_residual-in_err-behind.result c.from_residual-in_err-behind.ensures.1 in
    rw (p.1, p.2) (halt (λ f h. with_letter_stops c.args.end maybe_behind unary (sym c.in-Some.ensures) (in_option c.in_err-behind.ensures.0 h)) c.in_err-behind.ensures.1)

pub returns-in-Some-2 : goal.returns-in-Some-2
returns-in-Some-2 c =
    rw (c.comp_of.ensures, comp_tree_of _ _) (with_letter c.args.end maybe_behind unary (sym c.in-Some.ensures) (taken (entered Word (Unit {0}) (Unit {0}) Said (assembly c.args.end) (rw c.in-Some-2.is at c.in_ok-behind.ensures) refl) (rw c.in-Some-2.is at c.in_ok-behind.ensures)))

pub returns-in-None : goal.returns-in-None
returns-in-None c =
    with_letter c.args.end maybe_behind unary (sym c.in-Some.ensures) (passed (rw c.in-None.is at c.in_ok-behind.ensures))
