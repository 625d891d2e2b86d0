use Rattle.std.proofs.Common.{sym}
use Rattle.std.proofs.lemmas.Result.{err_from_is_err_and}
use Rattle.grammar.proofs.Steps.{halt}
use Rattle.hack_asm.proofs.Letters.{operates, fails, operator_enters}
use Rattle.hack_asm.proofs.rules.operation.Goals as goal

pub returns-in_err-second : goal.returns-in_err-second
returns-in_err-second c =
    let p = err_from_is_err_and c.from_residual.result c.from_residual.ensures.1 in
    let e = sym c.in-Some.ensures in
    rw (p.1, p.2) (operator_enters c.args.end c.args.first _ _ _ _ e, halt (λ f h. fails c.args.end c.args.first _ _ _ _ f e h) c.in_err-second.ensures)

pub returns : goal.returns
returns c =
    operates c.args.end c.args.first _ _ _ _ _ _ (sym c.in-Some.ensures) c.in_ok-second.ensures
