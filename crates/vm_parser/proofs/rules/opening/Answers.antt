use Rattle.std.proofs.lemmas.Result.{err_from_is_err_and}
use Rattle.vm_parser.proofs.Lines.{opening_lines, opening_none, opening_halts}
use Rattle.vm_parser.proofs.rules.opening.Goals as goal

pub returns-then-bare : goal.returns-then-bare
returns-then-bare c = opening_lines c.args.bare c.args.end c.args.tokens.now _ c.if-bare.true c.lines.ensures

pub returns-in_err-rest : goal.returns-in_err-rest
returns-in_err-rest c =
    let p = err_from_is_err_and c.from_residual.result c.from_residual.ensures.1 in
    rw (p.1, p.2) (opening_halts c.args.bare c.args.end _ _ c.if-bare.false c.in_err-rest.ensures)

pub returns : goal.returns
returns c = opening_none c.args.bare c.args.end c.args.tokens.now _ _ c.in_ok-rest.rest c.if-bare.false c.new.ensures c.in_ok-rest.ensures
