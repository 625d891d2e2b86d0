use Rattle.std.proofs.lemmas.Result.{err_from_is_err_and}
use Rattle.hdl_check.proofs.Checking.{at_width, at_driven, at_undriven}
use Rattle.hdl_check.proofs.check.check_wiring.Goals as goal

pub returns-in_err-check_width : goal.returns-in_err-check_width
returns-in_err-check_width c = λ a s d f.
    let p = err_from_is_err_and c.from_residual.result c.from_residual.ensures.1 in
    rw (p.1, p.2) (at_width a c.args.scope.chip.now c.args.port c.args.connection.now c.right_side-right.result s.chip (c.right_side-right.ensures a s) _ c.in_err-check_width.ensures)

pub returns-in_err-check_driven : goal.returns-in_err-check_driven
returns-in_err-check_driven c = λ a s d f.
    let p = err_from_is_err_and c.from_residual-in_err-check_driven.result c.from_residual-in_err-check_driven.ensures.1 in
    rw (p.1, p.2) (at_driven a c.args.scope.chip.now c.args.port c.args.connection.now c.right_side-right.result s.chip (c.right_side-right.ensures a s) _ c.in_ok-check_width.ensures (c.in_err-check_driven.ensures a s d f))

pub returns : goal.returns
returns c = λ a s d f.
    at_undriven a c.args.scope.chip.now c.args.port c.args.connection.now c.right_side-right.result s.chip (c.right_side-right.ensures a s) _ c.in_ok-check_width.ensures (c.in_ok-check_driven.ensures a s d f) c.check_undriven.ensures
