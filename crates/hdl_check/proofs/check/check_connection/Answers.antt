use Rattle.std.proofs.Common.{◌≡◌, Some, Err}
use Rattle.std.proofs.lemmas.Result.{err_from_is_err_and}
use Rattle.name_table.specs.Names.{find_value}
use Rattle.name_table.specs.Tables.{table_of}
use Rattle.hdl_check.proofs.Checking.{at_wiring}
use Rattle.hdl_check.proofs.check.check_connection.Goals as goal

pub returns-in_err-check_wiring-in-Some-clause-checks : goal.returns-in_err-check_wiring-in-Some-clause-checks
returns-in_err-check_wiring-in-Some-clause-checks c = λ a inner s p d f.
    let q = err_from_is_err_and c.from_residual.result c.from_residual.ensures.1 in
    let e : Some c.in-Some.port ≡ find_value c.args.connection.now.pin.name (table_of c.args.ports.now) = cc in
    rw (q.1, q.2) (at_wiring a c.args.connection.now c.in-Some.port (table_of c.args.ports.now) inner (Err c.in_err-check_wiring-in-Some.field-0.0) e (p c.args.connection.now.pin.name) (c.in_err-check_wiring-in-Some.ensures a s d f))
