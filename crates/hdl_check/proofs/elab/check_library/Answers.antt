use Rattle.std.proofs.Common.{sym, ap, ◌∙◌}
use Rattle.hdl_tree.specs.Chips.{find_entry}
use Rattle.std.proofs.lemmas.Result.{err_from_is_err_and}
use Rattle.hdl_check.specs.Inner.Progress.{chips_of}
use Rattle.hdl_check.specs.Whole.{chips_in}
use Rattle.hdl_check.proofs.Tops.{same_chips, exact_err}
use Rattle.hdl_check.proofs.elab.check_library.Goals as goal

pub returns-in_err-check_all-in-Some-clause-exact : goal.returns-in_err-check_all-in-Some-clause-exact
returns-in_err-check_all-in-Some-clause-exact c =
    let q = err_from_is_err_and c.from_residual-in_err-check_all-in-Some.result c.from_residual-in_err-check_all-in-Some.ensures.1 in
    let s = c.in_ok-catalog.ensures in
    rw (q.1, q.2) (exact_err (chips_of c.in_ok-catalog.catalog) (chips_in c.args.library.now.entries c.args.memories) c.args.top.now c.in-Some.k c.in_err-check_all-in-Some.field-0.0
    (same_chips c.in_ok-catalog.catalog.entries.now c.args.library.now.entries c.in_ok-catalog.catalog.memories c.args.memories s.entries s.memories) (ap (find_entry c.in_ok-catalog.catalog.entries.now) (sym c.as_bytes.ensures) ∙ c.in-Some.ensures.1) c.in_err-check_all-in-Some.ensures.fault)
