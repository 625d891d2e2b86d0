use Rattle.std.proofs.Common.{◌≡◌, Ok, ap}
use Rattle.std.proofs.lemmas.Result.{err_from_is_err_and}
use Rattle.key_script.proofs.Faulty.{refused, not_read, told}
use Rattle.key_script.proofs.keys.read_keys.Goals as goal

pub returns-in_err-lines-clause-only : goal.returns-in_err-lines-clause-only
returns-in_err-lines-clause-only c ls s =
    let p = err_from_is_err_and c.from_residual.result c.from_residual.ensures.1 in
    rw (p.1, p.2) (not_read ls _ (c.in_err-lines.ensures.only ls s))

pub returns-in_err-lines-clause-fault : goal.returns-in_err-lines-clause-fault
returns-in_err-lines-clause-fault c =
    let p = err_from_is_err_and c.from_residual.result c.from_residual.ensures.1 in
    rw (p.1, p.2) (refused c.args.text.now _ c.in_err-lines.ensures.fault)

pub returns-in_err-lines-clause-exact : goal.returns-in_err-lines-clause-exact
returns-in_err-lines-clause-exact c f r =
    let p = err_from_is_err_and c.from_residual.result c.from_residual.ensures.1 in
    rw (p.1, p.2) (told _ f r.0 _ r.2 (c.in_err-lines.ensures.exact r.0 r.1))

pub returns-clause-only : goal.returns-clause-only
returns-clause-only c ls s =
    let read = c.in_ok-lines.ensures.only ls s in
    let same : ls ≡ c.in_ok-lines.lines.items = cc in
    ap Ok same

pub returns-clause-exact : goal.returns-clause-exact
returns-clause-exact c f r =
    let read = c.in_ok-lines.ensures.exact r.0 r.1 in
    absurd (let no : ⊥ = cc in no)
