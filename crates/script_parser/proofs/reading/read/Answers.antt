use Rattle.std.proofs.Common.{ap, map}
use Rattle.std.proofs.lemmas.Result.{err_from_is_err_and}
use Rattle.grammar.proofs.Wholes.{not_cut}
use Rattle.script_parser.specs.Tokens.{view}
use Rattle.script_parser.proofs.WholeTexts.{found_in, fault_in}
use Rattle.script_parser.proofs.reading.read.Goals as goal

pub returns-in_err-tokens-clause-fault : goal.returns-in_err-tokens-clause-fault
returns-in_err-tokens-clause-fault c =
    let p = err_from_is_err_and c.from_residual.result c.from_residual.ensures.1 in
    rw (p.1, p.2) (not_cut _ _ _ _ _ c.in_err-tokens.ensures.tokens)

pub returns-clause-found : goal.returns-clause-found
returns-clause-found c = found_in c.args.text.now _ _ _ c.in_ok-tokens.ensures.tokens (ap (map view) c.deref.ensures.value) c.in_ok-tokens.ensures.end _ c.all.ensures

pub returns-clause-fault : goal.returns-clause-fault
returns-clause-fault c = fault_in c.args.text.now _ _ _ c.in_ok-tokens.ensures.tokens (ap (map view) c.deref.ensures.value) c.in_ok-tokens.ensures.end _ c.all.ensures
