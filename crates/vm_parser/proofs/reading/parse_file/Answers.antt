use Rattle.std.proofs.Common.{subst, ap, [], ◌∷◌, map, List, ℕ}
use Rattle.std.proofs.lemmas.Result.{err_from_is_err_and}
use Rattle.std.specs.Prelude.{IfOk}
use Rattle.grammar.proofs.Wholes.{not_cut}
use Rattle.vm_parser.specs.Tokens.{view}
use Rattle.vm_parser.specs.Trees.{Spells}
use Rattle.vm_parser.proofs.Wholes.{fault_in, found_in}
use Rattle.vm_parser.proofs.reading.parse_file.Goals as goal

pub returns-in_err-tokens-clause-fault : goal.returns-in_err-tokens-clause-fault
returns-in_err-tokens-clause-fault c =
    let p = err_from_is_err_and c.from_residual.result c.from_residual.ensures.1 in
    rw (p.1, p.2) (not_cut _ _ _ _ _ c.in_err-tokens.ensures.tokens)

pub returns-clause-found : goal.returns-clause-found
returns-clause-found c =
    let P : List ℕ → Type 0 = λ n. IfOk c.file.result (λ f. Spells c.args.bare n c.args.text.now (f ∷ [])) in
    subst P c.in_ok-name.ensures.cases (found_in c.args.bare c.in_ok-name.name c.args.text.now _ _ _ c.in_ok-tokens.ensures.tokens (ap (map view) c.deref.ensures.value) c.in_ok-tokens.ensures.end _ c.file.ensures)

pub returns-clause-fault : goal.returns-clause-fault
returns-clause-fault c =
    fault_in c.args.bare c.in_ok-name.name c.args.text.now _ _ _ c.in_ok-tokens.ensures.tokens (ap (map view) c.deref.ensures.value) c.in_ok-tokens.ensures.end _ c.file.ensures
