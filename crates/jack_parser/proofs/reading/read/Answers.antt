use Rattle.std.proofs.Common.{ap, map}
use Rattle.std.proofs.lemmas.Result.{err_from_is_err_and}
use Rattle.grammar.specs.Reading.{memory}
use Rattle.grammar.proofs.Wholes.{not_cut}
use Rattle.jack_tree.specs.Tokens.{view}
use Rattle.jack_parser.proofs.WholeTexts.{spelled_by, refused_by}
use Rattle.jack_parser.proofs.reading.read.Goals as goal

pub returns-in_err-tokens-clause-fault : goal.returns-in_err-tokens-clause-fault
returns-in_err-tokens-clause-fault c =
    let p = err_from_is_err_and c.from_residual.result c.from_residual.ensures.1 in
    rw (p.1, p.2) (not_cut _ _ _ _ _ c.in_err-tokens.ensures.tokens)

pub returns-in_err-file-clause-fault : goal.returns-in_err-file-clause-fault
returns-in_err-file-clause-fault c =
    let p = err_from_is_err_and c.from_residual-in_err-file.result c.from_residual-in_err-file.ensures.1 in
    rw (p.1, p.2) memory

pub returns-in_err-class-clause-fault : goal.returns-in_err-class-clause-fault
returns-in_err-class-clause-fault c =
    let p = err_from_is_err_and c.from_residual-in_err-class.result c.from_residual-in_err-class.ensures.1 in
    rw (p.1, p.2) (refused_by c.args.text.now _ _ _ c.in_ok-tokens.ensures.tokens (ap (map view) c.deref.ensures.value) c.in_ok-tokens.ensures.end c.in_err-class.ensures.reads)

pub returns-clause-found : goal.returns-clause-found
returns-clause-found c = spelled_by c.args.text.now _ _ _ c.in_ok-tokens.ensures.tokens (ap (map view) c.deref.ensures.value) c.in_ok-tokens.ensures.end c.in_ok-class.ensures.reads
