use Rattle.std.proofs.lemmas.Result.{err_from_is_err_and}
use Rattle.source_files.proofs.Told.{why_refused}
use Rattle.hdl_parser.specs.Spells.{Refuses}
use Rattle.hdl_parser.proofs.language.HdlLanguageLanguage.read.Goals as goal

pub returns-in_err-chip-clause-refused : goal.returns-in_err-chip-clause-refused
returns-in_err-chip-clause-refused c =
    let p = err_from_is_err_and c.from_residual.result c.from_residual.ensures.1 in
    rw (p.1, p.2) (why_refused Refuses c.args.text.now c.in_err-chip.ensures.fault)
