use Rattle.std.proofs.Common.{◌∙◌}
use Rattle.std.proofs.lemmas.Result.{err_from_is_err_and}
use Rattle.source_files.proofs.Told.{why_refused}
use Rattle.jack_parser.specs.Spells.{Refuses}
use Rattle.jack_parser.proofs.language.JackLanguageLanguage.read.Goals as goal

pub returns-in_err-class-clause-refused : goal.returns-in_err-class-clause-refused
returns-in_err-class-clause-refused c =
    let p = err_from_is_err_and c.from_residual-in_err-class.result c.from_residual-in_err-class.ensures.1 in
    rw (p.1, p.2) (why_refused Refuses c.args.text.now c.in_err-class.ensures.fault)

pub returns-clause-spelled : goal.returns-clause-spelled
returns-clause-spelled c = (c.in_ok-class.ensures.spelled, c.in_ok-class.ensures.file ∙ c.in_ok-name.ensures)
