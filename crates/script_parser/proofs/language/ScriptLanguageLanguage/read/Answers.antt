use Rattle.std.proofs.lemmas.Result.{err_from_is_err_and}
use Rattle.source_files.proofs.Told.{why_refused}
use Rattle.script_parser.specs.Trees.{Refuses}
use Rattle.script_parser.proofs.language.ScriptLanguageLanguage.read.Goals as goal

pub returns-in_err-commands-clause-refused : goal.returns-in_err-commands-clause-refused
returns-in_err-commands-clause-refused c =
    let p = err_from_is_err_and c.from_residual.result c.from_residual.ensures.1 in
    rw (p.1, p.2) (why_refused Refuses c.args.text.now c.in_err-commands.ensures.fault)
