use Rattle.std.proofs.Common.{◌∷◌, [], ◌∙◌, List, ℕ, subst}
use Rattle.std.proofs.lemmas.Result.{err_from_is_err_and}
use Rattle.source_files.proofs.Told.{why_refused}
use Rattle.vm_parser.specs.Trees.{Refuses, Spells}
use Rattle.vm_parser.proofs.language.VmLanguageLanguage.read.Goals as goal

pub returns-in_err-file-clause-refused : goal.returns-in_err-file-clause-refused
returns-in_err-file-clause-refused c =
    let p = err_from_is_err_and c.from_residual-in_err-file.result c.from_residual-in_err-file.ensures.1 in
    rw (p.1, p.2) (why_refused (Refuses c.args.self.now.bare) c.args.text.now c.in_err-file.ensures.fault)

pub returns-clause-spelled : goal.returns-clause-spelled
returns-clause-spelled c =
    let P : List ℕ → Type 0 = λ name. Spells c.args.self.now.bare name c.args.text.now (c.in_ok-file.file ∷ []) in
    subst P (c.in_ok-name.ensures ∙ c.stem.ensures) c.in_ok-file.ensures.found
