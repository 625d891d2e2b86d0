use Rattle.std.proofs.Common.{◌∙◌, ap}
use Rattle.source_files.specs.Loads.{text_error}
use Rattle.hack_asm.proofs.Refusals.{told_why}
use Rattle.hack_asm.proofs.language.ProgramLanguageLanguage.read.Goals as goal

pub returns-in-Err-clause-refused : goal.returns-in-Err-clause-refused
returns-in-Err-clause-refused c = told_why c.args.self.now.form c.args.text.now c.in-Err.fault c.of_diagnostic.result c.in-Err.ensures (c.of_diagnostic.ensures ∙ ap text_error c.diagnostic.ensures)
