use Rattle.std.proofs.Common.{◌∙◌}
use Rattle.clap.specs.Words.{app_of, subcommand_rows_of}
use Rattle.command_line.specs.Line.{line_of}
use Rattle.command_line.proofs.Lines.{ok_line, no_line, fault_line, in_range}
use Rattle.command_line.proofs.reader.read.Goals as goal

pub returns-in-Some-clause-line : goal.returns-in-Some-clause-line
returns-in-Some-clause-line c =
    ok_line (app_of c.in-Ok.command) _ (subcommand_rows_of c.in-Ok-try_get_matches_from.matches) (line_of c.in-Some.request) c.in-Ok.ensures
    c.in-Ok-try_get_matches_from.ensures.kinds (λ h. (c.in-Ok-try_get_matches_from.ensures.matches h).1) c.in-Some.ensures

pub returns-in-Some-clause-range : goal.returns-in-Some-clause-range
returns-in-Some-clause-range c = in_range _ (line_of c.in-Some.request) (returns-in-Some-clause-line c)

pub returns-in-Ok-try_get_matches_from-clause-line : goal.returns-in-Ok-try_get_matches_from-clause-line
returns-in-Ok-try_get_matches_from-clause-line c = λ _.
    no_line (app_of c.in-Ok.command) _ (subcommand_rows_of c.in-Ok-try_get_matches_from.matches) c.in-Ok.ensures
    (λ h. (c.in-Ok-try_get_matches_from.ensures.matches h).1) c.in-None.ensures

pub returns-clause-line : goal.returns-clause-line
returns-clause-line c = λ _. fault_line (app_of c.in-Ok.command) _ c.in-Err.error c.in-Ok.ensures c.in-Err.ensures.kinds (λ e. c.in_default-kind.not-OutOfMemory (c.kind.ensures ∙ e))
