use Rattle.std.proofs.Common.{◌+◌}
use Rattle.grammar.proofs.Steps.{Parses-read}
use Rattle.key_script.specs.declared.token.Kind.TheVariants.{Number}
use Rattle.key_script.specs.Grammar.{script, has_number, check_moment, said_kind}
use Rattle.key_script.proofs.lines.moment.Goals as goal

pub returns-clause-reads : goal.returns-clause-reads
returns-clause-reads c = Parses-read (script c.args.end) has_number check_moment said_kind Number (λ m. m + 1) _ _ _ c.moment_at.ensures.reads
