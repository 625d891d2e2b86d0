use Rattle.grammar.proofs.Steps.{Passes-mark}
use Rattle.key_script.specs.declared.token.Kind.TheVariants.{LineEnd}
use Rattle.key_script.specs.Tokens.{ends_line}
use Rattle.key_script.specs.Grammar.{script}
use Rattle.key_script.proofs.lines.line_end.Goals as goal

pub returns : goal.returns
returns c = Passes-mark (script c.args.end) LineEnd ends_line c.args.least _ _ c.line_end_at.ensures
