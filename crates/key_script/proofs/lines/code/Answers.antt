use Rattle.grammar.proofs.Steps.{Parses-read}
use Rattle.key_script.specs.declared.token.Kind.TheVariants.{Number}
use Rattle.key_script.specs.Grammar.{script, has_number, check_code, said_kind}
use Rattle.key_script.proofs.lines.code.Goals as goal

pub returns : goal.returns
returns c = Parses-read (script c.args.end) has_number check_code said_kind Number (λ _. c.args.least) c.args.least _ _ (c.code_at.ensures c.args.least)
