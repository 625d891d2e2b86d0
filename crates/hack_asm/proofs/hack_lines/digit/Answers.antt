use Rattle.grammar.proofs.Steps.{Parses-read}
use Rattle.hack_asm.specs.declared.hack_tokens.Kind.TheVariants.{Digit}
use Rattle.hack_asm.specs.HackText.{hack, has_digit, free, said_kind}
use Rattle.hack_asm.proofs.hack_lines.digit.Goals as goal

pub returns : goal.returns
returns c = Parses-read (hack c.args.end) has_digit free said_kind Digit (λ _. tt) tt _ _ c.digit_at.ensures
