use Rattle.grammar.proofs.Steps.{Passes-mark}
use Rattle.hack_asm.specs.declared.hack_tokens.Kind.TheVariants.{LineEnd}
use Rattle.hack_asm.specs.HackTokens.{ends_line}
use Rattle.hack_asm.specs.HackText.{hack}
use Rattle.hack_asm.proofs.hack_lines.line_end.Goals as goal

pub returns : goal.returns
returns c = Passes-mark (hack c.args.end) LineEnd ends_line tt _ _ c.line_end_at.ensures
