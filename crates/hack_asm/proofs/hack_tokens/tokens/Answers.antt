use Rattle.grammar.proofs.LinePieces.{gives_same}
use Rattle.hack_asm.specs.HackTokens.{tokens_of}
use Rattle.hack_asm.proofs.hack_tokens.tokens.Goals as goal

pub returns-clause-tokens : goal.returns-clause-tokens
returns-clause-tokens c = gives_same (λ x. x.0.items) c.cut_lines.result (tokens_of c.args.text.now) c.cut_lines.ensures.tokens
