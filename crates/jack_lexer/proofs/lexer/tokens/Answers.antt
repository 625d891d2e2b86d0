use Rattle.jack_lexer.proofs.Stand.{tokens_stand}
use Rattle.jack_lexer.proofs.lexer.tokens.Goals as goal

pub returns-clause-slices : goal.returns-clause-slices
returns-clause-slices c = tokens_stand _ _ c.cut_between_blanks.ensures.tokens
