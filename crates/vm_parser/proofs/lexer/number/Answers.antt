use Rattle.vm_parser.specs.Tokens.{made_word}
use Rattle.vm_parser.specs.declared.token.Kind.TheVariants.{Number}
use Rattle.vm_parser.proofs.Pieces.{number_taken}
use Rattle.vm_parser.proofs.lexer.number.Goals as goal

pub returns-else-n-gt32767 : goal.returns-else-n-gt32767
returns-else-n-gt32767 c =
    number_taken _ _ _ _ _ c.requires.begun c.requires.digit (c.in-Some.ensures.value) c.if-n-gt32767.false c.number.ensures.left c.number.ensures.place (λ i. made_word (Number c.in-Some.n) (c.place-place.ensures i))
