use Rattle.std.proofs.Common.{ap, ◌∙◌}
use Rattle.script_parser.specs.declared.token.Kind.TheVariants as kind
use Rattle.script_parser.proofs.Pieces.{word_taken}
use Rattle.script_parser.proofs.lexer.word.Goals as goal

pub returns : goal.returns
returns c = word_taken _ _ _ _ _ (c.rest.ensures ∙ c.skip.ensures.left) c.word_len-more.ensures.value c.skip-text.ensures.left c.skip-text.ensures.place (ap kind.Word c.role_of-role.ensures) c.skip-text.ensures.text c.place-place.ensures
