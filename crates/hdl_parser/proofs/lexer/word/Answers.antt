use Rattle.std.proofs.Common.{rules, ap, ◌∙◌}
use Rattle.hdl_tree.specs.Writable.{is_name_byte}
use Rattle.hdl_parser.specs.Tokens.{kind_of, word_kind}
use Rattle.hdl_parser.proofs.Pieces.{kind_told, word_taken}
use Rattle.hdl_parser.proofs.lexer.word.Goals as goal

pub returns : goal.returns
returns c =
    let text = c.take_while-text.ensures.text is_name_byte (λ b r lt h. search (rules, h)) in
    let left = c.take_while-text.ensures.left is_name_byte (λ b r lt h. search (rules, h)) in
    let place = c.take_while-text.ensures.place is_name_byte (λ b r lt h. search (rules, h)) in
    word_taken _ _ _ _ c.requires.begun c.requires.letter left place (kind_told _ _ c.map_or-kind.ensures ∙ ap kind_of c.of.ensures ∙ ap word_kind text) text c.place-place.ensures
