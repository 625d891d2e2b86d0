use Rattle.scan_text.specs.View.{left_bytes}
use Rattle.std.proofs.Common.{rules, ap, ◌∙◌}
use Rattle.grammar.specs.Words.{is_name_byte}
use Rattle.jack_lexer.specs.Tokens.{kind_of, word_kind}
use Rattle.jack_lexer.proofs.Pieces.{kind_told, word_taken}
use Rattle.jack_lexer.proofs.Ascii.{name_ascii}
use Rattle.jack_lexer.proofs.lexer.word.Goals as goal

pub returns : goal.returns
returns c =
    let text = c.take_while-text.ensures.text is_name_byte (λ b r lt h. search (rules, h)) in
    let left_bytes = c.take_while-text.ensures.left is_name_byte (λ b r lt h. search (rules, h)) in
    let place = c.take_while-text.ensures.place is_name_byte (λ b r lt h. search (rules, h)) in
    word_taken _ _ _ _ c.requires.begun c.requires.letter left_bytes place (kind_told _ _ c.map_or-kind.ensures ∙ ap kind_of c.of.ensures ∙ ap word_kind text) text c.place-place.ensures

pub invariant_of-result : goal.invariant_of-result
invariant_of-result c = record { ascii = name_ascii (left_bytes c.args.scan.now) _ (c.take_while-text.ensures.text is_name_byte (λ b r lt h. search (rules, h))) }
