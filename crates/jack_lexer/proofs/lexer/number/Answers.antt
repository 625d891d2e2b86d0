use Rattle.scan_text.specs.View.{left_bytes}
use Rattle.std.proofs.Common.{rules, ◌∙◌, ap, refl, Option, ℕ}
use Rattle.std.specs.Prelude.{unwrap_or}
use Rattle.scan_text.specs.Text.{is_digit}
use Rattle.grammar.proofs.Runs.{number_stands}
use Rattle.jack_lexer.proofs.Pieces.{number_taken}
use Rattle.jack_lexer.proofs.Ascii.{digits_ascii}
use Rattle.jack_lexer.proofs.lexer.number.Goals as goal

pub returns : goal.returns
returns c =
    let text = c.take_while-text.ensures.text is_digit (λ b r lt h. search (rules, h)) in
    let left_bytes = c.take_while-text.ensures.left is_digit (λ b r lt h. search (rules, h)) in
    let place = c.take_while-text.ensures.place is_digit (λ b r lt h. search (rules, h)) in
    let told = number_stands _ _ c.requires.begun c.requires.digit in
    let value = c.unwrap_or-n.ensures ∙ ap (λ (o : Option ℕ). unwrap_or o 0) (c.number.ensures.value ∙ told) in
    number_taken _ _ _ _ _ c.requires.begun c.requires.digit value c.if-n-gt32767.false left_bytes place refl text c.place-place.ensures

pub invariant_of-result : goal.invariant_of-result
invariant_of-result c = record { ascii = digits_ascii (left_bytes c.args.scan.now) _ (c.take_while-text.ensures.text is_digit (λ b r lt h. search (rules, h))) }
