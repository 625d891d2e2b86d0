use Rattle.std.proofs.Common.{rules, refl}
use Rattle.scan_text.specs.Text.{is_digit}
use Rattle.hack_asm.proofs.Pieces.{number_taken}
use Rattle.hack_asm.proofs.lexer.number.Goals as goal

pub returns-else-n-gt32767 : goal.returns-else-n-gt32767
returns-else-n-gt32767 c =
    let text = c.take_while-text.ensures.text is_digit (λ b r lt h. search (rules, h)) in
    let left = c.take_while-text.ensures.left is_digit (λ b r lt h. search (rules, h)) in
    let place = c.take_while-text.ensures.place is_digit (λ b r lt h. search (rules, h)) in
    number_taken _ _ _ _ _ c.requires.begun c.requires.digit c.in-Some.ensures.value c.if-n-gt32767.false left place refl c.role_of.ensures text c.place-place.ensures
