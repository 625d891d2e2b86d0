use Rattle.std.proofs.Common.{rules, refl}
use Rattle.hack_asm.specs.Tokens.{is_symbol_byte}
use Rattle.hack_asm.proofs.Pieces.{symbol_taken}
use Rattle.hack_asm.proofs.lexer.symbol.Goals as goal

pub returns : goal.returns
returns c =
    let text = c.take_while-text.ensures.text is_symbol_byte (λ b r lt h. search (rules, h)) in
    let left = c.take_while-text.ensures.left is_symbol_byte (λ b r lt h. search (rules, h)) in
    let place = c.take_while-text.ensures.place is_symbol_byte (λ b r lt h. search (rules, h)) in
    symbol_taken _ _ _ _ c.requires.begun c.requires.letter left place refl c.role_of-role.ensures text c.place-place.ensures
