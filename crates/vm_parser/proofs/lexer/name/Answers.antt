use Rattle.std.proofs.Common.{rules, ap, ◌∙◌}
use Rattle.scan_text.specs.View as view
use Rattle.vm_parser.specs.Roles.{role_of}
use Rattle.vm_parser.specs.Tokens.{is_name_byte}
use Rattle.vm_parser.specs.declared.token.Kind.TheVariants as kind
use Rattle.vm_parser.proofs.Pieces.{name_taken, names_are_utf8}
use Rattle.vm_parser.proofs.lexer.name.Goals as goal

pub returns-in-Ok : goal.returns-in-Ok
returns-in-Ok c =
    let text = c.take_while-bytes.ensures.text is_name_byte (λ b r lt h. search (rules, h)) in
    let left = c.take_while-bytes.ensures.left is_name_byte (λ b r lt h. search (rules, h)) in
    let place = c.take_while-bytes.ensures.place is_name_byte (λ b r lt h. search (rules, h)) in
    name_taken _ _ _ _ c.requires.begun c.requires.letter left place
    (λ i. record { kind = kind.Name; role = (c.role_of-role.ensures ∙ ap role_of text) i; text = (c.in-Ok.ensures.cases.0 ∙ text) i; place = c.place-place.ensures i })

pub returns-in-Err : goal.returns-in-Err
returns-in-Err c =
    let text = c.take_while-bytes.ensures.text is_name_byte (λ b r lt h. search (rules, h)) in
    absurd (c.in-Err.ensures.cases.0 (names_are_utf8 (view.left_bytes c.args.scan.now) c.take_while-bytes.result.now text))
