use Rattle.std.proofs.Common.{rules, ◌≡◌, ◌+◌, ◌≤◌, ℕ, List, length, drop, Some, sym, ap, ◌∙◌, arith}
use Rattle.scan_text.specs.Text.{first, front, rest_behind}
use Rattle.scan_text.specs.View.{left_bytes}
use Rattle.script_parser.specs.Tokens.{is_text_byte}
use Rattle.script_parser.proofs.Pieces.{closed_within}
use Rattle.script_parser.proofs.lexer.quoted.Goals as goal

within : (bs ahead text rest : List ℕ) (b d : ℕ) → first bs ≡ Some b → ahead ≡ drop 1 bs → text ≡ front is_text_byte ahead → rest ≡ rest_behind is_text_byte ahead → first rest ≡ Some d → length text + 2 ≤ length bs
within bs ahead text rest b d e a t r q =
    closed_within is_text_byte bs text rest b d e (t ∙ ap (front is_text_byte) a) (r ∙ ap (rest_behind is_text_byte) a) q

pub skip-requires-2 : goal.skip-requires-2
skip-requires-2 c =
    let text = c.take_while-text.ensures.text is_text_byte (λ b r lt h. search (rules, h)) in
    let rest = c.take_while-text.ensures.left is_text_byte (λ b r lt h. search (rules, h)) in
    within (left_bytes c.args.scan.now) _ _ _ _ _ c.requires c.skip.ensures.left text rest (sym c.peek.ensures ∙ c.in-Some-eq34.is)

pub invariant_of-result-clause-counted : goal.invariant_of-result-clause-counted
invariant_of-result-clause-counted c =
    let text = c.take_while-text.ensures.text is_text_byte (λ b r lt h. search (rules, h)) in
    let rest = c.take_while-text.ensures.left is_text_byte (λ b r lt h. search (rules, h)) in
    let fits = within (left_bytes c.args.scan.now) _ _ _ _ _ c.requires c.skip.ensures.left text rest (sym c.peek.ensures ∙ c.in-Some-eq34.is) in
    let counted = c.args.scan.now.counted in
    rw c.place-place.ensures (omega (arith, fits, counted))
