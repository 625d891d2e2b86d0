use Rattle.std.proofs.Common.{◌≡◌, Some, Ok}
use Rattle.scan_text.specs.Text.{is_digit, digits, decimal, capped_count}
use Rattle.scan_text.specs.View.{left_bytes}
use Rattle.grammar.proofs.Runs.{number_stands, run_moved}
use Rattle.key_script.specs.declared.token.Kind.TheVariants.{Number}
use Rattle.key_script.proofs.lexer.number.Goals as goal

pub returns-in-Some : goal.returns-in-Some
returns-in-Some c =
    let told = number_stands _ _ c.requires.begun c.requires.digit in
    let value : c.in-Some.n ≡ capped_count (decimal 0 (digits (left_bytes c.args.scan.now))) = cc (c.in-Some.is, c.number.ensures.value, told) in
    ((λ i. Ok (Some (record { kind = Number (value i); place = c.place-place.ensures i }))), run_moved is_digit _ _ _ c.requires.begun c.requires.digit c.number.ensures.left c.number.ensures.place)

pub returns-in-None : goal.returns-in-None
returns-in-None c =
    let told = number_stands _ _ c.requires.begun c.requires.digit in
    absurd (cc (c.in-None.is, c.number.ensures.value, told))
