use Rattle.std.proofs.Common.{◌≡◌, ℕ, ◌+◌, ◌-◌, ◌<◌, List, length, take, drop, subst}
use Rattle.std.specs.Prelude.{slice_index}
use Rattle.scan_text.specs.Text.{front}
use Rattle.scan_text.specs.View.{left_bytes}
use Rattle.jack_lexer.specs.Tokens.{is_text_byte}
use Rattle.jack_lexer.proofs.Ascii.{quoted_ascii}
use Rattle.jack_lexer.proofs.lexer.quoted.Goals as goal

pub invariant_of-result : goal.invariant_of-result
invariant_of-result c =
    let n = c.text_len-run.result in
    let rest = c.rest-from.ensures in
    let run = subst (λ (bs : List ℕ). n ≡ length (front is_text_byte (take (length bs - 1) (drop 1 bs)))) rest c.text_len-run.ensures.length in
    let within = subst (λ (bs : List ℕ). n + 1 < length bs) rest c.if-run-from.true in
    let close = subst (λ (bs : List ℕ). slice_index bs (n + 1) ≡ 34) rest c.if-from-run-eq34.true in
    record { ascii = quoted_ascii (left_bytes c.args.scan.now) c.skip-text.result.now n c.requires run within close c.skip-text.ensures.text }
