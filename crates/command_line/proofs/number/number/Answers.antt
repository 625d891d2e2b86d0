use Rattle.std.proofs.Common.{◌≡◌, ◌≤◌, ◌+◌, arith}
use Rattle.std.specs.Str.Parse.{digits_value}
use Rattle.std.proofs.lemmas.Str.Parse.{digit_at}
use Rattle.command_line.proofs.Digits.{value_more, digits_so_far, value-take-le}
use Rattle.command_line.proofs.number.number.Goals as goal

pub returns-then-not-is_ascii_digit : goal.returns-then-not-is_ascii_digit
returns-then-not-is_ascii_digit c = λ n h.
    let r = digit_at c.args.text.now c.loop-byte.byte-index h.digits.1 c.loop-byte-test.true in
    let out = c.if-not-is_ascii_digit.ensures.cases in
    let bad : ⊥ = omega (arith, r, out) in bad

pub returns-then-more-most : goal.returns-then-more-most
returns-then-more-most c = λ n h.
    let v = value_more c.args.text.now c.loop-byte.byte-index c.loop-byte.value c.loop-byte-test.true c.if-not-is_ascii_digit.ensures.cases c.loop-byte.invariant.1 in
    let le = value-take-le c.args.text.now (c.loop-byte.byte-index + 1) in
    let value : digits_value 10 c.args.text.now ≡ n = h.value in
    let small : n ≤ c.args.most = h.small in
    let large = c.if-more-most.true in
    absurd (omega arith)

pub loop-byte-preserved : goal.loop-byte-preserved
loop-byte-preserved c = (
  digits_so_far c.args.text.now c.loop-byte.byte-index c.loop-byte-test.true c.if-not-is_ascii_digit.ensures.cases c.loop-byte.invariant.0,
  value_more c.args.text.now c.loop-byte.byte-index c.loop-byte.value c.loop-byte-test.true c.if-not-is_ascii_digit.ensures.cases c.loop-byte.invariant.1,
  c.if-more-most.false,
)
