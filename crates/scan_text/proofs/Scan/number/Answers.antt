use Rattle.std.proofs.Common.{rules}
use Rattle.scan_text.specs.Text.{is_digit}
use Rattle.scan_text.proofs.Texts.{front_front}
use Rattle.scan_text.proofs.Scan.number.Goals as goal

pub value-requires : goal.value-requires
value-requires c = let f = c.take_while-digits.ensures.text is_digit (λ b r lt h. search (rules, h)) in rw f (front_front is_digit c.args.self.now.rest.now)
