use Rattle.std.proofs.Common.{◌+◌, ◌-◌, ◌*◌, min, get_or, ap, ◌∙◌}
use Rattle.script_device.proofs.Bracketed.{number_more}
use Rattle.script_device.proofs.brackets.capped_number.Goals as goal

pub loop-digit-preserved : goal.loop-digit-preserved
loop-digit-preserved c =
    c.min-number.ensures
    ∙ ap (λ d. min (10 * c.loop-digit.number + d) 4294967296) c.saturating_sub.ensures
    ∙ ap (λ n. min (10 * n + (get_or c.args.digits.now c.loop-digit.digit-index 0 - 48)) 4294967296) c.loop-digit.invariant
    ∙ number_more c.args.digits.now c.loop-digit.digit-index c.loop-digit-test.true
