-- The last value is set.
use Rattle.std.proofs.Common.{refl, ap, ◌-◌, ◌∙◌}
use Rattle.std.specs.Prelude.{slice_set}
use Rattle.jack_machine.proofs.Lists.{last_set}
use Rattle.jack_machine.proofs.parts.fill.Goals as goal

pub returns-in-Some : goal.returns-in-Some
returns-in-Some c =
    let values = c.args.front.now.values in
    record { first = refl; done = refl; values = ap (λ n. slice_set values.items (n - 1) c.args.w) values.ok.0 ∙ last_set values.items c.args.w }
