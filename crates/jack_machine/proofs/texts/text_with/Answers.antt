-- Where nothing is done no value stands.
use Rattle.std.proofs.Common.{length, ap, ◌∙◌}
use Rattle.jack_core.specs.Heights.{height}
use Rattle.jack_machine.specs.Parts.{parts_of}
use Rattle.jack_machine.proofs.Fitting.{fresh_fits}
use Rattle.jack_machine.proofs.texts.text_with.Goals as goal

pub invariant_of-front : goal.invariant_of-front
invariant_of-front c = record { fits = ap (λ l. height (length l) (parts_of c.args.first)) c.new-values.ensures.items ∙ fresh_fits c.args.first }
